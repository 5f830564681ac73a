-- A graph that an expression is lowered to is a job.
use Rattle.std.proofs.Common.{ℕ, ◌<◌, List, length, sym, subst, ◌∙◌}
use Rattle.std.proofs.lemmas.Option.{slice_get-get_or}
use Rattle.nd_shape.specs.Region.{IsPart}
use Rattle.npy_codec.specs.declared.head.Head.{Head}
use Rattle.array_expr.specs.declared.expr.Node.{Node}
use Rattle.block_kernels.specs.declared.spec.Spec.{Spec}
use Rattle.block_kernels.specs.declared.spec.Spec.TheVariants.{Elementwise, Where, Slice, Transpose, Assemble, Reduce, Contract, Fill, Load}
use Rattle.lowering_laws.specs.Lowered.{no_node, lowered}
use Rattle.lowering_laws.specs.Formed.{IsLoaded, LawOfForm}
use Rattle.lowering_laws.specs.Whole.{LawOfOrder}
use Rattle.lowering_laws.proofs.Lowering.{shape-is}
use Rattle.block_lowering.specs.Jobs.{head_at, IsJob, IsLoad, HaveHeads}

load-there : (nodes : List Node) (heads : List Head) (spec : Spec) → HaveHeads nodes heads → IsLoaded nodes spec → IsLoad heads spec
load-there nodes heads (Load input region) h r =
    let node = slice_get-get_or nodes r.node no_node r.there in
    let shape = h.shape r.node _ node r.input_is ∙ sym (shape-is nodes r.node) in
    let part = subst (IsPart region) (sym shape) r.part in
    (subst (λ j. j < length heads) r.number (h.head r.node _ node r.input_is), subst (λ j. IsPart region (head_at heads j).shape) r.number part)
load-there nodes heads (Elementwise op left right inputs shape) h r = tt
load-there nodes heads (Where condition first second inputs shape) h r = tt
load-there nodes heads (Slice steps dropped input) h r = tt
load-there nodes heads (Transpose axes input) h r = tt
load-there nodes heads (Assemble pieces inputs shape) h r = tt
load-there nodes heads (Reduce fold axes inputs) h r = tt
load-there nodes heads (Contract left right left_axes right_axes inputs) h r = tt
load-there nodes heads (Fill dims region start step) h r = tt

pub lowered-job : (nodes : List Node) (saves : List ℕ) (heads : List Head) → LawOfForm nodes saves → LawOfOrder nodes saves → HaveHeads nodes heads → IsJob (lowered nodes saves).tasks heads
lowered-job nodes saves heads form order h = record {
  formed = form.run;
  fed = order.run_fed;
  loads = λ k lt. load-there nodes heads _ h (form.run_loads k lt);
  near = h.near;
  width = h.width;
}
