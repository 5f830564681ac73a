use Rattle.std.proofs.Common.{arith, ◌≡◌, ◌<◌, ℕ, pos, [], List, length, get_or, sym, ap, subst, ◌∙◌}
use Rattle.std.proofs.lemmas.List.{get_or_read, get_or_default, take_all, length-map}
use Rattle.nd_shape.specs.declared.slice.Steps.{Steps}
use Rattle.nd_shape.specs.Shape.{IsShape}
use Rattle.nd_shape.specs.Chunk.{total}
use Rattle.chunk_layout.specs.Layouts.{lengths}
use Rattle.chunk_layout.specs.Cuts.{IsCut}
use Rattle.chunk_layout.specs.Slices.{counts_taken, taken_of}
use Rattle.chunk_layout.specs.Slicing.{TakesOf}
use Rattle.chunk_layout.proofs.Running.{slices-more, takes-at, shape-taken, counts_of}
use Rattle.chunk_layout.proofs.slices.slices.Goals as goal

pub slice_of-requires : goal.slice_of-requires
slice_of-requires c =
    let s : Steps = get_or c.args.parts.now c.loop-axis.axis (record { start = 0; step = pos 0; count = 0 }) in
    let h : c.loop-axis.axis < length c.args.parts.now = omega (arith, c.requires.parts.axes) in
    let x : c.index-a-axis.result ≡ get_or c.args.a.now c.loop-axis.axis [] = get_or_read c.args.a.now c.loop-axis.axis c.index-a-axis.result c.loop-axis-test.true c.index-a-axis.is [] in
    subst (λ (n : ℕ). TakesOf n s) (sym (ap total x))
    (takes-at c.args.a.now c.args.parts.now c.loop-axis.axis s c.requires.parts h (get_or_default c.args.parts.now c.loop-axis.axis (record { start = 0; step = pos 0; count = 0 }) s h))

pub loop-axis-preserved : goal.loop-axis-preserved
loop-axis-preserved c =
    let s : Steps = get_or c.args.parts.now c.loop-axis.axis (record { start = 0; step = pos 0; count = 0 }) in
    let h : c.loop-axis.axis < length c.args.parts.now = omega (arith, c.requires.parts.axes) in
    let x : c.index-a-axis.result ≡ get_or c.args.a.now c.loop-axis.axis [] = get_or_read c.args.a.now c.loop-axis.axis c.index-a-axis.result c.loop-axis-test.true c.index-a-axis.is [] in
    let e : c.in_ok-slice_of.field-0 ≡ counts_taken (taken_of (get_or c.args.a.now c.loop-axis.axis []) s) = c.in_ok-slice_of.ensures.value ∙ ap (λ (ss : List ℕ). counts_taken (taken_of ss s)) x in
    let cut : IsCut c.in_ok-slice_of.field-0 = subst IsCut (sym c.in_ok-slice_of.ensures.value) c.in_ok-slice_of.ensures.cut in
    let m = slices-more c.loop-axis.axes.items c.args.a.now c.args.parts.now c.loop-axis.axis s c.in_ok-slice_of.field-0 c.loop-axis-test.true h
    (get_or_default c.args.parts.now c.loop-axis.axis (record { start = 0; step = pos 0; count = 0 }) s h) e cut c.loop-axis.invariant.cuts c.loop-axis.invariant.lengths_is c.loop-axis.invariant.value in
    record {
      cuts = rw c.in_ok-push.ensures.items m.cuts;
      lengths_is = rw c.in_ok-push.ensures.items m.lengths_is;
      value = rw c.in_ok-push.ensures.items m.value;
    }

pub returns-clause-sound : goal.returns-clause-sound
returns-clause-sound c =
    let n : length (counts_of c.args.parts.now) ≡ length c.args.parts.now = length-map c.args.parts.now (λ (s : Steps). s.count) in
    let p : length c.args.parts.now ≡ length c.args.a.now = c.requires.parts.axes in
    let e : lengths c.loop-axis.axes.items ≡ counts_of c.args.parts.now = c.loop-axis.invariant.lengths_is ∙ take_all c.loop-axis.axis (counts_of c.args.parts.now) (omega arith) in
    record { cuts = c.loop-axis.invariant.cuts; shape = subst IsShape (sym e) (shape-taken c.args.a.now c.args.parts.now c.requires.sound c.requires.parts) }
