-- The tasks of a concatenation: those of its operands in their layout, and its blocks.
use Rattle.std.proofs.Common.{◌≡◌, ℕ, ◌+◌, List, ◌++◌, length, map, ap, subst, ◌∙◌, append_assoc, length-append}
use Rattle.std.specs.Prelude.{slice_set}
use Rattle.std.specs.List.{range_with_len}
use Rattle.nd_shape.specs.Shape.{elements}
use Rattle.nd_shape.specs.Index.{index_at}
use Rattle.chunk_layout.specs.Layouts.{counts, blocks}
use Rattle.task_graph.specs.declared.graph.Task.{Task}
use Rattle.lowering_laws.specs.Sources.{Source}
use Rattle.lowering_laws.specs.Stages.{Along, Fitted, along_all, or_empty, common_layout, fitted_along, joined_task, concatenated_blocks}
use Rattle.block_lowering.specs.Args.{AreCommon}
use Rattle.block_lowering.specs.Growing.{Refuses, IsGrown}
use Rattle.block_lowering.specs.Joining.{AllGrown, sizes_along, layouts_in}
use Rattle.block_lowering.specs.declared.error.LowerError.{LowerError}
use Rattle.block_lowering.proofs.Refusing.{refuses-same, refuses-behind}
use Rattle.block_lowering.proofs.MovingStages.{blocks-same}

-- the chunks along the axis, the layout, and the operands in theirs
abbrev pub along_of : List Source → ℕ → List Along
along_of sources axis = or_empty (along_all 0 (map (sizes_along axis) sources))

abbrev pub whole_layout : List Source → ℕ → List (List ℕ)
whole_layout sources axis = slice_set (common_layout (layouts_in sources)) axis (map (λ (a : Along). a.size) (along_of sources axis))

abbrev pub operands_of : List Source → ℕ → List Task → Fitted
operands_of sources axis old = fitted_along (common_layout (layouts_in sources)) axis sources (length old)

abbrev pub block_tasks : List Source → ℕ → List Task → List Task
block_tasks sources axis old =
    map (λ c. joined_task (whole_layout sources axis) (along_of sources axis) axis (operands_of sources axis old).sources (index_at (counts (whole_layout sources axis)) c)) (range_with_len 0 (blocks (whole_layout sources axis)))

-- what is known once the operands have their layout
pub record IsJoining (sources : List Source) (axis : ℕ) (old graph : List Task) (layout : List (List ℕ)) (as' : List Along) (ready : List Source) (ns : List ℕ) : Type 0 where
  pub along_is : as' ≡ along_of sources axis
  pub layout_is : layout ≡ whole_layout sources axis
  pub grown : AllGrown old (operands_of sources axis old) graph ready
  pub counts_are : ns ≡ counts layout

pub layout-joined : (sources : List Source) (axis : ℕ) (axes layout : List (List ℕ)) (cut : List ℕ) (as' : List Along) → AreCommon (common_layout (layouts_in sources)) axis axes → layout ≡ slice_set axes axis cut
    → cut ≡ map (λ (a : Along). a.size) as' → as' ≡ along_of sources axis → layout ≡ whole_layout sources axis
layout-joined sources axis axes layout cut as' h l c a = l ∙ ap (slice_set axes axis) (c ∙ ap (map (λ (x : Along). x.size)) a) ∙ h.others (map (λ (x : Along). x.size) (along_of sources axis))

tasks-joined : (sources : List Source) (axis : ℕ) (old graph : List Task) (layout : List (List ℕ)) (as' : List Along) (ready : List Source) (ns : List ℕ) → IsJoining sources axis old graph layout as' ready ns
    → map (λ c. joined_task layout as' axis ready (index_at ns c)) (range_with_len 0 (elements ns)) ≡ block_tasks sources axis old
tasks-joined sources axis old graph layout as' ready ns j =
    blocks-same (joined_task layout as' axis ready) (joined_task (whole_layout sources axis) (along_of sources axis) axis (operands_of sources axis old).sources) ns (whole_layout sources axis)
    (ap (λ (l : List (List ℕ)). joined_task l as' axis ready) j.layout_is ∙ ap (λ (x : List Along). joined_task (whole_layout sources axis) x axis ready) j.along_is
    ∙ ap (joined_task (whole_layout sources axis) (along_of sources axis) axis) j.grown.sources_are)
    (j.counts_are ∙ ap counts j.layout_is)

pub joined-refused : (sources : List Source) (axis : ℕ) (old graph : List Task) (layout : List (List ℕ)) (as' : List Along) (ready : List Source) (ns : List ℕ) (e : LowerError) → IsJoining sources axis old graph layout as' ready ns
    → Refuses graph (map (λ c. joined_task layout as' axis ready (index_at ns c)) (range_with_len 0 (elements ns))) e → Refuses old (concatenated_blocks sources axis (length old)).tasks e
joined-refused sources axis old graph layout as' ready ns e j r =
    let there : Refuses graph (block_tasks sources axis old) e = refuses-same graph _ _ e (tasks-joined sources axis old graph layout as' ready ns j) r in
    refuses-behind old (operands_of sources axis old).tasks (block_tasks sources axis old) e (subst (λ (g : List Task). Refuses g (block_tasks sources axis old) e) j.grown.tasks there)

abbrev source_from : List (List ℕ) → ℕ → Source
source_from layout first = record { layout = layout; first = first; stride = 1 }

pub joined-grown : (sources : List Source) (axis : ℕ) (old graph new : List Task) (layout : List (List ℕ)) (as' : List Along) (ready : List Source) (ns : List ℕ) (first : ℕ) (s : Source)
    → IsJoining sources axis old graph layout as' ready ns → new ≡ graph ++ map (λ c. joined_task layout as' axis ready (index_at ns c)) (range_with_len 0 (elements ns))
    → first ≡ length graph → s ≡ source_from layout first → IsGrown old (concatenated_blocks sources axis (length old)) new s
joined-grown sources axis old graph new layout as' ready ns first s j n f e =
    let before : List Task = (operands_of sources axis old).tasks in
    let count : length graph ≡ length old + length (operands_of sources axis old).tasks = ap length j.grown.tasks ∙ length-append old (operands_of sources axis old).tasks in
    record {
      tasks =
          n ∙ ap (λ (ts : List Task). graph ++ ts) (tasks-joined sources axis old graph layout as' ready ns j) ∙ ap (λ (g : List Task). g ++ block_tasks sources axis old) j.grown.tasks
          ∙ append_assoc old (operands_of sources axis old).tasks (block_tasks sources axis old);
      source = e ∙ ap (λ (l : List (List ℕ)). source_from l first) j.layout_is ∙ ap (source_from (whole_layout sources axis)) (f ∙ count);
    }
