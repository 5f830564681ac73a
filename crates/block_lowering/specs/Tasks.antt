-- The tasks of a block, by the numbers of its chunks, where `lowering_laws` has no name for them.
use Rattle.std.specs.Prelude.{ℕ, List, [], ◌∷◌, length, drop}
use Rattle.nd_shape.specs.Region.{Box}
use Rattle.nd_grid.specs.Grid.{turned, merged, woven}
use Rattle.nd_grid.specs.declared.operation.Fold.{Fold}
use Rattle.chunk_layout.specs.Layouts.{counts, lengths_at, box_at}
use Rattle.block_kernels.specs.declared.spec.Spec.{Spec}
use Rattle.block_kernels.specs.declared.spec.Spec.TheVariants as kernels
use Rattle.task_graph.specs.declared.graph.Task.{Task}
use Rattle.task_graph.specs.Graphs.{task}
use Rattle.lowering_laws.specs.Sources.{Source, Made, key_at, one_each}
use Rattle.lowering_laws.specs.Stages.{Use, kept_axes, place_among, inputs_among, deps_of_uses}

-- the blocks of an array that are each made of their region alone
abbrev pub alone_task : (Box → Spec) → List (List ℕ) → List ℕ → Task
alone_task spec_of layout bs = task (spec_of (box_at layout bs)) []

abbrev pub alone_blocks : (Box → Spec) → List (List ℕ) → ℕ → Made
alone_blocks spec_of layout base = one_each base layout (alone_task spec_of layout)

abbrev pub turn_task : List ℕ → Source → List ℕ → Task
turn_task axes s bs = task (kernels.Transpose axes (lengths_at s.layout (turned axes bs))) (key_at s (turned axes bs) ∷ [])

-- the partial result of the block that has `rs` on the folded axes: `partial_task` at the place of `rs`
abbrev pub fold_task : Fold → List ℕ → Source → List ℕ → List ℕ → Task
fold_task fold axes s bs rs =
    let own = merged 0 (counts s.layout) axes bs rs in
    task (kernels.Reduce fold axes (lengths_at s.layout own ∷ [])) (key_at s own ∷ [])

-- the blocks of a product: `product_task` at the place of `ts`
abbrev pub product_uses : List ℕ → List ℕ → Source → Source → List ℕ → List ℕ → List Use
product_uses left_axes right_axes l r bs ts =
    let own_l = woven 0 (counts l.layout) left_axes bs ts in
    let own_r = woven 0 (counts r.layout) right_axes (drop (length (kept_axes 0 l.layout left_axes)) bs) ts in
    record { key = key_at l own_l; shape = lengths_at l.layout own_l } ∷ record { key = key_at r own_r; shape = lengths_at r.layout own_r } ∷ []

abbrev pub pair_task : List ℕ → List ℕ → Source → Source → List ℕ → List ℕ → Task
pair_task left_axes right_axes l r bs ts =
    let own_l = woven 0 (counts l.layout) left_axes bs ts in
    let own_r = woven 0 (counts r.layout) right_axes (drop (length (kept_axes 0 l.layout left_axes)) bs) ts in
    let uses = product_uses left_axes right_axes l r bs ts in
    task (kernels.Contract (place_among uses (key_at l own_l)) (place_among uses (key_at r own_r)) left_axes right_axes (inputs_among uses)) (deps_of_uses uses)
