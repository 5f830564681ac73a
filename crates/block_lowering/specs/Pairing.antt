-- The blocks of a product.
use Rattle.std.specs.Prelude.{◌≡◌, ℕ, List, [], ◌∷◌, ◌++◌, slice_index_or, Result, Ok, Err}
use Rattle.nd_grid.specs.Grid.{kept_shape, woven}
use Rattle.chunk_layout.specs.Layouts.{counts, lengths_at}
use Rattle.block_kernels.specs.declared.spec.Spec.TheVariants as kernels
use Rattle.task_graph.specs.declared.graph.Task.{Task}
use Rattle.task_graph.specs.Graphs.{task}
use Rattle.lowering_laws.specs.Sources.{Source, key_at}
use Rattle.lowering_laws.specs.Stages.{Use, place_among, inputs_among, deps_of_uses}

-- the block that has `rest` on the listed axes and `kept` on the others
abbrev pub use_woven : Source → List ℕ → List ℕ → List ℕ → Use
use_woven s axes kept rest = let own = woven 0 (counts s.layout) axes kept rest in record { key = key_at s own; shape = lengths_at s.layout own }

-- one more use, and its key
abbrev pub OnGathered : {E : Type 0} → Source → List ℕ → List ℕ → List ℕ → List Use → List Use → Result ℕ E → Type 0
OnGathered s axes kept rest old new (Ok key) = (new ≡ old ++ use_woven s axes kept rest ∷ []) × (key ≡ (use_woven s axes kept rest).key)
OnGathered s axes kept rest old new (Err e) = Unit {0}

-- the shape of the product of two inputs
abbrev pub shape_contracted : List (List ℕ) → ℕ → ℕ → List ℕ → List ℕ → List ℕ
shape_contracted inputs left right left_axes right_axes =
    kept_shape 0 (slice_index_or inputs left []) left_axes ++ kept_shape 0 (slice_index_or inputs right []) right_axes

abbrev pub contracting : List Use → ℕ → ℕ → List ℕ → List ℕ → Task
contracting uses left right left_axes right_axes =
    task (kernels.Contract (place_among uses left) (place_among uses right) left_axes right_axes (inputs_among uses)) (deps_of_uses uses)
