-- Partial results that are named by their indexes, and the trees over them.
use Rattle.std.specs.Prelude.{ℕ, List}
use Rattle.nd_shape.specs.Shape.{elements}
use Rattle.nd_shape.specs.Index.{index_at}
use Rattle.nd_grid.specs.declared.operation.Fold.{Fold}
use Rattle.chunk_layout.specs.Layouts.{lengths_at}
use Rattle.task_graph.specs.declared.graph.Task.{Task}
use Rattle.lowering_laws.specs.Sources.{Made}
use Rattle.lowering_laws.specs.Stages.{folded_tasks, folded_each}

-- the partial results of a block of these lengths, one for each index below some counts, and their tree, behind `at` tasks
abbrev pub folded_parts : Fold → ℕ → List ℕ → (List ℕ → Task) → List ℕ → ℕ → List Task
folded_parts fold split parts part dims at = folded_tasks fold (elements parts) split (λ p. part (index_at parts p)) dims at

-- those of the block with these numbers of chunks
abbrev pub folded_at : Fold → ℕ → List ℕ → (List ℕ → List ℕ → Task) → List (List ℕ) → List ℕ → ℕ → List Task
folded_at fold split parts part layout bs at = folded_parts fold split parts (part bs) (lengths_at layout bs) at

-- those of each block of a layout
abbrev pub folded_blocks : Fold → ℕ → List ℕ → (List ℕ → List ℕ → Task) → List (List ℕ) → ℕ → Made
folded_blocks fold split parts part layout base = folded_each fold (elements parts) split layout (λ bs p. part bs (index_at parts p)) base
