-- What the keys of a graph hold.
use Rattle.std.specs.Prelude.{◌≡◌, ℕ, ◌+◌, ◌<◌, List, [], ◌∷◌, length, ℤ, Some}
use Rattle.nd_shape.specs.Block.{Array}
use Rattle.nd_grid.specs.Grid.{Grid, Holds, grid_of}
use Rattle.chunk_layout.specs.Layouts.{lengths, blocks, region}
use Rattle.task_graph.specs.declared.graph.Task.{Task}
use Rattle.task_graph.specs.Graphs.{task_at, value}
use Rattle.lowering_laws.specs.Sources.{Source, key_of}

-- the layout parts the grid's shape, and where the key of a block has a value, that holds what the grid has in the block's box
pub record Carries (files : ℕ → List ℕ → ℤ) (tasks : List Task) (s : Source) (g : Grid) : Type 0 where
  pub shape : lengths s.layout ≡ g.shape
  pub each : (c : ℕ) (b : Array) → c < blocks s.layout → value files tasks (key_of s c) ≡ Some b → Holds (grid_of b) g (region s.layout c)

-- these tasks stand in a graph, from key `base` on
pub record Stand (all : List Task) (base : ℕ) (tasks : List Task) : Type 0 where
  pub at : (j : ℕ) → j < length tasks → task_at all (base + j) ≡ task_at tasks j

-- each axis has a chunk
abbrev pub HaveChunks : List (List ℕ) → Type 0
HaveChunks [] = Unit {0}
HaveChunks (sizes ∷ layout) = (0 < length sizes) × HaveChunks layout
