-- A task of pieces that name blocks of an array by their numbers.
use Rattle.std.specs.Prelude.{ℕ, suc, List, [], ◌∷◌, map}
use Rattle.nd_shape.specs.declared.region.Piece.{Piece}
use Rattle.nd_shape.specs.Index.{index_at}
use Rattle.chunk_layout.specs.Layouts.{counts, lengths_at}
use Rattle.block_kernels.specs.declared.spec.Spec.TheVariants as kernels
use Rattle.task_graph.specs.declared.graph.Task.{Task}
use Rattle.task_graph.specs.Graphs.{task}
use Rattle.lowering_laws.specs.Sources.{Source, key_of}

-- each piece with its place, from one on
abbrev pub renamed : ℕ → List Piece → List Piece
renamed p [] = []
renamed p (x ∷ xs) = record { source = p; from = x.from; to = x.to } ∷ renamed (suc p) xs

-- the keys and the lengths of the blocks of which they are parts
abbrev pub keys_of_parts : Source → List Piece → List ℕ
keys_of_parts s pieces = map (λ (p : Piece). key_of s p.source) pieces

abbrev pub shapes_of_parts : Source → List Piece → List (List ℕ)
shapes_of_parts s pieces = map (λ (p : Piece). lengths_at s.layout (index_at (counts s.layout) p.source)) pieces

abbrev pub assembled : Source → List Piece → List ℕ → Task
assembled s pieces shape = task (kernels.Assemble (renamed 0 pieces) (shapes_of_parts s pieces) shape) (keys_of_parts s pieces)
