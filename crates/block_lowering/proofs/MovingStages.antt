-- The tasks of a stage are those of an array, when it is said what the stage holds.
use Rattle.std.proofs.Common.{◌≡◌, ℕ, ◌≤◌, List, [], ◌∷◌, length, map, ap, ◌∙◌, arith}
use Rattle.std.specs.List.{range_with_len}
use Rattle.std.proofs.lemmas.List.{length-map}
use Rattle.nd_shape.specs.declared.slice.Steps.{Steps}
use Rattle.nd_shape.specs.Shape.{elements}
use Rattle.nd_shape.specs.Index.{index_at}
use Rattle.nd_shape.specs.Chunk.{total}
use Rattle.chunk_layout.specs.Layouts.{counts, blocks}
use Rattle.chunk_layout.specs.Cuts.{IsLayout}
use Rattle.chunk_layout.specs.Slices.{pieces_of}
use Rattle.task_graph.specs.declared.graph.Task.{Task}

pub blocks-same : (f g : List ℕ → Task) (ns : List ℕ) (layout : List (List ℕ)) → f ≡ g → ns ≡ counts layout
    → map (λ c. f (index_at ns c)) (range_with_len 0 (elements ns)) ≡ map (λ c. g (index_at (counts layout) c)) (range_with_len 0 (blocks layout))
blocks-same f g ns layout e n =
    ap (λ (h : List ℕ → Task). map (λ c. h (index_at ns c)) (range_with_len 0 (elements ns))) e ∙ ap (λ (ms : List ℕ). map (λ c. g (index_at ms c)) (range_with_len 0 (elements ms))) n

length-pieces : (layout : List (List ℕ)) (steps : List Steps) → length (pieces_of layout steps) ≤ length layout
length-pieces [] steps = omega arith
length-pieces (sizes ∷ layout) [] = omega arith
length-pieces (sizes ∷ layout) (s ∷ steps) = let below : length (pieces_of layout steps) ≤ length layout = length-pieces layout steps in omega arith

-- a slice has a shape's axes
pub pieces-few : (layout : List (List ℕ)) (steps : List Steps) → IsLayout layout → length (pieces_of layout steps) ≤ 8
pieces-few layout steps cut = omega (arith, length-pieces layout steps, cut.shape.axes, length-map layout (λ (ss : List ℕ). total ss))
