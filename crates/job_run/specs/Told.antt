-- What open inputs tell of their arrays.
use Rattle.std.specs.Prelude.{ℕ, ℤ, List, [], ◌∷◌, map}
use Rattle.std.specs.List.{range_with_len}
use Rattle.io_edge.specs.Content.{Content, Told, Untold}
use Rattle.nd_shape.specs.Block.{Array}
use Rattle.nd_shape.specs.Index.{index_at}
use Rattle.nd_shape.specs.Shape.{elements}
use Rattle.npy_codec.specs.declared.head.Head.{Head}
use Rattle.npy_codec.specs.Regions.{element}
use Rattle.plain_eval.specs.Held.{held_in}

-- the array of a file with this head, or one of no elements where the file doesn't tell them
abbrev pub array_told : Content → Head → Array
array_told (Told bytes) head = record {
  shape = head.shape;
  cells = map (λ p. element bytes head (index_at head.shape p)) (range_with_len 0 (elements head.shape));
}
array_told (Untold size) head = record { shape = head.shape; cells = [] }

-- those of the first files
abbrev pub arrays_told : List Content → List Head → List Array
arrays_told files [] = []
arrays_told [] (head ∷ heads) = array_told (Untold 0) head ∷ arrays_told [] heads
arrays_told (file ∷ files) (head ∷ heads) = array_told file head ∷ arrays_told files heads

-- the element of each input at an index
abbrev pub named_told : List Content → List Head → ℕ → List ℕ → ℤ
named_told files heads = held_in (arrays_told files heads)
