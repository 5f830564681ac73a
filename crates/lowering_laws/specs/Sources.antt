-- Arrays of a graph: which key holds which block, and how one layout is made of another.
use Rattle.std.specs.Prelude.{ℕ, suc, ◌+◌, ◌*◌, ◌&&◌, Bool, true, false, cond, nat_eq, List, [], ◌∷◌, map}
use Rattle.std.specs.List.{range_with_len}
use Rattle.nd_shape.specs.Index.{place, index_at}
use Rattle.chunk_layout.specs.Layouts.{counts, blocks, lengths_at}
use Rattle.chunk_layout.specs.Plans.{Overlap, chunks_in, piece, parts}
use Rattle.nd_shape.specs.declared.region.Piece.{Piece}
use Rattle.block_kernels.specs.declared.spec.Spec.TheVariants.{Assemble}
use Rattle.task_graph.specs.declared.graph.Task.{Task}
use Rattle.task_graph.specs.Graphs.{task}

-- an array whose blocks are held by keys that lie equally far apart
pub record Source : Type 0 where
  pub layout : List (List ℕ)
  pub first : ℕ
  pub stride : ℕ

abbrev pub key_of : Source → ℕ → ℕ
key_of s c = s.first + s.stride * c

-- the key of the block with these numbers of chunks
abbrev pub key_at : Source → List ℕ → ℕ
key_at s bs = key_of s (place (counts s.layout) bs)

-- tasks that were made, and the array that they make
pub record Made : Type 0 where
  pub tasks : List Task
  pub source : Source

-- one task for each block, from a key on
abbrev pub one_each : ℕ → List (List ℕ) → (List ℕ → Task) → Made
one_each base layout task_of = record {
  tasks = map (λ c. task_of (index_at (counts layout) c)) (range_with_len 0 (blocks layout));
  source = record { layout = layout; first = base; stride = 1 };
}

-- ---- rechunking

-- pieces whose sources are the places of inputs
abbrev pub placed : ℕ → List (List Overlap) → List Piece
placed p [] = []
placed p (os ∷ oss) = piece p os ∷ placed (suc p) oss

-- the block with these numbers of chunks of another layout, of parts of the blocks that meet it
abbrev pub rechunk_task : Source → List (List ℕ) → List ℕ → Task
rechunk_task s layout bs =
    let oss = parts s.layout layout bs in
    task (Assemble (placed 0 oss) (map (λ os. lengths_at s.layout (chunks_in os)) oss) (lengths_at layout bs))
    (map (λ os. key_at s (chunks_in os)) oss)

abbrev pub rechunked : ℕ → Source → List (List ℕ) → Made
rechunked base s layout = one_each base layout (rechunk_task s layout)

abbrev pub same_sizes : List ℕ → List ℕ → Bool
same_sizes [] [] = true
same_sizes [] (b ∷ bs) = false
same_sizes (a ∷ as') [] = false
same_sizes (a ∷ as') (b ∷ bs) = nat_eq a b && same_sizes as' bs

abbrev pub same_layout : List (List ℕ) → List (List ℕ) → Bool
same_layout [] [] = true
same_layout [] (b ∷ bs) = false
same_layout (a ∷ as') [] = false
same_layout (a ∷ as') (b ∷ bs) = same_sizes a b && same_layout as' bs

-- the array in this layout: rechunked where its own differs
abbrev pub fitted : ℕ → Source → List (List ℕ) → Made
fitted base s layout = cond (same_layout s.layout layout) (record { tasks = []; source = s }) (rechunked base s layout)
