-- What a slice takes of the chunks of an axis: the pieces of the chunks that have an element in it, in the slice's order.
use Rattle.std.specs.Prelude.{ℕ, suc, ◌+◌, ◌-◌, cond, nat_eq, List, [], ◌∷◌, map, take}
use Rattle.std.specs.List.{range_with_len}
use Rattle.nd_shape.specs.declared.slice.Steps.{Steps}
use Rattle.nd_shape.specs.Slice.{coordinate}
use Rattle.nd_shape.specs.Chunk.{total}
use Rattle.chunk_layout.specs.Layouts.{chunk_of}

-- equal numbers that stand one behind the other
pub record Run : Type 0 where
  pub number : ℕ
  pub count : ℕ

abbrev pub with_number : ℕ → List Run → List Run
with_number c [] = record { number = c; count = 1 } ∷ []
with_number c (r ∷ rs) = cond (nat_eq c r.number) (record { number = c; count = suc r.count } ∷ rs) (record { number = c; count = 1 } ∷ r ∷ rs)

abbrev pub runs : List ℕ → List Run
runs [] = []
runs (c ∷ cs) = with_number c (runs cs)

-- a chunk of the operand, and what is taken of it, counted from its first element
pub record Taken : Type 0 where
  pub chunk : ℕ
  pub steps : Steps

-- what the runs take, of which the first begins at place t of the slice
abbrev pub taken_from : List ℕ → Steps → ℕ → List Run → List Taken
taken_from sizes s t [] = []
taken_from sizes s t (r ∷ rs) =
    record { chunk = r.number; steps = record { start = coordinate s t - total (take r.number sizes); step = s.step; count = r.count } }
    ∷ taken_from sizes s (t + r.count) rs

-- chunk 0, of which nothing is taken, where the slice has no element
abbrev pub or_nothing : Steps → List Taken → List Taken
or_nothing s [] = record { chunk = 0; steps = record { start = 0; step = s.step; count = 0 } } ∷ []
or_nothing s (p ∷ ps) = p ∷ ps

abbrev pub taken_of : List ℕ → Steps → List Taken
taken_of sizes s = or_nothing s (taken_from sizes s 0 (runs (map (λ t. chunk_of sizes (coordinate s t)) (range_with_len 0 s.count))))

abbrev pub counts_taken : List Taken → List ℕ
counts_taken ps = map (λ (p : Taken). p.steps.count) ps

-- the pieces on each axis
abbrev pub pieces_of : List (List ℕ) → List Steps → List (List Taken)
pieces_of [] steps = []
pieces_of (sizes ∷ layout) [] = []
pieces_of (sizes ∷ layout) (s ∷ steps) = taken_of sizes s ∷ pieces_of layout steps

-- the layout of the slice, no axis dropped
abbrev pub slice_layout : List (List ℕ) → List Steps → List (List ℕ)
slice_layout layout steps = map counts_taken (pieces_of layout steps)
