-- The union of the boundaries of chunks.
use Rattle.std.specs.Prelude.{ℕ, ◌-◌, cond, nat_eq, nat_lt, List, [], ◌∷◌, ◌++◌}

-- sizes that add up to the first so much of an axis, and the sizes of the rest
pub record Parted : Type 0 where
  pub front : List ℕ
  pub rest : List ℕ

abbrev pub part_more : ℕ → ℕ → List ℕ → Parted → Parted
part_more x y ys more =
    cond (nat_lt y x) (record { front = y ∷ more.front; rest = more.rest })
    (record { front = x ∷ []; rest = cond (nat_eq y x) ys ((y - x) ∷ ys) })

abbrev pub parted : ℕ → List ℕ → Parted
parted x [] = record { front = x ∷ []; rest = [] }
parted x (y ∷ ys) = part_more x y ys (parted (x - y) ys)

abbrev pub then_rest : Parted → (List ℕ → List ℕ) → List ℕ
then_rest p f = p.front ++ f p.rest

-- the sizes between the boundaries of both
abbrev pub union : List ℕ → List ℕ → List ℕ
union [] ys = []
union (x ∷ xs) ys = then_rest (parted x ys) (union xs)

abbrev pub unified : List (List ℕ) → List (List ℕ) → List (List ℕ)
unified [] bs = []
unified (a ∷ as') [] = []
unified (a ∷ as') (b ∷ bs) = union a b ∷ unified as' bs
