-- Finite tables as functions, numbers in ascending order, and sums over them.
use Rattle.std.specs.Prelude.{ℕ, ◌+◌, ◌==◌, Bool, false, ◌&&◌, List, [], ◌∷◌, slice_index_or, cond}
use Rattle.std.specs.List.{range_with_len}

-- the function with a new value at one place
abbrev pub put : {A : Type 0} → (ℕ → A) → ℕ → A → ℕ → A
put f k x j = cond (j == k) x (f j)

-- the function with a new value at one pair of places
abbrev pub put_pair : {A : Type 0} → (ℕ → ℕ → A) → ℕ → ℕ → A → ℕ → ℕ → A
put_pair f w k x v j = cond (v == w && j == k) x (f v j)

-- 1 to n
abbrev pub from_one : ℕ → List ℕ
from_one n = range_with_len 1 n

-- a table of tests as a function: false past its end
abbrev pub at : List Bool → ℕ → Bool
at xs k = slice_index_or xs k false

-- the sum of these numbers
abbrev pub total : (ℕ → ℕ) → List ℕ → ℕ
total g [] = 0
total g (x ∷ xs) = g x + total g xs

-- how many members pass
abbrev pub count : (ℕ → Bool) → List ℕ → ℕ
count p xs = total (λ x. cond (p x) 1 0) xs
