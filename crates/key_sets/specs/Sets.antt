-- Sets of keys, kept as bits of words.
use Rattle.std.specs.Prelude.{◌≡◌, ℕ, ◌*◌, ◌/◌, ◌%◌, ◌<◌, ◌≤◌, ◌==◌, Bool, true, false, List, length, Option, Some, None, slice_index_or}
use Rattle.std.specs.Int.{bit_at}

-- the bit of a word
abbrev pub bit : ℕ → ℕ → Bool
bit n i = bit_at n i == 1

-- the key is in the set
unfoldable pub has : List ℕ → ℕ → Bool
has ws k = bit (slice_index_or ws (k / 64) 0) (k % 64)

-- how many keys there is room for
abbrev pub room : List ℕ → ℕ
room ws = length ws * 64

-- the first from here on that passes
abbrev pub IsFirst : (ℕ → Bool) → ℕ → Option ℕ → Type 0
IsFirst p a None = (k : ℕ) → a ≤ k → p k ≡ false
IsFirst p a (Some r) = (a ≤ r) × (p r ≡ true) × ((k : ℕ) → a ≤ k → k < r → p k ≡ false)

-- the last below here that passes
abbrev pub IsLast : (ℕ → Bool) → ℕ → Option ℕ → Type 0
IsLast p a None = (k : ℕ) → k < a → p k ≡ false
IsLast p a (Some r) = (r < a) × (p r ≡ true) × ((k : ℕ) → r < k → k < a → p k ≡ false)
