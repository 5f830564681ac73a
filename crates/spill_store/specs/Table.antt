-- Tables in the order of use: the entries, the most recently used first.
use Rattle.std.specs.Prelude.{◌≡◌, ℕ, nat_eq, List, [], ◌∷◌, ◌++◌, cond, Option, Some}
use Rattle.std.specs.Map.{lookup, remove_entry}

-- the key's value, as the most recently used one
abbrev pub put_first : {V : Type 0} → ℕ → V → List (ℕ × V) → List (ℕ × V)
put_first key value es = (key, value) ∷ remove_entry (nat_eq key) es

-- the least recently used entry
pub record IsLast {V : Type 0} (es : List (ℕ × V)) (key : ℕ) (value : V) : Type 0 where
  pub last : es ≡ remove_entry (nat_eq key) es ++ (key, value) ∷ []
  pub there : lookup (nat_eq key) es ≡ Some value

-- one key has another value, or none, and each other key the one that it had
pub record ChangesAt {V : Type 0} (key : ℕ) (value : Option V) (old new : List (ℕ × V)) : Type 0 where
  pub each : (q : ℕ) → lookup (nat_eq q) new ≡ cond (nat_eq key q) value (lookup (nat_eq q) old)

-- each key has the value that it had
pub record SameValues {V : Type 0} (old new : List (ℕ × V)) : Type 0 where
  pub each : (q : ℕ) → lookup (nat_eq q) new ≡ lookup (nat_eq q) old
