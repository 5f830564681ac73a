-- What may begin and what may follow the parts of symbols.
use Rattle.std.specs.Prelude.{◌≡◌, ℕ, Bool, true, false, ◌||◌, ◌&&◌, nat_eq, List, [], ◌∷◌}
use Rattle.std.specs.Int.{bit_at}
use Rattle.grammar.specs.declared.symbol.Symbol.{Symbol}
use Rattle.grammar.specs.declared.symbol.Symbol.TheVariants.{Token, Part, Action}
use Rattle.grammar.specs.Tests.{Certificate, mask_at, flag_at}

-- which kinds may begin a part, whether it may be empty, and which kinds may follow it
pub record Tables : Type 0 where
  pub starts : ℕ → ℕ → Bool
  pub empty : ℕ → Bool
  pub follow : ℕ → ℕ → Bool

abbrev pub begins : Tables → List Symbol → ℕ → Bool
begins t [] k = false
begins t (Token j ∷ s) k = nat_eq j k
begins t (Action a ∷ s) k = begins t s k
begins t (Part p ∷ s) k = t.starts p k || (t.empty p && begins t s k)

abbrev pub empties : Tables → List Symbol → Bool
empties t [] = true
empties t (Token j ∷ s) = false
empties t (Action a ∷ s) = empties t s
empties t (Part p ∷ s) = t.empty p && empties t s

-- what may follow each part of the symbols, where these kinds may follow them all
abbrev pub Followed : Tables → List Symbol → (ℕ → Bool) → Type 0
Followed t [] after = Unit {0}
Followed t (Token j ∷ s) after = Followed t s after
Followed t (Action a ∷ s) after = Followed t s after
Followed t (Part p ∷ s) after = ((k : ℕ) → (begins t s k || (empties t s && after k)) ≡ true → t.follow p k ≡ true) × Followed t s after

abbrev pub nothing : ℕ → Bool
nothing k = false

abbrev pub tables_of : Certificate → Tables
tables_of c = record {
  starts = λ p k. nat_eq (bit_at (mask_at c.starts p) k) 1;
  empty = λ p. flag_at c.empty p;
  follow = λ p k. nat_eq (bit_at (mask_at c.follow p) k) 1;
}
