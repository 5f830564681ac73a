-- Keys at workers, as pairs of worker and key.
use Rattle.std.specs.Prelude.{ℕ, ◌==◌, Bool, ◌&&◌, List}
use Rattle.std.specs.List.{list_any}

-- the pair stands in the list
abbrev pub has_pair : List (ℕ × ℕ) → ℕ → ℕ → Bool
has_pair ps w k = list_any (λ p. p.0 == w && p.1 == k) ps
