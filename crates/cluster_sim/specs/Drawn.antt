-- The words that a number stands for: those of the generator PCG XSH RR 64/32, in its stream 1, started at the number (O'Neill, "PCG: a
-- family of simple fast space-efficient statistically good algorithms for random number generation").
use Rattle.std.specs.Prelude.{◌≡◌, ℕ, ◌+◌}
use Rattle.rand_pcg.specs.Lcg.{Lcg, advance, started, increment_of}
use Rattle.rand_pcg.specs.Pcg.{multiplier_64, pcg32}
use Rattle.cluster_sim.specs.declared.words.Words.{Words}

-- the generator after so many words
unfoldable pub generator : ℕ → ℕ → Lcg
generator number n = advance 64 multiplier_64 n (started 64 multiplier_64 number (increment_of 64 1))

-- the word of a turn, counted from 0
unfoldable pub word_of : ℕ → ℕ → ℕ
word_of number n = (pcg32 (generator number n)).0

-- the word of this turn is at hand, and the generator stands behind it
pub record IsAtTurn (w : Words) (number turn : ℕ) : Type 0 where
  pub word : w.word ≡ word_of number turn
  pub behind : w.rng ≡ generator number (turn + 1)
