-- Facts under which what is under way weighs no more.
use Rattle.std.specs.Prelude.{◌≡◌, ℕ, ◌+◌, ◌≤◌, true, false}
use Rattle.cluster_rules.specs.Sched.{Facts, held}
use Rattle.cluster_rules.specs.World.{World}
use Rattle.quiet_measure.specs.Weights.{is_current}

-- from facts f with deaths d to g with e: no key has more deaths left, and one whose copy or whose last copy went has fewer
pub record IsLighter (f g : Facts) (d e : ℕ → ℕ) : Type 0 where
  pub deaths : (k : ℕ) → e k ≤ d k
  pub gone : (x k c : ℕ) → is_current f x k c ≡ true → is_current g x k c ≡ false → e k + 1 ≤ d k
  pub unheld : (k : ℕ) → held f k ≡ true → held g k ≡ false → e k + 1 ≤ d k

-- the world with these facts of the scheduler
abbrev pub under : World → Facts → World
under w g = record w { sched = g }
