use Rattle.std.proofs.Common.{◌≡◌, ℕ, ◌≤◌, false, length}
use Rattle.key_sets.specs.Sets.{has}
use Rattle.spread_flags.specs.Spread.{was}
use Rattle.spread_flags.proofs.flags.Flags.settle_down.Given as goal

abbrev pub invariant-loop-key : goal.invariant-loop-key
invariant-loop-key l = record {
  links : l.self.links ≡ l.fn.self.links;
  seeds : l.self.seeds ≡ l.fn.self.seeds;
  gates : l.self.gates ≡ l.fn.self.gates;
  was : (k : ℕ) → was l.self k ≡ was l.fn.self k;
  within : l.below ≤ length l.fn.self.links;
  done : (k : ℕ) → l.below ≤ k → has l.self.stale k ≡ false;
}

abbrev pub decreases-loop-key : goal.decreases-loop-key
decreases-loop-key l = l.below
