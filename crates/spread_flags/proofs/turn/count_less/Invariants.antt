use Rattle.std.proofs.Common.{◌≡◌, ℕ, ◌+◌, cond, take, get_or, length}
use Rattle.cluster_rules.specs.Derived.{is_in}
use Rattle.spread_flags.proofs.turn.count_less.Given as goal

abbrev pub invariant-loop-key : goal.invariant-loop-key
invariant-loop-key l = record {
  counted : (k : ℕ) → get_or l.counts k 0 + cond (is_in k (take l.key-index l.keys)) 1 0 ≡ get_or l.fn.counts k 0;
  long : length l.counts ≡ length l.fn.counts;
}
