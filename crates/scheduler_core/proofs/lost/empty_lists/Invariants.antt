use Rattle.std.proofs.Common.{◌≡◌, ℕ, [], length, get_or}
use Rattle.scheduler_core.proofs.lost.empty_lists.Given as goal

abbrev pub invariant-loop-i : goal.invariant-loop-i
invariant-loop-i l = record {
  long : length l.lists.items ≡ l._i;
  empty : (w : ℕ) → get_or l.lists.items w [] ≡ [];
}
