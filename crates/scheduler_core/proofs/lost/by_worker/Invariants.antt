use Rattle.std.proofs.Common.{◌≡◌, ℕ, ◌≤◌, ◌+◌, take, length}
use Rattle.scheduler_core.specs.Mail.{has_pair, lost_by}
use Rattle.scheduler_core.proofs.lost.by_worker.Given as goal

abbrev pub invariant-loop-pair : goal.invariant-loop-pair
invariant-loop-pair l = record {
  kept : (w k : ℕ) → w ≤ l.last → lost_by l.lists.items w k ≡ has_pair (take l.pair-index l.lost) w k;
  long : length l.lists.items ≡ l.last + 1;
}
