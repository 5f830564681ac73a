use Rattle.std.proofs.Common.{◌≡◌, ℕ, false, take, get_or, ◌||◌, length}
use Rattle.cluster_rules.specs.Derived.{is_in}
use Rattle.sched_facts.proofs.derived.mark.Given as goal

abbrev pub invariant-loop-key : goal.invariant-loop-key
invariant-loop-key l = record {
  marked : (k : ℕ) → get_or l.row k false ≡ (get_or l.fn.row k false || is_in k (take l.key-index l.keys));
  long : length l.row ≡ length l.fn.row;
}
