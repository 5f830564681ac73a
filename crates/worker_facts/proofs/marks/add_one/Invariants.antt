use Rattle.std.proofs.Common.{◌≡◌, ◌+◌, ℕ, cond, length, take, get_or}
use Rattle.cluster_rules.specs.Derived.{is_in}
use Rattle.worker_facts.proofs.marks.add_one.Given as goal

abbrev pub invariant-loop-key : goal.invariant-loop-key
invariant-loop-key l = record {
  counted : (k : ℕ) → get_or l.row k 0 ≡ get_or l.fn.row k 0 + cond (is_in k (take l.key-index l.keys)) 1 0;
  long : length l.row ≡ length l.fn.row;
}
