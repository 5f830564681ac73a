use Rattle.std.proofs.Common.{◌≡◌, ℕ, ◌&&◌, get_or, length}
use Rattle.cluster_rules.specs.Functions.{count}
use Rattle.cluster_rules.specs.Derived.{is_in, below}
use Rattle.cluster_rules.specs.Sched.{deps, need, open_key, keys}
use Rattle.sched_facts.specs.Stored.{facts_of}
use Rattle.sched_facts.proofs.derived.fill_waiters.Given as goal

abbrev pub invariant-loop-key : goal.invariant-loop-key
invariant-loop-key l = let f = facts_of l.table in record {
  counted : (k : ℕ) → get_or l.row k 0 ≡ count (λ j. is_in k (deps f j) && (need f j && open_key f j)) (below l.key);
  long : length l.row ≡ keys f;
}
