use Rattle.std.proofs.Common.{◌≡◌, ℕ, [], length, get_or}
use Rattle.worker_facts.proofs.table.no_holders.Given as goal

abbrev pub invariant-loop-key : goal.invariant-loop-key
invariant-loop-key l = record {
  long : length l.rows.items ≡ l._key;
  empty : (k : ℕ) → get_or l.rows.items k [] ≡ [];
}
