use Rattle.std.proofs.Common.{◌≡◌, ℕ, [], length}
use Rattle.worker_table.specs.Links.{dependents}
use Rattle.worker_table.proofs.links.no_lists.Given as goal

abbrev pub invariant-loop-key : goal.invariant-loop-key
invariant-loop-key l = record {
  long : length l.lists.items ≡ l._key;
  empty : (d : ℕ) → dependents l.lists.items d ≡ [];
}
