use Rattle.std.proofs.Common.{◌≡◌, ℕ, [], length}
use Rattle.standing.specs.Links.{linked_to}
use Rattle.standing.proofs.links.empty_lists.Given as goal

abbrev pub invariant-loop-key : goal.invariant-loop-key
invariant-loop-key l = record {
  long : length l.links.items ≡ l._key;
  empty : (j : ℕ) → linked_to l.links.items j ≡ [];
}
