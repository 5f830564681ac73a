use Rattle.std.proofs.Common.{◌≡◌, ℕ, ◌++◌, ◌∷◌, [], cond, take, length}
use Rattle.cluster_rules.specs.Derived.{is_in}
use Rattle.standing.specs.Links.{linked_to}
use Rattle.standing.proofs.links.add_dependent.Given as goal

abbrev pub invariant-loop-other : goal.invariant-loop-other
invariant-loop-other l = record {
  long : length l.links.items ≡ length l.fn.links.items;
  added : (j : ℕ) → linked_to l.links.items j ≡ cond (is_in j (take l.other-index l.keys)) (linked_to l.fn.links.items j ++ l.key ∷ []) (linked_to l.fn.links.items j);
}
