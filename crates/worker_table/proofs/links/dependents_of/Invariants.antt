use Rattle.worker_table.specs.Links.{IsLinkedBelow}
use Rattle.worker_table.proofs.links.dependents_of.Given as goal

abbrev pub invariant-loop-key : goal.invariant-loop-key
invariant-loop-key l = IsLinkedBelow l.shape l.key l.lists.items
