use Rattle.std.proofs.Common.{◌≡◌, take}
use Rattle.gather_client.specs.Stored.{facts_of}
use Rattle.gather_client.specs.Steps.{after_found}
use Rattle.gather_client.proofs.events.take_found.Given as goal

abbrev pub invariant-loop-item : goal.invariant-loop-item
invariant-loop-item l = facts_of l.table ≡ after_found (facts_of l.fn.table) l.found (take l.item-index l.items)
