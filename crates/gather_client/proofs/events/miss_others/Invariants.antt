use Rattle.std.proofs.Common.{◌≡◌, ◌++◌, take}
use Rattle.std.specs.List.{filter_map}
use Rattle.gather_client.specs.Stored.{facts_of}
use Rattle.gather_client.specs.Steps.{after_missed, miss_message}
use Rattle.gather_client.proofs.events.miss_others.Given as goal

abbrev pub invariant-loop-item : goal.invariant-loop-item
invariant-loop-item l = record {
  facts : facts_of l.table ≡ after_missed (facts_of l.fn.table) l.found (take l.item-index l.items);
  told : l.out ≡ l.fn.out ++ filter_map (miss_message l.found (facts_of l.fn.table) l.peer) (take l.item-index l.items);
}
