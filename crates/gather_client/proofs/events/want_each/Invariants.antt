use Rattle.std.proofs.Common.{◌≡◌, take}
use Rattle.std.specs.Prelude.{fold}
use Rattle.gather_client.specs.Stored.{facts_of}
use Rattle.gather_client.specs.Steps.{wanted}
use Rattle.gather_client.proofs.events.want_each.Given as goal

abbrev pub invariant-loop-key : goal.invariant-loop-key
invariant-loop-key l = facts_of l.table ≡ fold wanted (facts_of l.fn.table) (take l.key-index l.keys)
