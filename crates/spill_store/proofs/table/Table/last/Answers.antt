use Rattle.std.proofs.Common.{sym}
use Rattle.spill_store.proofs.Tables.{last_apart, none_last}
use Rattle.spill_store.proofs.table.Table.last.Goals as goal

pub returns-in-Some : goal.returns-in-Some
returns-in-Some g c = rw (← c.self.view_is) (last_apart c.self.inside.cache.entries _ c.self.invariant.1 (sym c.in-Some.ensures))

pub returns-in-None : goal.returns-in-None
returns-in-None g c = rw (← c.self.view_is) (none_last c.self.inside.cache.entries (sym c.in-None.ensures))
