use Rattle.gather_client.specs.Stored.{facts_of}
use Rattle.gather_client.proofs.table.ClientTable.open_items.Goals as goal

pub returns-clause-items : goal.returns-clause-items
unfolding facts_of
returns-clause-items c = rw (← c.self.view_is) c.items.ensures.items

pub returns-clause-keys : goal.returns-clause-keys
unfolding facts_of
returns-clause-keys c = rw (← c.self.view_is, ← c.self.invariant.wide) c.items.ensures.keys
