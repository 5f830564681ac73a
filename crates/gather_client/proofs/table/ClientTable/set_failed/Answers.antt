use Rattle.std.proofs.Common.{refl, None}
use Rattle.gather_client.specs.Stored.{facts_of}
use Rattle.gather_client.proofs.table.ClientTable.set_failed.Goals as goal

pub returns : goal.returns
unfolding facts_of
returns c = rw (← c.self.view_is, c.set.ensures.meaning None) refl
