use Rattle.std.proofs.Common.{refl, false}
use Rattle.gather_client.specs.Stored.{facts_of}
use Rattle.gather_client.proofs.table.ClientTable.set_got.Goals as goal

pub returns : goal.returns
unfolding facts_of
returns c = rw (← c.self.view_is, c.set.ensures.meaning false) refl
