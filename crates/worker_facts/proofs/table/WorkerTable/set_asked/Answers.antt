use Rattle.std.proofs.Common.{refl, false}
use Rattle.worker_facts.specs.Stored.{facts_of}
use Rattle.worker_facts.proofs.table.WorkerTable.set_asked.Goals as goal

pub returns : goal.returns
unfolding facts_of
returns c = rw (← c.self.view_is, c.set.ensures.meaning false) refl
