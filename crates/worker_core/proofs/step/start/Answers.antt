use Rattle.std.proofs.Common.{sym}
use Rattle.worker_core.proofs.CoreLemmas.{start_below}
use Rattle.worker_facts.specs.Stored.{facts_of}
use Rattle.worker_core.proofs.step.start.Goals as goal

pub set_running-requires : goal.set_running-requires
set_running-requires c = start_below (facts_of c.args.table.now) c.in-Some.key (sym c.in-Some.ensures)
