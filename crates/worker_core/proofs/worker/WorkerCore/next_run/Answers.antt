use Rattle.std.proofs.Common.{subst}
use Rattle.worker_core.specs.Core.{Core, facts}
use Rattle.worker_core.specs.Runs.{IsNextRun}
use Rattle.worker_facts.specs.Stored.{facts_of}
use Rattle.worker_core.proofs.MoveLemmas.{next_of}
use Rattle.worker_core.proofs.worker.WorkerCore.next_run.Goals as goal

pub returns : goal.returns
returns c = subst (λ (s : Core). IsNextRun (facts s) c.args.from c.next_run.result) c.self.view_is (next_of (facts_of c.self.inside.table) c.args.from c.next_run.result c.next_run.ensures)
