use Rattle.task_table.specs.Tasks.{facts}
use Rattle.scheduler_core.proofs.PhaseLemmas.{phase_by}
use Rattle.scheduler_core.proofs.phase.phase_of.Goals as goal

pub returns : goal.returns
returns c = phase_by (facts c.args.table.now) c.args.key _ _ _ _ _ _ _ _ _ c.is_known.ensures c.erred.ensures c.needed.ensures c.held.ensures c.is_fed.ensures c.is_placed.ensures c.has_workers.ensures c.waiting_phase-rest.ensures c.first_phase.ensures
