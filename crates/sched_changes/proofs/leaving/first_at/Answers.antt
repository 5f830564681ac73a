use Rattle.task_table.specs.Tasks.{facts}
use Rattle.sched_changes.proofs.LeavingLemmas.{first_low}
use Rattle.sched_changes.proofs.leaving.first_at.Goals as goal

pub returns-clause-within : goal.returns-clause-within
returns-clause-within c = first_low (facts c.args.table.now) c.args.worker c.args.from c.first_at.result c.sound.ensures c.first_at.ensures
