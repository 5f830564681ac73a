use Rattle.std.proofs.Common.{◌∙◌}
use Rattle.task_table.specs.Tasks.{facts}
use Rattle.scheduler_core.proofs.PlacingLemmas.{given_free}
use Rattle.scheduler_core.proofs.placing.give.Goals as goal

pub returns-clause-facts : goal.returns-clause-facts
returns-clause-facts c = c.make.ensures.facts ∙ given_free (facts c.args.table.now) c.args.key c.args.worker c.sound.ensures c.requires.free
