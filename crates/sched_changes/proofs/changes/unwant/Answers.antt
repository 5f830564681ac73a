use Rattle.std.proofs.Common.{◌∙◌}
use Rattle.cluster_rules.specs.SchedTable.{wants_less}
use Rattle.task_table.specs.Tasks.{facts}
use Rattle.sched_changes.proofs.ChangeLemmas.{wants_not}
use Rattle.sched_changes.proofs.changes.unwant.Goals as goal

pub returns-clause-facts : goal.returns-clause-facts
unfolding wants_less
returns-clause-facts c = c.set_wants.ensures.facts ∙ wants_not (facts c.args.table.now) c.args.client c.args.named.now
