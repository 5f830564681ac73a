use Rattle.std.proofs.Common.{◌∙◌}
use Rattle.cluster_rules.specs.SchedTable.{wants_more}
use Rattle.task_table.specs.Tasks.{facts}
use Rattle.sched_changes.proofs.ChangeLemmas.{wants_or}
use Rattle.sched_changes.proofs.changes.want.Goals as goal

pub returns-clause-facts : goal.returns-clause-facts
unfolding wants_more
returns-clause-facts c = c.set_wants.ensures.facts ∙ wants_or (facts c.args.table.now) c.args.client c.args.named.now
