use Rattle.std.proofs.Common.{sym}
use Rattle.cluster_msgs.specs.declared.events.Event.TheVariants.{SendGather}
use Rattle.cluster_rules.specs.World.{all_workers}
use Rattle.cluster_rules.specs.Enabled.{enabled}
use Rattle.cluster_world.proofs.Searches.{none_on}
use Rattle.cluster_world.proofs.progress.search_questions.Goals as goal

pub returns-else-has_questions : goal.returns-else-has_questions
returns-else-has_questions g c =
    let w = g.C.Choices.world c.args.world.now in
    sym (none_on (enabled w) c.args.search (λ p. SendGather c.args.asker p) (all_workers w) (c.has_questions.ensures c.if-has_questions.false))
