use Rattle.cluster_world.proofs.Searches.{one_more_alive}
use Rattle.cluster_world.proofs.progress.some_died.Goals as goal

pub loop-before-preserved : goal.loop-before-preserved
loop-before-preserved g c = one_more_alive (g.C.Choices.world c.args.world.now).alive c.loop-before.before c.alive-dead.result c.loop-before.invariant c.alive-dead.ensures c.if-dead.false
