use Rattle.cluster_world.proofs.Reading.{done_here}
use Rattle.cluster_world.proofs.world.World.done.Goals as goal

pub returns-clause-blame : goal.returns-clause-blame
returns-clause-blame g c =
    rw (← c.self.view_is) (done_here g.J.JobSpec.graph g.J.JobSpec.operation c.self.inside.state c.self.invariant.low c.self.invariant.shape c.done.result c.args.client c.args.key c.done.ensures)
