use Rattle.cluster_world.proofs.Reading.{got_here}
use Rattle.cluster_world.proofs.world.World.got.Goals as goal

pub returns-clause-value : goal.returns-clause-value
returns-clause-value g c =
    rw (← c.self.view_is) (λ t. got_here g.J.JobSpec.graph g.J.JobSpec.operation c.self.inside.state c.self.invariant.low c.self.invariant.shape c.block.result c.args.client c.args.key c.block.ensures (c.self.invariant.made t))

pub returns-clause-made : goal.returns-clause-made
returns-clause-made g c =
    rw (← c.self.view_is) (got_here g.J.JobSpec.graph g.J.JobSpec.operation c.self.inside.state c.self.invariant.low c.self.invariant.shape c.block.result c.args.client c.args.key c.block.ensures)
