use Rattle.cluster_world.specs.Worlds.{world}
use Rattle.cluster_world.proofs.Searches.{next_finish, none_finish}
use Rattle.cluster_world.proofs.state.State.next_finish.Goals as goal

pub worker-requires : goal.worker-requires
worker-requires g c = c.requires.nodes

pub returns-in-Some : goal.returns-in-Some
returns-in-Some g c = next_finish (world c.args.self.now) c.args.worker c.args.first _ _ c.in-Some.ensures.0 c.in-Some.ensures.1 (c.requires.orderly.inside.workers c.args.worker) c.next_run.ensures

pub returns-in-None : goal.returns-in-None
returns-in-None g c = none_finish (world c.args.self.now) c.args.worker c.args.first c.in-None.ensures
