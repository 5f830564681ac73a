use Rattle.std.proofs.Common.{◌&&◌, ap}
use Rattle.cluster_rules.specs.Worker.{would_ask}
use Rattle.cluster_world.specs.Worlds.{world}
use Rattle.cluster_world.proofs.Searches.{asks_none}
use Rattle.cluster_world.proofs.state.State.worker_fetches.Goals as goal

pub returns-in-Some : goal.returns-in-Some
returns-in-Some g c = let w = world c.args.self.now in asks_none (w.alive c.args.worker) c.is_fetching.result (w.workers c.args.worker) _ c.in-Some.ensures.0 c.in-Some.ensures.1 c.is_fetching.ensures

pub returns-in-None : goal.returns-in-None
returns-in-None g c n p = ap (λ a. a && would_ask ((world c.args.self.now).workers c.args.worker) p) c.in-None.ensures
