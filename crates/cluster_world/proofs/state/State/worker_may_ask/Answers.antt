use Rattle.std.proofs.Common.{◌&&◌, sym, ap, ◌∙◌}
use Rattle.cluster_rules.specs.Worker.{would_ask}
use Rattle.cluster_world.specs.Worlds.{world}
use Rattle.cluster_world.proofs.state.State.worker_may_ask.Goals as goal

pub worker-requires : goal.worker-requires
worker-requires g c = c.requires

pub returns-in-Some : goal.returns-in-Some
returns-in-Some g c = c.would_ask.ensures ∙ (λ t. (sym (c.in-Some.ensures.0) t) && would_ask (sym c.in-Some.ensures.1 t) c.args.peer)

pub returns-in-None : goal.returns-in-None
returns-in-None g c = sym (ap (λ a. a && would_ask ((world c.args.self.now).workers c.args.worker) c.args.peer) c.in-None.ensures)
