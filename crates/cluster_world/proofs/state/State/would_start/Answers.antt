use Rattle.std.proofs.Common.{None, sym, ap, ◌∙◌, cond}
use Rattle.cluster_rules.specs.Worker.{would_start}
use Rattle.cluster_world.specs.Worlds.{world}
use Rattle.cluster_world.proofs.state.State.would_start.Goals as goal

pub worker-requires : goal.worker-requires
worker-requires g c = c.requires

pub returns-in-Some : goal.returns-in-Some
returns-in-Some g c = c.would_start.ensures ∙ (λ t. cond (sym (c.in-Some.ensures.0) t) (would_start (sym c.in-Some.ensures.1 t)) None)

pub returns-in-None : goal.returns-in-None
returns-in-None g c = sym (ap (λ a. cond a (would_start ((world c.args.self.now).workers c.args.worker)) None) c.in-None.ensures)
