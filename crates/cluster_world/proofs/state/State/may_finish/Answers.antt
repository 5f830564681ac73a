use Rattle.std.proofs.Common.{◌&&◌, sym, ap, ◌∙◌}
use Rattle.cluster_world.specs.Worlds.{world}
use Rattle.cluster_world.proofs.state.State.may_finish.Goals as goal

pub worker-requires : goal.worker-requires
worker-requires g c = c.requires

pub returns-in-Some : goal.returns-in-Some
returns-in-Some g c = c.runs.ensures ∙ (λ t. (sym (c.in-Some.ensures.0) t) && (sym c.in-Some.ensures.1 t).running c.args.key)

pub returns-in-None : goal.returns-in-None
returns-in-None g c = sym (ap (λ a. a && ((world c.args.self.now).workers c.args.worker).running c.args.key) c.in-None.ensures)
