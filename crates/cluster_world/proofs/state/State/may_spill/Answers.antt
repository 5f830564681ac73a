use Rattle.std.proofs.Common.{not, ◌&&◌, sym, ap, ◌∙◌}
use Rattle.cluster_world.specs.Worlds.{world}
use Rattle.cluster_world.proofs.state.State.may_spill.Goals as goal

pub worker-requires : goal.worker-requires
worker-requires g c = c.requires

pub returns-in-Some : goal.returns-in-Some
returns-in-Some g c = (λ t. c.holds.ensures t && not (c.is_spilled-spilled.ensures t)) ∙ (λ t. sym (c.in-Some.ensures.0) t && ((sym c.in-Some.ensures.1 t).mem c.args.key && not ((world c.args.self.now).spilled c.args.worker c.args.key)))

pub returns-in-None : goal.returns-in-None
returns-in-None g c = sym (ap (λ a. a && (((world c.args.self.now).workers c.args.worker).mem c.args.key && not ((world c.args.self.now).spilled c.args.worker c.args.key))) c.in-None.ensures)
