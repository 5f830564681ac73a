use Rattle.std.proofs.Common.{◌-◌, ◌^◌, sym, ap, ◌∙◌, cond}
use Rattle.std.specs.Prelude.{min}
use Rattle.cluster_rules.specs.Worker.{pairs}
use Rattle.cluster_world.specs.Worlds.{world}
use Rattle.cluster_world.proofs.state.State.pairs_of_worker.Goals as goal

pub worker-requires : goal.worker-requires
worker-requires g c = c.requires

pub returns-in-Some : goal.returns-in-Some
returns-in-Some g c = c.pairs.ensures ∙ (λ t. min (cond (sym c.in-Some.ensures.0 t) (pairs (sym c.in-Some.ensures.1 t)) 0) (2 ^ 64 - 1))

pub returns-in-None : goal.returns-in-None
returns-in-None g c = sym (ap (λ a. min (cond a (pairs ((world c.args.self.now).workers c.args.worker)) 0) (2 ^ 64 - 1)) c.in-None.ensures)
