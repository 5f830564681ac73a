use Rattle.std.proofs.Common.{None, sym, ap, ◌∙◌, cond}
use Rattle.std.specs.Option.{option_map}
use Rattle.cluster_rules.specs.Worker.{ask_to}
use Rattle.cluster_world.specs.Worlds.{world}
use Rattle.cluster_world.proofs.state.State.worker_ask.Goals as goal

pub worker-requires : goal.worker-requires
worker-requires g c = c.requires

pub returns-in-Some : goal.returns-in-Some
returns-in-Some g c = c.ask_number.ensures ∙ (λ t. cond (sym (c.in-Some.ensures.0) t) (option_map (λ a. a.number) (ask_to (sym c.in-Some.ensures.1 t).asks c.args.peer)) None)

pub returns-in-None : goal.returns-in-None
returns-in-None g c = sym (ap (λ a. cond a (option_map (λ a. a.number) (ask_to ((world c.args.self.now).workers c.args.worker).asks c.args.peer)) None) c.in-None.ensures)
