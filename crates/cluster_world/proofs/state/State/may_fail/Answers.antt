use Rattle.std.proofs.Common.{◌≡◌, Bool, true, false, ◌&&◌, Option, None, refl, ap, ◌∙◌, cond, is_some}
use Rattle.std.specs.Option.{option_map}
use Rattle.small_facts.proofs.Options.{is_some_of_map}
use Rattle.cluster_rules.specs.Worker.{Ask}
use Rattle.cluster_rules.specs.World.{is_asker, open_ask}
use Rattle.cluster_world.specs.Worlds.{world}
use Rattle.cluster_world.proofs.state.State.may_fail.Goals as goal

-- a test under a condition
pick : (b : Bool) (o : Option Ask) → is_some (cond b (option_map (λ (a : Ask). a.number) o) None) ≡ (b && is_some o)
pick true o = is_some_of_map (λ (a : Ask). a.number) o
pick false o = refl

pub ask_number-requires : goal.ask_number-requires
ask_number-requires g c = c.requires

pub returns : goal.returns
returns g c = c.is_some.ensures ∙ ap (λ o. is_some o) c.ask_number.ensures ∙ pick (is_asker (world c.args.self.now) c.args.asker) (open_ask (world c.args.self.now) c.args.asker c.args.peer)
