use Rattle.std.proofs.Common.{◌≡◌, Bool, true, false, ◌&&◌, Option, None, refl, ap, ◌∙◌, cond, is_some}
use Rattle.cluster_rules.specs.Worker.{would_start}
use Rattle.cluster_world.specs.Worlds.{world}
use Rattle.cluster_world.proofs.state.State.may_start.Goals as goal

-- a test under a condition
pick : {A : Type 0} (b : Bool) (o : Option A) → is_some (cond b o None) ≡ (b && is_some o)
pick true o = refl
pick false o = refl

pub would_start-requires : goal.would_start-requires
would_start-requires g c = c.requires

pub returns : goal.returns
returns g c = c.is_some.ensures ∙ ap (λ o. is_some o) c.would_start.ensures ∙ pick ((world c.args.self.now).alive c.args.worker) (would_start ((world c.args.self.now).workers c.args.worker))
