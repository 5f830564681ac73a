use Rattle.std.proofs.Common.{◌*◌, ◌^◌, ◌-◌, min, ap, ◌∙◌}
use Rattle.quiet_bound.proofs.Capped.{capped-left, cubed}
use Rattle.quiet_bound.proofs.cube.Goals as goal

pub returns : goal.returns
returns c = c.saturating_mul.ensures ∙ ap (λ x. min (x * c.args.base) (2 ^ 128 - 1)) c.square.ensures ∙ capped-left (c.args.base ^ 2) c.args.base (2 ^ 128 - 1) c.requires ∙ ap (λ x. min x (2 ^ 128 - 1)) (cubed c.args.base)
