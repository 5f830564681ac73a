use Rattle.std.proofs.Common.{sym, ap, ◌∙◌, length, subst}
use Rattle.nd_shape.specs.Index.{IsIn}
use Rattle.nd_shape.proofs.Places.{IsIn-length}
use Rattle.nd_shape.proofs.index.is_inside.Goals as goal

pub returns-then-dims-index : goal.returns-then-dims-index
returns-then-dims-index c = (λ h. cc, λ h. absurd (c.if-dims-index.true (ap length c.dims-dims.ensures.dims ∙ sym (IsIn-length c.args.shape.now c.args.index.now h))))

pub returns : goal.returns
returns c = (λ h. subst (λ ns. IsIn ns c.args.index.now) c.dims-dims.ensures.dims (c.below.ensures.0 h), λ h. c.below.ensures.1 (subst (λ ns. IsIn ns c.args.index.now) (sym c.dims-dims.ensures.dims) h))
