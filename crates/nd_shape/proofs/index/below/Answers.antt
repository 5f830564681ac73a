use Rattle.std.proofs.Common.{arith, refl, ◌<◌, get_or}
use Rattle.nd_shape.proofs.Axes.{IsIn-at, IsIn-from}
use Rattle.nd_shape.proofs.index.below.Goals as goal

pub returns-then-index-axis : goal.returns-then-index-axis
returns-then-index-axis c =
    (λ h. cc, λ h. let b : get_or c.args.index.now c.loop-axis.axis 0 < get_or c.args.dims.now c.loop-axis.axis 0 = IsIn-at _ _ c.loop-axis.axis h c.loop-axis-test.true in absurd (omega arith))

pub returns : goal.returns
returns c = (λ h. IsIn-from _ _ c.requires (λ k b. c.loop-axis.invariant k (omega arith)), λ h. refl)
