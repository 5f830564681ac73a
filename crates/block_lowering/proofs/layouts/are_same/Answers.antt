use Rattle.std.proofs.Common.{length, sym, ap, ◌∙◌}
use Rattle.block_lowering.proofs.LayoutSteps.{same-layout-apart}
use Rattle.block_lowering.proofs.layouts.are_same.Goals as goal

pub returns-then-left-right : goal.returns-then-left-right
returns-then-left-right c =
    sym (same-layout-apart c.args.a.now c.args.b.now (λ e. c.if-left-right.true (ap length c.axes-left.ensures.value ∙ e ∙ sym (ap length c.axes-right.ensures.value))))
