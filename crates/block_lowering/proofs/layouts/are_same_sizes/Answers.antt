use Rattle.std.proofs.Common.{sym}
use Rattle.block_lowering.proofs.LayoutSteps.{same-sizes-apart}
use Rattle.block_lowering.proofs.layouts.are_same_sizes.Goals as goal

pub returns-then-a-b : goal.returns-then-a-b
returns-then-a-b c = sym (same-sizes-apart c.args.a.now c.args.b.now c.if-a-b.true)
