use Rattle.std.proofs.Common.{below_more}
use Rattle.node_runner.proofs.ends.is_given_up.Goals as goal

pub loop-at-preserved : goal.loop-at-preserved
loop-at-preserved c = below_more _ _ c.loop-at.invariant (c.is_row.ensures c.if-not-is_row.false)
