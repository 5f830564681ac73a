use Rattle.block_lowering.proofs.Arranged.{row-more}
use Rattle.block_lowering.proofs.points.layout_of_point.Goals as goal

pub loop-axis-preserved : goal.loop-axis-preserved
loop-axis-preserved c = row-more _ c.loop-axis.axes.items c.push.new.self.items c.loop-axis.axis c.in_ok-point_axis.field-0 c.loop-axis.invariant c.in_ok-push.ensures.items c.in_ok-point_axis.ensures
