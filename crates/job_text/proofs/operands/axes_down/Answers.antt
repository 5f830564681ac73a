use Rattle.job_text.proofs.Building.{down-more}
use Rattle.job_text.proofs.operands.axes_down.Goals as goal

pub loop-k-preserved : goal.loop-k-preserved
loop-k-preserved c = down-more c.loop-k.axes c.push.new.self c.args.n c.loop-k.k c.loop-k-test.true c.loop-k.invariant c.in_ok-push.ensures.ok
