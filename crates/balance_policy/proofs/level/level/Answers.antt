use Rattle.std.proofs.Common.{arith}
use Rattle.balance_policy.proofs.Levels.{level-is, twice, one_more, never_all}
use Rattle.balance_policy.proofs.level.level.Goals as goal

pub loop-n-init : goal.loop-n-init
loop-n-init c = (omega arith, λ m l. absurd (omega arith))

pub returns-then-bytes-moved : goal.returns-then-bytes-moved
returns-then-bytes-moved c = level-is c.args.bytes c.args.work c.loop-n.n c.requires.bytes (omega (arith, c.loop-n.invariant.0)) c.loop-n.invariant.1

pub loop-n-preserved : goal.loop-n-preserved
loop-n-preserved c = (twice c.loop-n.n c.args.work c.loop-n.moved c.loop-n.invariant.0, one_more c.args.bytes c.args.work c.loop-n.n c.loop-n.moved c.loop-n.invariant.0 c.if-bytes-moved.false c.loop-n.invariant.1)

pub returns : goal.returns
returns c = absurd (never_all c.args.bytes c.args.work c.loop-n.n c.requires.bytes c.loop-n-test.false c.loop-n.invariant.1)
