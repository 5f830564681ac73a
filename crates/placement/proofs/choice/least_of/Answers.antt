use Rattle.std.proofs.Common.{◌≡◌, arith}
use Rattle.placement.proofs.Placing.{best_of-next, offered-is}
use Rattle.placement.proofs.choice.least_of.Goals as goal

pub loop-before-preserved : goal.loop-before-preserved
loop-before-preserved g c = best_of-next (g.F.Facts.facts c.args.facts.now) c.args.key c.args.pool c.loop-before.before c.loop-before.best c.offer.result c.lesser-best.result c.loop-before.invariant c.offer.ensures c.lesser-best.ensures

pub returns : goal.returns
returns g c =
    let e : c.loop-before.before ≡ (g.F.Facts.facts c.args.facts.now).last_worker = omega (arith, c.loop-before-test.false, c.loop-before.auto, c.last_worker-before-end.ensures) in
    offered-is (g.F.Facts.facts c.args.facts.now) c.args.key c.args.pool c.loop-before.before c.loop-before.best c.worker_of.result e c.loop-before.invariant c.worker_of.ensures
