use Rattle.std.proofs.Common.{◌≡◌, arith}
use Rattle.balance_policy.proofs.Dropping.{loaded_of-next, most_loaded-is}
use Rattle.balance_policy.proofs.drop.most_loaded.Goals as goal

pub loop-before-preserved : goal.loop-before-preserved
loop-before-preserved g c = loaded_of-next (g.F.Facts.facts c.args.facts.now) c.args.key c.loop-before.before c.loop-before.best c.holder.result c.heavier-best.result c.loop-before.invariant c.holder.ensures c.heavier-best.ensures

pub returns : goal.returns
returns g c =
    let e : c.loop-before.before ≡ (g.F.Facts.facts c.args.facts.now).last_worker = omega (arith, c.loop-before-test.false, c.loop-before.auto, c.last_worker-before-end.ensures) in
    most_loaded-is (g.F.Facts.facts c.args.facts.now) c.args.key c.loop-before.before c.loop-before.best e c.loop-before.invariant
