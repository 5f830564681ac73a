use Rattle.balance_policy.proofs.Stealing.{within_none, within_more, within_all}
use Rattle.balance_policy.proofs.steal.best_thief.Goals as goal

pub loop-thief-init : goal.loop-thief-init
loop-thief-init g c = within_none (g.F.Facts.facts c.args.facts.now) c.args.key c.args.victim c.args.idle.now

pub loop-thief-preserved : goal.loop-thief-preserved
loop-thief-preserved g c = within_more (g.F.Facts.facts c.args.facts.now) c.args.key c.args.victim c.args.idle.now c.loop-thief.thief-index c.sound.ensures c.requires.key c.requires.victim c.requires.idle c.loop-thief-test.true c.loop-thief.best c.offer.result c.lesser-best.result c.loop-thief.invariant c.offer.ensures c.lesser-best.ensures

pub returns : goal.returns
returns g c = within_all (g.F.Facts.facts c.args.facts.now) c.args.key c.args.victim c.args.idle.now c.loop-thief.thief-index c.sound.ensures c.requires.idle c.loop-thief-test.false c.loop-thief.best c.loop-thief.invariant
