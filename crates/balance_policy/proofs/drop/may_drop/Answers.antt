use Rattle.balance_policy.proofs.Dropping.{may_drop-is}
use Rattle.balance_policy.proofs.drop.may_drop.Goals as goal

pub returns : goal.returns
returns g c = may_drop-is (g.F.Facts.facts c.args.facts.now) c.args.key c.waiters.result c.holders.result c.saturating_sub.result c.waiters.ensures c.holders.ensures c.saturating_sub.ensures
