use Rattle.std.proofs.Common.{subst}
use Rattle.balance_policy.specs.Offers.{IsVictimOf}
use Rattle.balance_policy.proofs.Stealing.{no_victim, one_victim}
use Rattle.balance_policy.proofs.steal.best_of_key.Goals as goal

pub returns-in-None : goal.returns-in-None
returns-in-None g c = no_victim (g.F.Facts.facts c.args.facts.now) c.args.key (subst (IsVictimOf (g.F.Facts.facts c.args.facts.now) c.args.key) c.in-None.is c.victim_of.ensures)

pub returns-in-Some : goal.returns-in-Some
returns-in-Some g c = one_victim (g.F.Facts.facts c.args.facts.now) c.args.key c.in-Some.victim c.best_thief.result (subst (IsVictimOf (g.F.Facts.facts c.args.facts.now) c.args.key) c.in-Some.is c.victim_of.ensures) c.best_thief.ensures
