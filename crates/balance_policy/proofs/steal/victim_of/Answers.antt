use Rattle.balance_policy.proofs.Stealing.{on-is}
use Rattle.balance_policy.proofs.steal.victim_of.Goals as goal

pub threads-requires : goal.threads-requires
threads-requires g c = c.sound.ensures.places c.in-Some.victim c.args.key (on-is ((g.F.Facts.facts c.args.facts.now).on c.args.key) c.on.result c.in-Some.victim c.on.ensures c.in-Some.is)
