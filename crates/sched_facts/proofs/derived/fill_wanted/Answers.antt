use Rattle.std.proofs.Common.{false, arith}
use Rattle.cluster_rules.specs.Sched.{wanted, keys}
use Rattle.cluster_rules.proofs.SchedLemmas.{wanted-past}
use Rattle.sched_facts.specs.Stored.{facts_of}
use Rattle.sched_facts.proofs.DeriveLemmas.{filled_none, filled_more, filled_all}
use Rattle.sched_facts.proofs.derived.fill_wanted.Goals as goal

pub loop-key-init : goal.loop-key-init
loop-key-init c = filled_none (wanted (facts_of c.args.table.now)) false c.args.row.now (keys (facts_of c.args.table.now)) c.requires

pub loop-key-preserved : goal.loop-key-preserved
loop-key-preserved c = let f = facts_of c.args.table.now in filled_more (wanted f) false c.loop-key.row c.set.new.self (keys f) c.loop-key.key c.is_wanted.result c.loop-key.invariant c.set.ensures.length (c.set.ensures.meaning false) c.is_wanted.ensures

pub returns-clause-meaning : goal.returns-clause-meaning
returns-clause-meaning c = let f = facts_of c.args.table.now in filled_all (wanted f) false c.loop-key.row (keys f) c.loop-key.key c.loop-key.invariant (omega (arith, c.keys-key-end.ensures)) (λ k h. wanted-past f c.sound.ensures k h)
