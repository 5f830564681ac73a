use Rattle.std.proofs.Common.{None, arith}
use Rattle.cluster_rules.specs.Sched.{blame, keys}
use Rattle.sched_facts.specs.Stored.{facts_of}
use Rattle.sched_facts.proofs.DeriveLemmas.{filled_none, filled_more, filled_all, blame-past}
use Rattle.sched_facts.proofs.derived.fill_blame.Goals as goal

pub loop-key-init : goal.loop-key-init
loop-key-init c = filled_none (blame (facts_of c.args.table.now)) None c.args.row.now (keys (facts_of c.args.table.now)) c.requires

pub blame_of-to_blame-requires : goal.blame_of-to_blame-requires
blame_of-to_blame-requires c = record { key = omega (arith, c.keys-key-end.ensures); below = c.loop-key.invariant.each }

pub loop-key-preserved : goal.loop-key-preserved
loop-key-preserved c = let f = facts_of c.args.table.now in filled_more (blame f) None c.loop-key.row c.set.new.self (keys f) c.loop-key.key c.blame_of-to_blame.result c.loop-key.invariant c.set.ensures.length (c.set.ensures.meaning None) c.blame_of-to_blame.ensures

pub returns-clause-meaning : goal.returns-clause-meaning
returns-clause-meaning c = let f = facts_of c.args.table.now in filled_all (blame f) None c.loop-key.row (keys f) c.loop-key.key c.loop-key.invariant (omega (arith, c.keys-key-end.ensures)) (λ k h. blame-past f c.sound.ensures k h)
