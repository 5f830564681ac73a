use Rattle.std.proofs.Common.{◌<◌, None, is_some, sym, arith}
use Rattle.small_facts.proofs.Truth.{false_before}
use Rattle.key_sets.specs.Sets.{has}
use Rattle.cluster_rules.specs.Sched.{keys}
use Rattle.balance_policy.proofs.Stealing.{nobody_idle, below_none, below_more, below_over, below_last, next_steal-is, is_least}
use Rattle.balance_policy.proofs.steal.next_steal_among.Goals as goal

pub returns-then-is_empty-clause-is : goal.returns-then-is_empty-clause-is
returns-then-is_empty-clause-is g c = sym (nobody_idle (g.F.Facts.facts c.args.facts.now) c.sound.ensures c.idle_workers-idle.result.items c.is_empty.result c.idle_workers-idle.ensures c.is_empty.ensures c.if-is_empty.true)

pub returns-then-is_empty-clause-least : goal.returns-then-is_empty-clause-least
returns-then-is_empty-clause-least g c = is_least (g.F.Facts.facts c.args.facts.now) None (sym (nobody_idle (g.F.Facts.facts c.args.facts.now) c.sound.ensures c.idle_workers-idle.result.items c.is_empty.result c.idle_workers-idle.ensures c.is_empty.ensures c.if-is_empty.true))

pub loop-key-init : goal.loop-key-init
loop-key-init g c = record { least = below_none (g.F.Facts.facts c.args.facts.now); within = omega arith }

pub loop-key-preserved : goal.loop-key-preserved
loop-key-preserved g c =
    let f = g.F.Facts.facts c.args.facts.now in
    let key = c.in-Some.key in
    let l : key < keys f = c.requires.within key c.in-Some.ensures.1 in
    record {
      least = below_more f key c.loop-key.best c.best_of_key.result c.lesser-best.result (below_over f c.loop-key.from key c.loop-key.best c.in-Some.ensures.0 (λ k a b. false_before (is_some (f.on k)) (has c.args.placed.now k) (c.requires.placed k) (c.in-Some.ensures.2 k a b)) c.loop-key.invariant.least) c.best_of_key.ensures c.lesser-best.ensures;
      within = omega (arith, l);
    }

pub returns-clause-is : goal.returns-clause-is
returns-clause-is g c =
    let f = g.F.Facts.facts c.args.facts.now in
    next_steal-is f c.sound.ensures c.loop-key.best c.steal_of.result (below_last f c.loop-key.from c.loop-key.best (λ k a. false_before (is_some (f.on k)) (has c.args.placed.now k) (c.requires.placed k) (c.in_default.ensures k a)) c.loop-key.invariant.least) c.steal_of.ensures

pub returns-clause-least : goal.returns-clause-least
returns-clause-least g c = is_least (g.F.Facts.facts c.args.facts.now) c.steal_of.result (returns-clause-is g c)
