use Rattle.std.proofs.Common.{◌≡◌, ◌≤◌, None, sym, arith}
use Rattle.cluster_rules.specs.Sched.{keys}
use Rattle.cluster_rules.specs.Policies.{next_steal}
use Rattle.balance_policy.proofs.Stealing.{nobody_idle, below_none, below_more, all_keys, next_steal-is, is_least}
use Rattle.balance_policy.proofs.steal.next_steal.Goals as goal

pub returns-then-is_empty-clause-is : goal.returns-then-is_empty-clause-is
returns-then-is_empty-clause-is g c = sym (nobody_idle (g.F.Facts.facts c.args.facts.now) c.sound.ensures c.idle_workers-idle.result.items c.is_empty.result c.idle_workers-idle.ensures c.is_empty.ensures c.if-is_empty.true)

pub returns-then-is_empty-clause-least : goal.returns-then-is_empty-clause-least
returns-then-is_empty-clause-least g c = is_least (g.F.Facts.facts c.args.facts.now) None (sym (nobody_idle (g.F.Facts.facts c.args.facts.now) c.sound.ensures c.idle_workers-idle.result.items c.is_empty.result c.idle_workers-idle.ensures c.is_empty.ensures c.if-is_empty.true))

pub loop-key-init : goal.loop-key-init
loop-key-init g c = below_none (g.F.Facts.facts c.args.facts.now)

pub loop-key-preserved : goal.loop-key-preserved
loop-key-preserved g c = below_more (g.F.Facts.facts c.args.facts.now) c.loop-key.key c.loop-key.best c.best_of_key.result c.lesser-best.result c.loop-key.invariant c.best_of_key.ensures c.lesser-best.ensures

pub returns-clause-is : goal.returns-clause-is
returns-clause-is g c =
    let l : keys (g.F.Facts.facts c.args.facts.now) ≤ c.loop-key.key = omega (arith, c.loop-key-test.false, c.keys-key-end.ensures) in
    next_steal-is (g.F.Facts.facts c.args.facts.now) c.sound.ensures c.loop-key.best c.steal_of.result (all_keys (g.F.Facts.facts c.args.facts.now) c.loop-key.key l c.loop-key.best c.loop-key.invariant) c.steal_of.ensures

pub returns-clause-least : goal.returns-clause-least
returns-clause-least g c =
    let l : keys (g.F.Facts.facts c.args.facts.now) ≤ c.loop-key.key = omega (arith, c.loop-key-test.false, c.keys-key-end.ensures) in
    let e : c.steal_of.result ≡ next_steal (g.F.Facts.facts c.args.facts.now) = next_steal-is (g.F.Facts.facts c.args.facts.now) c.sound.ensures c.loop-key.best c.steal_of.result (all_keys (g.F.Facts.facts c.args.facts.now) c.loop-key.key l c.loop-key.best c.loop-key.invariant) c.steal_of.ensures in
    is_least (g.F.Facts.facts c.args.facts.now) c.steal_of.result e
