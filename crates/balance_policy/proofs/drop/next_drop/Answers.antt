use Rattle.std.proofs.Common.{◌<◌, ◌≤◌, sym, ap, ◌∙◌, arith}
use Rattle.std.specs.Option.{option_map}
use Rattle.cluster_rules.specs.Sched.{keys}
use Rattle.balance_policy.proofs.Dropping.{none_more, next_drop-some, next_drop-none, is_drop}
use Rattle.balance_policy.proofs.drop.next_drop.Goals as goal

pub loop-key-init : goal.loop-key-init
loop-key-init g c = λ j l. absurd (omega arith)

pub returns-then-may_drop-clause-is : goal.returns-then-may_drop-clause-is
returns-then-may_drop-clause-is g c =
    let l : c.loop-key.key < keys (g.F.Facts.facts c.args.facts.now) = omega (arith, c.loop-key-test.true, c.keys-key-end.ensures) in
    c.drop_at.ensures ∙ ap (option_map (λ w. (w, c.loop-key.key))) c.most_loaded.ensures ∙ sym (next_drop-some (g.F.Facts.facts c.args.facts.now) c.loop-key.key c.may_drop.result l c.loop-key.invariant c.may_drop.ensures c.if-may_drop.true)

pub returns-then-may_drop-clause-least : goal.returns-then-may_drop-clause-least
returns-then-may_drop-clause-least g c = is_drop (g.F.Facts.facts c.args.facts.now) c.drop_at.result (returns-then-may_drop-clause-is g c)

pub loop-key-preserved : goal.loop-key-preserved
loop-key-preserved g c = none_more (g.F.Facts.facts c.args.facts.now) c.loop-key.key c.may_drop.result c.loop-key.invariant c.may_drop.ensures c.if-may_drop.false

pub returns-clause-is : goal.returns-clause-is
returns-clause-is g c =
    let l : keys (g.F.Facts.facts c.args.facts.now) ≤ c.loop-key.key = omega (arith, c.loop-key-test.false, c.keys-key-end.ensures) in
    sym (next_drop-none (g.F.Facts.facts c.args.facts.now) c.loop-key.key l c.loop-key.invariant)

pub returns-clause-least : goal.returns-clause-least
returns-clause-least g c = λ k l. c.loop-key.invariant k (omega (arith, l, c.loop-key-test.false, c.keys-key-end.ensures))
