use Rattle.std.proofs.Common.{◌<◌, sym, ap, ◌∙◌, arith}
use Rattle.std.specs.Option.{option_map}
use Rattle.key_sets.specs.Sets.{has}
use Rattle.cluster_rules.specs.Sched.{keys}
use Rattle.balance_policy.proofs.Dropping.{NoneBelow, none_more, none_over, not_spare, next_drop-some, next_drop-none, is_drop}
use Rattle.balance_policy.proofs.drop.next_drop_among.Goals as goal

pub loop-key-init : goal.loop-key-init
loop-key-init g c = record { none = λ j l. absurd (omega arith); within = omega arith }

pub returns-then-may_drop-clause-is : goal.returns-then-may_drop-clause-is
returns-then-may_drop-clause-is g c =
    let f = g.F.Facts.facts c.args.facts.now in
    let key = c.in-Some.key in
    let l : key < keys f = c.requires.within key c.in-Some.ensures.1 in
    let n : NoneBelow f key = none_over f c.loop-key.from key c.loop-key.invariant.none (λ k a b. not_spare f k (has c.args.shared.now k) (c.requires.shared k) (c.in-Some.ensures.2 k a b)) in
    c.drop_at.ensures ∙ ap (option_map (λ w. (w, key))) c.most_loaded.ensures ∙ sym (next_drop-some f key c.may_drop.result l n c.may_drop.ensures c.if-may_drop.true)

pub returns-then-may_drop-clause-least : goal.returns-then-may_drop-clause-least
returns-then-may_drop-clause-least g c = is_drop (g.F.Facts.facts c.args.facts.now) c.drop_at.result (returns-then-may_drop-clause-is g c)

pub loop-key-preserved : goal.loop-key-preserved
loop-key-preserved g c =
    let f = g.F.Facts.facts c.args.facts.now in
    let key = c.in-Some.key in
    let l : key < keys f = c.requires.within key c.in-Some.ensures.1 in
    let n : NoneBelow f key = none_over f c.loop-key.from key c.loop-key.invariant.none (λ k a b. not_spare f k (has c.args.shared.now k) (c.requires.shared k) (c.in-Some.ensures.2 k a b)) in
    record {
      none = none_more f key c.may_drop.result n c.may_drop.ensures c.if-may_drop.false;
      within = omega (arith, l);
    }

none_at_all : goal.returns-clause-is
none_at_all g c =
    let f = g.F.Facts.facts c.args.facts.now in
    let n : NoneBelow f (keys f) = none_over f c.loop-key.from (keys f) c.loop-key.invariant.none (λ k a b. not_spare f k (has c.args.shared.now k) (c.requires.shared k) (c.in_default.ensures k a)) in
    sym (next_drop-none f (keys f) (omega arith) n)

pub returns-clause-is : goal.returns-clause-is
returns-clause-is g c = none_at_all g c

pub returns-clause-least : goal.returns-clause-least
returns-clause-least g c = is_drop (g.F.Facts.facts c.args.facts.now) _ (none_at_all g c)
