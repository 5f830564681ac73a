use Rattle.std.proofs.Common.{◌≡◌, ◌||◌, ◌&&◌, ltb, ℕ, Bool, false, length, sym, ap, ◌∙◌}
use Rattle.std.specs.List.{filter}
use Rattle.std.proofs.lemmas.Bool.{eqb-true, ltb-true, lt-ltb}
use Rattle.std.proofs.lemmas.Result.{IfOk-weaker}
use Rattle.small_facts.proofs.Lists.{filter_nothing}
use Rattle.small_facts.proofs.Truth.{and_first}
use Rattle.cluster_rules.specs.Derived.{below, is_in}
use Rattle.key_sets.specs.Sets.{has}
use Rattle.scheduler_core.proofs.MailLemmas.{none_in, filter_agree_below}
use Rattle.scheduler_core.proofs.lost.lost_keys.Goals as goal

pub returns-then-is_empty : goal.returns-then-is_empty
returns-then-is_empty c =
    let e = eqb-true (length c.args.own.now) 0 (sym c.is_empty.ensures ∙ c.if-is_empty.true) in
    c.new.ensures ∙ sym (filter_nothing (λ (k : ℕ). is_in k c.args.own.now) (below c.args.count) (none_in c.args.own.now e))

same : (a b l i : Bool) → b ≡ (a || (l && i)) → a ≡ false → b ≡ (l && i)
same a b l i e h = e ∙ ap (λ x. x || (l && i)) h

pub marked_keys-requires-clause-keys : goal.marked_keys-requires-clause-keys
marked_keys-requires-clause-keys c k e =
    let i = is_in k c.args.own.now in
    ltb-true k c.args.count (and_first (ltb k c.args.count) i (sym (same (has c.in_ok-marks.marks k) (has c.mark_below.new.marks k) (ltb k c.args.count) i (c.mark_below.ensures k) (c.in_ok-marks.ensures.keys k)) ∙ e))

pub returns : goal.returns
returns c =
    let own = c.args.own.now in
    let test = λ (k : ℕ). is_in k own in
    let agree = filter_agree_below (has c.mark_below.new.marks) test c.args.count (λ k h. same (has c.in_ok-marks.marks k) (has c.mark_below.new.marks k) (ltb k c.args.count) (test k) (c.mark_below.ensures k) (c.in_ok-marks.ensures.keys k) ∙ ap (λ b. b && test k) (lt-ltb k c.args.count h)) in
    IfOk-weaker c.marked_keys.result (λ all. all ≡ filter (has c.mark_below.new.marks) (below c.args.count)) (λ all. all ≡ filter test (below c.args.count)) (λ all e. e ∙ agree) c.marked_keys.ensures
