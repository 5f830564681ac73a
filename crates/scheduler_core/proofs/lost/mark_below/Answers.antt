use Rattle.std.proofs.Common.{◌+◌, ltb, take, get_or, refl, ◌∙◌, arith}
use Rattle.std.proofs.Math.Dec.{eqb}
use Rattle.std.proofs.lemmas.List.Folds.{list_any_more}
use Rattle.cluster_rules.specs.Derived.{is_in}
use Rattle.key_sets.specs.Sets.{has}
use Rattle.scheduler_core.proofs.MailLemmas.{marked_none, marked_more}
use Rattle.scheduler_core.proofs.lost.mark_below.Goals as goal

pub loop-key-init : goal.loop-key-init
loop-key-init c = record { marked = λ k. marked_none (has c.args.marks.now k) (ltb k c.args.count) k c.args.named.now; room = refl }

pub mark-requires : goal.mark-requires
mark-requires c = omega (arith, c.requires, c.loop-key.invariant.room)

pub loop-key-preserved : goal.loop-key-preserved
loop-key-preserved c =
    let ks = c.args.named.now in
    let i = c.loop-key.key-index in
    record {
      marked = λ k. marked_more (has c.args.marks.now k) (has c.loop-key.marks k) (has c.mark.new.marks k) (ltb k c.args.count) (is_in k (take i ks)) (eqb (get_or ks i 0) k) (is_in k (take (i + 1) ks)) (c.loop-key.invariant.marked k) (c.mark.ensures.marked k) (list_any_more (λ d. eqb d k) ks i 0 c.loop-key-test.true);
      room = c.mark.ensures.room ∙ c.loop-key.invariant.room;
    }
