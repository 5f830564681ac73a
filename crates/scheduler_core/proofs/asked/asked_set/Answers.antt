use Rattle.std.proofs.Common.{◌≡◌, ◌<◌, ℕ, List, Bool, false, ◌||◌, sym, ap, ◌∙◌, arith, subst, All}
use Rattle.cluster_rules.specs.Derived.{is_in}
use Rattle.cluster_rules.specs.Sched.{keys}
use Rattle.key_sets.specs.Sets.{has}
use Rattle.task_table.specs.Tasks.{facts}
use Rattle.scheduler_core.proofs.AskedLemmas.{asked_there, asked_same}
use Rattle.scheduler_core.proofs.asked.asked_set.Goals as goal

pub room_for-requires : goal.room_for-requires
room_for-requires c =
    let f = facts c.args.table.now in
    subst (λ (n : ℕ). All (λ k. k < n) c.asked_keys-asked.result.now) (sym c.keys.ensures) (subst (λ (ks : List ℕ). All (λ k. k < keys f) ks) (sym c.asked_keys-asked.ensures) (asked_there f c.args.event.now c.requires))

pub new-requires : goal.new-requires
new-requires c = omega (arith, c.room_for.ensures.few, c.keys.ensures, c.sound.ensures.shape.few)

pub mark_all-requires : goal.mark_all-requires
mark_all-requires c i d l = let h = c.room_for.ensures.room i d l in omega (arith, h, c.in_ok-set.ensures.room)

same : (a b i : Bool) → b ≡ (a || i) → a ≡ false → b ≡ i
same a b i e h = e ∙ ap (λ x. x || i) h

pub returns : goal.returns
returns c k = same (has c.in_ok-set.set k) (has c.mark_all.new.marks k) _ (c.mark_all.ensures.marked k) (c.in_ok-set.ensures.keys k) ∙ ap (is_in k) c.asked_keys-asked.ensures ∙ asked_same c.args.event.now k
