use Rattle.std.proofs.Common.{◌≡◌, ℕ, ◌<◌, ◌≤◌, Option, refl, sym, ap, ◌∙◌, subst}
use Rattle.cluster_rules.specs.Sched.{keys}
use Rattle.key_sets.specs.Sets.{room}
use Rattle.sched_facts.specs.Stored.{facts_of}
use Rattle.task_table.specs.Changes.{Fits}
use Rattle.task_table.specs.Tasks.{Tasks, facts, IsTouched}
use Rattle.task_table.specs.Tables.{tasks_of}
use Rattle.task_table.specs.Lists.{IsListedBut}
use Rattle.task_table.proofs.Applied.{near_after, rest_after, kept_after, grows_after, remembered_after, key_low, same_keys}
use Rattle.task_table.proofs.Listing.{listed_near, listed_rest}
use Rattle.task_table.proofs.table.TaskTable.apply.Goals as goal

pub follow_any-requires-clause-low : goal.follow_any-requires-clause-low
follow_any-requires-clause-low c k h =
    let f = facts_of c.self.inside.table in
    let fits : Fits f c.self.inside.table.room c.args.change = subst (λ (z : Tasks). Fits (facts z) z.stored.room c.args.change) (sym c.self.view_is) c.requires in
    subst (λ (n : ℕ). k < n) (sym (ap keys c.put.ensures ∙ same_keys f c.args.change)) (key_low f c.self.inside.table.room c.args.change k fits (sym c.key_of-key.ensures ∙ h))

pub follow_any-requires-clause-near : goal.follow_any-requires-clause-near
follow_any-requires-clause-near c k h = near_after (facts_of c.self.inside.table) (facts_of c.put.new.table) c.args.change c.self.inside.parts k c.put.ensures c.self.invariant.parts (sym c.key_of-key.ensures ∙ h)

pub follow_any-requires-clause-rest : goal.follow_any-requires-clause-rest
follow_any-requires-clause-rest c h = rest_after (facts_of c.self.inside.table) (facts_of c.put.new.table) c.args.change c.self.inside.parts c.put.ensures c.sound.ensures c.self.invariant.parts (sym c.key_of-key.ensures ∙ h)

pub follow_lists-requires-clause-low : goal.follow_lists-requires-clause-low
follow_lists-requires-clause-low c k h =
    let f = facts_of c.self.inside.table in
    let fits : Fits f c.self.inside.table.room c.args.change = subst (λ (z : Tasks). Fits (facts z) z.stored.room c.args.change) (sym c.self.view_is) c.requires in
    subst (λ (n : ℕ). k < n) (sym (ap keys c.put.ensures ∙ same_keys f c.args.change)) (key_low f c.self.inside.table.room c.args.change k fits (sym c.key_of-key.ensures ∙ h))

pub follow_lists-requires-clause-near : goal.follow_lists-requires-clause-near
follow_lists-requires-clause-near c k h =
    let f = facts_of c.self.inside.table in
    let g = facts_of c.put.new.table in
    let l = c.self.inside.lists in
    let left = c.worker_on-left.result in
    subst (λ (o : Option ℕ). IsListedBut g l k o left) (sym c.worker_of.ensures) (listed_near f g c.args.change l k left c.put.ensures c.self.invariant.lists (sym c.key_of-key.ensures ∙ h) (c.worker_on-left.ensures k h))

pub follow_lists-requires-clause-rest : goal.follow_lists-requires-clause-rest
follow_lists-requires-clause-rest c h = listed_rest (facts_of c.self.inside.table) (facts_of c.put.new.table) c.args.change c.self.inside.lists c.put.ensures c.sound.ensures c.self.invariant.lists (sym c.key_of-key.ensures ∙ h)

pub invariant_of-self : goal.invariant_of-self
invariant_of-self c =
    let f = facts_of c.self.inside.table in
    let g = facts_of c.put.new.table in
    let p = c.self.inside.parts in
    let q = c.follow_any.new.parts in
    let n : keys g ≡ keys f = ap keys c.put.ensures ∙ same_keys f c.args.change in
    let s : Tasks = tasks_of c.self.inside in
    let t : Tasks = record { stored = c.put.new.table; touched = q.touched; held_before = s.held_before; erred_before = s.erred_before } in
    let touched : IsTouched f g s t = record {
      kept = kept_after f g c.args.change p q c.put.ensures c.sound.ensures c.sound-2.ensures c.self.invariant.parts c.follow_any.ensures.parts n (λ k i. c.follow_any.ensures.followed k (c.key_of-key.ensures ∙ i)) (λ i. c.follow_any.ensures.same (c.key_of-key.ensures ∙ i));
      grows = grows_after (keys g) c.args.change p q (λ k i. c.follow_any.ensures.followed k (c.key_of-key.ensures ∙ i)) (λ i. c.follow_any.ensures.same (c.key_of-key.ensures ∙ i));
      held = refl;
      erred = refl;
    } in
    record {
      parts = c.follow_any.ensures.parts;
      lists = c.follow_lists.ensures;
      remembered = remembered_after f g s t c.self.invariant.remembered touched n c.follow_any.ensures.parts.roomy.within;
      held_room = subst (λ (m : ℕ). m ≤ room s.held_before) (sym n) c.self.invariant.held_room;
      erred_room = subst (λ (m : ℕ). m ≤ room s.erred_before) (sym n) c.self.invariant.erred_room;
    }

pub returns-clause-touched : goal.returns-clause-touched
returns-clause-touched c =
    let f = facts_of c.self.inside.table in
    let g = facts_of c.put.new.table in
    let p = c.self.inside.parts in
    let q = c.follow_any.new.parts in
    let n : keys g ≡ keys f = ap keys c.put.ensures ∙ same_keys f c.args.change in
    let s : Tasks = tasks_of c.self.inside in
    let t : Tasks = record { stored = c.put.new.table; touched = q.touched; held_before = s.held_before; erred_before = s.erred_before } in
    let touched : IsTouched f g s t = record {
      kept = kept_after f g c.args.change p q c.put.ensures c.sound.ensures c.sound-2.ensures c.self.invariant.parts c.follow_any.ensures.parts n (λ k i. c.follow_any.ensures.followed k (c.key_of-key.ensures ∙ i)) (λ i. c.follow_any.ensures.same (c.key_of-key.ensures ∙ i));
      grows = grows_after (keys g) c.args.change p q (λ k i. c.follow_any.ensures.followed k (c.key_of-key.ensures ∙ i)) (λ i. c.follow_any.ensures.same (c.key_of-key.ensures ∙ i));
      held = refl;
      erred = refl;
    } in
    subst (λ (z : Tasks). IsTouched (facts z) g z t) c.self.view_is touched

pub returns-clause-named : goal.returns-clause-named
returns-clause-named c k i = (c.follow_any.ensures.followed k (c.key_of-key.ensures ∙ i)).named
