use Rattle.std.proofs.Common.{◌≡◌, ℕ, ◌≤◌, false, sym, ap, ◌∙◌, subst}
use Rattle.cluster_msgs.specs.Shape.{Shape, key_count}
use Rattle.cluster_rules.specs.Sched.{Facts, keys, sched_opening}
use Rattle.key_sets.specs.Sets.{has, room}
use Rattle.sched_facts.specs.Stored.{facts_of}
use Rattle.task_table.specs.Tasks.{Tasks}
use Rattle.task_table.specs.Standing.{IsOver}
use Rattle.task_table.specs.Parts.{IsRoomy}
use Rattle.task_table.specs.Lists.{AreRows}
use Rattle.task_table.proofs.Opening.{remembered_first}
use Rattle.task_table.proofs.Listing.{listed_first}
use Rattle.task_table.proofs.table.TaskTable.new.Goals as goal

pub begin-requires-clause-opening : goal.begin-requires-clause-opening
begin-requires-clause-opening c =
    let e = c.in_ok-table.ensures in
    e ∙ ap sched_opening (sym (ap (λ (f : Facts). f.setting) e))

pub begin-requires-clause-over : goal.begin-requires-clause-over
begin-requires-clause-over c = subst (λ (g : Shape). IsOver g c.in_ok-parts.parts.levels) c.shape-graph.ensures c.in_ok-parts.ensures.over

pub begin-requires-clause-roomy : goal.begin-requires-clause-roomy
begin-requires-clause-roomy c = subst (λ (g : Shape). IsRoomy (key_count g) c.in_ok-parts.parts) c.shape-graph.ensures c.in_ok-parts.ensures.roomy

pub invariant_of-result : goal.invariant_of-result
invariant_of-result c =
    let e = c.in_ok-table.ensures in
    let f = facts_of c.in_ok-table.table in
    let n : keys f ≡ key_count c.args.shape = ap keys e in
    let touched : (k : ℕ) → has c.begin.new.parts.touched k ≡ false = λ k. ap (λ ks. has ks k) c.begin.ensures.touched ∙ c.in_ok-parts.ensures.empty.touched k in
    let t : Tasks = record { stored = c.in_ok-table.table; touched = c.begin.new.parts.touched; held_before = c.in_ok-held_before.held_before; erred_before = c.in_ok-erred_before.erred_before } in
    record {
      parts = c.begin.ensures.parts;
      lists = let ls = c.in_ok-lists.ensures in let m = c.keys.ensures ∙ sym n in
          listed_first f c.in_ok-lists.lists (e ∙ ap sched_opening (sym (ap (λ (g : Facts). g.setting) e))) ls.placed ls.shared ls.at
          (subst (λ (x : ℕ). x ≤ room c.in_ok-lists.lists.placed) m ls.placed_room) (subst (λ (x : ℕ). x ≤ room c.in_ok-lists.lists.shared) m ls.shared_room) (subst (λ (x : ℕ). AreRows x c.in_ok-lists.lists.rows.items) m ls.rows);
      remembered = remembered_first f t (e ∙ ap sched_opening (sym (ap (λ (g : Facts). g.setting) e))) touched c.in_ok-held_before.ensures.keys c.in_ok-erred_before.ensures.keys;
      held_room = subst (λ (m : ℕ). m ≤ room c.in_ok-held_before.held_before) (c.keys-2.ensures ∙ sym n) c.in_ok-held_before.ensures.room;
      erred_room = subst (λ (m : ℕ). m ≤ room c.in_ok-erred_before.erred_before) (c.keys-3.ensures ∙ sym n) c.in_ok-erred_before.ensures.room;
    }

pub returns-clause-facts : goal.returns-clause-facts
returns-clause-facts c = c.in_ok-table.ensures

pub returns-clause-touched : goal.returns-clause-touched
returns-clause-touched c k = ap (λ ks. has ks k) c.begin.ensures.touched ∙ c.in_ok-parts.ensures.empty.touched k
