use Rattle.std.proofs.Common.{ℕ, Bool, ap, ◌∙◌, subst}
use Rattle.key_sets.specs.Sets.{IsFirst}
use Rattle.sched_facts.specs.Stored.{facts_of}
use Rattle.task_table.specs.Tasks.{Tasks, facts, queued_root}
use Rattle.task_table.proofs.Opening.{roots_all}
use Rattle.task_table.proofs.table.TaskTable.first_root.Goals as goal

pub returns : goal.returns
returns c =
    let f = facts_of c.self.inside.table in
    subst (λ (p : ℕ → Bool). IsFirst p c.args.from c.first_from.result) (λ i k. (roots_all f c.self.inside.parts c.sound.ensures c.self.invariant.parts k ∙ ap (λ (t : Tasks). queued_root (facts t) k) c.self.view_is) i) c.first_from.ensures
