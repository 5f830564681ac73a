use Rattle.std.proofs.Common.{ℕ, Bool, ap, ◌∙◌, subst}
use Rattle.key_sets.specs.Sets.{IsFirst}
use Rattle.task_table.specs.Lists.{is_at}
use Rattle.task_table.specs.Tasks.{Tasks, facts}
use Rattle.task_table.proofs.table.TaskTable.first_at.Goals as goal

pub returns : goal.returns
returns c =
    subst (λ (p : ℕ → Bool). IsFirst p c.args.from c.first_in_row.result) (λ i k. (c.self.invariant.lists.at c.args.worker k ∙ ap (λ (t : Tasks). is_at (facts t) c.args.worker k) c.self.view_is) i) c.first_in_row.ensures
