use Rattle.std.proofs.Common.{Some, false, subst, sym, ap, ◌∙◌}
use Rattle.task_table.specs.Tasks.{facts}
use Rattle.sched_changes.specs.declared.rows.Effect.{Effect}
use Rattle.sched_changes.specs.Effects.{IsMarked, IsAnswer}
use Rattle.sched_changes.proofs.RowLemmas.{stolen_there}
use Rattle.sched_changes.proofs.rows.balance.Goals as goal

pub make-requires : goal.make-requires
make-requires c = let t = stolen_there (facts c.args.table.now) c.in-Some.steal (sym c.in-Some.is ∙ c.requires) in record { key = t.0; on = t.1 }

pub returns-in-Some-clause-is_answer : goal.returns-in-Some-clause-is_answer
returns-in-Some-clause-is_answer c =
    let f = facts c.args.table.now in
    let k = c.in-Some.steal.key in
    let m : IsMarked f (facts c.make.new.table) k = record {
      placed = (stolen_there f c.in-Some.steal (sym c.in-Some.is ∙ c.requires)).1;
      steal = Some (c.in-Some.steal.thief, false);
      facts = c.make.ensures.facts;
    } in
    subst (IsAnswer f (facts c.make.new.table)) (sym (ap (λ (x : Effect). x.answer) c.answer_only.ensures)) m
