use Rattle.std.proofs.Common.{◌<◌, subst, sym, ap, ◌∙◌}
use Rattle.task_table.specs.Tasks.{facts}
use Rattle.cluster_rules.specs.Sched.{keys}
use Rattle.sched_changes.specs.declared.rows.Effect.{Effect}
use Rattle.sched_changes.specs.Effects.{IsAnswer}
use Rattle.sched_changes.proofs.RowLemmas.{dropped_there}
use Rattle.sched_changes.proofs.rows.evict.Goals as goal

pub make-requires : goal.make-requires
make-requires c = let t = dropped_there (facts c.args.table.now) c.sound.ensures c.in-Some.worker c.in-Some.key (sym c.in-Some.is ∙ c.requires) in record { worker = t.0; key = t.1 }

pub returns-in-Some-clause-is_answer : goal.returns-in-Some-clause-is_answer
returns-in-Some-clause-is_answer c =
    let f = facts c.args.table.now in
    let l : c.in-Some.key < keys f = (dropped_there f c.sound.ensures c.in-Some.worker c.in-Some.key (sym c.in-Some.is ∙ c.requires)).1 in
    subst (IsAnswer f (facts c.make.new.table)) (sym (ap (λ (x : Effect). x.answer) c.answer_only.ensures)) l
