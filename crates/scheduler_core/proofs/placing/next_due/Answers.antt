use Rattle.std.proofs.Common.{Bool, false, sym, subst}
use Rattle.key_sets.specs.Sets.{IsFirst}
use Rattle.task_table.specs.Tasks.{facts, queued_root, queued_other}
use Rattle.scheduler_core.specs.Roots.{is_due}
use Rattle.scheduler_core.proofs.PlacingLemmas.{first_both, due_either, first_there}
use Rattle.scheduler_core.proofs.placing.next_due.Goals as goal

pub returns-then-roots_wait : goal.returns-then-roots_wait
returns-then-roots_wait c =
    let f = facts c.args.table.now in
    let h : IsFirst (is_due f c.args.roots_wait) c.args.from c.first_other.result = subst (λ (w : Bool). IsFirst (is_due f w) c.args.from c.first_other.result) (sym c.if-roots_wait.true) c.first_other.ensures in
    record { first = h; within = first_there f c.args.roots_wait c.args.from c.first_other.result c.sound.ensures h }

pub returns-else-roots_wait : goal.returns-else-roots_wait
returns-else-roots_wait c =
    let f = facts c.args.table.now in
    let both = first_both (queued_root f) (queued_other f) (is_due f false) c.args.from c.first_root.result c.first_other-else-roots_wait.result (due_either f) c.first_root.ensures c.first_other-else-roots_wait.ensures in
    let h : IsFirst (is_due f c.args.roots_wait) c.args.from c.earlier.result = subst (λ (w : Bool). IsFirst (is_due f w) c.args.from c.earlier.result) (sym c.if-roots_wait.false) (subst (IsFirst (is_due f false) c.args.from) (sym c.earlier.ensures) both) in
    record { first = h; within = first_there f c.args.roots_wait c.args.from c.earlier.result c.sound.ensures h }
