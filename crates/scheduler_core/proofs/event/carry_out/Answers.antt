use Rattle.std.proofs.Common.{subst}
use Rattle.std.specs.Prelude.{OnErr}
use Rattle.cluster_msgs.specs.declared.cores.Outbox.{Outbox}
use Rattle.cluster_rules.specs.SchedStep.{sched_step}
use Rattle.sched_changes.proofs.PairLemmas.{after_err}
use Rattle.task_table.specs.Tasks.{facts}
use Rattle.scheduler_core.specs.Sent.{HasGrown, sent_by}
use Rattle.scheduler_core.proofs.FrontLemmas.{not_grown}
use Rattle.scheduler_core.proofs.event.carry_out.Goals as goal

pub returns-in_err-take-clause-err : goal.returns-in_err-take-clause-err
returns-in_err-take-clause-err c =
    let sent = sent_by (sched_step (facts c.args.table.now) c.args.event.now) in
    after_err c.from_residual.result (HasGrown c.args.out.now sent c.args.out.now) (not_grown c.args.out.now sent)

pub returns-clause-err : goal.returns-clause-err
returns-clause-err c = subst (λ (m : Outbox). OnErr c.append_all.result (HasGrown c.args.out.now m c.append_all.new.out)) c.in_ok-take.ensures.made c.append_all.ensures.err
