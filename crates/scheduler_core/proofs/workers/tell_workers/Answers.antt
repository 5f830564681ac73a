use Rattle.std.proofs.Common.{◌++◌, ◌∙◌, ap, arith}
use Rattle.std.proofs.lemmas.Result.{on_ok_weaker}
use Rattle.std.specs.List.{flat_map}
use Rattle.cluster_rules.specs.Sched.{workers}
use Rattle.sched_facts.specs.Stored.{Stored, facts_of}
use Rattle.task_table.specs.Tasks.{facts}
use Rattle.scheduler_core.specs.Mail.{has_pair, lost_by, mail_by}
use Rattle.scheduler_core.proofs.MailLemmas.{mail_by_pairs}
use Rattle.scheduler_core.proofs.workers.tell_workers.Goals as goal

pub returns : goal.returns
returns c =
    let f = facts c.args.table.now in
    let same = mail_by_pairs f c.in_ok-by_worker.field-0.items c.args.lost.now c.args.since c.args.answer (λ w k h. c.in_ok-by_worker.ensures.keys w k (omega (arith, h, c.last_worker.ensures)) ∙ ap (λ ps. has_pair ps w k) c.as_slice.ensures) in
    on_ok_weaker c.tell_each.result (λ e. e ∙ ap (λ (z : Stored). c.args.out.now ++ flat_map (mail_by (facts_of z) (lost_by c.in_ok-by_worker.field-0.items) c.args.since c.args.answer) (workers (facts_of z))) c.table.ensures ∙ ap (λ l. c.args.out.now ++ l) same) c.tell_each.ensures
