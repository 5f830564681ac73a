use Rattle.std.proofs.Common.{◌++◌, [], ◌∙◌, ap, append_assoc, get_or}
use Rattle.std.proofs.lemmas.Result.{on_ok_weaker}
use Rattle.std.specs.List.{filter}
use Rattle.cluster_rules.specs.Derived.{below}
use Rattle.cluster_rules.specs.Sched.{keys}
use Rattle.cluster_rules.specs.SchedStep.{free_message, task_messages, all_to}
use Rattle.sched_facts.specs.Stored.{facts_of}
use Rattle.sched_changes.specs.Answers.{answer_of}
use Rattle.scheduler_core.specs.Mail.{mail_by, lost_by}
use Rattle.scheduler_core.proofs.workers.tell_worker.Goals as goal

pub returns : goal.returns
unfolding mail_by
returns c =
    let f = facts_of c.args.table.now in
    let w = c.args.worker in
    let lost = free_message w (filter (lost_by c.args.errand.now.lost.items w) (below (keys f))) in
    let given = task_messages f c.args.errand.now.since w in
    let told = all_to w (answer_of c.args.errand.now.answer f w) in
    let out = c.args.out.now in
    let own = c.own_keys-own.ensures ∙ ap (λ ls. get_or ls w []) c.deref.ensures.value in
    on_ok_weaker c.tell_answer.result (λ e. e ∙ rw (c.in_ok-tell_tasks.ensures, c.in_ok-tell_lost.ensures, c.in_ok-keys.ensures, own, c.keys.ensures) (append_assoc (out ++ lost) given told ∙ append_assoc out lost (given ++ told))) c.tell_answer.ensures
