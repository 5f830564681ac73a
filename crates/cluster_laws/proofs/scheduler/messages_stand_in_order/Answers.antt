use Rattle.std.proofs.Common.{◌∙◌, ap, cond, [], Bool}
use Rattle.cluster_rules.specs.SchedTable.{change}
use Rattle.cluster_rules.specs.SchedStep.{sched_step, finish_step, settle, mail, to_worker}
use Rattle.cluster_laws.proofs.OrderLemmas.{lost_ascend, tasks_ascend, recipients_ascend, mail-down, mail-own_part, clients_ascend}
use Rattle.cluster_laws.proofs.scheduler.messages_stand_in_order.Goals as goal

pub returns : goal.returns
unfolding sched_step finish_step
returns c = record {
  workers = λ f e. recipients_ascend (settle f (change f e));
  own = λ f e w h. let t = settle f (change f e) in mail-down t w ∙ ap (λ (b : Bool). cond b (mail w (to_worker t w)) []) h ∙ mail-own_part t w;
  others = λ f e w h. let t = settle f (change f e) in mail-down t w ∙ ap (λ (b : Bool). cond b (mail w (to_worker t w)) []) h;
  lost = λ f e w. lost_ascend (settle f (change f e)) w;
  tasks = tasks_ascend;
  clients = λ f e. clients_ascend (settle f (change f e));
}
