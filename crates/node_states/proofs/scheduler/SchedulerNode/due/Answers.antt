use Rattle.std.proofs.Common.{ℕ, ◌&&◌, ap, ◌∙◌}
use Rattle.std.specs.Prelude.{◌%◌, ◌==◌, nat_lt}
use Rattle.cluster_msgs.specs.declared.cores.SchedEvent.TheVariants as sched
use Rattle.cluster_rules.specs.SchedTable.{sched_takes}
use Rattle.scheduler_core.specs.Cores.{Core, facts}
use Rattle.node_states.specs.Machines.{SchedState}
use Rattle.node_states.specs.Order.{due_by, open_item}
use Rattle.node_states.specs.declared.choice.Plan.{Plan}
use Rattle.node_states.proofs.ChoiceLemmas.{is_due}
use Rattle.node_states.proofs.scheduler.SchedulerNode.due.Goals as goal

pub returns-clause-due : goal.returns-clause-due
returns-clause-due g c =
    let q = ap (λ (s : SchedState). s.core) c.in-Some.ensures in let p = ap (λ (s : SchedState). s.plan) c.in-Some.ensures in let b = c.args.self.now.history.book in
    is_due b c.made-made.result (nat_lt c.last_worker.result c.plan.result.now.workers) c.is_choice_due-evicts.result c.is_choice_due-balances.result c.due_by_script-script.result c.first_due.result c.made-made.ensures
    (ap (λ (n : ℕ). nat_lt n c.plan.result.now.workers) (c.last_worker.ensures ∙ ap (λ (k : Core). (facts k).last_worker) (c.core-2.ensures ∙ q))
    ∙ ap (λ (r : Plan). nat_lt (facts b.core.core).last_worker r.workers) (c.plan.ensures ∙ p))
    (c.is_choice_due-evicts.ensures.due ∙ ap (λ (k : Core). c.made-made.result % 64 == 0 && sched_takes (facts k) sched.Evict) (c.core-3.ensures ∙ q))
    (c.is_choice_due-balances.ensures.due ∙ ap (λ (k : Core). c.made-made.result % 16 == 0 && sched_takes (facts k) sched.Balance) (c.core-4.ensures ∙ q))
    (c.due_by_script-script.ensures ∙ ap (λ (k : Core). due_by c.plan-2.result.now (facts k) (open_item c.plan-2.result.now (facts k))) (c.core-5.ensures ∙ q)
    ∙ ap (λ (r : Plan). due_by r (facts b.core.core) (open_item r (facts b.core.core))) (c.plan-2.ensures ∙ p))
    c.first_due.ensures
