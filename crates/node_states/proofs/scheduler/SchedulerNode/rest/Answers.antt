use Rattle.std.proofs.Common.{◌≡◌, ℕ, false, ap, ◌∙◌, subst}
use Rattle.cluster_rules.specs.Sched.{connected}
use Rattle.scheduler_core.specs.Cores.{Core, facts}
use Rattle.node_states.specs.Machines.{SchedState}
use Rattle.node_states.proofs.ChoiceLemmas.{is_over}
use Rattle.node_states.proofs.scheduler.SchedulerNode.rest.Goals as goal

pub invariant_of-self : goal.invariant_of-self
invariant_of-self g c = record {
  drops = c.args.self.now.drops;
  steals = c.args.self.now.steals;
  ends = λ _. is_over c.args.self.now.history.book c.requires.due
      (subst (λ (k : Core). (w : ℕ) → connected (facts k) w ≡ false) (c.core-2.ensures ∙ ap (λ (s : SchedState). s.core) c.in-Some.ensures) (c.is_any_connected.ensures c.if-is_any_connected.false));
}
