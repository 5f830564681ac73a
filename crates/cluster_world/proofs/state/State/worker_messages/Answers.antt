use Rattle.std.proofs.Common.{◌≡◌, ◌+◌, ◌-◌, ◌^◌, ap, ◌∙◌, arith, length}
use Rattle.std.specs.Prelude.{min}
use Rattle.cluster_rules.specs.Functions.{total, from_one}
use Rattle.scheduler_core.specs.Cores.{facts}
use Rattle.cluster_nodes.specs.Nodes.{world_of}
use Rattle.cluster_world.specs.Worlds.{world}
use Rattle.cluster_world.proofs.Counts.{more}
use Rattle.cluster_world.proofs.state.State.worker_messages.Goals as goal

pub loop-before-preserved : goal.loop-before-preserved
loop-before-preserved g c =
    more (λ i. length ((world c.args.self.now).down i) + length ((world c.args.self.now).up i)) c.loop-before.before c.loop-before.total c.messages_of_worker.result _ c.loop-before.invariant c.messages_of_worker.ensures c.saturating_add-total.ensures

pub returns : goal.returns
unfolding world_of
returns g c =
    let e : c.loop-before.before ≡ (facts c.args.self.now.sched).last_worker = omega (arith, c.last_worker-before-end.ensures) in
    c.loop-before.invariant ∙ ap (λ n. min (total (λ i. length ((world c.args.self.now).down i) + length ((world c.args.self.now).up i)) (from_one n)) (2 ^ 64 - 1)) e
