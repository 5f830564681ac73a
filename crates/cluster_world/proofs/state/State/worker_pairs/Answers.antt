use Rattle.std.proofs.Common.{◌≡◌, ◌-◌, ◌^◌, ap, ◌∙◌, arith, cond}
use Rattle.std.specs.Prelude.{min}
use Rattle.cluster_rules.specs.Functions.{total, from_one}
use Rattle.cluster_rules.specs.Worker.{pairs}
use Rattle.scheduler_core.specs.Cores.{facts}
use Rattle.cluster_nodes.specs.Nodes.{world_of}
use Rattle.cluster_world.specs.Worlds.{world}
use Rattle.cluster_world.proofs.Counts.{more}
use Rattle.cluster_world.proofs.state.State.worker_pairs.Goals as goal

pub loop-before-preserved : goal.loop-before-preserved
loop-before-preserved g c =
    more (λ i. cond ((world c.args.self.now).alive i) (pairs ((world c.args.self.now).workers i)) 0) c.loop-before.before c.loop-before.total c.pairs_of_worker.result _ c.loop-before.invariant c.pairs_of_worker.ensures c.saturating_add-total.ensures

pub returns : goal.returns
unfolding world_of
returns g c =
    let e : c.loop-before.before ≡ (facts c.args.self.now.sched).last_worker = omega (arith, c.last_worker-before-end.ensures) in
    c.loop-before.invariant ∙ ap (λ n. min (total (λ i. cond ((world c.args.self.now).alive i) (pairs ((world c.args.self.now).workers i)) 0) (from_one n)) (2 ^ 64 - 1)) e
