use Rattle.std.proofs.Common.{◌≡◌, ℕ, ◌+◌, ◌||◌, sym, ap, ◌∙◌, arith, cond}
use Rattle.small_facts.proofs.Truth.{one_at_most}
use Rattle.cluster_rules.specs.Functions.{count, from_one}
use Rattle.cluster_rules.specs.World.{is_connected, worker_count}
use Rattle.scheduler_core.specs.Cores.{facts}
use Rattle.cluster_nodes.specs.Nodes.{world_of}
use Rattle.cluster_world.specs.Worlds.{world}
use Rattle.cluster_world.proofs.Counts.{total_more}
use Rattle.cluster_world.proofs.state.State.worker_count.Goals as goal

pub overflow_add-count : goal.overflow_add-count
overflow_add-count g c =
    let w = world c.args.self.now in
    let i = c.loop-before.before + 1 in
    let few = c.loop-before.invariant.few in
    let h = one_at_most (w.alive i || is_connected w i) in
    omega (arith, few, h, c.worker_counts-count.ensures)

pub loop-before-preserved : goal.loop-before-preserved
loop-before-preserved g c =
    let w = world c.args.self.now in
    let n = c.loop-before.before in
    let f = λ (i : ℕ). cond (w.alive i || is_connected w i) 1 0 in
    let few = c.loop-before.invariant.few in
    let h = one_at_most (w.alive (n + 1) || is_connected w (n + 1)) in
    record {
      counted = (λ t. c.loop-before.invariant.counted t + c.worker_counts-count.ensures t) ∙ sym (total_more f n);
      few = omega (arith, few, h, c.worker_counts-count.ensures);
    }

pub returns : goal.returns
unfolding world_of worker_count
returns g c =
    let w = world c.args.self.now in
    let e : c.loop-before.before ≡ (facts c.args.self.now.sched).last_worker = omega (arith, c.last_worker-before-end.ensures) in
    c.loop-before.invariant.counted ∙ ap (λ n. count (λ i. w.alive i || is_connected w i) (from_one n)) e
