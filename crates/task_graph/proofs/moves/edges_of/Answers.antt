use Rattle.std.proofs.Common.{rules, arith, ◌≤◌, ◌+◌, ℕ, length, take, sym, ap, ◌∙◌}
use Rattle.cluster_msgs.specs.Shape.{edge_count}
use Rattle.task_graph.specs.Graphs.{shape_of}
use Rattle.task_graph.proofs.Edges.{edges-next, edges-within}
use Rattle.task_graph.proofs.moves.edges_of.Goals as goal

pub overflow_cast-total : goal.overflow_cast-total
overflow_cast-total c =
    let w : edge_count (shape_of (take c.loop-task.task-index c.args.tasks.now)) + length c.task-item.result.deps ≤ edge_count (shape_of c.args.tasks.now) = edges-within c.args.tasks.now c.loop-task.task-index c.task-item.result (search rules) (search rules) in
    let f : edge_count (shape_of c.args.tasks.now) ≤ 262144 = c.requires.few_edges in
    rw c.len.ensures (omega (arith, w, f))

pub overflow_add-total : goal.overflow_add-total
overflow_add-total c =
    let w : edge_count (shape_of (take c.loop-task.task-index c.args.tasks.now)) + length c.task-item.result.deps ≤ edge_count (shape_of c.args.tasks.now) = edges-within c.args.tasks.now c.loop-task.task-index c.task-item.result (search rules) (search rules) in
    let f : edge_count (shape_of c.args.tasks.now) ≤ 262144 = c.requires.few_edges in
    let e : c.loop-task.total + length c.task-item.result.deps ≤ 262144 = rw c.loop-task.invariant (omega (arith, w, f)) in
    rw c.len.ensures (omega (arith, e))

pub loop-task-preserved : goal.loop-task-preserved
loop-task-preserved c =
    rw c.len.ensures (ap (λ (n : ℕ). n + length c.task-item.result.deps) c.loop-task.invariant ∙ sym (edges-next c.args.tasks.now c.loop-task.task-index c.task-item.result (search rules) (search rules)))
