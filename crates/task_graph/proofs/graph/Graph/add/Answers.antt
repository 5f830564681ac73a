use Rattle.std.proofs.Common.{◌+◌, ℕ, List, sym, ap, subst, ◌∙◌}
use Rattle.cluster_msgs.specs.Shape.{IsShape, Follows, edge_count}
use Rattle.task_graph.specs.declared.graph.Task.{Task}
use Rattle.task_graph.specs.Graphs.{shape_of}
use Rattle.task_graph.proofs.Pushed.{more-shape, more-edges}
use Rattle.task_graph.proofs.graph.Graph.add.Goals as goal

pub invariant_of-self-2 : goal.invariant_of-self-2
invariant_of-self-2 c =
    let old : List Task = c.self.inside.tasks.items in
    let f : Follows (shape_of c.self.inside.tasks.items) c.args.task.deps c.args.task.work c.args.task.nbytes =
    subst (λ (ts : List Task). Follows (shape_of ts) c.args.task.deps c.args.task.work c.args.task.nbytes) (sym c.self.view_is) c.requires in
    record {
      shape = subst (λ (ts : List Task). IsShape (shape_of ts)) (sym c.in_ok-push.ensures.items) (more-shape c.self.inside.tasks.items c.args.task f c.self.invariant.shape);
      edges =
          ap (λ (n : ℕ). n + c.len-edges.result) c.self.invariant.edges
          ∙ ap (λ (n : ℕ). edge_count (shape_of c.self.inside.tasks.items) + n) c.len-edges.ensures
          ∙ sym (ap (λ (ts : List Task). edge_count (shape_of ts)) c.in_ok-push.ensures.items ∙ more-edges c.self.inside.tasks.items c.args.task);
    }
