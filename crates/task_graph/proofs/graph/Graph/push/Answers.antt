use Rattle.std.proofs.Common.{◌≡◌, ℕ, List, length, sym, ap, ◌∙◌, None}
use Rattle.cluster_msgs.specs.Shape.{edge_count}
use Rattle.task_graph.specs.declared.graph.Task.{Task}
use Rattle.task_graph.specs.Graphs.{shape_of}
use Rattle.task_graph.specs.Pushes.{refusal}
use Rattle.task_graph.proofs.Pushed.{follows}
use Rattle.task_graph.proofs.graph.Graph.push.Goals as goal

pub add-requires : goal.add-requires
add-requires c =
    let edges : c.self.inside.edge_total ≡ edge_count (shape_of c.args.self.now) = c.self.invariant.edges ∙ ap (λ (ts : List Task). edge_count (shape_of ts)) c.self.view_is in
    let none : refusal (length c.args.self.now) (edge_count (shape_of c.args.self.now)) c.args.task ≡ None =
    sym (ap (λ (n : ℕ). refusal n c.self.inside.edge_total c.args.task) c.keys.ensures ∙ ap (λ (n : ℕ). refusal (length c.args.self.now) n c.args.task) edges) ∙ sym c.refused.ensures ∙ c.in-None.is in
    follows c.args.self.now c.args.task none c.requires
