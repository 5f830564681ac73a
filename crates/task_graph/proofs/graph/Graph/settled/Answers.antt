use Rattle.std.proofs.Common.{◌≡◌, ◌≤◌, List, length, map, subst, arith}
use Rattle.std.proofs.lemmas.List.{length-map}
use Rattle.cluster_msgs.specs.Dags.{IsEarlier}
use Rattle.cluster_msgs.specs.Shape.{deps_of}
use Rattle.cluster_msgs.proofs.ShapeLemmas.{earlier}
use Rattle.task_graph.specs.declared.graph.Task.{Task}
use Rattle.task_graph.specs.Graphs.{shape_of}
use Rattle.task_graph.proofs.graph.Graph.settled.Goals as goal

pub returns : goal.returns
returns c =
    let s = c.self.invariant.shape in
    let f : length (map (λ (t : Task). t.deps) c.self.inside.tasks.items) ≤ 32768 = s.few in
    let n : length (map (λ (t : Task). t.deps) c.self.inside.tasks.items) ≡ length c.self.inside.tasks.items = length-map c.self.inside.tasks.items (λ (t : Task). t.deps) in
    let few : length c.self.inside.tasks.items ≤ 32768 = omega arith in
    record {
      earlier = subst (λ (ts : List Task). IsEarlier (deps_of (shape_of ts))) c.self.view_is (earlier (shape_of c.self.inside.tasks.items) s);
      few = subst (λ (ts : List Task). length ts ≤ 32768) c.self.view_is few;
    }
