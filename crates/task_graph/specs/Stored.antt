-- What a graph keeps.
use Rattle.std.specs.Prelude.{◌≡◌}
use Rattle.cluster_msgs.specs.Shape.{IsShape, edge_count}
use Rattle.task_graph.specs.declared.graph.Graph.TheInside.{Inside}
use Rattle.task_graph.specs.Graphs.{shape_of}

-- its bounds, and the counted dependencies
pub record IsStored (g : Inside) : Type 0 where
  pub shape : IsShape (shape_of g.tasks.items)
  pub edges : g.edge_total ≡ edge_count (shape_of g.tasks.items)
