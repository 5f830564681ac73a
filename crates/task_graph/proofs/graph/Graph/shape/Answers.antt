use Rattle.std.proofs.Common.{◌≡◌, List, map, ap, subst, ◌∙◌}
use Rattle.cluster_msgs.specs.Stored.{told, IsUnfit}
use Rattle.cluster_msgs.specs.declared.shape.GraphRow.{GraphRow}
use Rattle.task_graph.specs.declared.graph.Task.{Task}
use Rattle.task_graph.specs.Graphs.{shape_of}
use Rattle.task_graph.specs.Pushes.{row_of}
use Rattle.task_graph.proofs.Pushed.{told-rows, never-unfit}
use Rattle.task_graph.proofs.graph.Graph.shape.Goals as goal

pub unreachable-requires : goal.unreachable-requires
unreachable-requires c =
    let e : c.in_ok-rows.rows.items ≡ map row_of c.self.inside.tasks.items = c.in_ok-rows.ensures ∙ ap (map row_of) c.as_slice.ensures.value in
    let u : IsUnfit c.in_ok-rows.rows.items c.in-Err-Unfit.field-0-0 = rw c.in-Err-Unfit.field-0-is at c.in-Err-Unfit.ensures in
    never-unfit c.self.inside.tasks.items c.in-Err-Unfit.field-0-0 c.self.invariant.shape (subst (λ (rs : List GraphRow). IsUnfit rs c.in-Err-Unfit.field-0-0) e u)

pub returns-in-Ok : goal.returns-in-Ok
returns-in-Ok c =
    let e : c.in_ok-rows.rows.items ≡ map row_of c.self.inside.tasks.items = c.in_ok-rows.ensures ∙ ap (map row_of) c.as_slice.ensures.value in
    c.in-Ok.ensures ∙ ap told e ∙ told-rows c.self.inside.tasks.items ∙ ap (λ (ts : List Task). shape_of ts) c.self.view_is
