use Rattle.task_graph.specs.Orders.{kept}
use Rattle.task_graph.proofs.Culled.{kept-behind}
use Rattle.task_graph.proofs.Visits.{numbering}
use Rattle.task_graph.proofs.laws.kept_is_numbering.Goals as goal

pub returns : goal.returns
returns c = λ tasks wanted e. numbering tasks (kept tasks wanted) (kept-behind tasks wanted e)
