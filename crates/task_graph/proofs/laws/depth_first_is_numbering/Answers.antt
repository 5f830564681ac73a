use Rattle.task_graph.specs.Orders.{depth_first}
use Rattle.task_graph.proofs.Visits.{depth-first, numbering}
use Rattle.task_graph.proofs.laws.depth_first_is_numbering.Goals as goal

pub returns-clause-numbering : goal.returns-clause-numbering
returns-clause-numbering c = λ tasks wanted e h. numbering tasks (depth_first tasks wanted) (depth-first tasks wanted e h).sound

pub returns-clause-wanted : goal.returns-clause-wanted
returns-clause-wanted c = λ tasks wanted e h. (depth-first tasks wanted e h).has
