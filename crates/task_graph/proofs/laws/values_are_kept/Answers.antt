use Rattle.task_graph.proofs.Renumbered.{renumbered-value}
use Rattle.task_graph.proofs.Visits.{renumbered-earlier}
use Rattle.task_graph.proofs.laws.values_are_kept.Goals as goal

pub returns : goal.returns
returns c = λ files tasks order e f n j lt. renumbered-value files tasks order e (renumbered-earlier tasks order n) f n j lt
