use Rattle.task_graph.proofs.Moved.{renumbered-fit}
use Rattle.task_graph.proofs.laws.places_still_fit.Goals as goal

pub returns : goal.returns
returns c = renumbered-fit
