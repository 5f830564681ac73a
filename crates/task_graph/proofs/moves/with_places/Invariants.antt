use Rattle.task_graph.proofs.Edges.{AreFront}
use Rattle.task_graph.proofs.moves.with_places.Given as goal

abbrev pub invariant-loop-place : goal.invariant-loop-place
invariant-loop-place l = AreFront l.keys l.place l.pairs.items
