use Rattle.task_graph.proofs.Moving.{IsMoving}
use Rattle.task_graph.proofs.moves.moved_all.Given as goal

abbrev pub invariant-loop-key : goal.invariant-loop-key
invariant-loop-key l = IsMoving l.fn.tasks.items l.numbers.order l.key-index l.new.items l.slots.items
