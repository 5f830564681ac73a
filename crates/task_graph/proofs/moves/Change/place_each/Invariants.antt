use Rattle.std.proofs.Common.{◌≡◌, ◌++◌, map, take, drop}
use Rattle.task_graph.specs.Moves.{place_now}
use Rattle.task_graph.specs.Orders.{moved_piece}
use Rattle.task_graph.proofs.moves.Change.place_each.Given as goal

abbrev pub invariant-loop-piece : goal.invariant-loop-piece
invariant-loop-piece l = l.pieces ≡ map (moved_piece (place_now l.self)) (take l.piece-index l.fn.pieces) ++ drop l.piece-index l.fn.pieces
