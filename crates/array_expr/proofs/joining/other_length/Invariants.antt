use Rattle.std.proofs.Common.{◌≡◌, get_or, map, take}
use Rattle.std.specs.Prelude.{All}
use Rattle.array_expr.specs.Node.{shape_at}
use Rattle.array_expr.proofs.joining.other_length.Given as goal

abbrev pub invariant-loop-node : goal.invariant-loop-node
invariant-loop-node l = All (λ dims. get_or dims l.axis 0 ≡ l.len) (take l.node-index (map (shape_at l.nodes) l.of))
