use Rattle.std.proofs.Common.{◌≡◌, ◌+◌, ◌^◌, map, take}
use Rattle.std.specs.Prelude.{min}
use Rattle.array_expr.specs.Node.{shape_at, length_on_axis}
use Rattle.array_expr.proofs.joining.length_along.Given as goal

abbrev pub invariant-loop-node : goal.invariant-loop-node
invariant-loop-node l = l.sum ≡ min (length_on_axis l.axis (take l.node-index (map (shape_at l.nodes) l.of))) (2 ^ 31 + 1)
