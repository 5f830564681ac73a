use Rattle.std.proofs.Common.{◌≡◌, ◌+◌, ◌++◌, drop}
use Rattle.chunk_layout.specs.Layouts.{lengths}
use Rattle.lowering_laws.specs.Stages.{layout_under}
use Rattle.block_lowering.proofs.points.target_of.Given as goal

abbrev pub invariant-loop-axis : goal.invariant-loop-axis
invariant-loop-axis l = l.axes.items ++ layout_under (lengths (drop l.axis l.own)) (drop (l.front + l.axis) l.all) ≡ layout_under (lengths l.own) (drop l.front l.all)
