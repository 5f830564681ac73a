use Rattle.std.proofs.Common.{◌≡◌, ◌++◌, map, drop}
use Rattle.lowering_laws.specs.Stages.{along_all}
use Rattle.block_lowering.specs.Joining.{sizes_along}
use Rattle.block_lowering.proofs.joins.chunks_along.Given as goal

abbrev pub invariant-loop-operand : goal.invariant-loop-operand
invariant-loop-operand l = l.list.items ++ along_all l.operand (map (sizes_along l.axis) (drop l.operand l.sources)) ≡ along_all 0 (map (sizes_along l.axis) l.sources)
