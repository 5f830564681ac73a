use Rattle.std.proofs.Common.{◌≡◌, ◌++◌, drop}
use Rattle.lowering_laws.specs.Stages.{along_from}
use Rattle.block_lowering.proofs.joins.push_along.Given as goal

abbrev pub invariant-loop-chunk : goal.invariant-loop-chunk
invariant-loop-chunk l = l.list.items ++ along_from l.operand l.chunk (drop l.chunk l.sizes) ≡ l.initial.list.items ++ along_from l.operand 0 l.sizes
