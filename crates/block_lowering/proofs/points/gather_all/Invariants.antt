use Rattle.std.proofs.Common.{◌≡◌, ◌++◌, drop}
use Rattle.lowering_laws.specs.Stages.{uses_of}
use Rattle.block_lowering.specs.Args.{args_of}
use Rattle.block_lowering.proofs.points.gather_all.Given as goal

abbrev pub invariant-loop-arg : goal.invariant-loop-arg
invariant-loop-arg l = l.uses ++ uses_of (args_of (drop l.arg-index l.args)) l.block ≡ uses_of (args_of l.args) l.block
