use Rattle.std.proofs.Common.{◌≡◌, ◌++◌, length, drop}
use Rattle.lowering_laws.specs.Stages.{fitted_args}
use Rattle.block_lowering.specs.Args.{args_of}
use Rattle.block_lowering.proofs.points.fit_all.Given as goal

abbrev pub invariant-loop-arg : goal.invariant-loop-arg
invariant-loop-arg l = record {
  tasks : l.graph ++ (fitted_args l.layout (args_of (drop l.arg-index l.args)) (length l.graph)).tasks ≡ l.initial.graph ++ (fitted_args l.layout (args_of l.args) (length l.initial.graph)).tasks;
  args : args_of l.fitted.items ++ (fitted_args l.layout (args_of (drop l.arg-index l.args)) (length l.graph)).args ≡ (fitted_args l.layout (args_of l.args) (length l.initial.graph)).args;
}
