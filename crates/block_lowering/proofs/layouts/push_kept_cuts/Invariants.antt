use Rattle.std.proofs.Common.{◌≡◌, ◌++◌, drop}
use Rattle.lowering_laws.specs.Stages.{kept_axes}
use Rattle.block_lowering.proofs.layouts.push_kept_cuts.Given as goal

abbrev pub invariant-loop-axis : goal.invariant-loop-axis
invariant-loop-axis l = l.kept.items ++ kept_axes l.axis (drop l.axis l.axes) l.listed ≡ l.initial.kept.items ++ kept_axes 0 l.axes l.listed
