use Rattle.std.proofs.Common.{◌≡◌, ◌++◌, take, drop}
use Rattle.nd_shape.specs.Region.{moved}
use Rattle.nd_rows.proofs.walk.move_by.Given as goal

abbrev pub invariant-loop-axis : goal.invariant-loop-axis
invariant-loop-axis l = record {
  done : take l.axis l.index ++ moved (drop l.axis l.starts) (drop l.axis l.index) ≡ moved l.starts l.initial.index;
  rest : drop l.axis l.index ≡ drop l.axis l.initial.index;
}
