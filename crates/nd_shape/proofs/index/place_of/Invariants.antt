use Rattle.std.proofs.Common.{◌≡◌, ◌+◌, ◌*◌, drop}
use Rattle.nd_shape.specs.Shape.{elements}
use Rattle.nd_shape.specs.Index.{IsIn, place}
use Rattle.nd_shape.proofs.index.place_of.Given as goal

abbrev pub invariant-loop-axis : goal.invariant-loop-axis
invariant-loop-axis l = record {
  rest : IsIn (drop l.axis l.dims) (drop l.axis l.index);
  value : l.at * elements (drop l.axis l.dims) + place (drop l.axis l.dims) (drop l.axis l.index) ≡ place l.dims l.index;
}
