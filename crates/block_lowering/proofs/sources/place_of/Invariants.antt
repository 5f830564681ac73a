use Rattle.std.proofs.Common.{◌≡◌, ◌+◌, ◌*◌, drop}
use Rattle.nd_shape.specs.Shape.{elements}
use Rattle.nd_shape.specs.Index.{IsIn, place}
use Rattle.chunk_layout.specs.Layouts.{counts}
use Rattle.block_lowering.proofs.sources.place_of.Given as goal

abbrev pub invariant-loop-axis : goal.invariant-loop-axis
invariant-loop-axis l = record {
  rest : IsIn (drop l.axis (counts l.axes)) (drop l.axis l.numbers);
  value : l.at * elements (drop l.axis (counts l.axes)) + place (drop l.axis (counts l.axes)) (drop l.axis l.numbers) ≡ place (counts l.axes) l.numbers;
}
