use Rattle.std.proofs.Common.{◌≡◌, ◌++◌, drop, length}
use Rattle.nd_shape.specs.Index.{IsIn}
use Rattle.chunk_layout.specs.Layouts.{counts, starts_at, lengths_at}
use Rattle.block_lowering.proofs.parts.box_of.Given as goal

abbrev pub invariant-loop-axis : goal.invariant-loop-axis
invariant-loop-axis l = record {
  count : length l.region.lengths ≡ l.axis;
  inside : IsIn (counts (drop l.axis l.axes)) (drop l.axis l.numbers);
  start_is : l.region.start ++ starts_at (drop l.axis l.axes) (drop l.axis l.numbers) ≡ starts_at l.axes l.numbers;
  lengths_is : l.region.lengths ++ lengths_at (drop l.axis l.axes) (drop l.axis l.numbers) ≡ lengths_at l.axes l.numbers;
}
