use Rattle.std.proofs.Common.{◌≡◌, ◌++◌, drop, length}
use Rattle.nd_shape.specs.Index.{IsIn}
use Rattle.chunk_layout.specs.Layouts.{counts, starts_at, lengths_at}
use Rattle.chunk_layout.proofs.layout.put_box.Given as goal

abbrev pub invariant-loop-axis : goal.invariant-loop-axis
invariant-loop-axis l = record {
  count : length l.out.lengths ≡ l.axis;
  inside : IsIn (counts (drop l.axis l.axes)) (drop l.axis l.numbers);
  start_is : l.out.start ++ starts_at (drop l.axis l.axes) (drop l.axis l.numbers) ≡ starts_at l.axes l.numbers;
  lengths_is : l.out.lengths ++ lengths_at (drop l.axis l.axes) (drop l.axis l.numbers) ≡ lengths_at l.axes l.numbers;
}
