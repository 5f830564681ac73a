use Rattle.std.proofs.Common.{◌≡◌, ◌+◌, ◌*◌, drop}
use Rattle.nd_shape.specs.Index.{IsIn}
use Rattle.chunk_layout.specs.Layouts.{lengths, block_of, blocks}
use Rattle.chunk_layout.proofs.layout.number_of.Given as goal

abbrev pub invariant-loop-axis : goal.invariant-loop-axis
invariant-loop-axis l = record {
  inside : IsIn (lengths (drop l.axis l.axes)) (drop l.axis l.index);
  value : l.at * blocks (drop l.axis l.axes) + block_of (drop l.axis l.axes) (drop l.axis l.index) ≡ block_of l.axes l.index;
}
