use Rattle.std.proofs.Common.{◌≡◌, ◌+◌, ◌*◌, ◌<◌, ◌++◌, drop, take}
use Rattle.nd_shape.specs.Shape.{elements}
use Rattle.nd_shape.specs.Index.{index_at}
use Rattle.nd_shape.proofs.index.index_of.Given as goal

abbrev pub invariant-loop-len : goal.invariant-loop-len
invariant-loop-len l = l.row * elements (drop l.len-index l.dims) ≡ elements l.dims

abbrev pub invariant-loop-axis : goal.invariant-loop-axis
invariant-loop-axis l = record {
  row : l.row ≡ elements (drop l.axis l.dims);
  inside : l.left < l.row;
  index : take l.axis l.index ++ index_at (drop l.axis l.dims) l.left ≡ index_at l.dims l.position;
}
