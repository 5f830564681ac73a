use Rattle.std.proofs.Common.{◌≡◌, ◌++◌, take, drop}
use Rattle.chunk_layout.specs.Layouts.{lengths, normalized}
use Rattle.chunk_layout.specs.Cuts.{AllCut}
use Rattle.chunk_layout.proofs.normal.axes_of.Given as goal

abbrev pub invariant-loop-axis : goal.invariant-loop-axis
invariant-loop-axis l = record {
  cuts : AllCut l.axes.items;
  lengths_is : lengths l.axes.items ≡ take l.axis l.dims;
  value : l.axes.items ++ normalized (drop l.axis l.dims) (drop l.axis l.specs) ≡ normalized l.dims l.specs;
}
