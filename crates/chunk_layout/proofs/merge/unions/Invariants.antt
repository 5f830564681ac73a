use Rattle.std.proofs.Common.{◌≡◌, ◌++◌, take, drop}
use Rattle.chunk_layout.specs.Layouts.{lengths}
use Rattle.chunk_layout.specs.Unions.{unified}
use Rattle.chunk_layout.specs.Cuts.{AllCut}
use Rattle.chunk_layout.proofs.merge.unions.Given as goal

abbrev pub invariant-loop-axis : goal.invariant-loop-axis
invariant-loop-axis l = record {
  cuts : AllCut l.axes.items;
  lengths_is : lengths l.axes.items ≡ take l.axis (lengths l.a);
  value : l.axes.items ++ unified (drop l.axis l.a) (drop l.axis l.b) ≡ unified l.a l.b;
}
