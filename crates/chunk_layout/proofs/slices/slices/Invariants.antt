use Rattle.std.proofs.Common.{◌≡◌, ◌++◌, take, drop, map}
use Rattle.nd_shape.specs.declared.slice.Steps.{Steps}
use Rattle.chunk_layout.specs.Layouts.{lengths}
use Rattle.chunk_layout.specs.Slices.{slice_layout}
use Rattle.chunk_layout.specs.Cuts.{AllCut}
use Rattle.chunk_layout.proofs.slices.slices.Given as goal

abbrev pub invariant-loop-axis : goal.invariant-loop-axis
invariant-loop-axis l = record {
  cuts : AllCut l.axes.items;
  lengths_is : lengths l.axes.items ≡ take l.axis (map (λ (s : Steps). s.count) l.parts);
  value : l.axes.items ++ slice_layout (drop l.axis l.a) (drop l.axis l.parts) ≡ slice_layout l.a l.parts;
}
