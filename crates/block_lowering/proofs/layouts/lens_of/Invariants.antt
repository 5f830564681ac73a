use Rattle.std.proofs.Common.{◌≡◌, take, drop}
use Rattle.chunk_layout.specs.Layouts.{lengths}
use Rattle.chunk_layout.specs.Cuts.{AllCut}
use Rattle.block_lowering.proofs.layouts.lens_of.Given as goal

abbrev pub invariant-loop-cuts : goal.invariant-loop-cuts
invariant-loop-cuts l = record {
  value : l.lens.items ≡ lengths (take l.cuts-index l.axes);
  cut : AllCut (drop l.cuts-index l.axes) → AllCut l.axes;
}
