use Rattle.std.proofs.Common.{◌≡◌, replicate, take}
use Rattle.input_regions.proofs.boxes.point.Given as goal

abbrev pub invariant-loop-coordinate : goal.invariant-loop-coordinate
invariant-loop-coordinate l = record {
  starts : l.region.start ≡ take l.coordinate-index l.index;
  lengths : l.region.lengths ≡ replicate l.coordinate-index 1;
}
