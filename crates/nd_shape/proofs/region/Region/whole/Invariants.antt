use Rattle.std.proofs.Common.{◌≡◌, replicate, take}
use Rattle.nd_shape.proofs.region.Region.whole.Given as goal

abbrev pub invariant-loop-len : goal.invariant-loop-len
invariant-loop-len l = record {
  starts : l.region.start ≡ replicate l.len-index 0;
  lengths : l.region.lengths ≡ take l.len-index l.dims;
}
