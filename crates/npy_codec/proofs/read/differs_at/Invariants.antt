use Rattle.std.proofs.Common.{◌≡◌, ◌≤◌, take, length}
use Rattle.npy_codec.specs.Files.{magic}
use Rattle.npy_codec.proofs.read.differs_at.Given as goal

abbrev pub invariant-loop-at : goal.invariant-loop-at
invariant-loop-at l = record {
  same : take l.at l.front ≡ take l.at magic;
  there : l.at ≤ length l.front;
}
