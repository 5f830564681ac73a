use Rattle.std.proofs.Common.{◌≡◌, ◌≤◌, ◌*◌, ◌^◌}
use Rattle.nd_rows.specs.Storage.{walk_of}
use Rattle.npy_region.specs.Building.{Covers}
use Rattle.npy_region.proofs.RunLemmas.{offset_at, place_at}
use Rattle.npy_region.proofs.runs.push_runs.Given as goal

abbrev pub invariant-loop-k : goal.invariant-loop-k
invariant-loop-k l = record {
  walk : l.walk ≡ walk_of l.head.fortran l.head.shape l.region;
  targets : l.targets ≡ l.initial.targets;
  covers : Covers l.head.width (offset_at l.head l.region) (place_at l.head l.region) (l.k * l.unit) l.runs.items l.last;
  length : l.last.length ≤ 8 * (l.k * l.unit);
  offset : l.last.offset ≤ 2 ^ 35;
  place : l.last.place ≤ 2 ^ 35;
}
