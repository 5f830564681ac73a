use Rattle.std.proofs.Common.{◌≡◌, ◌≤◌, length, map, drop}
use Rattle.lowering_laws.specs.Stages.{joined_all}
use Rattle.block_lowering.specs.Args.{sizes_or_none}
use Rattle.block_lowering.specs.Joining.{sizes_along}
use Rattle.block_lowering.proofs.joins.common_cuts.Given as goal

abbrev pub invariant-loop-place : goal.invariant-loop-place
invariant-loop-place l = record {
  within : l.place ≤ length l.sources;
  joined_is : sizes_or_none l.cuts ≡ joined_all (map (sizes_along l.axis) (drop l.place l.sources));
}

abbrev pub decreases-loop-place : goal.decreases-loop-place
decreases-loop-place l = l.place
