use Rattle.std.proofs.Common.{◌≡◌, ◌≤◌, length, map, drop}
use Rattle.lowering_laws.specs.Stages.{sizes_on, joined_all}
use Rattle.block_lowering.specs.Args.{layouts_of, sizes_or_none}
use Rattle.block_lowering.proofs.points.point_axis.Given as goal

abbrev pub invariant-loop-place : goal.invariant-loop-place
invariant-loop-place l = record {
  there : l.place ≤ length l.args;
  rest : sizes_or_none l.cuts ≡ joined_all (map (sizes_on l.dims l.axis) (layouts_of (drop l.place l.args)));
}

abbrev pub decreases-loop-place : goal.decreases-loop-place
decreases-loop-place l = l.place
