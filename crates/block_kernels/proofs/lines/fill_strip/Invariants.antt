use Rattle.std.proofs.Common.{◌≤◌, ◌-◌}
use Rattle.block_kernels.proofs.Tiles.{Stripped}
use Rattle.block_kernels.proofs.lines.fill_strip.Given as goal

abbrev pub invariant-loop-from : goal.invariant-loop-from
invariant-loop-from l = record {
  within : l.from ≤ l.run;
  rows : Stripped l.cells l.firsts l.seconds l.run l.from l.initial.out l.out;
}

abbrev pub decreases-loop-from : goal.decreases-loop-from
decreases-loop-from l = l.run - l.from
