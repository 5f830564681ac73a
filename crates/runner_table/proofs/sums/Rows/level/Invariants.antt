use Rattle.std.proofs.Common.{◌-◌}
use Rattle.runner_table.proofs.sums.Rows.level.Given as goal

abbrev pub decreases-loop-key : goal.decreases-loop-key
decreases-loop-key l = l.end - l.key
