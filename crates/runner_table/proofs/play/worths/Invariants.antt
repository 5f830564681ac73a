use Rattle.std.proofs.Common.{◌≡◌}
use Rattle.std.specs.Prelude.{All, Some}
use Rattle.runner_table.specs.Sums.{sum_of}
use Rattle.runner_table.proofs.play.worths.Given as goal

abbrev pub invariant-loop-key : goal.invariant-loop-key
invariant-loop-key g l = All (λ w. sum_of l.job.shape l.job.zero w.key ≡ Some w.value) l.worths.items
