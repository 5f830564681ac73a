use Rattle.std.proofs.Common.{◌≡◌, map}
use Rattle.job_text.specs.JobParts.{save_called}
use Rattle.job_text.proofs.job.saves_of.Given as goal

abbrev pub invariant-loop-named : goal.invariant-loop-named
invariant-loop-named l = map save_called l.saves.items ≡ l.yielded
