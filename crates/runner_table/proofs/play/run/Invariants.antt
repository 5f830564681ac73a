use Rattle.std.specs.Prelude.{Some}
use Rattle.runner_table.proofs.play.run.Given as goal

abbrev pub ghosts-run_named : goal.ghosts-run_named
ghosts-run_named g a = record { picked = Some a.job.now; allowed = a.asked.now.plan.allowed }
