use Rattle.job_run.specs.Told.{named_told}
use Rattle.job_run.proofs.run.run_job.Given as goal

abbrev pub ghosts-evaluate : goal.ghosts-evaluate
ghosts-evaluate g a = record { named = named_told (g.S.In.Store.files a.inputs.store) a.inputs.heads.items }
