use Rattle.job_run.specs.Told.{named_told}
use Rattle.sim_run.proofs.simulated.save_simulated.Given as goal

abbrev pub ghosts-serve : goal.ghosts-serve
ghosts-serve g a = record { named = named_told (g.S.In.Store.files a.inputs.store) a.inputs.heads.items }
