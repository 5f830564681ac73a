use Rattle.cluster_world.specs.Worlds.{cluster}
use Rattle.job_run.specs.Filling.{FilledBelow}
use Rattle.sim_run.proofs.saving.save_arrays.Given as goal

abbrev pub invariant-loop-place : goal.invariant-loop-place
invariant-loop-place g l = FilledBelow l.saved l.layouts ((cluster l.world).blocks.got 1) l.place l.initial.files l.files
