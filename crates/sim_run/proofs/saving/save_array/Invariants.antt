use Rattle.cluster_world.specs.Worlds.{cluster}
use Rattle.saved_files.specs.Saving.{ChangesAt, saving_at}
use Rattle.job_run.specs.Filling.{FillsFirst}
use Rattle.sim_run.proofs.saving.save_array.Given as goal

abbrev pub invariant-loop-number : goal.invariant-loop-number
invariant-loop-number g l = record {
  changes : ChangesAt l.place l.initial.files l.files;
  fills : FillsFirst l.layout l.keys ((cluster l.world).blocks.got 1) l.number (saving_at l.initial.files l.place).content (saving_at l.files l.place).content;
}
