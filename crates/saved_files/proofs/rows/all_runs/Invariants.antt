use Rattle.std.proofs.Common.{◌≡◌, ◌<◌, ℕ, length}
use Rattle.npy_region.specs.Runs.{AreRuns}
use Rattle.saved_files.specs.Filling.{box_of}
use Rattle.saved_files.specs.Rows.{runs_at}
use Rattle.saved_files.proofs.rows.all_runs.Given as goal

abbrev pub invariant-loop-region : goal.invariant-loop-region
invariant-loop-region l = record {
  count : length l.all.items ≡ l.region-index;
  runs : (k : ℕ) → k < l.region-index → AreRuns l.head (box_of l.regions k) (runs_at l.all.items k);
}
