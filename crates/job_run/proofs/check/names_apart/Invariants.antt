use Rattle.std.proofs.Common.{◌≡◌, ℕ, ◌<◌, map, false}
use Rattle.std.specs.Prelude.{bytes_eq}
use Rattle.job_run.specs.Jobs.{saved_of}
use Rattle.job_run.specs.Plan.{name_at}
use Rattle.job_run.proofs.check.names_apart.Given as goal

abbrev pub invariant-loop-place : goal.invariant-loop-place
invariant-loop-place l = (j k : ℕ) → j < k → k < l.place → bytes_eq (name_at (map (λ s. s.file) (map saved_of l.saves)) k) (name_at (map (λ s. s.file) (map saved_of l.saves)) j) ≡ false
