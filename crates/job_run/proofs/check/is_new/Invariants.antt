use Rattle.std.proofs.Common.{◌≡◌, ℕ, ◌<◌, map, false}
use Rattle.std.specs.Prelude.{bytes_eq}
use Rattle.job_run.specs.Jobs.{saved_of}
use Rattle.job_run.specs.Plan.{name_at}
use Rattle.job_run.proofs.check.is_new.Given as goal

abbrev pub invariant-loop-k : goal.invariant-loop-k
invariant-loop-k l = (j : ℕ) → j < l.k → bytes_eq (name_at (map (λ s. s.file) (map saved_of l.saves)) l.place) (name_at (map (λ s. s.file) (map saved_of l.saves)) j) ≡ false
