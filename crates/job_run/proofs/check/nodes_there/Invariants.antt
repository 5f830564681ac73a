use Rattle.std.proofs.Common.{ℕ, ◌<◌, map, get_or}
use Rattle.job_run.specs.Jobs.{saved_of}
use Rattle.job_run.proofs.check.nodes_there.Given as goal

abbrev pub invariant-loop-save : goal.invariant-loop-save
invariant-loop-save l = (k : ℕ) → k < l.save-index → get_or (map (λ s. s.node) (map saved_of l.saves)) k 0 < l.count
