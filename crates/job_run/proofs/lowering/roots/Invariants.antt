use Rattle.std.proofs.Common.{◌≡◌, map, take}
use Rattle.job_run.specs.Jobs.{saved_of}
use Rattle.job_run.proofs.lowering.roots.Given as goal

abbrev pub invariant-loop-save : goal.invariant-loop-save
invariant-loop-save l = l.nodes.items ≡ map (λ s. s.node) (map saved_of (take l.save-index l.saves))
