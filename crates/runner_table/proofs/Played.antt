-- Each feed fits a job of sums.
use Rattle.std.proofs.Common.{Bool}
use Rattle.std.specs.Prelude.{Option, Some, None}
use Rattle.node_runner.specs.Naming.{FitsRun}

pub fed : {J F : Type 0} (told : Bool) (job : Option J) (f : F) → FitsRun (λ (j : J) (f : F). Unit {0}) (λ (j : J) (f : F). Unit {0}) told job f
fed told None f = tt
fed told (Some j) f = (tt, λ t. tt)
