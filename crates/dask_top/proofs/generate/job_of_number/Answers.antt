use Rattle.std.proofs.Common.{ℕ, List, ◌∙◌, subst}
use Rattle.job_run.specs.Jobs.{plan_of}
use Rattle.dask_top.specs.Reading.{SaysPlan}
use Rattle.dask_top.proofs.generate.job_of_number.Goals as goal

pub returns-in-Ok-clause-job : goal.returns-in-Ok-clause-job
returns-in-Ok-clause-job c =
    let P : List ℕ → Type 0 = λ t. SaysPlan t (plan_of c.in-Ok.job) in
    subst P (c.as_bytes.ensures.value ∙ c.in_ok-text.ensures) c.in-Ok.ensures.job
