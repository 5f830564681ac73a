-- The steps of a text, and how it ends.
use Rattle.std.specs.Prelude.{List}
use Rattle.job_steps.specs.declared.step.Step.{Step}
use Rattle.job_steps.specs.declared.step.Ending.{Ending}

pub record Found : Type 0 where
  pub steps : List Step
  pub ending : Ending
