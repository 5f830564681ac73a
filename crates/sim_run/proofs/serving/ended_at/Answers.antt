use Rattle.std.proofs.Common.{◌∙◌, pos}
use Rattle.job_run.specs.Jobs.{plan_of}
use Rattle.job_run.specs.Values.{Named}
use Rattle.sim_run.proofs.serving.ended_at.Goals as goal
use Rattle.job_run.proofs.SavedKeys.{name-has}

pub halt_at-requires-clause-there : goal.halt_at-requires-clause-there
halt_at-requires-clause-there c =
    let named : Named = λ input index. pos 0 in
    name-has (plan_of c.args.job.now) named c.args.key c.as_slice.result.now c.name_at-name.result (c.laws_hold.ensures named) (c.as_slice.ensures ∙ c.requires.wanted.names_are) c.name_at-name.ensures
