use Rattle.std.proofs.Common.{subst}
use Rattle.std.proofs.lemmas.Result.{on_err_weaker}
use Rattle.std.specs.Arc.{arc_value}
use Rattle.job_run.specs.Evaluating.{HoldsNamed}
use Rattle.job_run.specs.Jobs.{plan_of}
use Rattle.job_run.proofs.blocks.save_block.Goals as goal

pub returns-in-Some-clause-right : goal.returns-in-Some-clause-right
returns-in-Some-clause-right g c =
    on_err_weaker c.save_named.result (λ f named boxes holds held. f named boxes (subst (λ n. HoldsNamed (plan_of c.args.job.now) named n (arc_value c.args.block.now)) c.in-Some.is holds) held) c.save_named.ensures.right
