use Rattle.std.proofs.Common.{string_bytes}
use Rattle.std.proofs.lemmas.Result.{IfErr-weaker, IfOk-weaker}
use Rattle.job_run.specs.Jobs.{plan_of}
use Rattle.dask_top.proofs.Generating.{cause_of, memory_cause, tells}
use Rattle.dask_top.proofs.generate.number_lines.Goals as goal

pub returns-in-Ok-clause-lines : goal.returns-in-Ok-clause-lines
returns-in-Ok-clause-lines c = IfOk-weaker c.simulate_alone.result _ _ (λ t are. tells c.args.words (plan_of c.in-Ok.job) (string_bytes t) c.in-Ok.ensures.job are) c.simulate_alone.ensures.lines

pub returns-in-Ok-clause-cause : goal.returns-in-Ok-clause-cause
returns-in-Ok-clause-cause c = IfErr-weaker c.simulate_alone.result _ _ (λ e cause. cause_of c.args.words (plan_of c.in-Ok.job) e c.in-Ok.ensures.job cause) c.simulate_alone.ensures.cause

pub returns-in-Err-clause-cause : goal.returns-in-Err-clause-cause
returns-in-Err-clause-cause c = memory_cause c.args.words c.in-Err.end c.in-Err.ensures.memory
