use Rattle.std.proofs.Common.{string_bytes, [], ◌∷◌}
use Rattle.job_run.specs.Jobs.{plan_of}
use Rattle.dask_top.specs.Commands.{Evaluation}
use Rattle.dask_top.proofs.Evaluating.{run_performs}
use Rattle.dask_top.proofs.command.perform.Goals as goal

pub returns-in-Ok : goal.returns-in-Ok
returns-in-Ok g c = run_performs (string_bytes c.args.words.now.job ∷ []) (plan_of c.in-Ok.job) (g.S.Site.view c.args.site.now) (g.S.Site.view c.open_job.new.site) (g.S.Site.view c.run_job-end.new.site) (g.S.Site.view c.tell_run.new.site) c.run_job-end.result c.tell_run.result
    (rw c.from_ref.ensures.value at c.in-Ok.ensures.read) c.run_job-end.ensures c.tell_run.ensures.told c.tell_run.ensures.only c.tell_run.ensures.notes

pub returns-in-Err : goal.returns-in-Err
returns-in-Err g c = let ends = rw c.from_ref.ensures.value at c.in-Err.ensures.ends in ends Evaluation
