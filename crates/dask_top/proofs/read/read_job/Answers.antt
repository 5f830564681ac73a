use Rattle.dask_top.proofs.Runnable.{can-run, says-plan}
use Rattle.dask_top.proofs.read.read_job.Goals as goal

pub returns-in-Ok-clause-job : goal.returns-in-Ok-clause-job
returns-in-Ok-clause-job c = says-plan c.args.text.now c.in-Ok.said c.in-Ok.ensures.ok

pub returns-in-Ok-clause-runs : goal.returns-in-Ok-clause-runs
returns-in-Ok-clause-runs c = can-run c.in-Ok.said c.in-Ok.ensures.files
