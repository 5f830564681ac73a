use Rattle.std.proofs.Common.{Some, Ok}
use Rattle.job_run.specs.Jobs.{plan_of}
use Rattle.dask_top.proofs.tell.tell_thread.Goals as goal

pub returns-in-Events-clause-notes : goal.returns-in-Events-clause-notes
returns-in-Events-clause-notes g c = c.tell_text.ensures.notes (Some (Ok (plan_of c.args.job.now)))
