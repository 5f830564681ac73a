use Rattle.job_laws.proofs.OneJob.{one-job}
use Rattle.job_laws.proofs.one_job.Goals as goal

pub returns : goal.returns
returns c = one-job
