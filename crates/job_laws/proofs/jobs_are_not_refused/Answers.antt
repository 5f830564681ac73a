use Rattle.job_laws.proofs.OneJob.{job-excluded}
use Rattle.job_laws.proofs.OneRefusal.{job-expression}
use Rattle.job_laws.proofs.jobs_are_not_refused.Goals as goal

pub returns : goal.returns
returns c = λ text job e j r. job-excluded c.fitting_excludes_refusal.ensures text job e j (job-expression text job j) r
