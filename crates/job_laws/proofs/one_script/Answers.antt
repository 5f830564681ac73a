use Rattle.job_laws.proofs.OneJob.{one-script}
use Rattle.job_laws.proofs.one_script.Goals as goal

pub returns : goal.returns
returns c = one-script
