use Rattle.lowering_laws.proofs.FormLaw.{form-law}
use Rattle.lowering_laws.proofs.Runs.{order-law}
use Rattle.block_lowering.proofs.Made.{lowered-job}
use Rattle.block_lowering.proofs.job.law_of_jobs.Goals as goal

pub returns : goal.returns
returns c = λ nodes saves ex inside heads have. lowered-job nodes saves heads (form-law nodes saves ex inside) (order-law nodes saves ex inside) have
