use Rattle.lowering_laws.proofs.FaultLaw.{faults-law}
use Rattle.lowering_laws.proofs.laws.law_of_faults.Goals as goal

pub returns : goal.returns
returns c = λ files nodes saves ex built inside. faults-law files nodes saves ex built inside
