use Rattle.lowering_laws.proofs.Runs.{lowered-law}
use Rattle.lowering_laws.proofs.NamesLaw.{named-law}
use Rattle.lowering_laws.proofs.laws.law_of_lowered.Goals as goal

pub returns-clause-saved : goal.returns-clause-saved
returns-clause-saved c = λ files nodes saves ex built inside. lowered-law files nodes saves ex built inside

pub returns-clause-named : goal.returns-clause-named
returns-clause-named c = λ files nodes saves ex built inside. named-law files nodes saves ex built inside
