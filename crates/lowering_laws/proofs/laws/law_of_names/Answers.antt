use Rattle.lowering_laws.proofs.NamesLaw.{names-law}
use Rattle.lowering_laws.proofs.laws.law_of_names.Goals as goal

pub returns : goal.returns
returns c = λ nodes saves ex inside. names-law nodes saves ex inside
