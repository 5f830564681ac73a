use Rattle.lowering_laws.proofs.FormLaw.{form-law}
use Rattle.lowering_laws.proofs.laws.law_of_form.Goals as goal

pub returns : goal.returns
returns c = λ nodes saves ex inside. form-law nodes saves ex inside
