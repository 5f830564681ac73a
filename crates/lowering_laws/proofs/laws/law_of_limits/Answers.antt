use Rattle.lowering_laws.proofs.Limits.{limits-law}
use Rattle.lowering_laws.proofs.Runs.{order-law}
use Rattle.lowering_laws.proofs.laws.law_of_limits.Goals as goal

pub returns : goal.returns
returns c = λ nodes saves ex inside none. limits-law nodes saves ex inside (order-law nodes saves ex inside) none
