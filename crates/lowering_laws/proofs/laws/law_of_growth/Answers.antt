use Rattle.lowering_laws.proofs.Growing.{growth-law}
use Rattle.lowering_laws.proofs.laws.law_of_growth.Goals as goal

pub returns : goal.returns
returns c = λ nodes. growth-law nodes
