use Rattle.lowering_laws.proofs.Saved.{culled-law}
use Rattle.lowering_laws.proofs.laws.law_of_lowering.Goals as goal

pub returns : goal.returns
returns c = λ files nodes order ex built behind. culled-law files nodes order ex built behind
