use Rattle.lowering_laws.proofs.Growing.{refusal-law}
use Rattle.lowering_laws.proofs.laws.law_of_refusal.Goals as goal

pub returns : goal.returns
returns c = λ tasks t. refusal-law tasks t
