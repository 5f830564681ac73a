use Rattle.expr_laws.proofs.OneCause.{refusal-one}
use Rattle.expr_laws.proofs.one_refusal.Goals as goal

pub returns : goal.returns
returns c = refusal-one
