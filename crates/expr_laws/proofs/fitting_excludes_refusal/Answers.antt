use Rattle.expr_laws.proofs.Excluded.{fitting-excludes}
use Rattle.expr_laws.proofs.fitting_excludes_refusal.Goals as goal

pub returns : goal.returns
returns c = fitting-excludes
