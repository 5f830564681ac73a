use Rattle.sim_run.proofs.MannedLemmas.{not_deserted, not_left_alone}
use Rattle.sim_run.proofs.manned.somebody_is_there.Goals as goal

pub returns-clause-drawn : goal.returns-clause-drawn
returns-clause-drawn c = not_deserted

pub returns-clause-led : goal.returns-clause-led
returns-clause-led c = not_left_alone
