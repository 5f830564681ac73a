use Rattle.std.proofs.Common.{sym, false}
use Rattle.run_report.proofs.kinds.is_refused.Goals as goal

pub returns-in-Some : goal.returns-in-Some
returns-in-Some c = sym (c.in-Some.ensures false)

pub returns-in-None : goal.returns-in-None
returns-in-None c = sym (c.in-None.ensures false)
