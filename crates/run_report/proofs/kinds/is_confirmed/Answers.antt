use Rattle.std.proofs.Common.{sym, true}
use Rattle.run_report.proofs.kinds.is_confirmed.Goals as goal

pub returns-in-Some : goal.returns-in-Some
returns-in-Some c = sym (c.in-Some.ensures true)

pub returns-in-None : goal.returns-in-None
returns-in-None c = sym (c.in-None.ensures true)
