use Rattle.quiet_laws.proofs.Over.{old_after, fenced_after}
use Rattle.quiet_laws.proofs.After.{whole_after, vain_after}
use Rattle.quiet_laws.proofs.what_the_measure_rests_on.Goals as goal

pub returns : goal.returns
returns c = record { old = old_after; fenced = fenced_after; whole = whole_after; vain = vain_after }
