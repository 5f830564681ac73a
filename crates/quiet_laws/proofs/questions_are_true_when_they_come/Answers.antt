use Rattle.quiet_laws.proofs.Truths.{truths_after, others_after}
use Rattle.quiet_laws.proofs.questions_are_true_when_they_come.Goals as goal

pub returns : goal.returns
returns c = record { truths = truths_after; others = others_after }
