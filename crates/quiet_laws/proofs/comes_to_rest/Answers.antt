use Rattle.std.proofs.Common.{subst}
use Rattle.quiet_laws.proofs.Rest.{comes_to_rest}
use Rattle.quiet_laws.specs.Quiet.{QuietlyEnds}
use Rattle.quiet_laws.proofs.comes_to_rest.Goals as goal

pub returns : goal.returns
returns c = λ j job es w r. subst (QuietlyEnds j) r.reached (comes_to_rest j job es r.legal)
