use Rattle.quiet_measure.proofs.LighterLemmas.{links_lighter}
use Rattle.quiet_measure.proofs.what_is_under_way_grows_lighter.Goals as goal

pub returns : goal.returns
returns c = links_lighter
