use Rattle.std.proofs.Common.{refl}
use Rattle.sched_facts.specs.Sheets.{spot_of}
use Rattle.sched_facts.proofs.sheets.spot.Goals as goal

pub returns : goal.returns
unfolding spot_of
returns c = refl
