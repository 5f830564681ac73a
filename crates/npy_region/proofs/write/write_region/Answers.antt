use Rattle.std.proofs.Common.{inr}
use Rattle.npy_region.proofs.write.write_region.Goals as goal

pub region_runs-requires-clause-width : goal.region_runs-requires-clause-width
region_runs-requires-clause-width g c = inr (inr (inr c.requires.width))
