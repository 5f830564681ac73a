use Rattle.npy_region.proofs.RunLemmas.{singles_split}
use Rattle.npy_region.proofs.runs.unit_len.Goals as goal

pub returns-then-column_major : goal.returns-then-column_major
returns-then-column_major c = singles_split c.args.column_major c.args.walk.now
