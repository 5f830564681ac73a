use Rattle.npy_header.proofs.KindLaws.{kind-table}
use Rattle.npy_header.proofs.text.kind.Goals as goal

pub returns : goal.returns
returns c = kind-table c.args.byte c.ranges.byte.fits
