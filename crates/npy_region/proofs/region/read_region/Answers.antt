use Rattle.std.proofs.Common.{refl}
use Rattle.npy_region.specs.Cells.{IsByteIn}
use Rattle.io_edge.proofs.GivenLaws.{only_none}
use Rattle.npy_region.proofs.region.read_region.Goals as goal

pub returns-in_err-walk-clause-only : goal.returns-in_err-walk-clause-only
returns-in_err-walk-clause-only g c = only_none (IsByteIn c.args.head.now c.args.region.now) _ _ refl
