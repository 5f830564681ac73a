use Rattle.std.proofs.Common.{refl}
use Rattle.npy_region.specs.Cells.{IsStoredByte}
use Rattle.io_edge.proofs.GivenLaws.{only_none}
use Rattle.npy_region.proofs.region.read_stored.Goals as goal

pub returns-in_err-cells-clause-only : goal.returns-in_err-cells-clause-only
returns-in_err-cells-clause-only g c = only_none (IsStoredByte c.args.walk.now c.args.head.now) _ _ refl

pub returns-in_err-room-clause-only : goal.returns-in_err-room-clause-only
returns-in_err-room-clause-only g c = only_none (IsStoredByte c.args.walk.now c.args.head.now) _ _ refl
