use Rattle.std.proofs.Common.{arith, w64, pos}
use Rattle.std.proofs.lemmas.Int.{wrapping_mul_is}
use mir.Val.{SFits}
use Rattle.nd_grid.proofs.operation.scaled.Goals as goal

pub returns : goal.returns
returns c = let fits : SFits w64 (pos c.args.place) = record { sfits = omega arith } in wrapping_mul_is w64 c.args.step (pos c.args.place) c.ranges.step fits
