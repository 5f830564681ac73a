use Rattle.std.proofs.Common.{ap, sym, w64, Some}
use Rattle.std.proofs.lemmas.Int.{wrapping_sub_is}
use Rattle.block_kernels.proofs.binary.SubtractingOperation.on.Goals as goal

pub returns : goal.returns
returns c = ap Some (sym (wrapping_sub_is w64 c.args.x c.args.y c.ranges.x c.ranges.y))
