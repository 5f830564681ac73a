use Rattle.std.proofs.Common.{arith}
use Rattle.block_lowering.proofs.Assembling.{renamed-more}
use Rattle.block_lowering.proofs.rechunk.name_places.Goals as goal

pub loop-place-preserved : goal.loop-place-preserved
loop-place-preserved c = renamed-more c.loop-place.place c.args.pieces.now c.loop-place.pieces c.index-pieces-place.result (omega arith) c.loop-place.invariant
