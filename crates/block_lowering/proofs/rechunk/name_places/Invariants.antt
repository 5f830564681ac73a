use Rattle.std.proofs.Common.{◌≡◌, ◌++◌, take, drop}
use Rattle.block_lowering.specs.Rechunking.{renamed}
use Rattle.block_lowering.proofs.rechunk.name_places.Given as goal

abbrev pub invariant-loop-place : goal.invariant-loop-place
invariant-loop-place l = l.pieces ≡ renamed 0 (take l.place l.initial.pieces) ++ drop l.place l.initial.pieces
