use Rattle.std.proofs.Common.{◌≡◌, map, take}
use Rattle.nd_shape.specs.declared.region.Piece.{Piece}
use Rattle.lowering_laws.specs.Sources.{key_of}
use Rattle.block_lowering.proofs.rechunk.keys_of_pieces.Given as goal

abbrev pub invariant-loop-piece : goal.invariant-loop-piece
invariant-loop-piece l = l.keys.items ≡ map (λ (p : Piece). key_of l.source p.source) (take l.piece-index l.pieces)
