use Rattle.std.proofs.Common.{◌≡◌, map, take}
use Rattle.nd_shape.specs.declared.region.Piece.{Piece}
use Rattle.nd_shape.specs.Index.{index_at}
use Rattle.chunk_layout.specs.Layouts.{counts, lengths_at}
use Rattle.block_lowering.proofs.rechunk.shapes_of_pieces.Given as goal

abbrev pub invariant-loop-piece : goal.invariant-loop-piece
invariant-loop-piece l = l.shapes.items ≡ map (λ (p : Piece). lengths_at l.source.layout (index_at (counts l.source.layout) p.source)) (take l.piece-index l.pieces)
