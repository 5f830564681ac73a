use Rattle.std.proofs.Common.{rules, ◌≡◌, ℕ, get_or, set, ap, ◌∙◌}
use Rattle.std.proofs.lemmas.List.{get_or_default}
use Rattle.std.proofs.lemmas.List.Edits.{map_over_more}
use Rattle.nd_shape.specs.declared.region.Piece.{Piece}
use Rattle.task_graph.specs.Moves.{place_now}
use Rattle.task_graph.specs.Orders.{moved_piece}
use Rattle.task_graph.proofs.moves.Change.place_each.Goals as goal

pub loop-piece-preserved : goal.loop-piece-preserved
loop-piece-preserved c =
    let x : Piece = get_or c.loop-piece.pieces c.loop-piece.piece-index c.piece-item.result in
    let e : c.place-piece.result ≡ place_now c.args.self.now (get_or c.loop-piece.pieces c.loop-piece.piece-index c.piece-item.result).source = cc in
    ap (λ (s : ℕ). set c.loop-piece.pieces c.loop-piece.piece-index (record { source = s; from = (get_or c.loop-piece.pieces c.loop-piece.piece-index c.piece-item.result).from; to = (get_or c.loop-piece.pieces c.loop-piece.piece-index c.piece-item.result).to })) e
    ∙ map_over_more (moved_piece (place_now c.args.self.now)) c.args.pieces.now c.loop-piece.pieces c.loop-piece.piece-index (get_or c.loop-piece.pieces c.loop-piece.piece-index c.piece-item.result) (search rules) c.loop-piece.invariant
    (get_or_default c.loop-piece.pieces c.loop-piece.piece-index c.piece-item.result (get_or c.loop-piece.pieces c.loop-piece.piece-index c.piece-item.result) (search rules))
