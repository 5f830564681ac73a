use Rattle.std.proofs.Common.{◌≡◌, ◌<◌, ℕ, List, [], length, get_or, sym, subst, arith, pos}
use Rattle.std.proofs.lemmas.List.{get_or_read}
use Rattle.std.proofs.lemmas.Option.{slice_get-get_or}
use Rattle.nd_shape.specs.declared.slice.Steps.{Steps}
use Rattle.nd_shape.specs.Chunk.{total}
use Rattle.chunk_layout.specs.Slicing.{TakesOf}
use Rattle.block_lowering.proofs.moving.pieces_of.Goals as goal

pub chunks_taken-requires : goal.chunks_taken-requires
chunks_taken-requires c =
    let none : Steps = record { start = 0; step = pos 0; count = 0 } in
    let there : c.loop-axis.axis < length c.args.steps.now = omega arith in
    let x : c.index-axes-axis.result ≡ get_or c.args.axes.now c.loop-axis.axis [] = get_or_read c.args.axes.now c.loop-axis.axis c.index-axes-axis.result c.loop-axis-test.true c.index-axes-axis.is [] in
    subst (λ (z : List ℕ). TakesOf (total z) (get_or c.args.steps.now c.loop-axis.axis none)) (sym x)
    (c.requires.each c.loop-axis.axis (get_or c.args.steps.now c.loop-axis.axis none) (slice_get-get_or c.args.steps.now c.loop-axis.axis none there))
