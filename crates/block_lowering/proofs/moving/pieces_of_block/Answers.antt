use Rattle.std.proofs.Common.{◌≡◌, ℕ, ◌+◌, List, [], get_or, cond, ap, ◌∙◌}
use Rattle.std.specs.Prelude.{slice_index_or}
use Rattle.std.proofs.lemmas.List.{get_or_read}
use Rattle.chunk_layout.specs.Slices.{Taken}
use Rattle.lowering_laws.specs.Stages.{nothing_taken}
use Rattle.block_lowering.proofs.MovingSteps.{piece_on, taken-step, counted}
use Rattle.block_lowering.proofs.moving.pieces_of_block.Goals as goal

pub loop-axis-preserved : goal.loop-axis-preserved
loop-axis-preserved c =
    let pieces = c.args.pieces.now in
    let k = c.loop-axis.axis in
    let gone = c.is_in_list-gone.result in
    let list : c.as_slice.result.now ≡ get_or c.args.pieces.now c.loop-axis.axis [] = c.as_slice.ensures ∙ get_or_read pieces k c.index-pieces-axis.result c.loop-axis-test.true c.index-pieces-axis.is [] in
    let piece : slice_index_or c.as_slice.result.now c.place_on.result nothing_taken ≡ piece_on c.args.pieces.now c.args.block.now c.loop-axis.axis c.loop-axis.used c.is_in_list-gone.result =
    ap (λ (ps : List Taken). slice_index_or ps c.place_on.result nothing_taken) list ∙ ap (λ (j : ℕ). slice_index_or (get_or c.args.pieces.now c.loop-axis.axis []) j nothing_taken) c.place_on.ensures in
    let step =
    taken-step pieces c.args.dropped.now c.args.block.now c.loop-axis.numbers.items c.loop-axis.steps.items k c.loop-axis.used gone (slice_index_or c.as_slice.result.now c.place_on.result nothing_taken) c.loop-axis-test.true
    c.is_in_list-gone.ensures piece c.loop-axis.invariant.used c.loop-axis.invariant.numbers_are c.loop-axis.invariant.steps_are in
    let used : c.next_if-used.result ≡ cond c.is_in_list-gone.result c.loop-axis.used (c.loop-axis.used + 1) = c.next_if-used.ensures ∙ counted gone c.loop-axis.used in
    record {
      used = rw used step.within;
      numbers_are = rw (c.in_ok-push.ensures.items, c.piece_at-chunk.ensures.chunk, used) step.numbers_are;
      steps_are = rw (c.in_ok-push-2.ensures.items, c.piece_at-chunk.ensures.steps, used) step.steps_are;
    }
