use Rattle.std.proofs.Common.{◌∷◌, ◌++◌, [], get_or, ap, ◌∙◌}
use Rattle.std.specs.Int.{w64}
use Rattle.std.proofs.lemmas.Int.{to_z-of_z}
use Rattle.std.proofs.lemmas.List.{get_or_default}
use Rattle.spill_store.proofs.Bytes.{fits_more, words_more}
use Rattle.spill_store.proofs.block_bytes.cells_of_words.Goals as goal

pub loop-word-preserved : goal.loop-word-preserved
loop-word-preserved c =
    let cells = c.loop-word.cells.items in
    let words = c.args.words.now in
    let at = c.loop-word.word-index in
    let fits = c.cell_of.ensures.fits in
    let pushed = c.in_ok-push.ensures.items ∙ ap (λ z. cells ++ z ∷ []) (to_z-of_z w64 c.cell_of.result fits) in
    record {
      words = words_more cells c.push.new.self.items words at (get_or words at []) c.cell_of.result c.loop-word-test.true c.loop-word.invariant.words c.cell_of.ensures.bytes
          (get_or_default words at [] (get_or words at []) c.loop-word-test.true) pushed;
      fits = fits_more cells c.push.new.self.items c.cell_of.result c.loop-word.invariant.fits fits pushed;
    }
