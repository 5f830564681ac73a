use Rattle.std.proofs.Common.{◌++◌, ◌∷◌, [], ℤ, pos, get_or, sym, ap, ap₂, subst, ◌∙◌, rules}
use Rattle.std.specs.Prelude.{FitsSigned}
use Rattle.std.specs.Int.{w64}
use Rattle.std.proofs.lemmas.Int.{to_z-of_z}
use Rattle.std.proofs.lemmas.List.{get_or_default, map_more}
use borrow.Author.Count.{below_more}
use Rattle.spill_store.specs.Blocks.{cell_bytes}
use Rattle.spill_store.proofs.block_bytes.words_of.Goals as goal

pub loop-cell-preserved : goal.loop-cell-preserved
loop-cell-preserved c =
    let cells = c.args.cells.now in
    let at = c.loop-cell.cell-index in
    let fits : FitsSigned w64 (get_or cells at (pos 0)) = search rules in
    record {
      words = c.in_ok-push.ensures.items
          ∙ ap₂ (λ ws w. ws ++ w ∷ []) c.loop-cell.invariant.words (c.bytes_of.ensures.bytes ∙ ap cell_bytes (to_z-of_z w64 (get_or cells at (pos 0)) fits))
          ∙ sym (map_more cell_bytes cells at (pos 0) c.loop-cell-test.true);
      fits = λ k d l.
          below_more (λ j. (e : ℤ) → FitsSigned w64 (get_or cells j e)) at (λ j h e. c.loop-cell.invariant.fits j e h)
          (λ e. subst (FitsSigned w64) (get_or_default cells at (pos 0) e c.loop-cell-test.true) fits) k l d;
    }
