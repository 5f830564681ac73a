use Rattle.std.proofs.Common.{◌≡◌, ◌*◌, ◌/◌, length, map, sym, ap, ◌∙◌, arith}
use Rattle.std.specs.List.{flat_map}
use Rattle.std.proofs.lemmas.Result.{IfOk-weaker}
use Rattle.spill_store.specs.Blocks.{cell_bytes}
use Rattle.spill_store.proofs.Bytes.{flat_cells, flat_words}
use Rattle.spill_store.proofs.block_bytes.cells_of.Goals as goal

pub returns : goal.returns
returns c =
    let bytes = c.args.bytes.now in
    let whole : length bytes ≡ 8 * (length bytes / 8) = omega (arith, c.requires) in
    let flat : flat_map (λ x. x) c.as_chunks.result.0.now ≡ bytes = ap (flat_map (λ x. x)) c.as_chunks.ensures.front ∙ flat_words (length bytes / 8) bytes whole in
    record {
      bytes = IfOk-weaker c.cells_of_words.result (λ v. map cell_bytes v.items ≡ c.as_chunks.result.0.now) (λ v. flat_map cell_bytes v.items ≡ bytes)
          (λ v e. sym (flat_cells v.items) ∙ ap (flat_map (λ x. x)) e ∙ flat) c.cells_of_words.ensures.words;
      fits = c.cells_of_words.ensures.fits;
    }
