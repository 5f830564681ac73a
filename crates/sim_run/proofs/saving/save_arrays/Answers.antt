use Rattle.std.proofs.Common.{◌≡◌, ℕ, ◌<◌, List, [], length, arith, sym, ◌∙◌, subst}
use Rattle.std.proofs.lemmas.List.{get_or_read}
use Rattle.block_lowering.specs.Jobs.{dims_of}
use Rattle.job_run.specs.Filling.{HasBlocks, keys_at, layout_at}
use Rattle.sim_run.specs.Client.{HasGot}
use Rattle.sim_run.proofs.saving.save_arrays.Goals as goal

pub save_array-requires-clause-has : goal.save_array-requires-clause-has
save_array-requires-clause-has g c κs within =
    let saved = c.args.saved.now in
    let layouts = c.args.layouts.now in
    let place = c.loop-place.place in
    let in_saved : place < length saved = c.loop-place-test.true in
    let in_layouts : place < length layouts = omega (arith, in_saved, c.requires.fit.keys, c.requires.fit.layouts_are) in
    let has : ℕ → List ℕ → Type 0 = HasGot c.args.world.now (dims_of c.args.world.now.job.job) in
    let layout : c.index-layouts-place.result ≡ layout_at layouts place = get_or_read layouts place c.index-layouts-place.result in_layouts c.index-layouts-place.is [] in
    let keys : c.as_slice.result.now ≡ keys_at saved place = c.as_slice.ensures ∙ get_or_read saved place c.index-saved-place.result in_saved c.index-saved-place.is [] in
    let L : List (List ℕ) → Type 0 = λ l. HasBlocks l c.as_slice.result.now has in
    let K : List ℕ → Type 0 = λ ks. HasBlocks (layout_at layouts place) ks has in
    subst L (sym layout) (subst K (sym keys) (c.requires.fit.blocks_are place (omega (arith, in_saved, c.requires.fit.keys))))
