use Rattle.std.proofs.Common.{◌≡◌, ℕ, List, [], sym, subst, ◌∙◌}
use Rattle.std.specs.Prelude.{slice_index_or}
use Rattle.std.proofs.lemmas.List.{get_or_default}
use Rattle.io_edge.specs.Content.{OnTold, file_at}
use Rattle.io_edge.proofs.GivenLaws.{given_on}
use Rattle.npy_codec.specs.Regions.{HoldsRegion}
use Rattle.block_lowering.specs.Jobs.{head_at}
use Rattle.block_lowering.proofs.Loading.{loaded-block, loaded-given}
use Rattle.block_lowering.proofs.job.run_load.Goals as goal

pub returns-clause-value : goal.returns-clause-value
returns-clause-value g c named fits tells =
    let there = c.requires.load.0 in
    let is : head_at c.args.heads.now c.args.input ≡ c.index-heads-input.result = get_or_default c.args.heads.now c.args.input _ _ there ∙ sym c.index-heads-input.is in
    let cells = subst (λ h. OnTold (file_at (g.S.Store.files c.args.feed.now) c.args.input) (λ bytes. HoldsRegion bytes h c.args.region.now c.in_ok-block.block)) (sym is) c.in_ok-block.ensures.cells in
    loaded-block named (head_at c.args.heads.now c.args.input) _ c.args.input c.args.region.now c.in_ok-block.block c.requires.load.1 cells
    (fits.named_is c.args.input there) (tells.each c.args.input there)

pub returns-clause-given : goal.returns-clause-given
returns-clause-given g c holds named agree have =
    let input = c.args.input in
    let region = c.args.region.now in
    let block = c.in_ok-block.block in
    let names = g.S.Store.names c.args.feed.now in
    let is : head_at c.args.heads.now input ≡ c.index-heads-input.result = get_or_default c.args.heads.now input _ _ c.requires.load.0 ∙ sym c.index-heads-input.is in
    let cells = given_on _ _ (λ (hold : List ℕ → List ℕ). HoldsRegion (hold (slice_index_or names input [])) c.index-heads-input.result region block) c.in_ok-block.ensures.given holds agree in
    loaded-given named c.args.heads.now names holds input region block c.requires.load
    (subst (λ h. HoldsRegion (holds (slice_index_or names input [])) h region block) (sym is) cells) have
