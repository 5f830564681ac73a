use Rattle.std.proofs.Common.{◌≡◌, length, ap, ◌∙◌}
use Rattle.std.proofs.lemmas.Result.{IfErr-weaker}
use Rattle.nd_grid.specs.Grid.{folded_shape}
use Rattle.chunk_layout.specs.Layouts.{counts}
use Rattle.lowering_laws.specs.Stages.{kept_axes}
use Rattle.block_lowering.proofs.Refusing.{refuses-same}
use Rattle.block_lowering.proofs.FoldedNumbers.{reduced-same}
use Rattle.block_lowering.proofs.sums.push_reduced.Goals as goal

pub returns-clause-err : goal.returns-clause-err
returns-clause-err c =
    let s = c.args.source.now in
    let axes = c.args.axes.now in
    let old = c.args.graph.now in
    let cuts : c.axes-cuts.result.now ≡ s.layout = c.axes-cuts.ensures.value ∙ c.layout.ensures.value in
    let counted : c.as_slice-2.result.now ≡ counts s.layout = c.as_slice-2.ensures.value ∙ c.in_ok-counts.ensures ∙ ap counts cuts in
    let parts : c.as_slice-4.result.now ≡ folded_shape 0 (counts s.layout) axes =
    c.as_slice-4.ensures.value ∙ c.in_ok-parts.ensures ∙ ap (λ ns. folded_shape 0 ns c.as_slice-3.result.now) counted ∙ ap (folded_shape 0 (counts s.layout)) c.as_slice-3.ensures in
    let layout : c.in_ok-layout.layout ≡ kept_axes 0 s.layout axes = c.in_ok-layout.ensures ∙ ap (λ l. kept_axes 0 l c.as_slice.result.now) cuts ∙ ap (kept_axes 0 s.layout) c.as_slice.ensures in
    IfErr-weaker c.push_folded.result _ _
    (λ e r. refuses-same old _ _ e (reduced-same c.args.fold axes c.args.split s (length old) c.as_slice-4.result.now c.in_ok-layout.layout parts layout) r)
    c.push_folded.ensures.err
