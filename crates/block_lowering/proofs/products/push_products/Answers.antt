use Rattle.std.proofs.Common.{◌≡◌, ◌++◌, length, ap, subst, ◌∙◌}
use Rattle.std.proofs.lemmas.Result.{IfOk-weaker, IfErr-weaker}
use Rattle.chunk_layout.specs.Layouts.{counts}
use Rattle.lowering_laws.specs.Sources.{Made}
use Rattle.lowering_laws.specs.Stages.{kept_axes}
use Rattle.block_lowering.specs.Growing.{IsGrown}
use Rattle.block_lowering.proofs.Refusing.{refuses-same}
use Rattle.block_lowering.proofs.FoldedNumbers.{product-layout, products-same}
use Rattle.block_lowering.proofs.products.push_products.Goals as goal

pub returns-clause-ok : goal.returns-clause-ok
returns-clause-ok c =
    let l = c.args.left.now in
    let r = c.args.right.now in
    let one = c.args.left_axes.now in
    let two = c.args.right_axes.now in
    let old = c.args.graph.now in
    let parts : c.as_slice-2.result.now ≡ counts c.args.cuts.now = c.as_slice-2.ensures.value ∙ c.in_ok-pairs.ensures in
    let layout : c.in_ok-layout.layout ≡ kept_axes 0 l.layout one ++ kept_axes 0 r.layout two =
    c.in_ok-layout.ensures ∙ product-layout c.axes.result.now l.layout c.axes-2.result.now r.layout c.as_slice-one.result.now one c.as_slice-two.result.now two (c.axes.ensures.value ∙ c.layout.ensures.value) (c.axes-2.ensures.value ∙ c.layout-2.ensures.value) c.as_slice-one.ensures c.as_slice-two.ensures in
    let same = products-same one two l r (length old) c.as_slice-2.result.now (counts c.args.cuts.now) c.in_ok-layout.layout parts layout in
    IfOk-weaker c.push_folded.result _ _ (λ s grown. subst (λ (m : Made). IsGrown old m c.push_folded.new.graph s) same grown) c.push_folded.ensures.ok

pub returns-clause-err : goal.returns-clause-err
returns-clause-err c =
    let l = c.args.left.now in
    let r = c.args.right.now in
    let one = c.args.left_axes.now in
    let two = c.args.right_axes.now in
    let old = c.args.graph.now in
    let parts : c.as_slice-2.result.now ≡ counts c.args.cuts.now = c.as_slice-2.ensures.value ∙ c.in_ok-pairs.ensures in
    let layout : c.in_ok-layout.layout ≡ kept_axes 0 l.layout one ++ kept_axes 0 r.layout two =
    c.in_ok-layout.ensures ∙ product-layout c.axes.result.now l.layout c.axes-2.result.now r.layout c.as_slice-one.result.now one c.as_slice-two.result.now two (c.axes.ensures.value ∙ c.layout.ensures.value) (c.axes-2.ensures.value ∙ c.layout-2.ensures.value) c.as_slice-one.ensures c.as_slice-two.ensures in
    let same = products-same one two l r (length old) c.as_slice-2.result.now (counts c.args.cuts.now) c.in_ok-layout.layout parts layout in
    IfErr-weaker c.push_folded.result _ _ (λ e x. refuses-same old _ _ e (ap (λ (m : Made). m.tasks) same) x) c.push_folded.ensures.err
