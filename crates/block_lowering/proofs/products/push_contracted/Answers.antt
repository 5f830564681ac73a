use Rattle.std.proofs.Common.{◌∙◌, refl}
use Rattle.std.proofs.lemmas.Result.{err_from_is_err_and, IfOk-weaker, IfErr-weaker}
use Rattle.block_lowering.proofs.FoldedProducts.{AreTargets, IsFitted, are-targets, left-refused, right-refused, is-fitted, contracted-grown, blocks-refused}
use Rattle.block_lowering.proofs.products.push_contracted.Goals as goal

pub returns-in_err-first-clause-err : goal.returns-in_err-first-clause-err
returns-in_err-first-clause-err c =
    let p = err_from_is_err_and c.from_residual-in_err-first.result c.from_residual-in_err-first.ensures.1 in
    let l = c.args.left.now in
    let r = c.args.right.now in
    let one = c.args.left_axes.now in
    let two = c.args.right_axes.now in
    let left = c.axes.ensures.value ∙ c.layout.ensures.value in
    let right = c.axes-2.ensures.value ∙ c.layout-2.ensures.value in
    let cuts = c.in_ok-cuts.cuts.items in
    let t = are-targets one two l r c.axes.result.now c.axes-2.result.now c.axes-3.result.now c.axes-2.result.now c.as_slice-one.result.now c.as_slice-two.result.now cuts c.as_slice.result.now cuts c.in_ok-target.target _ left right (c.axes-3.ensures.value ∙ c.layout-3.ensures.value) right c.as_slice-one.ensures c.as_slice-two.ensures c.in_ok-cuts.ensures c.as_slice.ensures.value refl c.in_ok-target.ensures refl in
    rw (p.1, p.2) (left-refused one two l r c.args.graph.now c.in_ok-target.target c.in_err-first.field-0.0 t.left_is c.in_err-first.ensures.err)

pub returns-in_err-second-clause-err : goal.returns-in_err-second-clause-err
returns-in_err-second-clause-err c =
    let p = err_from_is_err_and c.from_residual-in_err-second.result c.from_residual-in_err-second.ensures.1 in
    let l = c.args.left.now in
    let r = c.args.right.now in
    let one = c.args.left_axes.now in
    let two = c.args.right_axes.now in
    let cuts = c.in_ok-cuts.cuts.items in
    let t : AreTargets one two l r cuts c.in_ok-target.target c.in_ok-target-2.target =
    are-targets one two l r c.axes.result.now c.axes-2.result.now c.axes-3.result.now c.axes-4.result.now c.as_slice-one.result.now c.as_slice-two.result.now cuts c.as_slice.result.now c.as_slice-2.result.now c.in_ok-target.target c.in_ok-target-2.target
    (c.axes.ensures.value ∙ c.layout.ensures.value) (c.axes-2.ensures.value ∙ c.layout-2.ensures.value) (c.axes-3.ensures.value ∙ c.layout-3.ensures.value) (c.axes-4.ensures.value ∙ c.layout-4.ensures.value)
    c.as_slice-one.ensures c.as_slice-two.ensures c.in_ok-cuts.ensures c.as_slice.ensures.value c.as_slice-2.ensures.value c.in_ok-target.ensures c.in_ok-target-2.ensures in
    rw (p.1, p.2) (right-refused one two l r c.args.graph.now c.push_fitted.new.graph cuts c.in_ok-target.target c.in_ok-target-2.target c.in_ok-first.first c.in_err-second.field-0.0 t c.in_ok-first.ensures.ok c.in_err-second.ensures.err)

pub returns-clause-ok : goal.returns-clause-ok
returns-clause-ok c =
    let l = c.args.left.now in
    let r = c.args.right.now in
    let one = c.args.left_axes.now in
    let two = c.args.right_axes.now in
    let old = c.args.graph.now in
    let cuts = c.in_ok-cuts.cuts.items in
    let t : AreTargets one two l r cuts c.in_ok-target.target c.in_ok-target-2.target =
    are-targets one two l r c.axes.result.now c.axes-2.result.now c.axes-3.result.now c.axes-4.result.now c.as_slice-one.result.now c.as_slice-two.result.now cuts c.as_slice.result.now c.as_slice-2.result.now c.in_ok-target.target c.in_ok-target-2.target
    (c.axes.ensures.value ∙ c.layout.ensures.value) (c.axes-2.ensures.value ∙ c.layout-2.ensures.value) (c.axes-3.ensures.value ∙ c.layout-3.ensures.value) (c.axes-4.ensures.value ∙ c.layout-4.ensures.value)
    c.as_slice-one.ensures c.as_slice-two.ensures c.in_ok-cuts.ensures c.as_slice.ensures.value c.as_slice-2.ensures.value c.in_ok-target.ensures c.in_ok-target-2.ensures in
    let fit : IsFitted one two l r old c.push_fitted-2.new.graph c.in_ok-first.first c.in_ok-second.second =
    is-fitted one two l r old c.push_fitted.new.graph c.push_fitted-2.new.graph cuts c.in_ok-target.target c.in_ok-target-2.target c.in_ok-first.first c.in_ok-second.second t c.in_ok-first.ensures.ok c.in_ok-second.ensures.ok in
    IfOk-weaker c.push_products.result _ _
    (λ s grown. contracted-grown one two l r old c.push_fitted-2.new.graph c.push_products.new.graph c.as_slice-3.result.now c.in_ok-first.first c.in_ok-second.second s (c.as_slice-3.ensures.value ∙ t.sizes_are) fit grown)
    c.push_products.ensures.ok

pub returns-clause-err : goal.returns-clause-err
returns-clause-err c =
    let l = c.args.left.now in
    let r = c.args.right.now in
    let one = c.args.left_axes.now in
    let two = c.args.right_axes.now in
    let old = c.args.graph.now in
    let cuts = c.in_ok-cuts.cuts.items in
    let t : AreTargets one two l r cuts c.in_ok-target.target c.in_ok-target-2.target =
    are-targets one two l r c.axes.result.now c.axes-2.result.now c.axes-3.result.now c.axes-4.result.now c.as_slice-one.result.now c.as_slice-two.result.now cuts c.as_slice.result.now c.as_slice-2.result.now c.in_ok-target.target c.in_ok-target-2.target
    (c.axes.ensures.value ∙ c.layout.ensures.value) (c.axes-2.ensures.value ∙ c.layout-2.ensures.value) (c.axes-3.ensures.value ∙ c.layout-3.ensures.value) (c.axes-4.ensures.value ∙ c.layout-4.ensures.value)
    c.as_slice-one.ensures c.as_slice-two.ensures c.in_ok-cuts.ensures c.as_slice.ensures.value c.as_slice-2.ensures.value c.in_ok-target.ensures c.in_ok-target-2.ensures in
    let fit : IsFitted one two l r old c.push_fitted-2.new.graph c.in_ok-first.first c.in_ok-second.second =
    is-fitted one two l r old c.push_fitted.new.graph c.push_fitted-2.new.graph cuts c.in_ok-target.target c.in_ok-target-2.target c.in_ok-first.first c.in_ok-second.second t c.in_ok-first.ensures.ok c.in_ok-second.ensures.ok in
    IfErr-weaker c.push_products.result _ _
    (λ e x. blocks-refused one two l r old c.push_fitted-2.new.graph c.as_slice-3.result.now c.in_ok-first.first c.in_ok-second.second e (c.as_slice-3.ensures.value ∙ t.sizes_are) fit x)
    c.push_products.ensures.err
