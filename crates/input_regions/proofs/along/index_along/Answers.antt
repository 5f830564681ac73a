use Rattle.std.proofs.Common.{◌≡◌, ◌+◌, ◌-◌, ◌++◌, ◌≤◌, [], ◌∷◌, drop, get_or, cond, ap, sym, subst, ◌∙◌, append-nil}
use Rattle.std.proofs.lemmas.List.{drop_all}
use Rattle.nd_shape.specs.Index.{IsIn}
use Rattle.nd_grid.specs.Grid.{kept_shape}
use Rattle.nd_grid.proofs.Slicing.{next-le}
use Rattle.input_regions.specs.Widening.{end_along}
use Rattle.input_regions.proofs.Used.{along-step}
use Rattle.input_regions.proofs.along.index_along.Goals as goal

pub coordinate-requires : goal.coordinate-requires
coordinate-requires c =
    (along-step c.args.dims.now c.args.axes.now c.args.kept.now c.loop-axis.index.items (end_along 0 c.args.dims.now c.args.axes.now c.args.kept.now c.args.last) c.loop-axis.axis c.loop-axis.used c.args.last c.is_in_list-listed.result
    c.loop-axis-test.true c.is_in_list-listed.ensures c.loop-axis.invariant.inside c.loop-axis.invariant.value).there

pub loop-axis-preserved : goal.loop-axis-preserved
loop-axis-preserved c =
    let dims = c.args.dims.now in
    let axes = c.args.axes.now in
    let kept = c.args.kept.now in
    let all = end_along 0 dims axes kept c.args.last in
    let k = c.loop-axis.axis in
    let gone = c.is_in_list-listed.result in
    let s = along-step dims axes kept c.loop-axis.index.items all k c.loop-axis.used c.args.last gone c.loop-axis-test.true c.is_in_list-listed.ensures c.loop-axis.invariant.inside c.loop-axis.invariant.value in
    let x : c.coordinate.result ≡ cond c.is_in_list-listed.result (cond c.args.last (get_or c.args.dims.now c.loop-axis.axis 0 - 1) 0) (get_or c.args.kept.now c.loop-axis.used 0) =
    c.coordinate.ensures ∙ ap (λ e. cond c.is_in_list-listed.result e (get_or c.args.kept.now c.loop-axis.used 0)) c.end_of.ensures in
    record {
      small = subst (λ u. u ≤ k + 1) (sym c.next_used-used.ensures) (next-le gone c.loop-axis.used k c.loop-axis.invariant.small);
      inside = subst (λ u. IsIn (kept_shape (k + 1) (drop (k + 1) dims) axes) (drop u kept)) (sym c.next_used-used.ensures) s.inside;
      value = subst (λ u. c.push.new.self.items ++ end_along (k + 1) (drop (k + 1) dims) axes (drop u kept) c.args.last ≡ all) (sym c.next_used-used.ensures)
          (subst (λ xs. xs ++ end_along (k + 1) (drop (k + 1) dims) axes (drop (cond gone c.loop-axis.used (c.loop-axis.used + 1)) kept) c.args.last ≡ all) (sym (c.in_ok-push.ensures.items ∙ ap (λ v. c.loop-axis.index.items ++ v ∷ []) x)) s.value);
    }

pub returns : goal.returns
returns c =
    sym (append-nil c.loop-axis.index.items)
    ∙ ap (λ ns. c.loop-axis.index.items ++ end_along c.loop-axis.axis ns c.args.axes.now (drop c.loop-axis.used c.args.kept.now) c.args.last) (sym (drop_all c.loop-axis.axis c.args.dims.now c.loop-axis-test.false))
    ∙ c.loop-axis.invariant.value
