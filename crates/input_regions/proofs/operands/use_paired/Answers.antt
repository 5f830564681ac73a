use Rattle.std.proofs.Common.{◌≡◌, ◌∙◌, ◌++◌, ◌⊎◌, length, take, drop, ap, sym, subst, arith}
use Rattle.nd_grid.specs.Grid.{kept_shape}
use Rattle.array_expr.specs.Node.{shape_at}
use Rattle.input_regions.specs.Uses.{IsAlong, kept_number}
use Rattle.input_regions.specs.Widening.{IsFromTo, IsUsed, Widens}
use Rattle.input_regions.proofs.Between.{from-to-front, from-to-back}
use Rattle.input_regions.proofs.Used.{paired-used, front-inside, back-inside, both-number}
use Rattle.input_regions.proofs.Fitted.{on-ok}
use Rattle.input_regions.proofs.operands.use_paired.Goals as goal

pub split_at-firsts-requires : goal.split_at-firsts-requires
split_at-firsts-requires c =
    let e : c.len-number.result ≡ kept_number (shape_at c.args.nodes.now c.args.left) c.args.left_axes.now = omega (arith, c.len-number.ensures, c.push_kept.new.kept.ok.0, ap length c.in_ok-push_kept.ensures ∙ ap (λ xs. length (xs ++ kept_shape 0 c.dims_of.result.now c.args.left_axes.now)) c.new-kept.ensures.items ∙ ap (λ ns. kept_number ns c.args.left_axes.now) c.dims_of.ensures.value) in
    let b = both-number (kept_shape 0 (shape_at c.args.nodes.now c.args.left) c.args.left_axes.now) (kept_shape 0 (shape_at c.args.nodes.now c.args.right) c.args.right_axes.now) c.args.first.now c.args.last.now c.requires.order c.requires.inside in
    omega (arith, e, b.0)

pub split_at-lasts-requires : goal.split_at-lasts-requires
split_at-lasts-requires c =
    let e : c.len-number.result ≡ kept_number (shape_at c.args.nodes.now c.args.left) c.args.left_axes.now = omega (arith, c.len-number.ensures, c.push_kept.new.kept.ok.0, ap length c.in_ok-push_kept.ensures ∙ ap (λ xs. length (xs ++ kept_shape 0 c.dims_of.result.now c.args.left_axes.now)) c.new-kept.ensures.items ∙ ap (λ ns. kept_number ns c.args.left_axes.now) c.dims_of.ensures.value) in
    let b = both-number (kept_shape 0 (shape_at c.args.nodes.now c.args.left) c.args.left_axes.now) (kept_shape 0 (shape_at c.args.nodes.now c.args.right) c.args.right_axes.now) c.args.first.now c.args.last.now c.requires.order c.requires.inside in
    omega (arith, e, b.1)

pub use_along-requires-clause-order : goal.use_along-requires-clause-order
use_along-requires-clause-order c =
    subst (λ x. IsFromTo c.split_at-firsts.result.0.now x x) (sym c.split_at-lasts.ensures.front) (subst (λ x. IsFromTo x (take c.len-number.result c.args.last.now) (take c.len-number.result c.args.last.now)) (sym c.split_at-firsts.ensures.front) (from-to-front c.len-number.result c.args.first.now c.args.last.now c.args.last.now c.requires.order))

pub use_along-requires-clause-inside : goal.use_along-requires-clause-inside
use_along-requires-clause-inside c =
    let e : c.len-number.result ≡ kept_number (shape_at c.args.nodes.now c.args.left) c.args.left_axes.now = omega (arith, c.len-number.ensures, c.push_kept.new.kept.ok.0, ap length c.in_ok-push_kept.ensures ∙ ap (λ xs. length (xs ++ kept_shape 0 c.dims_of.result.now c.args.left_axes.now)) c.new-kept.ensures.items ∙ ap (λ ns. kept_number ns c.args.left_axes.now) c.dims_of.ensures.value) in
    let b = both-number (kept_shape 0 (shape_at c.args.nodes.now c.args.left) c.args.left_axes.now) (kept_shape 0 (shape_at c.args.nodes.now c.args.right) c.args.right_axes.now) c.args.first.now c.args.last.now c.requires.order c.requires.inside in
    λ i f. front-inside (kept_shape 0 (shape_at c.args.nodes.now c.args.left) c.args.left_axes.now) (kept_shape 0 (shape_at c.args.nodes.now c.args.right) c.args.right_axes.now) c.args.first.now c.args.last.now c.len-number.result e (omega (arith, e, b.0)) c.requires.order c.requires.inside i
    (subst (λ x. IsFromTo (take c.len-number.result c.args.first.now) x i) c.split_at-lasts.ensures.front (subst (λ x. IsFromTo x c.split_at-lasts.result.0.now i) c.split_at-firsts.ensures.front f))

pub use_along-requires-2-clause-order : goal.use_along-requires-2-clause-order
use_along-requires-2-clause-order c =
    subst (λ x. IsFromTo c.split_at-firsts.result.1.now x x) (sym c.split_at-lasts.ensures.back) (subst (λ x. IsFromTo x (drop c.len-number.result c.args.last.now) (drop c.len-number.result c.args.last.now)) (sym c.split_at-firsts.ensures.back) (from-to-back c.len-number.result c.args.first.now c.args.last.now c.args.last.now c.requires.order))

pub use_along-requires-2-clause-inside : goal.use_along-requires-2-clause-inside
use_along-requires-2-clause-inside c =
    let e : c.len-number.result ≡ kept_number (shape_at c.args.nodes.now c.args.left) c.args.left_axes.now = omega (arith, c.len-number.ensures, c.push_kept.new.kept.ok.0, ap length c.in_ok-push_kept.ensures ∙ ap (λ xs. length (xs ++ kept_shape 0 c.dims_of.result.now c.args.left_axes.now)) c.new-kept.ensures.items ∙ ap (λ ns. kept_number ns c.args.left_axes.now) c.dims_of.ensures.value) in
    let b = both-number (kept_shape 0 (shape_at c.args.nodes.now c.args.left) c.args.left_axes.now) (kept_shape 0 (shape_at c.args.nodes.now c.args.right) c.args.right_axes.now) c.args.first.now c.args.last.now c.requires.order c.requires.inside in
    λ i f. back-inside (kept_shape 0 (shape_at c.args.nodes.now c.args.left) c.args.left_axes.now) (kept_shape 0 (shape_at c.args.nodes.now c.args.right) c.args.right_axes.now) c.args.first.now c.args.last.now c.len-number.result e (omega (arith, e, b.0)) c.requires.order c.requires.inside i
    (subst (λ x. IsFromTo (drop c.len-number.result c.args.first.now) x i) c.split_at-lasts.ensures.back (subst (λ x. IsFromTo x c.split_at-lasts.result.1.now i) c.split_at-firsts.ensures.back f))

pub returns-clause-uses : goal.returns-clause-uses
returns-clause-uses c =
    let e : c.len-number.result ≡ kept_number (shape_at c.args.nodes.now c.args.left) c.args.left_axes.now = omega (arith, c.len-number.ensures, c.push_kept.new.kept.ok.0, ap length c.in_ok-push_kept.ensures ∙ ap (λ xs. length (xs ++ kept_shape 0 c.dims_of.result.now c.args.left_axes.now)) c.new-kept.ensures.items ∙ ap (λ ns. kept_number ns c.args.left_axes.now) c.dims_of.ensures.value) in
    let b = both-number (kept_shape 0 (shape_at c.args.nodes.now c.args.left) c.args.left_axes.now) (kept_shape 0 (shape_at c.args.nodes.now c.args.right) c.args.right_axes.now) c.args.first.now c.args.last.now c.requires.order c.requires.inside in
    on-ok c.use_along-2.result (Widens (IsUsed c.split_at-firsts.result.1.now c.split_at-lasts.result.1.now (IsAlong c.args.right (shape_at c.args.nodes.now c.args.right) c.args.right_axes.now)) c.use_along.new.needs c.use_along-2.new.needs) (Widens (IsUsed c.args.first.now c.args.last.now (λ i k j. IsAlong c.args.left (shape_at c.args.nodes.now c.args.left) c.args.left_axes.now (take (kept_number (shape_at c.args.nodes.now c.args.left) c.args.left_axes.now) i) k j ⊎ IsAlong c.args.right (shape_at c.args.nodes.now c.args.right) c.args.right_axes.now (drop (kept_number (shape_at c.args.nodes.now c.args.left) c.args.left_axes.now) i) k j)) c.args.needs.now c.use_along-2.new.needs)
    (λ w. paired-used c.args.left c.args.right (shape_at c.args.nodes.now c.args.left) (shape_at c.args.nodes.now c.args.right) c.args.left_axes.now c.args.right_axes.now c.args.first.now c.args.last.now c.split_at-firsts.result.0.now c.split_at-lasts.result.0.now c.split_at-firsts.result.1.now c.split_at-lasts.result.1.now c.len-number.result c.args.needs.now c.use_along.new.needs c.use_along-2.new.needs c.requires.order e (omega (arith, e, b.0))
    c.split_at-firsts.ensures.front c.split_at-lasts.ensures.front c.split_at-firsts.ensures.back c.split_at-lasts.ensures.back c.in_ok-use_along.ensures.uses w) c.use_along-2.ensures.uses
