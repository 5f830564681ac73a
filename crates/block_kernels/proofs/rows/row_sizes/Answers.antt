use Rattle.std.proofs.Common.{◌≡◌, ◌+◌, ◌^◌, min, take, drop, ap, ◌∙◌}
use Rattle.nd_shape.specs.Shape.{elements}
use Rattle.block_kernels.proofs.RowLemmas.{are-rows}
use Rattle.block_kernels.proofs.rows.row_sizes.Goals as goal

pub returns : goal.returns
returns c =
    let ns = c.args.shape.now in
    let er : c.elements_up_to_limit-rows.result ≡ min (elements (take c.args.outer ns)) (2 ^ 31 + 1) = c.elements_up_to_limit-rows.ensures ∙ ap (λ ms. min (elements ms) (2 ^ 31 + 1)) (c.split_at.ensures.front ∙ ap (take c.args.outer) c.dims.ensures.dims) in
    let eb : c.elements_up_to_limit-run.result ≡ min (elements (drop c.args.outer ns)) (2 ^ 31 + 1) = c.elements_up_to_limit-run.ensures ∙ ap (λ ms. min (elements ms) (2 ^ 31 + 1)) (c.split_at.ensures.back ∙ ap (drop c.args.outer) c.dims.ensures.dims) in
    are-rows ns c.args.outer c.elements_up_to_limit-rows.result c.elements_up_to_limit-run.result c.requires.some c.dims.ensures.limits.product er eb
