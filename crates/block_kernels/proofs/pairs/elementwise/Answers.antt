use Rattle.std.proofs.Common.{◌∙◌}
use Rattle.block_kernels.proofs.RunLemmas.{can-pair}
use Rattle.block_kernels.proofs.pairs.elementwise.Goals as goal

pub tabulate_rows-requires-clause-valid : goal.tabulate_rows-requires-clause-valid
tabulate_rows-requires-clause-valid c =
    can-pair c.args.left.now.shape c.args.right.now.shape c.args.shape.now c.dims-left_dims.result.now c.dims-right_dims.result.now c.dims.result.now c.outer_axes-outer.result c.requires.agree c.requires.shape
    (c.dims-left_dims.ensures.dims ∙ c.shape.ensures.value) (c.dims-right_dims.ensures.dims ∙ c.shape-2.ensures.value) c.dims.ensures.dims c.outer_axes-outer.ensures.inside c.outer_axes-outer.ensures.first c.outer_axes-outer.ensures.second
