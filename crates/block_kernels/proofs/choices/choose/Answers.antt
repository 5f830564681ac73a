use Rattle.std.proofs.Common.{◌∙◌}
use Rattle.block_kernels.proofs.RunLemmas.{can-choose}
use Rattle.block_kernels.proofs.choices.choose.Goals as goal

pub tabulate_rows-requires-clause-valid : goal.tabulate_rows-requires-clause-valid
tabulate_rows-requires-clause-valid c =
    can-choose c.args.condition.now.shape c.args.first.now.shape c.args.second.now.shape c.args.shape.now c.dims-condition_dims.result.now c.dims-first_dims.result.now c.dims-second_dims.result.now c.dims.result.now c.outer_axes-outer.result
    c.requires.agree c.requires.shape (c.dims-condition_dims.ensures.dims ∙ c.shape.ensures.value) (c.dims-first_dims.ensures.dims ∙ c.shape-2.ensures.value) (c.dims-second_dims.ensures.dims ∙ c.shape-3.ensures.value) c.dims.ensures.dims
    c.outer_axes-outer.ensures.inside c.outer_axes-outer.ensures.first c.outer_axes-outer.ensures.second c.outer_axes-outer.ensures.third
