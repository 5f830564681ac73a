use Rattle.std.proofs.Common.{◌≡◌, ◌∙◌, [], sym, ap, get_or, Ok}
use Rattle.nd_grid.specs.Grid.{kept_shape}
use Rattle.block_kernels.specs.Inputs.{blocks_of, shapes_of}
use Rattle.block_kernels.proofs.Reducing.{reduced-filled}
use Rattle.block_kernels.proofs.reduce.reduce_blocks.Goals as goal

pub returns : goal.returns
returns c =
    let shape : c.of-shape.result ≡ kept_shape 0 (get_or (shapes_of (blocks_of c.args.inputs.now)) 0 []) c.args.axes.now =
    c.of-shape.ensures ∙ c.in_ok-kept_dims.ensures ∙ ap (λ ns. kept_shape 0 ns c.args.axes.now) (c.dims.ensures.dims ∙ c.shape.ensures.value ∙ c.input_at.ensures.shape) in
    reduced-filled c.args.fold c.args.axes.now (get_or (shapes_of (blocks_of c.args.inputs.now)) 0 []) c.of-shape.result (blocks_of c.args.inputs.now) c.in_ok-totals.totals.items shape c.in_ok-totals.ensures.size c.in_ok-totals.ensures.at
    ∙ ap Ok (sym c.new.ensures)
