use Rattle.std.proofs.Common.{◌∙◌, ap, sym}
use Rattle.nd_shape.specs.Block.{Array}
use Rattle.nd_grid.specs.Grid.{grid_of}
use Rattle.block_kernels.proofs.Shared.{input-grid, input-shape}
use Rattle.block_kernels.proofs.inputs.input_at.Goals as goal

pub returns-clause-grid : goal.returns-clause-grid
returns-clause-grid c =
    ap grid_of c.as_ref.ensures ∙ sym (input-grid c.args.inputs.now c.args.place c.index-inputs-place.result c.requires c.index-inputs-place.is)

pub returns-clause-shape : goal.returns-clause-shape
returns-clause-shape c =
    ap (λ (b : Array). b.shape) c.as_ref.ensures ∙ sym (input-shape c.args.inputs.now c.args.place c.index-inputs-place.result c.requires c.index-inputs-place.is)
