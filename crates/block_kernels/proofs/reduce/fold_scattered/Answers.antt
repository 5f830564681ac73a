use Rattle.std.proofs.Common.{ap, sym, subst, length, ◌∙◌, ◌≡◌}
use Rattle.nd_shape.specs.Shape.{elements, IsShape}
use Rattle.nd_grid.specs.Grid.{grid_of, block_of, folded_shape, reduced}
use Rattle.nd_grid.specs.Computed.{FailsAs}
use Rattle.nd_grid.proofs.Cells.{block-shape}
use Rattle.block_kernels.proofs.Reducing.{folded-is-shape, takes-reduced, reduced-there}
use Rattle.block_kernels.proofs.reduce.fold_scattered.Goals as goal

pub of-folded-requires : goal.of-folded-requires
of-folded-requires c =
    subst IsShape (sym (c.in_ok-folded_dims.ensures ∙ ap (λ ns. folded_shape 0 ns c.args.axes.now) (c.dims.ensures.dims ∙ c.shape.ensures.value)))
    (folded-is-shape c.args.block.now.shape c.args.axes.now c.args.shape.now (subst IsShape c.shape.ensures.value c.dims.ensures.limits) c.requires.kept c.requires.some)

pub returns-in-Ok : goal.returns-in-Ok
returns-in-Ok c =
    let size : length c.cells.result.now ≡ elements c.args.shape.now =
    ap length c.cells.ensures.value ∙ c.cells.ensures.cells ∙ ap elements (block-shape (reduced c.args.fold c.args.axes.now (grid_of c.args.block.now)) c.in-Ok.made c.in-Ok.ensures.ok ∙ c.requires.kept) in
    takes-reduced c.args.fold c.args.axes.now c.args.shape.now c.args.block.now c.in-Ok.made c.cells.result.now c.args.totals.now c.fold_row_by.new.totals c.requires.kept c.in-Ok.ensures.ok c.cells.ensures.value size c.fold_row_by.ensures

pub unreachable-requires : goal.unreachable-requires
unreachable-requires c =
    reduced-there c.args.fold c.args.axes.now c.args.block.now c.in-Err-ZeroDivide.field-0-0
    (subst (λ e. FailsAs e (block_of (reduced c.args.fold c.args.axes.now (grid_of c.args.block.now)))) c.in-Err-ZeroDivide.field-0-is c.in-Err-ZeroDivide.ensures.err)
