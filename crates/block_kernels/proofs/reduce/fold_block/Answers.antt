use Rattle.std.proofs.Common.{arith, ap, subst, length, ◌∙◌}
use Rattle.nd_shape.specs.Shape.{elements}
use Rattle.block_kernels.specs.Viewing.{IsView}
use Rattle.block_kernels.proofs.Viewing.{view-taken, view-cells, view-room}
use Rattle.block_kernels.proofs.reduce.fold_block.Goals as goal

pub fold_parts_by-requires-clause-cells : goal.fold_parts_by-requires-clause-cells
fold_parts_by-requires-clause-cells c =
    let v : IsView 0 c.args.block.now.shape c.args.axes.now c.in-Some.view.outer c.in-Some.view.rows c.in-Some.view.inner =
    subst (λ ns. IsView 0 ns c.args.axes.now c.in-Some.view.outer c.in-Some.view.rows c.in-Some.view.inner) (c.dims-2.ensures.dims ∙ c.shape.ensures.value) c.in-Some.ensures in
    omega (arith, view-cells c.args.block.now.shape c.args.axes.now c.in-Some.view.outer c.in-Some.view.rows c.in-Some.view.inner v, c.cells-in-Some.ensures.cells, ap length c.cells-in-Some.ensures.value)

pub fold_parts_by-requires-clause-room : goal.fold_parts_by-requires-clause-room
fold_parts_by-requires-clause-room c =
    let v : IsView 0 c.args.block.now.shape c.args.axes.now c.in-Some.view.outer c.in-Some.view.rows c.in-Some.view.inner =
    subst (λ ns. IsView 0 ns c.args.axes.now c.in-Some.view.outer c.in-Some.view.rows c.in-Some.view.inner) (c.dims-2.ensures.dims ∙ c.shape.ensures.value) c.in-Some.ensures in
    omega (arith, view-room c.args.block.now.shape c.args.axes.now c.args.shape.now c.in-Some.view.outer c.in-Some.view.rows c.in-Some.view.inner v c.requires.kept, c.requires.room)

pub fold_parts_by-requires-clause-small : goal.fold_parts_by-requires-clause-small
fold_parts_by-requires-clause-small c =
    let v : IsView 0 c.args.block.now.shape c.args.axes.now c.in-Some.view.outer c.in-Some.view.rows c.in-Some.view.inner =
    subst (λ ns. IsView 0 ns c.args.axes.now c.in-Some.view.outer c.in-Some.view.rows c.in-Some.view.inner) (c.dims-2.ensures.dims ∙ c.shape.ensures.value) c.in-Some.ensures in
    omega (arith, view-cells c.args.block.now.shape c.args.axes.now c.in-Some.view.outer c.in-Some.view.rows c.in-Some.view.inner v, c.dims-2.ensures.limits.product, ap elements c.shape.ensures.value)

pub fold_parts_by-requires-clause-few : goal.fold_parts_by-requires-clause-few
fold_parts_by-requires-clause-few c =
    let v : IsView 0 c.args.block.now.shape c.args.axes.now c.in-Some.view.outer c.in-Some.view.rows c.in-Some.view.inner =
    subst (λ ns. IsView 0 ns c.args.axes.now c.in-Some.view.outer c.in-Some.view.rows c.in-Some.view.inner) (c.dims-2.ensures.dims ∙ c.shape.ensures.value) c.in-Some.ensures in
    omega (arith, view-room c.args.block.now.shape c.args.axes.now c.args.shape.now c.in-Some.view.outer c.in-Some.view.rows c.in-Some.view.inner v c.requires.kept, c.dims.ensures.limits.product)

pub returns-in-Some : goal.returns-in-Some
returns-in-Some c =
    let v : IsView 0 c.args.block.now.shape c.args.axes.now c.in-Some.view.outer c.in-Some.view.rows c.in-Some.view.inner =
    subst (λ ns. IsView 0 ns c.args.axes.now c.in-Some.view.outer c.in-Some.view.rows c.in-Some.view.inner) (c.dims-2.ensures.dims ∙ c.shape.ensures.value) c.in-Some.ensures in
    view-taken c.args.fold c.args.axes.now c.args.shape.now c.args.block.now c.in-Some.view.outer c.in-Some.view.rows c.in-Some.view.inner c.cells-in-Some.result.now c.args.totals.now c.fold_parts_by.new.totals v c.requires.kept
    c.cells-in-Some.ensures.value c.fold_parts_by.ensures
