use Rattle.std.proofs.Common.{◌<◌, [], length, map, get_or, arith, sym, refl, ◌∙◌}
use Rattle.std.proofs.lemmas.List.{length-map}
use Rattle.array_expr.specs.Node.{shape_at}
use Rattle.array_expr.proofs.Joined.{operand-shape, operand-count, operand-axis, first-other, same-more, same-all}
use Rattle.array_expr.proofs.joining.other_length.Goals as goal

pub bounds-dims_of-axis : goal.bounds-dims_of-axis
bounds-dims_of-axis c =
    operand-axis c.args.nodes.now c.args.of.now c.loop-node.node-index c.node-item.result c.args.axis c.dims_of.result.now c.loop-node-test.true c.node-item.is c.dims_of.ensures.dims c.requires.axes

pub offset_bounds-dims_of-axis : goal.offset_bounds-dims_of-axis
offset_bounds-dims_of-axis c =
    let b : c.args.axis < length c.dims_of.result.now = operand-axis c.args.nodes.now c.args.of.now c.loop-node.node-index c.node-item.result c.args.axis c.dims_of.result.now c.loop-node-test.true c.node-item.is c.dims_of.ensures.dims c.requires.axes in
    omega (arith, c.dims_of.ensures.limits.axes)

pub returns-then-other-len : goal.returns-then-other-len
returns-then-other-len c =
    let at = operand-shape c.args.nodes.now c.args.of.now c.loop-node.node-index c.node-item.result [] c.loop-node-test.true c.node-item.is ∙ sym c.dims_of.ensures.dims in
    first-other (λ ns. get_or ns c.args.axis 0) (map (shape_at c.args.nodes.now) c.args.of.now) c.loop-node.node-index c.dims_of.result.now c.args.len _ (operand-count c.args.nodes.now c.args.of.now c.loop-node.node-index c.loop-node-test.true) at refl c.if-other-len.true c.loop-node.invariant

pub loop-node-preserved : goal.loop-node-preserved
loop-node-preserved c =
    let at = operand-shape c.args.nodes.now c.args.of.now c.loop-node.node-index c.node-item.result [] c.loop-node-test.true c.node-item.is ∙ sym c.dims_of.ensures.dims in
    same-more (λ ns. get_or ns c.args.axis 0) (map (shape_at c.args.nodes.now) c.args.of.now) c.loop-node.node-index c.dims_of.result.now c.args.len (operand-count c.args.nodes.now c.args.of.now c.loop-node.node-index c.loop-node-test.true) at c.if-other-len.false c.loop-node.invariant

pub returns : goal.returns
returns c =
    same-all (λ ns. get_or ns c.args.axis 0) (map (shape_at c.args.nodes.now) c.args.of.now) c.loop-node.node-index c.args.len (omega (arith, length-map c.args.of.now (shape_at c.args.nodes.now))) c.loop-node.invariant
