use Rattle.std.proofs.Common.{◌≡◌, ◌+◌, ◌^◌, ◌<◌, [], length, map, get_or, arith, ap, sym, ◌∙◌}
use Rattle.std.specs.Prelude.{min}
use Rattle.std.proofs.lemmas.List.{take_all, length-map}
use Rattle.array_expr.specs.Node.{shape_at, length_on_axis}
use Rattle.array_expr.proofs.Joined.{operand-shape, operand-count, operand-axis, length_on_axis-more}
use Rattle.array_expr.proofs.joining.length_along.Goals as goal

pub bounds-dims_of-axis : goal.bounds-dims_of-axis
bounds-dims_of-axis c =
    operand-axis c.args.nodes.now c.args.of.now c.loop-node.node-index c.node-item.result c.args.axis c.dims_of.result.now c.loop-node-test.true c.node-item.is c.dims_of.ensures.dims c.requires.axes

pub offset_bounds-dims_of-axis : goal.offset_bounds-dims_of-axis
offset_bounds-dims_of-axis c =
    let b : c.args.axis < length c.dims_of.result.now = operand-axis c.args.nodes.now c.args.of.now c.loop-node.node-index c.node-item.result c.args.axis c.dims_of.result.now c.loop-node-test.true c.node-item.is c.dims_of.ensures.dims c.requires.axes in
    omega (arith, c.dims_of.ensures.limits.axes)

pub loop-node-preserved : goal.loop-node-preserved
loop-node-preserved c =
    let at = operand-shape c.args.nodes.now c.args.of.now c.loop-node.node-index c.node-item.result [] c.loop-node-test.true c.node-item.is in
    let len : get_or (get_or (map (shape_at c.args.nodes.now) c.args.of.now) c.loop-node.node-index []) c.args.axis 0 ≡ get_or c.dims_of.result.now c.args.axis 0 = ap (λ ns. get_or ns c.args.axis 0) (at ∙ sym c.dims_of.ensures.dims) in
    let more = length_on_axis-more c.args.axis (map (shape_at c.args.nodes.now) c.args.of.now) c.loop-node.node-index (operand-count c.args.nodes.now c.args.of.now c.loop-node.node-index c.loop-node-test.true) in
    omega (arith, c.min-sum.ensures, c.loop-node.invariant, len, more)

pub returns : goal.returns
returns c =
    c.loop-node.invariant ∙ ap (λ shapes. min (length_on_axis c.args.axis shapes) (2 ^ 31 + 1)) (take_all c.loop-node.node-index (map (shape_at c.args.nodes.now) c.args.of.now) (omega (arith, length-map c.args.of.now (shape_at c.args.nodes.now))))
