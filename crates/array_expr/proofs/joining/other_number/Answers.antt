use Rattle.std.proofs.Common.{List, ℕ, [], length, map, arith, sym, ◌∙◌}
use Rattle.std.proofs.lemmas.List.{length-map}
use Rattle.array_expr.specs.Node.{shape_at}
use Rattle.array_expr.proofs.Joined.{operand-shape, operand-count, same-more, same-all}
use Rattle.array_expr.proofs.joining.other_number.Goals as goal

pub loop-node-preserved : goal.loop-node-preserved
loop-node-preserved c =
    let at = operand-shape c.args.nodes.now c.args.of.now c.loop-node.node-index c.node-item.result [] c.loop-node-test.true c.node-item.is ∙ sym c.dims_of.ensures.dims in
    same-more (λ (ns : List ℕ). length ns) (map (shape_at c.args.nodes.now) c.args.of.now) c.loop-node.node-index c.dims_of.result.now c.args.axes (operand-count c.args.nodes.now c.args.of.now c.loop-node.node-index c.loop-node-test.true) at c.if-other-axes.false c.loop-node.invariant

pub returns : goal.returns
returns c =
    same-all (λ (ns : List ℕ). length ns) (map (shape_at c.args.nodes.now) c.args.of.now) c.loop-node.node-index c.args.axes (omega (arith, length-map c.args.of.now (shape_at c.args.nodes.now))) c.loop-node.invariant
