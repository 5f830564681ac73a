use Rattle.std.proofs.Common.{◌<◌, length, arith}
use Rattle.array_expr.proofs.Growing.{expression-more}
use Rattle.array_expr.proofs.expr.Expr.add_node.Goals as goal

pub invariant_of-self-2 : goal.invariant_of-self-2
invariant_of-self-2 c =
    let room : length c.self.inside.nodes.items < 65536 = omega arith in
    rw c.in_ok-push.ensures.items (expression-more c.self.inside.nodes.items c.in_ok-node.node c.self.invariant room (rw c.as_slice.ensures.value at c.in_ok-node.ensures.ok.1))
