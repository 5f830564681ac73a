use Rattle.block_lowering.proofs.Ready.{IsLoweredTo}
use Rattle.block_lowering.proofs.expression.lower_nodes.Given as goal

abbrev pub invariant-loop-node : goal.invariant-loop-node
invariant-loop-node l = IsLoweredTo l.nodes l.node-index l.made l.inputs
