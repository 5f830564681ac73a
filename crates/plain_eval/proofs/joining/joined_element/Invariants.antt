use Rattle.plain_eval.proofs.Concatenated.{Joining}
use Rattle.plain_eval.proofs.joining.joined_element.Given as goal

abbrev pub invariant-loop-node : goal.invariant-loop-node
invariant-loop-node l = Joining l.known l.of l.axis l.index l.own l.node-index
