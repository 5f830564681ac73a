use Rattle.std.proofs.Common.{take}
use Rattle.lowering_laws.specs.Built.{AreBuilt}
use Rattle.lowering_laws.proofs.values.numbers_fit.Given as goal

abbrev pub invariant-loop-node : goal.invariant-loop-node
invariant-loop-node l = AreBuilt (take l.node-index l.nodes)
