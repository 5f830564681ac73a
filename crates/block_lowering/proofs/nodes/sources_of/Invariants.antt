use Rattle.std.proofs.Common.{◌≡◌, map, take}
use Rattle.lowering_laws.specs.Lowered.{source_at}
use Rattle.block_lowering.proofs.nodes.sources_of.Given as goal

abbrev pub invariant-loop-node : goal.invariant-loop-node
invariant-loop-node l = l.list.items ≡ map (source_at l.sources) (take l.node-index l.nodes)
