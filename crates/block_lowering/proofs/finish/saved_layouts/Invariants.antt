use Rattle.std.proofs.Common.{◌≡◌, map, take}
use Rattle.lowering_laws.specs.Lowered.{source_at}
use Rattle.block_lowering.proofs.finish.saved_layouts.Given as goal

abbrev pub invariant-loop-node : goal.invariant-loop-node
invariant-loop-node l = l.layouts.items ≡ map (λ n. (source_at l.sources n).layout) (take l.node-index l.saves)
