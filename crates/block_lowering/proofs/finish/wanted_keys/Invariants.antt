use Rattle.std.proofs.Common.{◌≡◌, ◌<◌, map, take}
use Rattle.std.specs.List.{AllByRecursion}
use Rattle.lowering_laws.specs.Lowered.{source_at, keys_of}
use Rattle.block_lowering.proofs.finish.wanted_keys.Given as goal

abbrev pub invariant-loop-node : goal.invariant-loop-node
invariant-loop-node l = record {
  value : l.wanted.items ≡ map (λ n. keys_of (source_at l.sources n)) (take l.node-index l.saves);
  there : AllByRecursion (AllByRecursion (λ k. k < l.bound)) l.wanted.items;
}
