use Rattle.std.proofs.Common.{◌≡◌, ◌<◌, map}
use Rattle.std.specs.List.{AllByRecursion, range_with_len}
use Rattle.lowering_laws.specs.Sources.{key_of}
use Rattle.block_lowering.proofs.finish.keys_of_blocks.Given as goal

abbrev pub invariant-loop-block : goal.invariant-loop-block
invariant-loop-block l = record {
  value : l.keys.items ≡ map (key_of l.source) (range_with_len 0 l.block);
  there : AllByRecursion (λ k. k < l.bound) l.keys.items;
}
