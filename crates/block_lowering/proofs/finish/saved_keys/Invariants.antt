use Rattle.std.proofs.Common.{◌≡◌, map, take}
use Rattle.task_graph.specs.Orders.{position}
use Rattle.block_lowering.proofs.finish.saved_keys.Given as goal

abbrev pub invariant-loop-keys : goal.invariant-loop-keys
invariant-loop-keys l = l.saved.items ≡ map (λ ks. map (position l.numbers.order) ks) (take l.keys-index l.wanted)
