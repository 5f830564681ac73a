use Rattle.std.proofs.Common.{◌≡◌, map, take}
use Rattle.task_graph.specs.Orders.{position}
use Rattle.block_lowering.proofs.finish.numbers_now.Given as goal

abbrev pub invariant-loop-key : goal.invariant-loop-key
invariant-loop-key l = l.new.items ≡ map (position l.numbers.order) (take l.key-index l.keys)
