use Rattle.std.proofs.Common.{◌≡◌, map, take, get_or, []}
use Rattle.task_graph.specs.Orders.{position}
use Rattle.lowering_laws.specs.Stages.{keys_used, shapes_used}
use Rattle.block_lowering.proofs.uses.Uses.inputs.Given as goal

abbrev pub invariant-loop-key : goal.invariant-loop-key
invariant-loop-key l = l.shapes.items ≡ map (λ k. get_or (shapes_used l.self) (position (keys_used l.self) k) []) (take l.key-index l.key-items)
