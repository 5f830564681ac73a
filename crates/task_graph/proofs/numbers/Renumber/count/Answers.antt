use Rattle.std.proofs.Common.{◌≤◌, length, arith}
use Rattle.task_graph.proofs.Numbered.{below-count}
use Rattle.task_graph.proofs.numbers.Renumber.count.Goals as goal

pub overflow_cast-result : goal.overflow_cast-result
overflow_cast-result c =
    let b : length c.self.inside.order.items ≤ length c.self.inside.places.items = below-count c.self.inside.order.items (length c.self.inside.places.items) c.self.invariant.below c.self.invariant.once in
    let f : length c.self.inside.places.items ≤ 32768 = c.self.invariant.few in
    rw c.as_slice.ensures.value (omega (arith, b, f))
