use Rattle.std.proofs.Common.{◌≡◌, ◌+◌, ◌<◌, ◌++◌, ◌∷◌, [], ℕ, List, length, map, get_or, set, sym, ap, subst, ◌∙◌, Some, None}
use Rattle.std.specs.Prelude.{Option, slice_index_or}
use Rattle.std.specs.List.{AllByRecursion}
use Rattle.task_graph.specs.declared.graph.Task.{Task}
use Rattle.task_graph.specs.Graphs.{task_at}
use Rattle.task_graph.specs.Orders.{position, moved_task}
use Rattle.task_graph.proofs.Moving.{IsMoving, IsTaken, moving-taken, moving-on}
use Rattle.task_graph.proofs.moves.moved_all.Goals as goal

pub moved-requires-clause-few : goal.moved-requires-clause-few
moved-requires-clause-few c =
    (moving-taken c.args.tasks.items c.args.numbers.now.order c.loop-key.key-index c.loop-key.new.items c.loop-key.slots.items c.args.numbers.now.keys c.taken-task.result c.requires.shape c.requires.whole c.loop-key.invariant c.requires.closed c.sound.ensures.below
    (subst (λ (o : List ℕ). c.loop-key.key-index < length o) c.order-order.ensures c.loop-key-test.true)
    (subst (λ (o : List ℕ). slice_index_or c.loop-key.slots.items (get_or o c.loop-key.key-index 0) None ≡ Some c.taken-task.result) c.order-order.ensures c.taken-task.ensures.task)).movable_deps.few

pub moved-requires-clause-there : goal.moved-requires-clause-there
moved-requires-clause-there c =
    (moving-taken c.args.tasks.items c.args.numbers.now.order c.loop-key.key-index c.loop-key.new.items c.loop-key.slots.items c.args.numbers.now.keys c.taken-task.result c.requires.shape c.requires.whole c.loop-key.invariant c.requires.closed c.sound.ensures.below
    (subst (λ (o : List ℕ). c.loop-key.key-index < length o) c.order-order.ensures c.loop-key-test.true)
    (subst (λ (o : List ℕ). slice_index_or c.loop-key.slots.items (get_or o c.loop-key.key-index 0) None ≡ Some c.taken-task.result) c.order-order.ensures c.taken-task.ensures.task)).movable_deps.there

pub moved-requires-clause-kept : goal.moved-requires-clause-kept
moved-requires-clause-kept c =
    (moving-taken c.args.tasks.items c.args.numbers.now.order c.loop-key.key-index c.loop-key.new.items c.loop-key.slots.items c.args.numbers.now.keys c.taken-task.result c.requires.shape c.requires.whole c.loop-key.invariant c.requires.closed c.sound.ensures.below
    (subst (λ (o : List ℕ). c.loop-key.key-index < length o) c.order-order.ensures c.loop-key-test.true)
    (subst (λ (o : List ℕ). slice_index_or c.loop-key.slots.items (get_or o c.loop-key.key-index 0) None ≡ Some c.taken-task.result) c.order-order.ensures c.taken-task.ensures.task)).movable_deps.kept

pub moved-requires-clause-once : goal.moved-requires-clause-once
moved-requires-clause-once c =
    (moving-taken c.args.tasks.items c.args.numbers.now.order c.loop-key.key-index c.loop-key.new.items c.loop-key.slots.items c.args.numbers.now.keys c.taken-task.result c.requires.shape c.requires.whole c.loop-key.invariant c.requires.closed c.sound.ensures.below
    (subst (λ (o : List ℕ). c.loop-key.key-index < length o) c.order-order.ensures c.loop-key-test.true)
    (subst (λ (o : List ℕ). slice_index_or c.loop-key.slots.items (get_or o c.loop-key.key-index 0) None ≡ Some c.taken-task.result) c.order-order.ensures c.taken-task.ensures.task)).movable_deps.once

pub loop-key-preserved : goal.loop-key-preserved
loop-key-preserved c =
    let lt : c.loop-key.key-index < length c.args.numbers.now.order = subst (λ (o : List ℕ). c.loop-key.key-index < length o) c.order-order.ensures c.loop-key-test.true in
    let below : AllByRecursion (λ k. k < length c.args.tasks.items) c.args.numbers.now.order = subst (λ n. AllByRecursion (λ k. k < n) c.args.numbers.now.order) c.requires.whole c.sound.ensures.below in
    let t : IsTaken c.args.tasks.items c.args.numbers.now.order c.loop-key.key-index c.args.numbers.now.keys c.taken-task.result =
    moving-taken c.args.tasks.items c.args.numbers.now.order c.loop-key.key-index c.loop-key.new.items c.loop-key.slots.items c.args.numbers.now.keys c.taken-task.result c.requires.shape c.requires.whole c.loop-key.invariant c.requires.closed c.sound.ensures.below lt
    (subst (λ (o : List ℕ). slice_index_or c.loop-key.slots.items (get_or o c.loop-key.key-index 0) None ≡ Some c.taken-task.result) c.order-order.ensures c.taken-task.ensures.task) in
    let p : c.push.new.self.items ≡ c.loop-key.new.items ++ moved_task (map (position c.args.numbers.now.order) (task_at c.args.tasks.items (get_or c.args.numbers.now.order c.loop-key.key-index 0)).deps) (task_at c.args.tasks.items (get_or c.args.numbers.now.order c.loop-key.key-index 0)) ∷ [] =
    c.in_ok-push.ensures.items
    ∙ ap (λ (x : Task). c.loop-key.new.items ++ x ∷ []) (c.in_ok-moved.ensures ∙ ap (λ (u : Task). moved_task (map (position c.args.numbers.now.order) u.deps) u) t.task_is) in
    let s : c.taken-task.new.slots.items ≡ set c.loop-key.slots.items (get_or c.args.numbers.now.order c.loop-key.key-index 0) None =
    c.taken-task.ensures.rest ∙ ap (λ (o : List ℕ). set c.loop-key.slots.items (get_or o c.loop-key.key-index 0) None) c.order-order.ensures in
    subst (λ (new : List Task). IsMoving c.args.tasks.items c.args.numbers.now.order (c.loop-key.key-index + 1) new c.taken-task.new.slots.items) (sym p)
    (subst (λ (slots : List (Option Task)). IsMoving c.args.tasks.items c.args.numbers.now.order (c.loop-key.key-index + 1) (c.loop-key.new.items ++ moved_task (map (position c.args.numbers.now.order) (task_at c.args.tasks.items (get_or c.args.numbers.now.order c.loop-key.key-index 0)).deps) (task_at c.args.tasks.items (get_or c.args.numbers.now.order c.loop-key.key-index 0)) ∷ []) slots) (sym s)
    (moving-on c.args.tasks.items c.args.numbers.now.order c.loop-key.key-index c.loop-key.new.items c.loop-key.slots.items c.loop-key.invariant c.requires.closed below lt))
