-- The inputs of a task that uses several keys.
use Rattle.std.proofs.Common.{◌≡◌, ℕ, ◌<◌, List, [], length, map, get_or, arith, Some, ℤ}
use Rattle.std.specs.Prelude.{Contains}
use Rattle.std.proofs.lemmas.List.{length-map}
use Rattle.nd_shape.specs.Block.{Array}
use Rattle.nd_grid.proofs.Turning.{position-below, position-at}
use Rattle.cluster_msgs.specs.Values.{all_of}
use Rattle.task_graph.specs.declared.graph.Task.{Task}
use Rattle.task_graph.specs.Graphs.{value}
use Rattle.task_graph.specs.Orders.{position}
use Rattle.task_graph.proofs.Keys.{ascending-has}
use Rattle.task_graph.proofs.Making.{InputIs, input-at}
use Rattle.lowering_laws.specs.Stages.{Use, keys_used, shapes_used, deps_of_uses, place_among, inputs_among}

-- the input at the place of a key is its value
pub use-at : (files : ℕ → List ℕ → ℤ) (tasks : List Task) (uses : List Use) (blocks : List Array) (key : ℕ) → all_of (map (value files tasks) (deps_of_uses uses)) ≡ Some blocks → Contains (keys_used uses) key
    → InputIs files tasks blocks (place_among uses key) key
use-at files tasks uses blocks key v c =
    let a : Contains (deps_of_uses uses) key = ascending-has (keys_used uses) key c in
    input-at files tasks (deps_of_uses uses) blocks (place_among uses key) key v (position-below (deps_of_uses uses) key a) (position-at (deps_of_uses uses) key a)

-- the place of a key that is used is one of the inputs
pub place-below : (uses : List Use) (key : ℕ) → Contains (keys_used uses) key → place_among uses key < length (inputs_among uses)
place-below uses key c =
    let b : place_among uses key < length (deps_of_uses uses) = position-below (deps_of_uses uses) key (ascending-has (keys_used uses) key c) in
    omega (arith, length-map (deps_of_uses uses) (λ k. get_or (shapes_used uses) (position (keys_used uses) k) []))
