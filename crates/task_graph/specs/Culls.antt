-- Marks of keys that are needed.
use Rattle.std.specs.Prelude.{◌≡◌, ℕ, ◌<◌, ◌||◌, ◌&&◌, Bool, false, cond, List, [], ◌∷◌, length, slice_index_or}
use Rattle.std.specs.List.{filter, range_with_len}
use Rattle.cluster_msgs.specs.Shape.{deps_of}
use Rattle.cluster_msgs.specs.Values.{needed}
use Rattle.task_graph.specs.declared.graph.Task.{Task}
use Rattle.task_graph.specs.Graphs.{shape_of}
use Rattle.task_graph.specs.Orders.{is_in}

abbrev pub mark_at : List Bool → ℕ → Bool
mark_at marks k = slice_index_or marks k false

-- these keys are marked beside what was marked
pub record AreMarked (old : List Bool) (keys : List ℕ) (new : List Bool) : Type 0 where
  pub count : length new ≡ length old
  pub each : (k : ℕ) → mark_at new k ≡ (mark_at old k || is_in keys k)

-- these are, if the key is marked
pub record IsMarked (old : List Bool) (key : ℕ) (deps : List ℕ) (new : List Bool) : Type 0 where
  pub count : length new ≡ length old
  pub each : (k : ℕ) → mark_at new k ≡ (mark_at old k || (mark_at old key && is_in deps k))

-- each key is marked exactly where it is needed
pub record AreNeeded (tasks : List Task) (wanted : List ℕ) (marks : List Bool) : Type 0 where
  pub count : length marks ≡ length tasks
  pub each : (k : ℕ) → k < length tasks → mark_at marks k ≡ needed (deps_of (shape_of tasks)) wanted k

abbrev pub listed_if : ℕ → Bool → List ℕ
listed_if k b = cond b (k ∷ []) []

-- the marked keys in their order
abbrev pub marked_keys : List Bool → List ℕ
marked_keys marks = filter (mark_at marks) (range_with_len 0 (length marks))
