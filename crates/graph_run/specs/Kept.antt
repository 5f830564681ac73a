-- What an evaluation keeps.
use Rattle.std.specs.Prelude.{◌≡◌, ◌≤◌, ℕ, List, Option, Some}
use Rattle.std.specs.declared.sync.Arc.{Arc}
use Rattle.std.specs.declared.alloc.Global.{Global}
use Rattle.cluster_msgs.specs.Shape.{Shape, key_count, deps_of}
use Rattle.cluster_msgs.specs.Values.{val}
use Rattle.graph_run.specs.Evaluations.{HaveValues}
use Rattle.graph_run.specs.Uses.{AreLastUses}
use Rattle.graph_run.specs.Slots.{block_at, AreKept}

-- each block that is kept has the lengths of its key
abbrev pub HaveDims : {B : Type 0} → (B → List ℕ) → (ℕ → List ℕ) → List (Option (Arc B Global)) → Type 0
HaveDims {B} block_dims key_dims slots = (k : ℕ) (b : B) → block_at slots k ≡ Some b → block_dims b ≡ key_dims k

-- each block that is kept is the value of its key
abbrev pub AreValues : {B : Type 0} → (ℕ → List ℕ) → (ℕ → List B → Option B) → List (Option (Arc B Global)) → Type 0
AreValues {B} deps op slots = (k : ℕ) (b : B) → block_at slots k ≡ Some b → val deps op k ≡ Some b

-- what holds of each evaluation
pub record IsEvaluation {J B F : Type 0} (graph : J → Shape) (key_dims : J → ℕ → List ℕ) (block_dims : B → List ℕ) (operation : J → ℕ → List B → Option B) (feed_fits feed_tells : J → F → Type 0)
    (job : J) (feed : F) (next : ℕ) (last : List ℕ) (slots : List (Option (Arc B Global))) : Type 0 where
  pub fits : feed_fits job feed
  pub within : next ≤ key_count (graph job)
  pub uses : AreLastUses (deps_of (graph job)) (key_count (graph job)) last
  pub kept : AreKept last next slots
  pub dims : HaveDims block_dims (key_dims job) slots
  pub before : feed_tells job feed → HaveValues (deps_of (graph job)) (operation job) next
  pub values : feed_tells job feed → AreValues (deps_of (graph job)) (operation job) slots

-- the same over whatever files hold that gave what the feed read
pub record IsTraced {J B F H N : Type 0} (graph : J → Shape) (agrees : F → H → Type 0) (has : J → F → H → N → Type 0) (made_of : J → N → ℕ → List B → Option B)
    (job : J) (feed : F) (next : ℕ) (slots : List (Option (Arc B Global))) : Type 0 where
  pub before : (holds : H) (named : N) → agrees feed holds → has job feed holds named → HaveValues (deps_of (graph job)) (made_of job named) next
  pub values : (holds : H) (named : N) → agrees feed holds → has job feed holds named → AreValues (deps_of (graph job)) (made_of job named) slots
