-- What a `WorkerTable` keeps beside the facts.
use Rattle.std.specs.Prelude.{◌≡◌, ℕ, ◌≤◌, List}
use Rattle.cluster_msgs.specs.Shape.{key_count}
use Rattle.cluster_rules.specs.Worker.{WorkerFacts, running_count}
use Rattle.worker_table.specs.Links.{IsLinked}
use Rattle.worker_table.specs.Parts.{parts}
use Rattle.worker_table.specs.Plan.{IsAt, IsNowhere, HasRoom}
use Rattle.worker_table.specs.declared.plan.Plan.{Plan}

-- the lists name the dependents of each key, each key of the graph is in the sets that it belongs to, no other number is in one, and so
-- many tasks run
pub record Fits (f : WorkerFacts) (lists : List (List ℕ)) (p : Plan) (n : ℕ) : Type 0 where
  pub linked : IsLinked f.shape lists
  pub room : HasRoom (key_count f.shape) p
  pub at : (k : ℕ) → IsAt (parts f k) p k
  pub outside : (k : ℕ) → key_count f.shape ≤ k → IsNowhere p k
  pub count : n ≡ running_count f
