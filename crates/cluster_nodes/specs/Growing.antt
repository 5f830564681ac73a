-- Nodes that grow by one worker.
use Rattle.std.specs.Prelude.{◌≡◌, ◌++◌, ◌∷◌, [], ℕ, List}
use Rattle.cluster_msgs.specs.Shape.{Shape}
use Rattle.cluster_rules.specs.Worker.{new_worker}
use Rattle.worker_core.specs.Core.{Core, facts}

-- behind the cores stands one more, which is new
pub record HasCore (g : Shape) (id threads : ℕ) (old new : List Core) : Type 0 where
  pub added : Core
  pub cores : new ≡ old ++ added ∷ []
  pub starts : facts added ≡ new_worker g id threads
  pub fresh : added.events ≡ 0
