-- The core of a worker that is alive, or of a client that is there.
use Rattle.std.specs.Prelude.{◌≡◌, ℕ, true, false, Option, Some, None}
use Rattle.cluster_rules.specs.World.{World, is_client}
use Rattle.gather_client.specs.CoreState.{CoreState, client_facts}
use Rattle.worker_core.specs.Core.{Core, facts}

abbrev pub IsWorkerAt : World → ℕ → Option Core → Type 0
IsWorkerAt w i None = w.alive i ≡ false
IsWorkerAt w i (Some c) = (w.alive i ≡ true) × (w.workers i ≡ facts c)

abbrev pub IsClientAt : World → ℕ → Option CoreState → Type 0
IsClientAt w x None = is_client w x ≡ false
IsClientAt w x (Some c) = (is_client w x ≡ true) × (w.clients x ≡ client_facts c)
