-- The keys that an event may take from those that a node counts.
use Rattle.std.specs.Prelude.{ℕ, List, [], ◌∷◌}
use Rattle.cluster_msgs.specs.declared.messages.Down.{Down}
use Rattle.cluster_msgs.specs.declared.messages.Down.TheVariants.{FreeKeys, RemoveReplicas}
use Rattle.cluster_msgs.specs.declared.cores.WorkerEvent.{WorkerEvent}
use Rattle.cluster_msgs.specs.declared.cores.WorkerEvent.TheVariants.{Down as Told, DataLost}
use Rattle.cluster_msgs.specs.declared.cores.ClientEvent.{ClientEvent}
use Rattle.cluster_msgs.specs.declared.cores.ClientEvent.TheVariants.{Release}

abbrev pub freed_by : Down → List ℕ
freed_by (FreeKeys ks) = ks
freed_by (RemoveReplicas ks) = ks
freed_by _ = []

-- from a worker's memory
abbrev pub lost_by : WorkerEvent → List ℕ
lost_by (Told m) = freed_by m
lost_by (DataLost k) = k ∷ []
lost_by _ = []

-- from what a client has got
abbrev pub released_by : ClientEvent → List ℕ
released_by (Release ks) = ks
released_by _ = []
