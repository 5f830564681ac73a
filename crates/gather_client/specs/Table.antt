-- The rows of a `ClientTable`.
use Rattle.std.specs.Prelude.{◌≡◌, ◌<◌, ℕ, [], length}
use Rattle.cluster_msgs.specs.Shape.{key_count}
use Rattle.fact_rows.specs.Rows.{read}
use Rattle.gather_client.specs.Peers.{names, holds}
use Rattle.gather_client.specs.Stored.{Stored, IsStored}
use Rattle.gather_client.specs.declared.table.ClientTable.TheInside.{Inside}

abbrev pub stored : Inside → Stored
stored a = record {
  shape = a.shape;
  wants = a.wants;
  located = a.located.items;
  asks = a.asks.asks;
  got = a.got;
  failed = a.failed;
  next_ask = a.next_ask;
}

-- the asks and the sets are over as many keys as the rows, and the set of each peer that has a place has the keys that it is known to hold
pub record IsTable (a : Inside) : Type 0 where
  pub rows : IsStored (stored a)
  pub wide : a.asks.wide ≡ key_count a.shape
  pub over : a.peers.keys ≡ key_count a.shape
  pub held : (p k : ℕ) → p < length a.peers.sets → holds a.peers p k ≡ names p (read a.located.items [] k)
