-- The rows of a `WorkerTable`, with one that is derived: how many pending tasks depend on each key.
use Rattle.std.specs.Prelude.{◌≡◌, ℕ, length}
use Rattle.cluster_msgs.specs.Shape.{key_count}
use Rattle.fact_rows.specs.Rows.{read}
use Rattle.worker_facts.specs.Stored.{Stored, IsStored, pends, waiters}
use Rattle.worker_facts.specs.declared.table.WorkerTable.TheInside.{Inside}

abbrev pub stored : Inside → Stored
stored a = record {
  shape = a.shape;
  id = a.id;
  threads = a.threads;
  seen = a.seen;
  mine = a.mine;
  mem = a.mem;
  running = a.running;
  asks = a.asks.asks;
  holders = a.holders.items;
  asked = a.asked;
  sought = a.sought;
  failed = a.failed;
  next_ask = a.next_ask;
}

pub record IsTable (a : Inside) : Type 0 where
  pub rows : IsStored (stored a)
  pub wide : a.asks.wide ≡ key_count a.shape
  pub awaiting_each : length a.awaiting ≡ key_count a.shape
  pub awaiting : (k : ℕ) → read a.awaiting 0 k ≡ waiters a.shape (pends a.mine a.running) k
