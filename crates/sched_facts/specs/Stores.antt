-- The rows of a `FactStore`.
use Rattle.sched_facts.specs.Stored.{Stored, IsStored}
use Rattle.sched_facts.specs.declared.store.FactStore.TheInside.{Inside}

abbrev pub stored : Inside → Stored
stored a = record {
  setting = record { shape = a.shape; clients = a.clients; saturation = a.saturation; allowed = a.allowed };
  want = a.want;
  has = a.has;
  on = a.on;
  steal = a.steal;
  bad = a.bad;
  losses = a.losses;
  threads = a.threads;
  sent = a.sent;
  fence = a.fence;
  room = a.room;
  last_worker = a.last;
  counter = a.counter;
  finishes = a.finishes;
}

abbrev pub IsInOrder : Inside → Type 0
IsInOrder a = IsStored (stored a)
