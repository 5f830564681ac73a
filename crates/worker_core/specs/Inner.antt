-- What a `WorkerCore` keeps.
use Rattle.std.specs.Prelude.{◌≡◌, ◌+◌, ◌≤◌, false}
use Rattle.cluster_rules.specs.WorkerKept.{IsKept}
use Rattle.worker_facts.specs.Stored.{facts_of}
use Rattle.worker_core.specs.Core.{Core, RunsFew}
use Rattle.cluster_rules.specs.Runs.{event_limit}
use Rattle.worker_core.specs.Moves.{AreMoves}
use Rattle.worker_core.specs.declared.worker.WorkerCore.TheInside.{Inside}

abbrev pub seen_core : Inside → Core
seen_core a = record { stored = a.table; stopped = a.stopped; events = a.events }

-- which peers hold a key to fetch is worked out. Until it stops, it keeps what each worker keeps, runs no more tasks than it has threads, and has
-- counted no more messages and asks than events
pub record IsCore (a : Inside) : Type 0 where
  pub limit : a.events ≤ event_limit
  pub kept : a.stopped ≡ false → IsKept (facts_of a.table)
  pub runs : a.stopped ≡ false → RunsFew (facts_of a.table)
  pub seen : a.stopped ≡ false → (facts_of a.table).seen ≤ a.events
  pub asks : a.stopped ≡ false → (facts_of a.table).next_ask ≤ a.events + 1
  pub moves : AreMoves (facts_of a.table) a.moves
