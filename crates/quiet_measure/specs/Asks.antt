-- What holds of asks and of what is under way for them.
use Rattle.std.specs.Prelude.{◌≡◌, ℕ, ◌<◌, ◌≤◌, true, Some, length}
use Rattle.std.specs.List.{AllByRecursion}
use Rattle.cluster_msgs.specs.Shape.{key_count}
use Rattle.cluster_msgs.specs.declared.events.Asker.{Asker}
use Rattle.cluster_rules.specs.Worker.{Ask, has_any}
use Rattle.cluster_rules.specs.WorkerStep.{keys_of}
use Rattle.cluster_rules.specs.World.{World, Parcel, open_ask, shape_of}
use Rattle.quiet_measure.specs.Turns.{next_ask_of, asks_of, PeersDiffer}

-- a request names the keys of the ask that it belongs to
abbrev pub IsOfAsk : World → Parcel → Type 0
IsOfAsk w q = (a : Ask) → open_ask w q.asker q.peer ≡ Some a → a.number ≡ q.ask → keys_of a.items ≡ q.keys

-- the number of the next ask is above those of all asks that were made
abbrev pub IsNumbered : World → Parcel → Type 0
IsNumbered w q = q.ask < next_ask_of w q.asker

pub record AreAsks (w : World) : Type 0 where
  pub ids : (i : ℕ) → w.alive i ≡ true → (w.workers i).id ≡ i
  -- a worker that hasn't joined has asked nothing
  pub first : (i : ℕ) → w.sched.last_worker < i → (w.workers i).next_ask ≤ 1
  pub requests : AllByRecursion (IsOfAsk w) w.requests
  pub sent : AllByRecursion (IsNumbered w) w.requests
  pub answered : AllByRecursion (IsNumbered w) w.answers
  pub differ : (a : Asker) → PeersDiffer (asks_of w a)
  pub some : (a : Asker) (p : ℕ) (q : Ask) → open_ask w a p ≡ Some q → has_any q.items ≡ true
  -- no ask names more keys than there are
  pub short : (a : Asker) → AllByRecursion (λ (q : Ask). length q.items ≤ key_count (shape_of w)) (asks_of w a)
