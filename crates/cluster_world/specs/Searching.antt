-- The search for the enabled event of a number, over events in their order.
use Rattle.std.specs.Prelude.{◌≡◌, ℕ, ◌-◌, ◌<◌, ◌≤◌, ◌==◌, Bool, true, false, not, ◌&&◌, List, [], ◌∷◌, Option, Some, None, map, cond}
use Rattle.std.specs.List.{flat_map}
use Rattle.cluster_msgs.specs.Shape.{key_count}
use Rattle.cluster_msgs.specs.declared.events.Asker.{Asker}
use Rattle.cluster_msgs.specs.declared.events.Asker.TheVariants.{Worker}
use Rattle.cluster_msgs.specs.declared.events.Event.{Event}
use Rattle.cluster_msgs.specs.declared.events.Event.TheVariants as event
use Rattle.cluster_rules.specs.Derived.{below}
use Rattle.cluster_rules.specs.World.{World, Parcel, shape_of, all_workers, is_connected}
use Rattle.cluster_rules.specs.Enabled.{enabled, is_quiet_asker}
use Rattle.cluster_world.specs.declared.search.Search.{Search}
use Rattle.cluster_world.specs.declared.search.Search.TheVariants.{Passing, Found}
use Rattle.cluster_world.specs.declared.progress.Kind.{Kind}
use Rattle.cluster_world.specs.declared.progress.Kind.TheVariants.{SeeLoss, DeliverDown, DeliverUp, DeliverToClient, DeliverFromClient, Start}

abbrev pub next : Search → Bool → Event → Search
next (Passing n) on e = cond on (cond (n == 0) (Found e) (Passing (n - 1))) (Passing n)
next (Found x) on e = Found x

abbrev pub searched : (Event → Bool) → Search → List Event → Search
searched on s [] = s
searched on s (e ∷ es) = searched on (next s (on e) e) es

abbrev pub is_found : Search → Bool
is_found (Passing n) = false
is_found (Found e) = true

-- how many are still to be passed
abbrev pub left : Search → ℕ
left (Passing n) = n
left (Found e) = 0

abbrev pub found : Search → Option Event
found (Passing n) = None
found (Found e) = Some e

-- the kinds whose events are of one worker or one client each
abbrev pub event_of : Kind → ℕ → Event
event_of SeeLoss i = event.SeeLoss i
event_of DeliverDown i = event.DeliverDown i
event_of DeliverUp i = event.DeliverUp i
event_of DeliverToClient c = event.DeliverToClient c
event_of DeliverFromClient c = event.DeliverFromClient c
event_of Start i = event.Start i

abbrev pub is_of_connected : Kind → Bool
is_of_connected SeeLoss = false
is_of_connected DeliverDown = true
is_of_connected DeliverUp = true
is_of_connected DeliverToClient = false
is_of_connected DeliverFromClient = false
is_of_connected Start = true

abbrev pub node_events : World → Kind → ℕ → List Event
node_events w kind i = cond (is_of_connected kind && not (is_connected w i)) [] (event_of kind i ∷ [])

-- a connected worker's tasks finish
abbrev pub finish_events : World → ℕ → List Event
finish_events w i = cond (is_connected w i) (map (λ k. event.Finish i k) (below (key_count (shape_of w)))) []

-- the task of a key can finish at a worker, and none from the first key up to it
pub record IsLeastFinish (w : World) (i first key : ℕ) : Type 0 where
  pub past : first ≤ key
  pub there : key < key_count (shape_of w)
  pub finishes : enabled w (event.Finish i key) ≡ true
  pub before : (k : ℕ) → first ≤ k → k < key → enabled w (event.Finish i k) ≡ false

-- the least key from this one on whose task can finish at a worker
abbrev pub IsNextFinish : World → ℕ → ℕ → Option ℕ → Type 0
IsNextFinish w i first None = (k : ℕ) → first ≤ k → enabled w (event.Finish i k) ≡ false
IsNextFinish w i first (Some key) = IsLeastFinish w i first key

-- an asker asks a peer, or an ask to a dead one fails
abbrev pub ask_events : World → Bool → Asker → ℕ → List Event
ask_events w true a p = cond (w.alive p) [] (event.FailGather a p ∷ [])
ask_events w false a p = event.SendGather a p ∷ []

abbrev pub asks_of : World → Bool → Asker → List Event
asks_of w failing a = flat_map (ask_events w failing a) (all_workers w)

-- those of a connected worker
abbrev pub worker_asks : World → Bool → ℕ → List Event
worker_asks w failing i = cond (is_connected w i) (asks_of w failing (Worker i)) []

-- the asker, the peer and the number of what is under way
abbrev pub name_of : Parcel → Asker × ℕ × ℕ
name_of q = (q.asker, q.peer, q.ask)

-- a request is served, and an answer arrives
abbrev pub serve_events : Asker × ℕ × ℕ → List Event
serve_events t = event.ServeGather t.1 t.0 t.2 ∷ []

abbrev pub answer_events : World → Asker × ℕ × ℕ → List Event
answer_events w t = cond (is_quiet_asker w t.0) (event.ArriveGather t.0 t.1 t.2 ∷ []) []
