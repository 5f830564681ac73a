-- Which events of the world are enabled, which message each takes, and which of them are progress.
use Rattle.std.specs.Prelude.{ℕ, nat_lt, Bool, true, not, ◌&&◌, List, [], ◌∷◌, ◌++◌, Option, Some, None, is_some, filter, map, cond}
use Rattle.std.specs.List.{list_all, flat_map}
use Rattle.std.specs.Option.{option_map}
use Rattle.cluster_msgs.specs.Shape.{key_count}
use Rattle.cluster_msgs.specs.declared.messages.Message.{Message}
use Rattle.cluster_msgs.specs.declared.messages.Message.TheVariants.{Down as DownMessage, Up as UpMessage, ToClient as ToClientMessage, FromClient as FromClientMessage, Peer as PeerMessage}
use Rattle.cluster_msgs.specs.declared.messages.Peer.TheVariants.{GetData, Data}
use Rattle.cluster_msgs.specs.declared.cores.SchedEvent.TheVariants.{Join as JoinSched, Balance as BalanceSched, Evict as EvictSched, Replicate as ReplicateSched}
use Rattle.cluster_msgs.specs.declared.events.Asker.{Asker}
use Rattle.cluster_msgs.specs.declared.events.Asker.TheVariants.{Worker, Client}
use Rattle.cluster_msgs.specs.declared.events.Event.{Event}
use Rattle.cluster_msgs.specs.declared.events.Event.TheVariants.{Want, Release, Join, Lose, SeeLoss, Suspect, DeliverDown, DeliverUp, DeliverToClient, DeliverFromClient, Start, Finish, SendGather, ServeGather, ArriveGather, FailGather, Balance, Evict, Replicate, Spill, LoseSpilled}
use Rattle.cluster_rules.specs.Derived.{below}
use Rattle.cluster_rules.specs.SchedTable.{sched_takes}
use Rattle.cluster_rules.specs.Worker.{has_any, would_ask, would_start}
use Rattle.cluster_rules.specs.Client.{client_would_ask}
use Rattle.cluster_rules.specs.World.{World, Parcel, shape_of, all_workers, all_clients, is_connected, is_client, is_asker, open_ask, parcel_of}

-- the keys of a client's own event: some, and each of the graph
abbrev pub are_named : World → List ℕ → Bool
are_named w ks = has_any ks && list_all (λ k. nat_lt k (key_count (shape_of w))) ks

-- the asker may ask this peer
abbrev pub may_ask : World → Asker → ℕ → Bool
may_ask w (Worker i) p = would_ask (w.workers i) p
may_ask w (Client c) p = client_would_ask (w.clients c) p

unfoldable pub enabled : World → Event → Bool
enabled w (Want c ks) = is_client w c && are_named w ks
enabled w (Release c ks) = is_client w c && are_named w ks
enabled w (Join threads) = sched_takes w.sched (JoinSched threads)
enabled w (Lose i) = w.alive i
enabled w (SeeLoss i) = not (w.alive i) && is_connected w i
enabled w (Suspect i) = is_connected w i
enabled w (DeliverDown i) = w.alive i && has_any (w.down i)
enabled w (DeliverUp i) = has_any (w.up i)
enabled w (DeliverToClient c) = has_any (w.to_client c)
enabled w (DeliverFromClient c) = has_any (w.from_client c)
enabled w (Start i) = w.alive i && is_some (would_start (w.workers i))
enabled w (Finish i k) = w.alive i && (w.workers i).running k
enabled w (SendGather a p) = is_asker w a && may_ask w a p
enabled w (ServeGather p a n) = w.alive p && is_some (parcel_of a p n w.requests)
enabled w (ArriveGather a p n) = is_asker w a && is_some (parcel_of a p n w.answers)
enabled w (FailGather a p) = is_asker w a && is_some (open_ask w a p)
enabled w Balance = sched_takes w.sched BalanceSched
enabled w Evict = sched_takes w.sched EvictSched
enabled w (Replicate k i) = sched_takes w.sched (ReplicateSched k i)
enabled w (Spill i k) = w.alive i && ((w.workers i).mem k && not (w.spilled i k))
enabled w (LoseSpilled i k) = w.alive i && w.spilled i k

-- the first member of a list
abbrev pub front : {A : Type 0} → List A → Option A
front [] = None
front (x ∷ xs) = Some x

-- the message that an event takes from a link, or from what is under way
abbrev pub message_at : World → Event → Option Message
message_at w (DeliverDown i) = option_map (λ m. DownMessage m) (front (w.down i))
message_at w (DeliverUp i) = option_map (λ m. UpMessage m) (front (w.up i))
message_at w (DeliverToClient c) = option_map (λ m. ToClientMessage m) (front (w.to_client c))
message_at w (DeliverFromClient c) = option_map (λ m. FromClientMessage m) (front (w.from_client c))
message_at w (ServeGather p a n) = option_map (λ (q : Parcel). PeerMessage (GetData q.ask q.keys)) (parcel_of a p n w.requests)
message_at w (ArriveGather a p n) = option_map (λ (q : Parcel). PeerMessage (Data q.ask q.keys)) (parcel_of a p n w.answers)
message_at w _ = None

unfoldable pub message : World → Event → Option Message
message w e = cond (enabled w e) (message_at w e) None

-- the connected workers, and the askers whose gathers are progress: those, then the clients
abbrev pub connected_workers : World → List ℕ
connected_workers w = filter (is_connected w) (all_workers w)

abbrev pub quiet_askers : World → List Asker
quiet_askers w = map (λ i. Worker i) (connected_workers w) ++ map (λ c. Client c) (all_clients w)

abbrev pub is_quiet_asker : World → Asker → Bool
is_quiet_asker w (Worker i) = is_connected w i
is_quiet_asker w (Client c) = true

-- the events of the kinds that make progress, kind by kind in the order of the table of events, and within a kind by worker, client or
-- asker, then by peer, then by key or ask. What a suspected worker does beside serving blocks is no progress
abbrev pub progress_kinds : World → List (List Event)
progress_kinds w =
    map (λ i. SeeLoss i) (all_workers w)
    ∷ map (λ i. DeliverDown i) (connected_workers w)
    ∷ map (λ i. DeliverUp i) (connected_workers w)
    ∷ map (λ c. DeliverToClient c) (all_clients w)
    ∷ map (λ c. DeliverFromClient c) (all_clients w)
    ∷ map (λ i. Start i) (connected_workers w)
    ∷ flat_map (λ i. map (λ k. Finish i k) (below (key_count (shape_of w)))) (connected_workers w)
    ∷ flat_map (λ a. map (λ p. SendGather a p) (all_workers w)) (quiet_askers w)
    ∷ map (λ (q : Parcel). ServeGather q.peer q.asker q.ask) w.requests
    ∷ map (λ (q : Parcel). ArriveGather q.asker q.peer q.ask) (filter (λ q. is_quiet_asker w q.asker) w.answers)
    ∷ flat_map (λ a. map (λ p. FailGather a p) (filter (λ p. not (w.alive p)) (all_workers w))) (quiet_askers w)
    ∷ []

-- the enabled progress events, in this order
unfoldable pub progress : World → List Event
progress w = filter (enabled w) (flat_map (λ es. es) (progress_kinds w))
