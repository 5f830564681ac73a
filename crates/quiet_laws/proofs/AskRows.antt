-- Which asks are open after an event of a worker or a client.
use Rattle.std.proofs.Common.{◌≡◌, ℕ, ◌≤◌, Bool, true, false, cond, not, ◌&&◌, List, [], ◌∷◌, ◌++◌, length, Option, Some, None, refl, sym, ◌∙◌, subst, filter, fold}
use Rattle.std.proofs.Math.Dec.{eqb}
use Rattle.std.specs.List.{AllByRecursion, filter_map, cons_option}
use Rattle.small_facts.proofs.Every.{all_of_filter}
use Rattle.small_facts.proofs.Options.{some_not_none}
use Rattle.cluster_msgs.specs.declared.messages.Down.{Down}
use Rattle.cluster_msgs.specs.declared.messages.Down.TheVariants.{ComputeTask, FreeKeys, StealRequest, RemoveReplicas, AcquireReplicas, RefreshWhoHas}
use Rattle.cluster_msgs.specs.declared.messages.Up.TheVariants.{TaskFinished, TaskErred, MissingData, RequestRefreshWhoHas, ReleaseWorkerData, StealResponse}
use Rattle.cluster_msgs.specs.declared.messages.Up.{Up}
use Rattle.cluster_msgs.specs.declared.messages.FromClient.TheVariants.{Missing}
use Rattle.cluster_msgs.specs.declared.cores.Instruction.TheVariants.{Send, Keep, Drop}
use Rattle.cluster_msgs.specs.declared.cores.WorkerEvent.{WorkerEvent}
use Rattle.cluster_msgs.specs.declared.cores.WorkerEvent.TheVariants.{Down as Told, Start as StartTask, Done, Ask as AskPeer, Gathered, GatherFailed, DataLost}
use Rattle.cluster_msgs.specs.declared.cores.ClientInstruction.TheVariants.{Send as ClientSend}
use Rattle.cluster_msgs.specs.declared.cores.ClientEvent.{ClientEvent}
use Rattle.cluster_msgs.specs.declared.cores.ClientEvent.TheVariants.{Want as WantKeys, Release as ReleaseKeys, FromScheduler, Ask as ClientAsk, Gathered as ClientGathered, GatherFailed as ClientGatherFailed}
use Rattle.cluster_msgs.specs.declared.messages.ToClient.{ToClient}
use Rattle.cluster_msgs.specs.declared.messages.ToClient.TheVariants.{KeyInMemory, LostData, ClientTaskErred}
use Rattle.cluster_msgs.specs.declared.events.Asker.TheVariants.{Client}
use Rattle.cluster_rules.specs.Functions.{put}
use Rattle.cluster_rules.specs.Derived.{is_in}
use Rattle.cluster_rules.specs.Worker.{Ask, WorkerFacts, worker_keys, ask_to, without_ask, awaited, is_wanted, wstate, is_missing_state, would_start}
use Rattle.cluster_rules.specs.WorkerStep.{WorkerStep, quiet, after_out, each_key, taken, set_holders, into_mem, give_up, given, free_key, yields, asked_back, remove_replica, add_message, and_then, remove_replicas, acquire, refresh, take_down, start, Arrivals, arrive_as, arrive, counted, arrived, stopped, erred_as, done, keys_of, lose_holders, not_found, answered_ask, gathered_by, gathered, worker_row, worker_step, unasked_keys, seek_missing}
use Rattle.cluster_rules.specs.Client.{ClientFacts, ClientStep, keeps_still, hear, client_gets, client_misses, missing_message, client_answered, client_gathered_by, client_gathered, client_wants, client_releases, client_step}
use Rattle.cluster_rules.specs.World.{Parcel}
use Rattle.cluster_rules.specs.WorldStep.{client_requested}
use Rattle.safety_laws.proofs.ClientWorld.{distinct_without}
use Rattle.quiet_measure.specs.Turns.{PeersDiffer}
use Rattle.quiet_measure.proofs.Told.{AsksNoPeer, no_peer, no_peers, asking}
use Rattle.quiet_measure.proofs.Asks.{ask_without}
use Rattle.quiet_measure.proofs.Removed.{add_alone}

-- ## Asks that are no more

pub record LessAsks (xs ys : List Ask) : Type 0 where
  pub differ : PeersDiffer xs → PeersDiffer ys
  pub opened : (p : ℕ) (q : Ask) → ask_to ys p ≡ Some q → ask_to xs p ≡ Some q
  pub each : (n : ℕ) → AllByRecursion (λ (q : Ask). length q.items ≤ n) xs → AllByRecursion (λ (q : Ask). length q.items ≤ n) ys

pub less_self : (xs : List Ask) → LessAsks xs xs
less_self xs = record { differ = λ h. h; opened = λ p q e. e; each = λ n h. h }

pub less_same : (xs ys : List Ask) → ys ≡ xs → LessAsks xs ys
less_same xs ys e = subst (λ l. LessAsks xs l) (sym e) (less_self xs)

pub less_then : (xs ys zs : List Ask) → LessAsks xs ys → LessAsks ys zs → LessAsks xs zs
less_then xs ys zs h g = record { differ = λ d. g.differ (h.differ d); opened = λ p q e. h.opened p q (g.opened p q e); each = λ n a. g.each n (h.each n a) }

pub less_without : (xs : List Ask) (p : ℕ) → LessAsks xs (without_ask xs p)
less_without xs p = record { differ = λ d. distinct_without p xs d; opened = λ r q e. by r q (eqb r p) (sym (ask_without xs p r) ∙ e); each = λ n a. all_of_filter (λ (q : Ask). length q.items ≤ n) (λ (x : Ask). not (eqb x.peer p)) xs a }
  where
    by : (r : ℕ) (q : Ask) (b : Bool) → cond b None (ask_to xs r) ≡ Some q → ask_to xs r ≡ Some q
    by r q true e = absurd (some_not_none q (sym e))
    by r q false e = e

-- ## A worker

-- the asks stay, and no peer is asked
record Plain (w : WorkerFacts) (s : WorkerStep) : Type 0 where
  asks : s.facts.asks ≡ w.asks
  next : s.facts.next_ask ≡ w.next_ask
  id : s.facts.id ≡ w.id
  alone : AsksNoPeer s.out

plain_quiet : (w v : WorkerFacts) → v.asks ≡ w.asks → v.next_ask ≡ w.next_ask → v.id ≡ w.id → Plain w (quiet v)
plain_quiet w v a n i = record { asks = a; next = n; id = i; alone = no_peer }

plain_then : (w : WorkerFacts) (s : WorkerStep) (t : WorkerStep) → Plain w s → Plain s.facts t → Plain w (after_out s.out t)
plain_then w s t h g = record { asks = g.asks ∙ h.asks; next = g.next ∙ h.next; id = g.id ∙ h.id; alone = no_peers s.out t.out h.alone g.alone }

plain_each : {A : Type 0} (row : WorkerFacts → A → WorkerStep) → ((v : WorkerFacts) (x : A) → Plain v (row v x)) → (w : WorkerFacts) (s : WorkerStep) (xs : List A) → Plain w s → Plain w (each_key row s xs)
plain_each row h w s [] g = g
plain_each row h w s (x ∷ xs) g = plain_each row h w (after_out s.out (row s.facts x)) xs (plain_then w s (row s.facts x) g (h s.facts x))

record SameAsks (w v : WorkerFacts) : Type 0 where
  asks : v.asks ≡ w.asks
  next : v.next_ask ≡ w.next_ask
  id : v.id ≡ w.id

same_self : (w : WorkerFacts) → SameAsks w w
same_self w = record { asks = refl; next = refl; id = refl }

same_then : (u v w : WorkerFacts) → SameAsks u v → SameAsks v w → SameAsks u w
same_then u v w h g = record { asks = g.asks ∙ h.asks; next = g.next ∙ h.next; id = g.id ∙ h.id }

same_fold : {A : Type 0} (f : WorkerFacts → A → WorkerFacts) → ((v : WorkerFacts) (x : A) → SameAsks v (f v x)) → (w : WorkerFacts) (xs : List A) → SameAsks w (fold f w xs)
same_fold f h w [] = same_self w
same_fold f h w (x ∷ xs) = same_then w (f w x) (fold f (f w x) xs) (h w x) (same_fold f h (f w x) xs)

plain_same : (w v : WorkerFacts) → SameAsks w v → Plain w (quiet v)
plain_same w v h = plain_quiet w v h.asks h.next h.id

one_send : (m : Up) → AsksNoPeer (Send m ∷ [])
one_send m = record { same = λ i qs is. refl }

same_set : (v : WorkerFacts) (x : ℕ × List (ℕ × ℕ)) → SameAsks v (set_holders v x)
same_set v x = record { asks = refl; next = refl; id = refl }

plain_given : (w : WorkerFacts) (q a : ℕ) (who : List (ℕ × List (ℕ × ℕ))) → Plain w (given w q a who)
unfolding given
plain_given w q a who = pick (w.mem q)
  where
    pick : (b : Bool) → Plain w (cond {A = WorkerStep} b (record { facts = record w { failed = put w.failed q false }; out = Send (TaskFinished w.seen q a) ∷ [] }) (quiet (fold set_holders (record w { failed = put w.failed q false; mine = put w.mine q (Some a) }) who)))
    pick true = record { asks = refl; next = refl; id = refl; alone = one_send (TaskFinished w.seen q a) }
    pick false = let h : SameAsks (record w { failed = put w.failed q false; mine = put w.mine q (Some a) }) (fold set_holders (record w { failed = put w.failed q false; mine = put w.mine q (Some a) }) who) =
        same_fold set_holders same_set (record w { failed = put w.failed q false; mine = put w.mine q (Some a) }) who in
        plain_quiet w (fold set_holders (record w { failed = put w.failed q false; mine = put w.mine q (Some a) }) who) h.asks h.next h.id

plain_asked : (w : WorkerFacts) (q a : ℕ) → Plain w (asked_back w q a)
unfolding asked_back
plain_asked w q a = pick (yields w q a)
  where
    pick : (b : Bool) → Plain w (cond {A = WorkerStep} b (record { facts = give_up w q; out = Send (StealResponse w.seen q a true) ∷ [] }) (record { facts = w; out = Send (StealResponse w.seen q a false) ∷ [] }))
    pick true = record { asks = refl; next = refl; id = refl; alone = one_send (StealResponse w.seen q a true) }
    pick false = record { asks = refl; next = refl; id = refl; alone = one_send (StealResponse w.seen q a false) }

plain_remove : (v : WorkerFacts) (x : ℕ) → Plain v (remove_replica v x)
plain_remove v x = pick (v.mem x && not (awaited v x))
  where
    pick : (b : Bool) → Plain v (cond {A = WorkerStep} b (record { facts = record v { mem = put v.mem x false }; out = Drop x ∷ [] }) (quiet v))
    pick true = record { asks = refl; next = refl; id = refl; alone = record { same = λ i qs is. refl } }
    pick false = plain_quiet v v refl refl refl

plain_removes : (w : WorkerFacts) (ks : List ℕ) → Plain w (remove_replicas w ks)
unfolding remove_replicas
plain_removes w ks = by (plain_each remove_replica plain_remove w (quiet w) ks (plain_quiet w w refl refl refl))
  where
    by : Plain w (each_key remove_replica (quiet w) ks) → Plain w (and_then (each_key remove_replica (quiet w) ks) (add_message w.seen (filter (λ k. is_in k ks && (w.mem k && awaited w k)) (worker_keys w))))
    by h = record { asks = h.asks; next = h.next; id = h.id; alone = no_peers (each_key remove_replica (quiet w) ks).out _ h.alone (add_alone w.seen _) }

plain_free : (v : WorkerFacts) (x : ℕ) → Plain v (free_key v x)
plain_free v x = record { asks = refl; next = refl; id = refl; alone = by (v.mem x) }
  where
    by : (b : Bool) → AsksNoPeer (cond b (Drop x ∷ []) [])
    by true = record { same = λ i qs is. refl }
    by false = no_peer

same_acquire : (w : WorkerFacts) (x : ℕ × List (ℕ × ℕ)) → SameAsks w (acquire w x)
same_acquire w x = one (w.mem x.0)
  where
    one : (b : Bool) → SameAsks w (cond b w (set_holders (record w { sought = put w.sought x.0 true }) x))
    one true = same_self w
    one false = record { asks = refl; next = refl; id = refl }

plain_told : (w : WorkerFacts) (m : Down) → Plain w (take_down w m)
unfolding take_down
plain_told w (ComputeTask q a who) = plain_given w q a who
plain_told w (FreeKeys ks) = plain_each free_key plain_free w (quiet w) ks (plain_quiet w w refl refl refl)
plain_told w (StealRequest q a) = plain_asked w q a
plain_told w (RemoveReplicas ks) = plain_removes w ks
plain_told w (AcquireReplicas who) = plain_same w _ (same_fold acquire same_acquire w who)
plain_told w (RefreshWhoHas who) = plain_same w _ (same_fold refresh (λ v x. record { asks = refl; next = refl; id = refl }) w who)

plain_arrive : (r : Arrivals) (q : ℕ) → AsksNoPeer r.out → SameAsks r.facts (arrive r q).facts × AsksNoPeer (arrive r q).out
plain_arrive r q h = pick (r.facts.mine q)
  where
    kept : (b : Bool) → SameAsks r.facts (cond b (record { facts = into_mem r.facts q; out = r.out ++ Keep q ∷ []; added = r.added ++ q ∷ [] }) r).facts × AsksNoPeer (cond b (record { facts = into_mem r.facts q; out = r.out ++ Keep q ∷ []; added = r.added ++ q ∷ [] }) r).out
    kept true = (record { asks = refl; next = refl; id = refl }, no_peers r.out (Keep q ∷ []) h (record { same = λ i qs is. refl }))
    kept false = (same_self r.facts, h)

    pick : (o : Option ℕ) → SameAsks r.facts (arrive_as r q o).facts × AsksNoPeer (arrive_as r q o).out
    pick None = kept (is_wanted r.facts q)
    pick (Some a) = (record { asks = refl; next = refl; id = refl }, no_peers r.out (Keep q ∷ Send (TaskFinished r.facts.seen q a) ∷ []) h (record { same = λ i qs is. refl }))

plain_arrives : (r : Arrivals) (qs : List ℕ) → AsksNoPeer r.out → SameAsks r.facts (fold arrive r qs).facts × AsksNoPeer (fold arrive r qs).out
plain_arrives r [] h = (same_self r.facts, h)
plain_arrives r (q ∷ qs) h = let a = plain_arrive r q h in let b = plain_arrives (arrive r q) qs a.1 in (same_then r.facts (arrive r q).facts (fold arrive (arrive r q) qs).facts a.0 b.0, b.1)

plain_arrived : (w : WorkerFacts) (qs : List ℕ) → Plain w (arrived w qs)
unfolding arrived
plain_arrived w qs = by (plain_arrives (record { facts = w; out = []; added = [] }) qs no_peer)
  where
    by : SameAsks w (fold arrive (record { facts = w; out = []; added = [] }) qs).facts × AsksNoPeer (fold arrive (record { facts = w; out = []; added = [] }) qs).out → Plain w (counted (fold arrive (record { facts = w; out = []; added = [] }) qs))
    by h = record { asks = h.0.asks; next = h.0.next; id = h.0.id; alone = no_peers (fold arrive (record { facts = w; out = []; added = [] }) qs).out _ h.1 (add_alone _ _) }

plain_not_found : (p : ℕ) (v : WorkerFacts) (x : ℕ × ℕ) → Plain v (not_found p v x)
plain_not_found p v x = pick (is_missing_state (wstate (lose_holders v x.0) x.0))
  where
    pick : (b : Bool) → Plain v (cond {A = WorkerStep} b (record { facts = record (lose_holders v x.0) { asked = put v.asked x.0 true }; out = Send (MissingData v.seen x.0 p x.1) ∷ [] }) (quiet (lose_holders v x.0)))
    pick true = record { asks = refl; next = refl; id = refl; alone = one_send (MissingData v.seen x.0 p x.1) }
    pick false = plain_quiet v (lose_holders v x.0) refl refl refl

-- the asks are no more, and no peer is asked
pub record Fewer (w : WorkerFacts) (s : WorkerStep) : Type 0 where
  pub asks : LessAsks w.asks s.facts.asks
  pub next : s.facts.next_ask ≡ w.next_ask
  pub id : s.facts.id ≡ w.id
  pub alone : AsksNoPeer s.out

fewer_plain : (w : WorkerFacts) (s : WorkerStep) → Plain w s → Fewer w s
fewer_plain w s h = record { asks = less_same w.asks s.facts.asks h.asks; next = h.next; id = h.id; alone = h.alone }

fewer_gathered : (w : WorkerFacts) (p n : ℕ) (found : List ℕ) → Fewer w (gathered w p n found)
unfolding gathered
fewer_gathered w p n found = by_ask (ask_to w.asks p)
  where
    over : (a : Ask) → Plain (record w { asks = without_ask w.asks p }) (answered_ask (record w { asks = without_ask w.asks p }) p a.items found) → Fewer w (answered_ask (record w { asks = without_ask w.asks p }) p a.items found)
    over a h = record { asks = less_then w.asks (without_ask w.asks p) _ (less_without w.asks p) (less_same (without_ask w.asks p) _ h.asks); next = h.next; id = h.id; alone = h.alone }

    here : (a : Ask) (b : Bool) → Fewer w (cond b (answered_ask (record w { asks = without_ask w.asks p }) p a.items found) (quiet w))
    here a true = over a (plain_each (not_found p) (plain_not_found p) (record w { asks = without_ask w.asks p }) (arrived (record w { asks = without_ask w.asks p }) (keys_of (filter (λ i. is_in i.0 found) a.items))) (filter (λ i. not (is_in i.0 found)) a.items)
        (plain_arrived (record w { asks = without_ask w.asks p }) (keys_of (filter (λ i. is_in i.0 found) a.items))))
    here a false = fewer_plain w (quiet w) (plain_quiet w w refl refl refl)

    by_ask : (o : Option Ask) → Fewer w (gathered_by w p n found o)
    by_ask None = fewer_plain w (quiet w) (plain_quiet w w refl refl refl)
    by_ask (Some a) = here a (eqb a.number n)

plain_start : (w : WorkerFacts) (o : Option ℕ) → Plain w (start w o)
plain_start w None = plain_quiet w w refl refl refl
plain_start w (Some q) = record { asks = refl; next = refl; id = refl; alone = record { same = λ i qs is. refl } }

plain_stopped : (w : WorkerFacts) (q : ℕ) (s : WorkerStep) → Plain (stopped w q) s → Plain w s
plain_stopped w q s h = record { asks = h.asks; next = h.next; id = h.id; alone = h.alone }

plain_done : (w : WorkerFacts) (q : ℕ) (z : Bool) → Plain w (done w q z)
plain_done w q false = plain_stopped w q (arrived (stopped w q) (q ∷ [])) (plain_arrived (stopped w q) (q ∷ []))
plain_done w q true = pick (w.mine q)
  where
    pick : (o : Option ℕ) → Plain w (erred_as (stopped w q) q o)
    pick None = plain_quiet w (stopped w q) refl refl refl
    pick (Some a) = record { asks = refl; next = refl; id = refl; alone = one_send (TaskErred w.seen q a) }

abbrev pub IsNoAsk : WorkerEvent → Type 0
IsNoAsk (AskPeer p) = ⊥
IsNoAsk e = Unit {0}

fewer_row : (w : WorkerFacts) (e : WorkerEvent) → IsNoAsk e → Fewer w (worker_row w e)
unfolding worker_row
fewer_row w (Told m) o = by (plain_told (taken w) m)
  where
    by : Plain (taken w) (take_down (taken w) m) → Fewer w (take_down (taken w) m)
    by h = record { asks = less_same w.asks _ h.asks; next = h.next; id = h.id; alone = h.alone }
fewer_row w StartTask o = fewer_plain w _ (plain_start w (would_start w))
fewer_row w (Done x z) o = fewer_plain w _ (plain_done w x z)
fewer_row w (AskPeer p) o = absurd o
fewer_row w (Gathered p n found) o = fewer_gathered w p n found
fewer_row w (GatherFailed p n) o = fewer_gathered w p n []
fewer_row w (DataLost x) o = fewer_plain w _ (record { asks = refl; next = refl; id = refl; alone = one_send (ReleaseWorkerData w.seen x) })

pub fewer_step : (w : WorkerFacts) (e : WorkerEvent) → IsNoAsk e → Fewer w (worker_step w e)
unfolding worker_step
fewer_step w e o = by (worker_row w e) (fewer_row w e o)
  where
    asked_alone : (seen : ℕ) (ks : List ℕ) → AsksNoPeer (asking seen ks)
    asked_alone seen [] = no_peer
    asked_alone seen (k ∷ ks) = no_peers (Send (RequestRefreshWhoHas seen k) ∷ []) (asking seen ks) (record { same = λ i qs is. refl }) (asked_alone seen ks)

    by : (s : WorkerStep) → Fewer w s → Fewer w (seek_missing s)
    by s h = record { asks = h.asks; next = h.next; id = h.id; alone = no_peers s.out (asking s.facts.seen (unasked_keys s.facts)) h.alone (asked_alone s.facts.seen (unasked_keys s.facts)) }

-- ## A client

pub record FewerAtClient (c : ClientFacts) (s : ClientStep) : Type 0 where
  pub asks : LessAsks c.asks s.facts.asks
  pub next : s.facts.next_ask ≡ c.next_ask
  pub alone : (i : ℕ) (qs : List Parcel) → client_requested (Client i) qs s.out ≡ qs

gets_same : (c : ClientFacts) (ks : List ℕ) → ((fold client_gets c ks).asks ≡ c.asks) × ((fold client_gets c ks).next_ask ≡ c.next_ask)
gets_same c [] = (refl, refl)
gets_same c (k ∷ ks) = let r = gets_same (client_gets c k) ks in let o = by (c.wants k) in (r.0 ∙ o.0, r.1 ∙ o.1)
  where
    by : (b : Bool) → ((cond b (record c { got = put c.got k true; located = put c.located k [] }) c).asks ≡ c.asks) × ((cond b (record c { got = put c.got k true; located = put c.located k [] }) c).next_ask ≡ c.next_ask)
    by true = (refl, refl)
    by false = (refl, refl)

misses_same : (c : ClientFacts) (is : List (ℕ × ℕ)) → ((fold client_misses c is).asks ≡ c.asks) × ((fold client_misses c is).next_ask ≡ c.next_ask)
misses_same c [] = (refl, refl)
misses_same c (x ∷ is) = misses_same (client_misses c x) is

told_requests : (i : ℕ) (qs : List Parcel) (p : ℕ) (c : ClientFacts) (is : List (ℕ × ℕ)) → client_requested (Client i) qs (filter_map (missing_message c p) is) ≡ qs
told_requests i qs p c [] = refl
told_requests i qs p c (x ∷ is) = by (c.wants x.0) (told_requests i qs p c is)
  where
    by : (b : Bool) → client_requested (Client i) qs (filter_map (missing_message c p) is) ≡ qs → client_requested (Client i) qs (cons_option (cond b (Some (ClientSend (Missing x.0 p x.1))) None) (filter_map (missing_message c p) is)) ≡ qs
    by true e = e
    by false e = e

still_at_client : (c : ClientFacts) → FewerAtClient c (keeps_still c)
still_at_client c = record { asks = less_self c.asks; next = refl; alone = λ i qs. refl }

fewer_client_gathered : (c : ClientFacts) (p n : ℕ) (found : List ℕ) → FewerAtClient c (client_gathered c p n found)
unfolding client_gathered
fewer_client_gathered c p n found = by_ask (ask_to c.asks p)
  where
    here : (a : Ask) (b : Bool) → FewerAtClient c (cond b (client_answered (record c { asks = without_ask c.asks p }) p (keys_of (filter (λ i. is_in i.0 found) a.items)) (filter (λ i. not (is_in i.0 found)) a.items)) (keeps_still c))
    here a true =
        let g = gets_same (record c { asks = without_ask c.asks p }) (keys_of (filter (λ i. is_in i.0 found) a.items)) in
        let m = misses_same (fold client_gets (record c { asks = without_ask c.asks p }) (keys_of (filter (λ i. is_in i.0 found) a.items))) (filter (λ i. not (is_in i.0 found)) a.items) in
        record { asks = less_then c.asks (without_ask c.asks p) _ (less_without c.asks p) (less_same (without_ask c.asks p) _ (m.0 ∙ g.0)); next = m.1 ∙ g.1; alone = λ i qs. told_requests i qs p (record c { asks = without_ask c.asks p }) (filter (λ i. not (is_in i.0 found)) a.items) }
    here a false = still_at_client c

    by_ask : (o : Option Ask) → FewerAtClient c (client_gathered_by c p n found o)
    by_ask None = still_at_client c
    by_ask (Some a) = here a (eqb a.number n)

fewer_hear : (c : ClientFacts) (m : ToClient) → FewerAtClient c (keeps_still (hear c m))
unfolding hear
fewer_hear c (KeyInMemory k hs) = pick (c.wants k && not (c.got k))
  where
    pick : (b : Bool) → FewerAtClient c (keeps_still (cond b (record c { located = put c.located k hs }) c))
    pick true = record { asks = less_self c.asks; next = refl; alone = λ i qs. refl }
    pick false = still_at_client c
fewer_hear c (LostData k) = record { asks = less_self c.asks; next = refl; alone = λ i qs. refl }
fewer_hear c (ClientTaskErred k b) = pick (c.wants k && not (c.got k))
  where
    pick : (x : Bool) → FewerAtClient c (keeps_still (cond x (record c { failed = put c.failed k (Some b); located = put c.located k [] }) c))
    pick true = record { asks = less_self c.asks; next = refl; alone = λ i qs. refl }
    pick false = still_at_client c

abbrev pub IsNoClientAsk : ClientEvent → Type 0
IsNoClientAsk (ClientAsk p) = ⊥
IsNoClientAsk e = Unit {0}

pub fewer_client_step : (c : ClientFacts) (e : ClientEvent) → IsNoClientAsk e → FewerAtClient c (client_step c e)
unfolding client_step client_wants client_releases
fewer_client_step c (WantKeys ks) o = record { asks = less_self c.asks; next = refl; alone = λ i qs. refl }
fewer_client_step c (ReleaseKeys ks) o = record { asks = less_self c.asks; next = refl; alone = λ i qs. refl }
fewer_client_step c (FromScheduler m) o = fewer_hear c m
fewer_client_step c (ClientAsk p) o = absurd o
fewer_client_step c (ClientGathered p n found) o = fewer_client_gathered c p n found
fewer_client_step c (ClientGatherFailed p n) o = fewer_client_gathered c p n []
