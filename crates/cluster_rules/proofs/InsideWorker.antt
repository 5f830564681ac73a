-- A worker names no key that isn't there.
use Rattle.std.proofs.Common.{◌≡◌, ℕ, zero, suc, ◌+◌, ◌≤◌, Bool, true, false, not, ◌&&◌, List, [], ◌∷◌, ◌++◌, Option, Some, None, refl, sym, subst, arith, cond, filter, map, fold, take, find}
use Rattle.std.specs.Prelude.{◌==◌, nat_lt, option_map}
use Rattle.std.specs.List.{filter_map, cons_option, range_with_len, AllByRecursion}
use Rattle.std.proofs.lemmas.Bool.{false≢true, lt-ltb}
use Rattle.std.proofs.lemmas.Option.{same_Some}
use Rattle.small_facts.proofs.Every.{all_join, all_of_filter, all_of_map}
use Rattle.cluster_msgs.specs.Shape.{Shape, key_count}
use Rattle.cluster_msgs.specs.declared.messages.Down.{Down}
use Rattle.cluster_msgs.specs.declared.messages.Down.TheVariants.{ComputeTask, FreeKeys, StealRequest, RemoveReplicas, AcquireReplicas, RefreshWhoHas}
use Rattle.cluster_msgs.specs.declared.messages.Up.TheVariants.{TaskFinished, MissingData, RequestRefreshWhoHas, StealResponse}
use Rattle.cluster_msgs.specs.declared.cores.Instruction.{Instruction}
use Rattle.cluster_msgs.specs.declared.cores.Instruction.TheVariants.{Execute, Gather, Keep, Drop, Send}
use Rattle.cluster_msgs.specs.declared.cores.WorkerEvent.{WorkerEvent}
use Rattle.cluster_msgs.specs.declared.cores.WorkerEvent.TheVariants.{Down as Told, Start, Done, Ask as AskPeer, Gathered, GatherFailed, DataLost}
use Rattle.cluster_msgs.specs.declared.events.Asker.{Asker}
use Rattle.cluster_rules.specs.Functions.{put}
use Rattle.cluster_rules.specs.Derived.{below, is_in}
use Rattle.cluster_rules.specs.SchedTable.{up_keys}
use Rattle.cluster_rules.specs.Worker.{Ask, WorkerFacts, worker_keys, awaited, is_wanted, wstate, is_ready_state, is_fetch_state, is_missing_state, would_start, item_at, copy_at, fetchable, ask_items, ask_to, without_ask, with_ask}
use Rattle.cluster_rules.specs.WorkerStep.{WorkerStep, quiet, after_out, each_key, taken, set_holders, into_mem, give_up, given, free_key, yields, asked_back, remove_replica, add_message, remove_replicas, acquire, refresh, take_down, start, Arrivals, arrive_as, arrive, arrived, stopped, erred_as, done, keys_of, ask_peer, lose_holders, not_found, answered_ask, gathered_by, gathered, worker_row, unasked_keys, worker_step}
use Rattle.cluster_rules.specs.World.{Parcel, parcel_before, with_parcel}
use Rattle.cluster_rules.specs.WorldStep.{sends, requested}
use Rattle.cluster_rules.specs.Inside.{IsKey, AreKeys, down_keys, item_keys, IsInsideWorker}
use Rattle.cluster_rules.proofs.WorkerLemmas.{at_one}

pub all_take_in : {A : Type 0} (P : A → Type 0) (n : ℕ) (xs : List A) → AllByRecursion P xs → AllByRecursion P (take n xs)
all_take_in P zero xs h = tt
all_take_in P (suc n) [] h = tt
all_take_in P (suc n) (x ∷ xs) h = (h.0, all_take_in P n xs h.1)

pub all_map_in : {A B : Type 0} (P : B → Type 0) (f : A → B) (xs : List A) → AllByRecursion (λ x. P (f x)) xs → AllByRecursion P (map f xs)
all_map_in P f [] h = tt
all_map_in P f (x ∷ xs) h = (h.0, all_map_in P f xs h.1)

pub range_below : (n a m : ℕ) → a + m ≤ n → AllByRecursion (λ k. nat_lt k n ≡ true) (range_with_len a m)
range_below n a zero h = tt
range_below n a (suc m) h = (lt-ltb a n (omega arith), range_below n (a + 1) m (omega arith))

pub keys_below : (g : Shape) → AreKeys g (below (key_count g))
keys_below g = range_below (key_count g) 0 (key_count g) (omega arith)

pub found_in : (P : ℕ → Type 0) (t : ℕ → Bool) (ks : List ℕ) (k : ℕ) → find t ks ≡ Some k → AllByRecursion P ks → P k
found_in P t [] k e h = absurd (none e)
  where
    none : ◌≡◌ {A = Option ℕ} None (Some k) → ⊥
    none e = cc
found_in P t (x ∷ ks) k e h = pick (t x) e (λ i. found_in P t ks k i h.1)
  where
    pick : (b : Bool) → cond b (Some x) (find t ks) ≡ Some k → (find t ks ≡ Some k → P k) → P k
    pick true e r = subst P (same_Some x k e) h.0
    pick false e r = r e

module _ (g : Shape) where
  abbrev pub IsInsideOut : Instruction → Type 0
  IsInsideOut (Send m) = AreKeys g (up_keys m)
  IsInsideOut (Execute k) = Unit {0}
  IsInsideOut (Gather p n ks) = AreKeys g ks
  IsInsideOut (Keep k) = Unit {0}
  IsInsideOut (Drop k) = Unit {0}

  pub record IsInsideStep (s : WorkerStep) : Type 0 where
    pub facts : IsInsideWorker g s.facts
    pub out : AllByRecursion IsInsideOut s.out

  quietly : (w : WorkerFacts) → IsInsideWorker g w → IsInsideStep (quiet w)
  quietly w h = record { facts = h; out = tt }

  in_each : {A : Type 0} (P : A → Type 0) (row : WorkerFacts → A → WorkerStep) → ((w : WorkerFacts) (x : A) → P x → IsInsideWorker g w → IsInsideStep (row w x)) → (s : WorkerStep) (xs : List A) → AllByRecursion P xs → IsInsideStep s → IsInsideStep (each_key row s xs)
  in_each P row step s [] v h = h
  in_each P row step s (x ∷ xs) v h = in_each P row step (after_out s.out (row s.facts x)) xs v.1 (let r = step s.facts x v.0 h.facts in record { facts = r.facts; out = all_join IsInsideOut s.out (row s.facts x).out h.out r.out })

  in_fold : {A : Type 0} (f : WorkerFacts → A → WorkerFacts) → ((w : WorkerFacts) (x : A) → IsInsideWorker g w → IsInsideWorker g (f w x)) → (w : WorkerFacts) (xs : List A) → IsInsideWorker g w → IsInsideWorker g (fold f w xs)
  in_fold f step w [] h = h
  in_fold f step w (x ∷ xs) h = in_fold f step (f w x) xs (step w x h)

  gone : (w : WorkerFacts) (q : ℕ) → IsInsideWorker g w → (k : ℕ) → put w.mem q false k ≡ true → IsKey g k
  gone w q h = at_one q (λ b k. cond b false (w.mem k) ≡ true → IsKey g k) (λ e. absurd (false≢true e)) h.mem

  in_drop : (q : ℕ) (b : Bool) → AllByRecursion IsInsideOut (cond b (Drop q ∷ []) [])
  in_drop q true = (tt, tt)
  in_drop q false = tt

  in_free : (w : WorkerFacts) (q : ℕ) → IsKey g q → IsInsideWorker g w → IsInsideStep (free_key w q)
  in_free w q v h = record { facts = record { shape = h.shape; mem = gone w q h; running = h.running; asks = h.asks }; out = in_drop q (w.mem q) }

  in_holders : (w : WorkerFacts) (p : ℕ × List (ℕ × ℕ)) → IsInsideWorker g w → IsInsideWorker g (set_holders w p)
  in_holders w p h = record { shape = h.shape; mem = h.mem; running = h.running; asks = h.asks }

  in_given : (w : WorkerFacts) (q a : ℕ) (who : List (ℕ × List (ℕ × ℕ))) → IsKey g q → IsInsideWorker g w → IsInsideStep (given w q a who)
  unfolding given
  in_given w q a who v h = pick (w.mem q)
    where
      pick : (b : Bool) → IsInsideStep (cond b (record { facts = record w { failed = put w.failed q false }; out = Send (TaskFinished w.seen q a) ∷ [] })
          (quiet (fold set_holders (record w { failed = put w.failed q false; mine = put w.mine q (Some a) }) who)))
      pick true = record { facts = record { shape = h.shape; mem = h.mem; running = h.running; asks = h.asks }; out = ((v, tt), tt) }
      pick false = quietly _ (in_fold set_holders in_holders _ who (record { shape = h.shape; mem = h.mem; running = h.running; asks = h.asks }))

  in_asked_back : (w : WorkerFacts) (q a : ℕ) → IsKey g q → IsInsideWorker g w → IsInsideStep (asked_back w q a)
  unfolding asked_back
  in_asked_back w q a v h = pick (yields w q a)
    where
      pick : (b : Bool) → IsInsideStep (cond {A = WorkerStep} b (record { facts = give_up w q; out = Send (StealResponse w.seen q a true) ∷ [] }) (record { facts = w; out = Send (StealResponse w.seen q a false) ∷ [] }))
      pick true = record { facts = record { shape = h.shape; mem = h.mem; running = h.running; asks = h.asks }; out = ((v, tt), tt) }
      pick false = record { facts = h; out = ((v, tt), tt) }

  in_remove : (w : WorkerFacts) (q : ℕ) → IsKey g q → IsInsideWorker g w → IsInsideStep (remove_replica w q)
  in_remove w q v h = pick (w.mem q && not (awaited w q))
    where
      pick : (b : Bool) → IsInsideStep (cond b (record { facts = record w { mem = put w.mem q false }; out = Drop q ∷ [] }) (quiet w))
      pick true = record { facts = record { shape = h.shape; mem = gone w q h; running = h.running; asks = h.asks }; out = (tt, tt) }
      pick false = quietly w h

  in_add : (seen : ℕ) (ks : List ℕ) → AreKeys g ks → AllByRecursion IsInsideOut (add_message seen ks)
  in_add seen [] v = tt
  in_add seen (k ∷ ks) v = (v, tt)

  in_acquire : (w : WorkerFacts) (p : ℕ × List (ℕ × ℕ)) → IsInsideWorker g w → IsInsideWorker g (acquire w p)
  in_acquire w p h = pick (w.mem p.0)
    where
      pick : (b : Bool) → IsInsideWorker g (cond b w (set_holders (record w { sought = put w.sought p.0 true }) p))
      pick true = h
      pick false = record { shape = h.shape; mem = h.mem; running = h.running; asks = h.asks }

  in_refresh : (w : WorkerFacts) (p : ℕ × List (ℕ × ℕ)) → IsInsideWorker g w → IsInsideWorker g (refresh w p)
  in_refresh w p h = record { shape = h.shape; mem = h.mem; running = h.running; asks = h.asks }

  own_keys : (w : WorkerFacts) → IsInsideWorker g w → AreKeys g (worker_keys w)
  own_keys w h = subst (λ (s : Shape). AreKeys g (below (key_count s))) (sym h.shape) (keys_below g)

  in_down : (w : WorkerFacts) (m : Down) → AreKeys g (down_keys m) → IsInsideWorker g w → IsInsideStep (take_down w m)
  unfolding take_down remove_replicas
  in_down w (ComputeTask k a who) v h = in_given w k a who v.0 h
  in_down w (FreeKeys ks) v h = in_each (IsKey g) free_key in_free (quiet w) ks v (quietly w h)
  in_down w (StealRequest k a) v h = in_asked_back w k a v.0 h
  in_down w (RemoveReplicas ks) v h =
      let r = in_each (IsKey g) remove_replica in_remove (quiet w) ks v (quietly w h) in
      record { facts = r.facts; out = all_join IsInsideOut (each_key remove_replica (quiet w) ks).out _ r.out (in_add w.seen (filter (λ k. is_in k ks && (w.mem k && awaited w k)) (worker_keys w)) (all_of_filter (IsKey g) _ (worker_keys w) (own_keys w h))) }
  in_down w (AcquireReplicas who) v h = quietly _ (in_fold acquire in_acquire w who h)
  in_down w (RefreshWhoHas who) v h = quietly _ (in_fold refresh in_refresh w who h)

  started_in : (w : WorkerFacts) → IsInsideWorker g w → (k : ℕ) → would_start w ≡ Some k → IsKey g k
  unfolding would_start
  started_in w h k e = pick (nat_lt _ w.threads) e
    where
      none : ◌≡◌ {A = Option ℕ} None (Some k) → ⊥
      none e = cc

      pick : (b : Bool) → cond b (find (λ k. is_ready_state (wstate w k)) (worker_keys w)) None ≡ Some k → IsKey g k
      pick true e = found_in (IsKey g) _ (worker_keys w) k e (own_keys w h)
      pick false e = absurd (none e)

  in_start : (w : WorkerFacts) (o : Option ℕ) → ((k : ℕ) → o ≡ Some k → IsKey g k) → IsInsideWorker g w → IsInsideStep (start w o)
  in_start w None r h = quietly w h
  in_start w (Some q) r h = record { facts = record { shape = h.shape; mem = h.mem; running = at_one q (λ b k. cond b true (w.running k) ≡ true → IsKey g k) (λ e. r q refl) h.running; asks = h.asks }; out = (tt, tt) }

  in_into_mem : (w : WorkerFacts) (q : ℕ) → IsKey g q → IsInsideWorker g w → IsInsideWorker g (into_mem w q)
  in_into_mem w q v h = record { shape = h.shape; mem = at_one q (λ b k. cond b true (w.mem k) ≡ true → IsKey g k) (λ e. v) h.mem; running = h.running; asks = h.asks }

  record InArrivals (r : Arrivals) : Type 0 where
    facts : IsInsideWorker g r.facts
    out : AllByRecursion IsInsideOut r.out
    added : AreKeys g r.added

  in_arrive : (r : Arrivals) (q : ℕ) (o : Option ℕ) → IsKey g q → InArrivals r → InArrivals (arrive_as r q o)
  in_arrive r q (Some a) v h = record { facts = in_into_mem (give_up r.facts q) q v (record { shape = h.facts.shape; mem = h.facts.mem; running = h.facts.running; asks = h.facts.asks }); out = all_join IsInsideOut r.out _ h.out (tt, ((v, tt), tt)); added = h.added }
  in_arrive r q None v h = pick (is_wanted r.facts q)
    where
      pick : (b : Bool) → InArrivals (cond b (record { facts = into_mem r.facts q; out = r.out ++ Keep q ∷ []; added = r.added ++ q ∷ [] }) r)
      pick true = record { facts = in_into_mem r.facts q v h.facts; out = all_join IsInsideOut r.out _ h.out (tt, tt); added = all_join (IsKey g) r.added _ h.added (v, tt) }
      pick false = h

  in_arrivals : (ks : List ℕ) (r : Arrivals) → AreKeys g ks → InArrivals r → InArrivals (fold arrive r ks)
  in_arrivals [] r v h = h
  in_arrivals (q ∷ ks) r v h = in_arrivals ks (arrive r q) v.1 (in_arrive r q (r.facts.mine q) v.0 h)

  in_arrived : (w : WorkerFacts) (ks : List ℕ) → AreKeys g ks → IsInsideWorker g w → IsInsideStep (arrived w ks)
  unfolding arrived
  in_arrived w ks v h =
      let r = in_arrivals ks (record { facts = w; out = []; added = [] }) v (record { facts = h; out = tt; added = tt }) in
      record { facts = r.facts; out = all_join IsInsideOut (fold arrive (record { facts = w; out = []; added = [] }) ks).out _ r.out (in_add _ (fold arrive (record { facts = w; out = []; added = [] }) ks).added r.added) }

  in_stopped : (w : WorkerFacts) (q : ℕ) → IsInsideWorker g w → IsInsideWorker g (stopped w q)
  in_stopped w q h = record { shape = h.shape; mem = h.mem; running = at_one q (λ b k. cond b false (w.running k) ≡ true → IsKey g k) (λ e. absurd (false≢true e)) h.running; asks = h.asks }

  in_erred : (w : WorkerFacts) (q : ℕ) (o : Option ℕ) → IsKey g q → IsInsideWorker g w → IsInsideStep (erred_as w q o)
  in_erred w q None v h = quietly w h
  in_erred w q (Some a) v h = record { facts = record { shape = h.shape; mem = h.mem; running = h.running; asks = h.asks }; out = ((v, tt), tt) }

  in_done : (w : WorkerFacts) (q : ℕ) (z : Bool) → IsKey g q → IsInsideWorker g w → IsInsideStep (done w q z)
  in_done w q true v h = in_erred (stopped w q) q (w.mine q) v (in_stopped w q h)
  in_done w q false v h = in_arrived (stopped w q) (q ∷ []) (v, tt) (in_stopped w q h)

  -- asks
  pub asks_with : (a : Ask) (bs : List Ask) → AreKeys g (item_keys a) → AllByRecursion (λ (a : Ask). AreKeys g (item_keys a)) bs → AllByRecursion (λ (a : Ask). AreKeys g (item_keys a)) (with_ask a bs)
  asks_with a [] v h = (v, tt)
  asks_with a (b ∷ bs) v h = pick (nat_lt a.peer b.peer) (asks_with a bs v h.1)
    where
      pick : (t : Bool) → AllByRecursion (λ (a : Ask). AreKeys g (item_keys a)) (with_ask a bs) → AllByRecursion (λ (a : Ask). AreKeys g (item_keys a)) (cond t (a ∷ b ∷ bs) (b ∷ with_ask a bs))
      pick true r = (v, h)
      pick false r = (h.0, r)

  pub items_of : (p : ℕ) (holders : ℕ → List (ℕ × ℕ)) (ks : List ℕ) → AreKeys g ks → AllByRecursion (λ (i : ℕ × ℕ). IsKey g i.0) (filter_map (λ k. item_at p k (holders k)) ks)
  items_of p holders [] v = tt
  items_of p holders (k ∷ ks) v = pick (copy_at p (holders k)) (items_of p holders ks v.1)
    where
      pick : (o : Option ℕ) → AllByRecursion (λ (i : ℕ × ℕ). IsKey g i.0) (filter_map (λ k. item_at p k (holders k)) ks) → AllByRecursion (λ (i : ℕ × ℕ). IsKey g i.0) (cons_option (option_map (λ c. (k, c)) o) (filter_map (λ k. item_at p k (holders k)) ks))
      pick None r = r
      pick (Some c) r = (v.0, r)

  in_ask : (w : WorkerFacts) (p : ℕ) → IsInsideWorker g w → IsInsideStep (ask_peer w p)
  unfolding ask_peer fetchable ask_items
  in_ask w p h =
      let items = all_take_in (λ (i : ℕ × ℕ). IsKey g i.0) _ _ (items_of p w.holders (filter (λ k. is_fetch_state (wstate w k)) (worker_keys w)) (all_of_filter (IsKey g) _ (worker_keys w) (own_keys w h))) in
      let keys = all_map_in (IsKey g) (λ (i : ℕ × ℕ). i.0) _ items in
      record { facts = record { shape = h.shape; mem = h.mem; running = h.running; asks = asks_with (record { peer = p; number = w.next_ask; items = _ }) w.asks keys h.asks }; out = (keys, tt) }

  pub asked_in : (asks : List Ask) (p : ℕ) (a : Ask) → ask_to asks p ≡ Some a → AllByRecursion (λ (a : Ask). AreKeys g (item_keys a)) asks → AreKeys g (item_keys a)
  asked_in [] p a e h = absurd (none e)
    where
      none : ◌≡◌ {A = Option Ask} None (Some a) → ⊥
      none e = cc
  asked_in (b ∷ bs) p a e h = pick (b.peer == p) e (λ i. asked_in bs p a i h.1)
    where
      pick : (t : Bool) → cond t (Some b) (ask_to bs p) ≡ Some a → (ask_to bs p ≡ Some a → AreKeys g (item_keys a)) → AreKeys g (item_keys a)
      pick true e r = subst (λ (x : Ask). AreKeys g (item_keys x)) (same_Some b a e) h.0
      pick false e r = r e

  in_missed : (p : ℕ) (w : WorkerFacts) (i : ℕ × ℕ) → IsKey g i.0 → IsInsideWorker g w → IsInsideStep (not_found p w i)
  in_missed p w i v h = pick (is_missing_state (wstate (lose_holders w i.0) i.0))
    where
      pick : (b : Bool) → IsInsideStep (cond b (record { facts = record (lose_holders w i.0) { asked = put w.asked i.0 true }; out = Send (MissingData w.seen i.0 p i.1) ∷ [] }) (quiet (lose_holders w i.0)))
      pick true = record { facts = record { shape = h.shape; mem = h.mem; running = h.running; asks = h.asks }; out = ((v, tt), tt) }
      pick false = record { facts = record { shape = h.shape; mem = h.mem; running = h.running; asks = h.asks }; out = tt }

  in_gathered : (w : WorkerFacts) (p n : ℕ) (found : List ℕ) → IsInsideWorker g w → IsInsideStep (gathered w p n found)
  unfolding gathered
  in_gathered w p n found h = pick (ask_to w.asks p) refl
    where
      over : (a : Ask) → AllByRecursion (λ (i : ℕ × ℕ). IsKey g i.0) a.items → (b : Bool) → IsInsideStep (cond b (answered_ask (record w { asks = without_ask w.asks p }) p a.items found) (quiet w))
      over a v true = in_each (λ (i : ℕ × ℕ). IsKey g i.0) (not_found p) (in_missed p) _ (filter (λ i. not (is_in i.0 found)) a.items) (all_of_filter (λ (i : ℕ × ℕ). IsKey g i.0) _ a.items v)
          (in_arrived (record w { asks = without_ask w.asks p }) (keys_of (filter (λ i. is_in i.0 found) a.items)) (all_map_in (IsKey g) (λ (i : ℕ × ℕ). i.0) _ (all_of_filter (λ (i : ℕ × ℕ). IsKey g i.0) _ a.items v))
          (record { shape = h.shape; mem = h.mem; running = h.running; asks = all_of_filter (λ (a : Ask). AreKeys g (item_keys a)) _ w.asks h.asks }))
      over a v false = quietly w h

      pick : (o : Option Ask) → ask_to w.asks p ≡ o → IsInsideStep (gathered_by w p n found o)
      pick None e = quietly w h
      pick (Some a) e = over a (all_of_map (IsKey g) (λ (i : ℕ × ℕ). i.0) a.items (asked_in w.asks p a e h.asks)) (a.number == n)

  -- what an event has to bring with it
  abbrev pub IsInsideEvent : WorkerFacts → WorkerEvent → Type 0
  IsInsideEvent w (Told m) = AreKeys g (down_keys m)
  IsInsideEvent w (Done k z) = IsKey g k
  IsInsideEvent w (DataLost k) = IsKey g k
  IsInsideEvent w Start = Unit {0}
  IsInsideEvent w (AskPeer p) = Unit {0}
  IsInsideEvent w (Gathered p n found) = Unit {0}
  IsInsideEvent w (GatherFailed p n) = Unit {0}

  in_row : (w : WorkerFacts) (e : WorkerEvent) → IsInsideEvent w e → IsInsideWorker g w → IsInsideStep (worker_row w e)
  unfolding worker_row
  in_row w (Told m) v h = in_down (taken w) m v (record { shape = h.shape; mem = h.mem; running = h.running; asks = h.asks })
  in_row w Start v h = in_start w (would_start w) (started_in w h) h
  in_row w (Done k z) v h = in_done w k z v h
  in_row w (AskPeer p) v h = in_ask w p h
  in_row w (Gathered p n found) v h = in_gathered w p n found h
  in_row w (GatherFailed p n) v h = in_gathered w p n [] h
  in_row w (DataLost k) v h = record { facts = record { shape = h.shape; mem = gone w k h; running = h.running; asks = h.asks }; out = ((v, tt), tt) }

  in_requests : (seen : ℕ) (ks : List ℕ) → AreKeys g ks → AllByRecursion IsInsideOut (map (λ k. Send (RequestRefreshWhoHas seen k)) ks)
  in_requests seen [] v = tt
  in_requests seen (k ∷ ks) v = ((v.0, tt), in_requests seen ks v.1)

  pub in_step : (w : WorkerFacts) (e : WorkerEvent) → IsInsideEvent w e → IsInsideWorker g w → IsInsideStep (worker_step w e)
  unfolding worker_step unasked_keys
  in_step w e v h =
      let r = in_row w e v h in
      record { facts = record { shape = r.facts.shape; mem = r.facts.mem; running = r.facts.running; asks = r.facts.asks }; out = all_join IsInsideOut (worker_row w e).out _ r.out (in_requests _ _ (all_of_filter (IsKey g) _ (worker_keys (worker_row w e).facts) (own_keys (worker_row w e).facts r.facts))) }

  pub sends_in : (out : List Instruction) → AllByRecursion IsInsideOut out → AllByRecursion (λ m. AreKeys g (up_keys m)) (sends out)
  sends_in [] h = tt
  sends_in (Send m ∷ is) h = (h.0, sends_in is h.1)
  sends_in (Execute k ∷ is) h = sends_in is h.1
  sends_in (Gather p n ks ∷ is) h = sends_in is h.1
  sends_in (Keep k ∷ is) h = sends_in is h.1
  sends_in (Drop k ∷ is) h = sends_in is h.1

  pub parcels_with : (p : Parcel) (qs : List Parcel) → AreKeys g p.keys → AllByRecursion (λ (q : Parcel). AreKeys g q.keys) qs → AllByRecursion (λ (q : Parcel). AreKeys g q.keys) (with_parcel p qs)
  parcels_with p [] v h = (v, tt)
  parcels_with p (q ∷ qs) v h = pick (parcel_before p q) (parcels_with p qs v h.1)
    where
      pick : (b : Bool) → AllByRecursion (λ (q : Parcel). AreKeys g q.keys) (with_parcel p qs) → AllByRecursion (λ (q : Parcel). AreKeys g q.keys) (cond b (p ∷ q ∷ qs) (q ∷ with_parcel p qs))
      pick true r = (v, h)
      pick false r = (h.0, r)

  pub requested_in : (a : Asker) (out : List Instruction) (qs : List Parcel) → AllByRecursion IsInsideOut out → AllByRecursion (λ (q : Parcel). AreKeys g q.keys) qs → AllByRecursion (λ (q : Parcel). AreKeys g q.keys) (requested a qs out)
  requested_in a [] qs v h = h
  requested_in a (Send m ∷ is) qs v h = requested_in a is qs v.1 h
  requested_in a (Execute k ∷ is) qs v h = requested_in a is qs v.1 h
  requested_in a (Gather p n ks ∷ is) qs v h = requested_in a is _ v.1 (parcels_with (record { asker = a; peer = p; ask = n; keys = ks }) qs v.0 h)
  requested_in a (Keep k ∷ is) qs v h = requested_in a is qs v.1 h
  requested_in a (Drop k ∷ is) qs v h = requested_in a is qs v.1 h
