-- A worker's events keep what is true of its blocks, and its errors are of faulty keys.
use Rattle.std.proofs.Common.{◌≡◌, ℕ, Bool, true, false, not, ◌&&◌, ◌||◌, List, [], ◌∷◌, ◌++◌, Option, Some, None, refl, sym, ap, ◌∙◌, subst, cond, is_some, filter, map, fold}
use Rattle.std.specs.Prelude.{◌==◌}
use Rattle.std.specs.List.{list_all, AllByRecursion}
use Rattle.std.proofs.lemmas.Bool.{false≢true, eqb-true, and_parts, and_from}
use Rattle.small_facts.proofs.Every.{all_join}
use Rattle.cluster_msgs.specs.Shape.{Shape, deps_of}
use Rattle.cluster_msgs.specs.declared.messages.Down.{Down}
use Rattle.cluster_msgs.specs.declared.messages.Down.TheVariants.{ComputeTask, FreeKeys, StealRequest, RemoveReplicas, AcquireReplicas, RefreshWhoHas}
use Rattle.cluster_msgs.specs.declared.messages.Up.TheVariants.{TaskFinished, MissingData, RequestRefreshWhoHas, StealResponse}
use Rattle.cluster_msgs.specs.declared.cores.Instruction.{Instruction}
use Rattle.cluster_msgs.specs.declared.cores.Instruction.TheVariants.{Execute, Gather, Keep, Drop, Send}
use Rattle.cluster_msgs.specs.declared.cores.WorkerEvent.{WorkerEvent}
use Rattle.cluster_msgs.specs.declared.cores.WorkerEvent.TheVariants.{Down as Told, Start, Done, Ask as AskPeer, Gathered, GatherFailed, DataLost}
use Rattle.cluster_rules.specs.Functions.{put}
use Rattle.cluster_rules.specs.Derived.{is_in}
use Rattle.cluster_rules.specs.Worker.{worker_keys, Ask, WorkerFacts, awaited, is_wanted, is_fed, wstate, is_ready_state, is_missing_state, would_start, ask_to, without_ask}
use Rattle.cluster_rules.specs.WorkerStep.{WorkerStep, quiet, after_out, each_key, taken, set_holders, into_mem, give_up, given, free_key, yields, asked_back, remove_replica, add_message, remove_replicas, acquire, refresh, take_down, start, Arrivals, arrive_as, arrive, arrived, stopped, erred_as, done, keys_of, ask_peer, lose_holders, not_found, answered_ask, gathered_by, gathered, worker_row, unasked_keys, worker_step, is_key, worker_takes}
use Rattle.cluster_rules.specs.World.{Job}
use Rattle.cluster_rules.specs.WorldStep.{sends}
use Rattle.cluster_laws.specs.Truth.{has_inputs, faulty_key, IsTrueKey, IsTrueWorker, AreValued, IsTrueEvent, IsTrueUp}
use Rattle.cluster_rules.proofs.WorkerLemmas.{at_one, start_is_ready, ready_state-is}

-- an instruction to report an error is of a faulty key
abbrev pub IsTrueOut : Job → Instruction → Type 0
IsTrueOut j (Send m) = IsTrueUp j m
IsTrueOut j (Execute k) = Unit {0}
IsTrueOut j (Gather p n ks) = Unit {0}
IsTrueOut j (Keep k) = Unit {0}
IsTrueOut j (Drop k) = Unit {0}

pub record IsTrueStep (j : Job) (s : WorkerStep) : Type 0 where
  pub facts : IsTrueWorker j s.facts
  pub out : AllByRecursion (IsTrueOut j) s.out

module _ (j : Job) where
  quietly : (w : WorkerFacts) → IsTrueWorker j w → IsTrueStep j (quiet w)
  quietly w h = record { facts = h; out = tt }

  true_each : {A : Type 0} (row : WorkerFacts → A → WorkerStep) → ((w : WorkerFacts) (x : A) → IsTrueWorker j w → IsTrueStep j (row w x)) → (s : WorkerStep) (xs : List A) → IsTrueStep j s → IsTrueStep j (each_key row s xs)
  true_each row step s [] h = h
  true_each row step s (x ∷ xs) h = true_each row step (after_out s.out (row s.facts x)) xs (let r = step s.facts x h.facts in record { facts = r.facts; out = all_join (IsTrueOut j) s.out (row s.facts x).out h.out r.out })

  true_fold : {A : Type 0} (f : WorkerFacts → A → WorkerFacts) → ((w : WorkerFacts) (x : A) → IsTrueWorker j w → IsTrueWorker j (f w x)) → (w : WorkerFacts) (xs : List A) → IsTrueWorker j w → IsTrueWorker j (fold f w xs)
  true_fold f step w [] h = h
  true_fold f step w (x ∷ xs) h = true_fold f step (f w x) xs (step w x h)

  -- a key without a block
  blockless : (z u r : Bool) → (r ≡ true → u ≡ true) → IsTrueKey z u false r
  blockless z u r g = record { valued = λ e. absurd (false≢true e); fed = g }

  true_lose : (w : WorkerFacts) (q : ℕ) → IsTrueWorker j w → IsTrueWorker j (record w { mem = put w.mem q false })
  true_lose w q h = record { shape = h.shape; at = at_one q (λ b k. IsTrueKey (j.zero k) (has_inputs j k) (cond b false (w.mem k)) (w.running k)) (blockless _ _ _ (h.at q).fed) h.at }

  true_drop : (q : ℕ) (b : Bool) → AllByRecursion (IsTrueOut j) (cond b (Drop q ∷ []) [])
  true_drop q true = (tt, tt)
  true_drop q false = tt

  true_free : (w : WorkerFacts) (q : ℕ) → IsTrueWorker j w → IsTrueStep j (free_key w q)
  true_free w q h = record { facts = record { shape = h.shape; at = (true_lose w q h).at }; out = true_drop q (w.mem q) }

  true_holders : (w : WorkerFacts) (p : ℕ × List (ℕ × ℕ)) → IsTrueWorker j w → IsTrueWorker j (set_holders w p)
  true_holders w p h = record { shape = h.shape; at = h.at }

  true_given : (w : WorkerFacts) (q a : ℕ) (who : List (ℕ × List (ℕ × ℕ))) → IsTrueWorker j w → IsTrueStep j (given w q a who)
  unfolding given
  true_given w q a who h = pick (w.mem q)
    where
      pick : (b : Bool) → IsTrueStep j (cond b (record { facts = record w { failed = put w.failed q false }; out = Send (TaskFinished w.seen q a) ∷ [] })
          (quiet (fold set_holders (record w { failed = put w.failed q false; mine = put w.mine q (Some a) }) who)))
      pick true = record { facts = record { shape = h.shape; at = h.at }; out = (tt, tt) }
      pick false = quietly _ (true_fold set_holders true_holders _ who (record { shape = h.shape; at = h.at }))

  true_asked_back : (w : WorkerFacts) (q a : ℕ) → IsTrueWorker j w → IsTrueStep j (asked_back w q a)
  unfolding asked_back
  true_asked_back w q a h = pick (yields w q a)
    where
      pick : (b : Bool) → IsTrueStep j (cond {A = WorkerStep} b (record { facts = give_up w q; out = Send (StealResponse w.seen q a true) ∷ [] }) (record { facts = w; out = Send (StealResponse w.seen q a false) ∷ [] }))
      pick true = record { facts = record { shape = h.shape; at = h.at }; out = (tt, tt) }
      pick false = record { facts = h; out = (tt, tt) }

  true_remove : (w : WorkerFacts) (q : ℕ) → IsTrueWorker j w → IsTrueStep j (remove_replica w q)
  true_remove w q h = pick (w.mem q && not (awaited w q))
    where
      pick : (b : Bool) → IsTrueStep j (cond b (record { facts = record w { mem = put w.mem q false }; out = Drop q ∷ [] }) (quiet w))
      pick true = record { facts = true_lose w q h; out = (tt, tt) }
      pick false = quietly w h

  true_add : (seen : ℕ) (ks : List ℕ) → AllByRecursion (IsTrueOut j) (add_message seen ks)
  true_add seen [] = tt
  true_add seen (k ∷ ks) = (tt, tt)

  true_acquire : (w : WorkerFacts) (p : ℕ × List (ℕ × ℕ)) → IsTrueWorker j w → IsTrueWorker j (acquire w p)
  true_acquire w p h = pick (w.mem p.0)
    where
      pick : (b : Bool) → IsTrueWorker j (cond b w (set_holders (record w { sought = put w.sought p.0 true }) p))
      pick true = h
      pick false = record { shape = h.shape; at = h.at }

  true_refresh : (w : WorkerFacts) (p : ℕ × List (ℕ × ℕ)) → IsTrueWorker j w → IsTrueWorker j (refresh w p)
  true_refresh w p h = record { shape = h.shape; at = h.at }

  true_down : (w : WorkerFacts) (m : Down) → IsTrueWorker j w → IsTrueStep j (take_down w m)
  unfolding take_down remove_replicas
  true_down w (ComputeTask k a who) h = true_given w k a who h
  true_down w (FreeKeys ks) h = true_each free_key true_free (quiet w) ks (quietly w h)
  true_down w (StealRequest k a) h = true_asked_back w k a h
  true_down w (RemoveReplicas ks) h =
      let r = true_each remove_replica true_remove (quiet w) ks (quietly w h) in
      record { facts = r.facts; out = all_join (IsTrueOut j) (each_key remove_replica (quiet w) ks).out _ r.out (true_add w.seen (filter (λ k. is_in k ks && (w.mem k && awaited w k)) (worker_keys w))) }
  true_down w (AcquireReplicas who) h = quietly _ (true_fold acquire true_acquire w who h)
  true_down w (RefreshWhoHas who) h = quietly _ (true_fold refresh true_refresh w who h)

  -- a ready key's inputs are here, so they have values
  inputs_here : (w : WorkerFacts) → IsTrueWorker j w → (ds : List ℕ) → list_all w.mem ds ≡ true → list_all (λ d. not (j.zero d)) ds ≡ true
  inputs_here w h [] e = refl
  inputs_here w h (d ∷ ds) e = let p = and_parts (w.mem d) (list_all w.mem ds) e in and_from _ _ (ap not ((h.at d).valued p.0)) (inputs_here w h ds p.1)

  fed_at : (w : WorkerFacts) (q : ℕ) → IsTrueWorker j w → is_ready_state (wstate w q) ≡ true → has_inputs j q ≡ true
  fed_at w q h e =
      let all = sym (ready_state-is w q) ∙ e in
      let mem = and_parts (not (w.mem q)) _ all in
      let still = and_parts (not (w.running q)) _ mem.1 in
      let grounded = and_parts _ (is_some (w.mine q) && is_fed w q) still.1 in
      let fed = (and_parts (is_some (w.mine q)) (is_fed w q) grounded.1).1 in
      inputs_here w h (deps_of j.setting.shape q) (subst (λ (g : Shape). list_all w.mem (deps_of g q) ≡ true) h.shape fed)

  true_start : (w : WorkerFacts) (o : Option ℕ) → ((k : ℕ) → o ≡ Some k → is_ready_state (wstate w k) ≡ true) → IsTrueWorker j w → IsTrueStep j (start w o)
  true_start w None r h = quietly w h
  true_start w (Some q) r h = record {
    facts = record { shape = h.shape; at = at_one q (λ b k. IsTrueKey (j.zero k) (has_inputs j k) (w.mem k) (cond b true (w.running k))) (record { valued = (h.at q).valued; fed = λ e. fed_at w q h (r q refl) }) h.at };
    out = (tt, tt);
  }

  true_into_mem : (w : WorkerFacts) (q : ℕ) → j.zero q ≡ false → IsTrueWorker j w → IsTrueWorker j (into_mem w q)
  true_into_mem w q z h = record { shape = h.shape; at = at_one q (λ b k. IsTrueKey (j.zero k) (has_inputs j k) (cond b true (w.mem k)) (w.running k)) (record { valued = λ e. z; fed = (h.at q).fed }) h.at }

  record TrueArrivals (r : Arrivals) : Type 0 where
    facts : IsTrueWorker j r.facts
    out : AllByRecursion (IsTrueOut j) r.out

  true_arrive : (r : Arrivals) (q : ℕ) (o : Option ℕ) → j.zero q ≡ false → TrueArrivals r → TrueArrivals (arrive_as r q o)
  true_arrive r q (Some a) z h = record { facts = true_into_mem (give_up r.facts q) q z (record { shape = h.facts.shape; at = h.facts.at }); out = all_join (IsTrueOut j) r.out _ h.out (tt, (tt, tt)) }
  true_arrive r q None z h = pick (is_wanted r.facts q)
    where
      pick : (b : Bool) → TrueArrivals (cond b (record { facts = into_mem r.facts q; out = r.out ++ Keep q ∷ []; added = r.added ++ q ∷ [] }) r)
      pick true = record { facts = true_into_mem r.facts q z h.facts; out = all_join (IsTrueOut j) r.out _ h.out (tt, tt) }
      pick false = h

  true_arrivals : (ks : List ℕ) (r : Arrivals) → AreValued j ks → TrueArrivals r → TrueArrivals (fold arrive r ks)
  true_arrivals [] r v h = h
  true_arrivals (q ∷ ks) r v h = true_arrivals ks (arrive r q) v.1 (true_arrive r q (r.facts.mine q) v.0 h)

  true_arrived : (w : WorkerFacts) (ks : List ℕ) → AreValued j ks → IsTrueWorker j w → IsTrueStep j (arrived w ks)
  unfolding arrived
  true_arrived w ks v h =
      let r = true_arrivals ks (record { facts = w; out = []; added = [] }) v (record { facts = h; out = tt }) in
      record { facts = r.facts; out = all_join (IsTrueOut j) (fold arrive (record { facts = w; out = []; added = [] }) ks).out _ r.out (true_add _ _) }

  true_stopped : (w : WorkerFacts) (q : ℕ) → IsTrueWorker j w → IsTrueWorker j (stopped w q)
  true_stopped w q h = record { shape = h.shape; at = at_one q (λ b k. IsTrueKey (j.zero k) (has_inputs j k) (w.mem k) (cond b false (w.running k))) (record { valued = (h.at q).valued; fed = λ e. absurd (false≢true e) }) h.at }

  true_erred : (w : WorkerFacts) (q : ℕ) (o : Option ℕ) → faulty_key j q ≡ true → IsTrueWorker j w → IsTrueStep j (erred_as w q o)
  true_erred w q None f h = quietly w h
  true_erred w q (Some a) f h = record { facts = record { shape = h.shape; at = h.at }; out = (f, tt) }

  true_done : (w : WorkerFacts) (q : ℕ) (z : Bool) → z ≡ j.zero q → w.running q ≡ true → IsTrueWorker j w → IsTrueStep j (done w q z)
  true_done w q true z e h = true_erred (stopped w q) q (w.mine q) (and_from _ _ ((h.at q).fed e) (sym z)) (true_stopped w q h)
  true_done w q false z e h = true_arrived (stopped w q) (q ∷ []) (sym z, tt) (true_stopped w q h)

  found_valued : (found : List ℕ) → AreValued j found → (q : ℕ) → is_in q found ≡ true → j.zero q ≡ false
  found_valued [] v q e = absurd (false≢true e)
  found_valued (x ∷ found) v q e = pick (x == q) refl (found_valued found v.1 q) e
    where
      pick : (b : Bool) → (x == q) ≡ b → (is_in q found ≡ true → j.zero q ≡ false) → (b || is_in q found) ≡ true → j.zero q ≡ false
      pick true i r e = subst (λ k. j.zero k ≡ false) (eqb-true x q i) v.0
      pick false i r e = r e

  pub kept_valued : (found : List ℕ) → AreValued j found → (is : List (ℕ × ℕ)) → AreValued j (keys_of (filter (λ i. is_in i.0 found) is))
  kept_valued found v [] = tt
  kept_valued found v (i ∷ is) = pick (is_in i.0 found) refl (kept_valued found v is)
    where
      pick : (b : Bool) → is_in i.0 found ≡ b → AreValued j (keys_of (filter (λ i. is_in i.0 found) is)) → AreValued j (keys_of (cond b (i ∷ filter (λ i. is_in i.0 found) is) (filter (λ i. is_in i.0 found) is)))
      pick true e r = (found_valued found v i.0 e, r)
      pick false e r = r

  true_missed : (p : ℕ) (w : WorkerFacts) (i : ℕ × ℕ) → IsTrueWorker j w → IsTrueStep j (not_found p w i)
  true_missed p w i h = pick (is_missing_state (wstate (lose_holders w i.0) i.0))
    where
      pick : (b : Bool) → IsTrueStep j (cond b (record { facts = record (lose_holders w i.0) { asked = put w.asked i.0 true }; out = Send (MissingData w.seen i.0 p i.1) ∷ [] }) (quiet (lose_holders w i.0)))
      pick true = record { facts = record { shape = h.shape; at = h.at }; out = (tt, tt) }
      pick false = record { facts = record { shape = h.shape; at = h.at }; out = tt }

  true_gathered : (w : WorkerFacts) (p n : ℕ) (found : List ℕ) → AreValued j found → IsTrueWorker j w → IsTrueStep j (gathered w p n found)
  unfolding gathered
  true_gathered w p n found v h = pick (ask_to w.asks p)
    where
      same : (a : Ask) (b : Bool) → IsTrueStep j (cond b (answered_ask (record w { asks = without_ask w.asks p }) p a.items found) (quiet w))
      same a true = true_each (not_found p) (true_missed p) _ (filter (λ i. not (is_in i.0 found)) a.items) (true_arrived (record w { asks = without_ask w.asks p }) _ (kept_valued found v a.items) (record { shape = h.shape; at = h.at }))
      same a false = quietly w h

      pick : (o : Option Ask) → IsTrueStep j (gathered_by w p n found o)
      pick None = quietly w h
      pick (Some a) = same a (a.number == n)

  -- what is done runs
  abbrev pub DoneRuns : WorkerFacts → WorkerEvent → Type 0
  DoneRuns w e = (k : ℕ) (z : Bool) → e ≡ Done k z → w.running k ≡ true

  pub taken_runs : (w : WorkerFacts) (e : WorkerEvent) → worker_takes w e ≡ true → DoneRuns w e
  unfolding worker_takes
  taken_runs w e t k z s = (and_parts (is_key w k) (w.running k) (subst (λ x. worker_takes w x ≡ true) s t)).1

  true_row : (w : WorkerFacts) (e : WorkerEvent) → DoneRuns w e → IsTrueEvent j e → IsTrueWorker j w → IsTrueStep j (worker_row w e)
  unfolding worker_row ask_peer
  true_row w (Told m) t f h = true_down (taken w) m (record { shape = h.shape; at = h.at })
  true_row w Start t f h = true_start w (would_start w) (start_is_ready w) h
  true_row w (Done k z) t f h = true_done w k z f (t k z refl) h
  true_row w (AskPeer p) t f h = record { facts = record { shape = h.shape; at = h.at }; out = (tt, tt) }
  true_row w (Gathered p n found) t f h = true_gathered w p n found f h
  true_row w (GatherFailed p n) t f h = true_gathered w p n [] tt h
  true_row w (DataLost k) t f h = record { facts = true_lose w k h; out = (tt, tt) }

  requests_true : (seen : ℕ) (ks : List ℕ) → AllByRecursion (IsTrueOut j) (map (λ k. Send (RequestRefreshWhoHas seen k)) ks)
  requests_true seen [] = tt
  requests_true seen (k ∷ ks) = (tt, requests_true seen ks)

  pub true_step : (w : WorkerFacts) (e : WorkerEvent) → DoneRuns w e → IsTrueEvent j e → IsTrueWorker j w → IsTrueStep j (worker_step w e)
  unfolding worker_step
  true_step w e t f h =
      let r = true_row w e t f h in
      record { facts = record { shape = r.facts.shape; at = r.facts.at }; out = all_join (IsTrueOut j) (worker_row w e).out _ r.out (requests_true _ (unasked_keys (worker_row w e).facts)) }

  pub sends_true : (out : List Instruction) → AllByRecursion (IsTrueOut j) out → AllByRecursion (IsTrueUp j) (sends out)
  sends_true [] h = tt
  sends_true (Send m ∷ is) h = (h.0, sends_true is h.1)
  sends_true (Execute k ∷ is) h = sends_true is h.1
  sends_true (Gather p n ks ∷ is) h = sends_true is h.1
  sends_true (Keep k ∷ is) h = sends_true is h.1
  sends_true (Drop k ∷ is) h = sends_true is h.1
