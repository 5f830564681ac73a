-- What a connected worker has asked the scheduler for, and hasn't heard of, is under way.
use Rattle.std.proofs.Common.{◌≡◌, ℕ, ◌+◌, ◌≤◌, Bool, true, false, cond, not, ◌&&◌, ◌||◌, List, [], ◌∷◌, ◌++◌, Option, Some, None, refl, sym, ap, ◌∙◌, subst, arith, is_some, map, filter, fold, inl, inr, ◌⊎◌, ⊎_elim}
use Rattle.std.proofs.lemmas.Bool.{true≢false, false≢true, eqb-true, eq-eqb}
use Rattle.std.proofs.Math.Dec.{eqb}
use Rattle.cluster_msgs.specs.declared.messages.Down.{Down}
use Rattle.cluster_msgs.specs.declared.messages.Down.TheVariants.{ComputeTask, FreeKeys, StealRequest, RemoveReplicas, AcquireReplicas, RefreshWhoHas}
use Rattle.cluster_msgs.specs.declared.messages.Up.TheVariants.{TaskFinished, MissingData, StealResponse}
use Rattle.cluster_msgs.specs.declared.cores.Instruction.TheVariants.{Keep, Drop, Send}
use Rattle.cluster_msgs.specs.declared.cores.WorkerEvent.{WorkerEvent}
use Rattle.cluster_msgs.specs.declared.cores.WorkerEvent.TheVariants.{Down as Told, Start as StartTask, Done, Ask as AskPeer, Gathered, GatherFailed, DataLost}
use Rattle.cluster_rules.specs.Functions.{put}
use Rattle.cluster_rules.specs.Derived.{is_in}
use Rattle.cluster_rules.specs.Worker.{Ask as OpenAsk, WorkerFacts, awaited, is_wanted, wstate, is_missing_state, would_start, ask_to, without_ask}
use Rattle.cluster_rules.specs.WorkerStep.{WorkerStep, quiet, after_out, each_key, taken, set_holders, into_mem, give_up, given, free_key, yields, asked_back, remove_replica, remove_replicas, acquire, refresh, take_down, start, Arrivals, arrive_as, arrive, arrived, stopped, erred_as, done, keys_of, ask_peer, lose_holders, not_found, answered_ask, gathered_by, gathered, lose_data, worker_row, seek_missing, worker_step}
use Rattle.cluster_rules.proofs.SchedFrame.{in_range}
use Rattle.cluster_msgs.specs.declared.messages.Up.{Up}
use Rattle.cluster_msgs.specs.declared.messages.ToClient.{ToClient}
use Rattle.cluster_msgs.specs.declared.messages.FromClient.{FromClient as ClientMessage}
use Rattle.cluster_msgs.specs.declared.cores.SchedEvent.{SchedEvent}
use Rattle.cluster_msgs.specs.declared.cores.SchedEvent.TheVariants.{Join as JoinSched, Leave, FromWorker, FromClient, Balance as BalanceSched, Evict as EvictSched, Replicate as ReplicateSched}
use Rattle.cluster_msgs.specs.declared.cores.ClientEvent.{ClientEvent}
use Rattle.cluster_msgs.specs.declared.cores.ClientEvent.TheVariants.{Want as WantKeys, Release as ReleaseKeys, FromScheduler, Ask as ClientAsk, Gathered as ClientGathered, GatherFailed as ClientGatherFailed}
use Rattle.cluster_msgs.specs.declared.events.Asker.{Asker}
use Rattle.cluster_msgs.specs.declared.events.Asker.TheVariants.{Worker, Client}
use Rattle.cluster_msgs.specs.declared.events.Event.{Event}
use Rattle.cluster_msgs.specs.declared.events.Event.TheVariants.{Want, Release, Join, Lose, SeeLoss, Suspect, DeliverDown, DeliverUp, DeliverToClient, DeliverFromClient, Start, Finish, SendGather, ServeGather, ArriveGather, FailGather, Balance, Evict, Replicate, Spill, LoseSpilled}
use Rattle.cluster_rules.specs.World.{Job, World, Parcel, shape_of, is_connected, open_ask, parcel_of, without_parcel}
use Rattle.cluster_rules.specs.WorldStep.{sends, scheduled, worked, client_worked, at_scheduler, at_worker, at_client, new_at, died, cut_off, take_down_first, take_up, take_up_first, take_to_client, take_from_client, ask_by, gathered_at, serve, take_answer, fail_ask, world_step}
use Rattle.cluster_rules.specs.Enabled.{enabled}
use Rattle.cluster_rules.specs.Worker.{new_worker}
use Rattle.std.proofs.lemmas.Bool.{and_parts}
use Rattle.std.specs.List.{list_any}
use Rattle.std.proofs.lemmas.List.Folds.{list_any-append}
use Rattle.std.proofs.lemmas.Bool.{or_cases, cases_lt}
use Rattle.std.proofs.Math.Bool.{or-true}
use Rattle.small_facts.proofs.Numbers.{eqb_turned}
use Rattle.cluster_msgs.specs.declared.cores.Instruction.{Instruction}
use Rattle.cluster_msgs.specs.declared.messages.Up.TheVariants.{TaskErred, AddKeys, ReleaseWorkerData, RequestRefreshWhoHas}
use Rattle.cluster_rules.specs.Functions.{from_one}
use Rattle.cluster_rules.specs.Sched.{Facts, IsSound, connected, workers, who_has}
use Rattle.cluster_rules.specs.SchedTable.{change, change_up}
use Rattle.cluster_rules.specs.SchedStep.{Stages, sched_step, settle, finish_step, posted, place_all, mail, to_worker, free_message, lost_keys, task_messages}
use Rattle.cluster_rules.specs.WorkerStep.{unasked_keys}
use Rattle.cluster_rules.specs.WorldStep.{sends}
use Rattle.cluster_laws.proofs.OrderLemmas.{mail-down, mail-own_part}
use Rattle.cluster_rules.proofs.WorkerLemmas.{filter_in}
use Rattle.pair_moves.proofs.WorkerMoves.{sends-append}
use Rattle.cluster_rules.specs.Inside.{IsInsideWorld}
use Rattle.cluster_rules.proofs.SchedFrame.{step_settles}
use Rattle.cluster_rules.proofs.SoundStep.{sound_step}
use Rattle.cluster_laws.proofs.Framed.{change_framed}
use Rattle.safety_laws.specs.Lively.{IsRefreshing, questions, refreshes}
use Rattle.safety_laws.proofs.Turns.{up_taken}
use Rattle.safety_laws.proofs.Homes.{IsHome}

-- ## The worker

abbrev AskedFrom : ℕ → WorkerFacts → WorkerFacts → List Instruction → Type 0
AskedFrom k w v out = v.asked k ≡ true → (w.asked k ≡ true) ⊎ (list_any (questions k) (sends out) ≡ true)

module _ (k : ℕ) where
  af_same : (w v : WorkerFacts) (out : List Instruction) → v.asked ≡ w.asked → AskedFrom k w v out
  af_same w v out e h = inl (ap (λ (f : ℕ → Bool). f k) (sym e) ∙ h)

  any_sends : (xs ys : List Instruction) → list_any (questions k) (sends (xs ++ ys)) ≡ (list_any (questions k) (sends xs) || list_any (questions k) (sends ys))
  any_sends xs ys = ap (list_any (questions k)) (sends-append xs ys) ∙ list_any-append (questions k) (sends xs) (sends ys)

  af_then : (w v u : WorkerFacts) (xs ys : List Instruction) → AskedFrom k w v xs → AskedFrom k v u ys → AskedFrom k w u (xs ++ ys)
  af_then w v u xs ys f g h = ⊎_elim (λ a. ⊎_elim (λ b. inl b) (λ b. inr (any_sends xs ys ∙ ap (λ c. c || list_any (questions k) (sends ys)) b)) (f a)) (λ b. inr (any_sends xs ys ∙ ap (λ c. list_any (questions k) (sends xs) || c) b ∙ or-true (list_any (questions k) (sends xs)))) (g h)

  af_more : (w v : WorkerFacts) (xs ys : List Instruction) → AskedFrom k w v xs → AskedFrom k w v (xs ++ ys)
  af_more w v xs ys f h = ⊎_elim (λ a. inl a) (λ b. inr (any_sends xs ys ∙ ap (λ c. c || list_any (questions k) (sends ys)) b)) (f h)

  af_each : {A : Type 0} (row : WorkerFacts → A → WorkerStep) (w : WorkerFacts) (xs : List A) (s : WorkerStep) → ((v : WorkerFacts) (x : A) → AskedFrom k v (row v x).facts (row v x).out) → AskedFrom k w s.facts s.out → AskedFrom k w (each_key row s xs).facts (each_key row s xs).out
  af_each row w [] s h f = f
  af_each row w (x ∷ xs) s h f = af_each row w xs (after_out s.out (row s.facts x)) h (af_then w s.facts (row s.facts x).facts s.out (row s.facts x).out f (h s.facts x))

  less : (b x : Bool) → cond b false x ≡ true → x ≡ true
  less true x e = absurd (false≢true e)
  less false x e = e

  af_set : (w : WorkerFacts) (who : List (ℕ × List (ℕ × ℕ))) → (fold set_holders w who).asked ≡ w.asked
  af_set w [] = refl
  af_set w (x ∷ xs) = af_set (set_holders w x) xs

  af_acquire : (w : WorkerFacts) (who : List (ℕ × List (ℕ × ℕ))) → (fold acquire w who).asked ≡ w.asked
  af_acquire w [] = refl
  af_acquire w (x ∷ xs) = af_acquire (acquire w x) xs ∙ one (w.mem x.0)
    where
      one : (b : Bool) → (cond b w (set_holders (record w { sought = put w.sought x.0 true }) x)).asked ≡ w.asked
      one true = refl
      one false = refl

  -- an answer takes the question back
  af_refresh : (w : WorkerFacts) (who : List (ℕ × List (ℕ × ℕ))) → (fold refresh w who).asked k ≡ true → (w.asked k ≡ true) × (list_any (λ (p : ℕ × List (ℕ × ℕ)). eqb p.0 k) who ≡ false)
  af_refresh w [] h = (h, refl)
  af_refresh w (x ∷ xs) h = let r = af_refresh (refresh w x) xs h in pick (eqb k x.0) refl r.0 r.1
    where
      pick : (b : Bool) → eqb k x.0 ≡ b → cond b false (w.asked k) ≡ true → list_any (λ (p : ℕ × List (ℕ × ℕ)). eqb p.0 k) xs ≡ false → (w.asked k ≡ true) × ((eqb x.0 k || list_any (λ (p : ℕ × List (ℕ × ℕ)). eqb p.0 k) xs) ≡ false)
      pick true e a n = absurd (false≢true a)
      pick false e a n = (a, ap (λ c. c || list_any (λ (p : ℕ × List (ℕ × ℕ)). eqb p.0 k) xs) (eqb_turned x.0 k ∙ e) ∙ n)

  af_given : (w : WorkerFacts) (q a : ℕ) (who : List (ℕ × List (ℕ × ℕ))) → (given w q a who).facts.asked ≡ w.asked
  unfolding given
  af_given w q a who = pick (w.mem q)
    where
      pick : (b : Bool) → (cond {A = WorkerStep} b (record { facts = record w { failed = put w.failed q false }; out = Send (TaskFinished w.seen q a) ∷ [] }) (quiet (fold set_holders (record w { failed = put w.failed q false; mine = put w.mine q (Some a) }) who))).facts.asked ≡ w.asked
      pick true = refl
      pick false = af_set (record w { failed = put w.failed q false; mine = put w.mine q (Some a) }) who

  af_back : (w : WorkerFacts) (q a : ℕ) → (asked_back w q a).facts.asked ≡ w.asked
  unfolding asked_back
  af_back w q a = pick (yields w q a)
    where
      pick : (b : Bool) → (cond {A = WorkerStep} b (record { facts = give_up w q; out = Send (StealResponse w.seen q a true) ∷ [] }) (record { facts = w; out = Send (StealResponse w.seen q a false) ∷ [] })).facts.asked ≡ w.asked
      pick true = refl
      pick false = refl

  af_free : (v : WorkerFacts) (x : ℕ) → AskedFrom k v (free_key v x).facts (free_key v x).out
  af_free v x h = inl (less (eqb k x) (v.asked k) h)

  af_remove : (v : WorkerFacts) (x : ℕ) → AskedFrom k v (remove_replica v x).facts (remove_replica v x).out
  af_remove v x = pick (v.mem x && not (awaited v x))
    where
      pick : (b : Bool) → AskedFrom k v (cond b (record { facts = record v { mem = put v.mem x false }; out = Drop x ∷ [] }) (quiet v)).facts (cond b (record { facts = record v { mem = put v.mem x false }; out = Drop x ∷ [] }) (quiet v)).out
      pick true h = inl h
      pick false h = inl h

  -- a message: what it answers isn't asked any more, and what is asked then was, or is asked now
  af_told : (w : WorkerFacts) (m : Down) → (take_down w m).facts.asked k ≡ true → ((w.asked k ≡ true) × (refreshes k m ≡ false)) ⊎ (list_any (questions k) (sends (take_down w m).out) ≡ true)
  unfolding take_down remove_replicas
  af_told w (ComputeTask q a who) h = inl (ap (λ (f : ℕ → Bool). f k) (sym (af_given w q a who)) ∙ h, refl)
  af_told w (FreeKeys ks) h = ⊎_elim (λ a. inl (a, refl)) (λ b. inr b) (af_each free_key w ks (quiet w) af_free (λ x. inl x) h)
  af_told w (StealRequest q a) h = inl (ap (λ (f : ℕ → Bool). f k) (sym (af_back w q a)) ∙ h, refl)
  af_told w (RemoveReplicas ks) h = ⊎_elim (λ a. inl (a, refl)) (λ b. inr b) (af_more w (each_key remove_replica (quiet w) ks).facts (each_key remove_replica (quiet w) ks).out _ (af_each remove_replica w ks (quiet w) af_remove (λ x. inl x)) h)
  af_told w (AcquireReplicas who) h = inl (ap (λ (f : ℕ → Bool). f k) (sym (af_acquire w who)) ∙ h, refl)
  af_told w (RefreshWhoHas who) h = inl (af_refresh w who h)

  af_arrive : (r : Arrivals) (q : ℕ) → (arrive r q).facts.asked k ≡ true → r.facts.asked k ≡ true
  af_arrive r q = pick (r.facts.mine q)
    where
      kept : (b : Bool) → (cond b (record { facts = into_mem r.facts q; out = r.out ++ Keep q ∷ []; added = r.added ++ q ∷ [] }) r).facts.asked k ≡ true → r.facts.asked k ≡ true
      kept true h = less (eqb k q) (r.facts.asked k) h
      kept false h = h

      pick : (o : Option ℕ) → (arrive_as r q o).facts.asked k ≡ true → r.facts.asked k ≡ true
      pick None h = kept (is_wanted r.facts q) h
      pick (Some a) h = less (eqb k q) (r.facts.asked k) h

  af_arrives : (qs : List ℕ) (r : Arrivals) → (fold arrive r qs).facts.asked k ≡ true → r.facts.asked k ≡ true
  af_arrives [] r h = h
  af_arrives (q ∷ qs) r h = af_arrive r q (af_arrives qs (arrive r q) h)

  af_arrived : (w : WorkerFacts) (qs : List ℕ) → AskedFrom k w (arrived w qs).facts (arrived w qs).out
  unfolding arrived
  af_arrived w qs h = inl (af_arrives qs (record { facts = w; out = []; added = [] }) h)

  af_not_found : (p : ℕ) (v : WorkerFacts) (x : ℕ × ℕ) → AskedFrom k v (not_found p v x).facts (not_found p v x).out
  af_not_found p v x = pick (is_missing_state (wstate (lose_holders v x.0) x.0))
    where
      asked : (b : Bool) → eqb k x.0 ≡ b → cond b true (v.asked k) ≡ true → (v.asked k ≡ true) ⊎ ((eqb x.0 k || false) ≡ true)
      asked true e h = inr (ap (λ c. c || false) (eqb_turned x.0 k ∙ e))
      asked false e h = inl h

      pick : (b : Bool) → let s = cond {A = WorkerStep} b (record { facts = record (lose_holders v x.0) { asked = put v.asked x.0 true }; out = Send (MissingData v.seen x.0 p x.1) ∷ [] }) (quiet (lose_holders v x.0)) in AskedFrom k v s.facts s.out
      pick true h = asked (eqb k x.0) refl h
      pick false h = inl h

  af_gathered : (w : WorkerFacts) (p n : ℕ) (found : List ℕ) → AskedFrom k w (gathered w p n found).facts (gathered w p n found).out
  unfolding gathered
  af_gathered w p n found = by_ask (ask_to w.asks p)
    where
      over : (a : OpenAsk) (b : Bool) → let s = cond {A = WorkerStep} b (answered_ask (record w { asks = without_ask w.asks p }) p a.items found) (quiet w) in AskedFrom k w s.facts s.out
      over a true z = af_each (not_found p) w (filter (λ i. not (is_in i.0 found)) a.items) (arrived (record w { asks = without_ask w.asks p }) (keys_of (filter (λ i. is_in i.0 found) a.items))) (af_not_found p)
          (λ h. af_arrived (record w { asks = without_ask w.asks p }) (keys_of (filter (λ i. is_in i.0 found) a.items)) h) z
      over a false h = inl h

      by_ask : (o : Option OpenAsk) → AskedFrom k w (gathered_by w p n found o).facts (gathered_by w p n found o).out
      by_ask None h = inl h
      by_ask (Some a) h = over a (eqb a.number n) h

  af_start : (w : WorkerFacts) (o : Option ℕ) → (start w o).facts.asked ≡ w.asked
  af_start w None = refl
  af_start w (Some q) = refl

  af_done : (w : WorkerFacts) (q : ℕ) (z : Bool) → AskedFrom k w (done w q z).facts (done w q z).out
  af_done w q false h = af_arrived (stopped w q) (q ∷ []) h
  af_done w q true h = inl (ap (λ (f : ℕ → Bool). f k) (sym (pick (w.mine q))) ∙ h)
    where
      pick : (o : Option ℕ) → (erred_as (stopped w q) q o).facts.asked ≡ w.asked
      pick None = refl
      pick (Some a) = refl

  -- what is asked for in the end has its message
  all_asked : (seen : ℕ) (qs : List ℕ) → is_in k qs ≡ true → list_any (questions k) (sends (map (λ q. Send (RequestRefreshWhoHas seen q)) qs)) ≡ true
  all_asked seen [] h = absurd (false≢true h)
  all_asked seen (q ∷ qs) h = ⊎_elim (λ e. ap (λ c. c || list_any (questions k) (sends (map (λ x. Send (RequestRefreshWhoHas seen x)) qs))) e) (λ e. ap (λ c. eqb q k || c) (all_asked seen qs e) ∙ or-true (eqb q k)) (or_cases (eqb q k) (is_in k qs) h)

  af_seek : (s : WorkerStep) → (seek_missing s).facts.asked k ≡ true → (s.facts.asked k ≡ true) ⊎ (list_any (questions k) (sends (map (λ q. Send (RequestRefreshWhoHas s.facts.seen q)) (unasked_keys s.facts))) ≡ true)
  af_seek s h = ⊎_elim (λ a. inl a) (λ b. inr (all_asked s.facts.seen (unasked_keys s.facts) b)) (or_cases (s.facts.asked k) (is_in k (unasked_keys s.facts)) h)

  af_sought : (w : WorkerFacts) (s : WorkerStep) → AskedFrom k w s.facts s.out → AskedFrom k w (seek_missing s).facts (seek_missing s).out
  af_sought w s f h = ⊎_elim (λ a. af_more w s.facts s.out _ f a) (λ b. inr (any_sends s.out _ ∙ ap (λ c. list_any (questions k) (sends s.out) || c) b ∙ or-true (list_any (questions k) (sends s.out)))) (af_seek s h)

  abbrev IsMessage : WorkerEvent → Type 0
  IsMessage (Told m) = ⊥
  IsMessage e = Unit {0}

  pub own_asked : (w : WorkerFacts) (e : WorkerEvent) → IsMessage e → AskedFrom k w (worker_step w e).facts (worker_step w e).out
  unfolding worker_step worker_row ask_peer
  own_asked w (Told m) o = absurd o
  own_asked w StartTask o = af_sought w (start w (would_start w)) (af_same w (start w (would_start w)).facts (start w (would_start w)).out (af_start w (would_start w)))
  own_asked w (Done x z) o = af_sought w (done w x z) (af_done w x z)
  own_asked w (AskPeer p) o = af_sought w (ask_peer w p) (λ h. inl h)
  own_asked w (Gathered p n found) o = af_sought w (gathered w p n found) (af_gathered w p n found)
  own_asked w (GatherFailed p n) o = af_sought w (gathered w p n []) (af_gathered w p n [])
  own_asked w (DataLost x) o = af_sought w (lose_data w x) (λ h. inl h)

  pub told_asked : (w : WorkerFacts) (m : Down) → (worker_step w (Told m)).facts.asked k ≡ true → ((w.asked k ≡ true) × (refreshes k m ≡ false)) ⊎ (list_any (questions k) (sends (worker_step w (Told m)).out) ≡ true)
  unfolding worker_step worker_row
  told_asked w m h = let s = take_down (taken w) m in ⊎_elim (λ a. ⊎_elim (λ b. inl b) (λ b. inr (any_sends s.out _ ∙ ap (λ c. c || list_any (questions k) (sends (map (λ q. Send (RequestRefreshWhoHas s.facts.seen q)) (unasked_keys s.facts)))) b)) (af_told (taken w) m a))
      (λ b. inr (any_sends s.out _ ∙ ap (λ c. list_any (questions k) (sends s.out) || c) b ∙ or-true (list_any (questions k) (sends s.out)))) (af_seek s h)

-- ## The scheduler answers

names_it : (f : Facts) (q k : ℕ) → eqb q k ≡ true → refreshes k (RefreshWhoHas (who_has f (q ∷ []))) ≡ true
unfolding who_has
names_it f q k e = ap (λ b. b || false) e

-- a question that is taken is answered to its worker
pub question_answered : (f : Facts) (i k : ℕ) (m : Up) → questions k m ≡ true → connected (sched_step f (FromWorker i m)).facts i ≡ true → IsSound (sched_step f (FromWorker i m)).facts → list_any (refreshes k) (mail i (sched_step f (FromWorker i m)).down) ≡ true
unfolding sched_step finish_step settle posted place_all
question_answered f i k m q c s = ap (list_any (refreshes k)) (mail-down t i ∙ ap (λ b. cond b (mail i (to_worker t i)) []) there ∙ mail-own_part t i)
    ∙ list_any-append (refreshes k) (mail i (free_message i (lost_keys t i))) (mail i (task_messages t.placed t.before.counter i) ++ t.changed.answer t.placed i)
    ∙ ap (λ b. list_any (refreshes k) (mail i (free_message i (lost_keys t i))) || b) (list_any-append (refreshes k) (mail i (task_messages t.placed t.before.counter i)) (t.changed.answer t.placed i)
    ∙ ap (λ b. list_any (refreshes k) (mail i (task_messages t.placed t.before.counter i)) || b) (answered m q) ∙ or-true (list_any (refreshes k) (mail i (task_messages t.placed t.before.counter i)))) ∙ or-true (list_any (refreshes k) (mail i (free_message i (lost_keys t i))))
  where
    t : Stages
    t = settle f (change f (FromWorker i m))

    n : (1 ≤ i) × (i ≤ (sched_step f (FromWorker i m)).facts.last_worker)
    n = s.numbers i c

    there : is_in i (workers t.placed) ≡ true
    there = filter_in (connected t.placed) (from_one t.placed.last_worker) i (in_range 1 t.placed.last_worker i n.0 (let l = n.1 in omega (arith, l))) c

    says : (q : ℕ) → eqb q k ≡ true → list_any (refreshes k) (cond (eqb i i) (RefreshWhoHas (who_has t.placed (q ∷ [])) ∷ []) []) ≡ true
    says q e = ap (λ b. list_any (refreshes k) (cond b (RefreshWhoHas (who_has t.placed (q ∷ [])) ∷ []) [])) (eq-eqb i i refl) ∙ ap (λ b. b || false) (named q e)
      where
        named : (q : ℕ) → eqb q k ≡ true → refreshes k (RefreshWhoHas (who_has t.placed (q ∷ []))) ≡ true
        named q e = names_it t.placed q k e

    answered : (m : Up) → questions k m ≡ true → list_any (refreshes k) ((change_up f i m).answer t.placed i) ≡ true
    answered (MissingData seen q x c) e = says q e
    answered (RequestRefreshWhoHas seen q) e = says q e
    answered (TaskFinished seen q a) e = absurd (false≢true e)
    answered (TaskErred seen q a) e = absurd (false≢true e)
    answered (AddKeys seen ks) e = absurd (false≢true e)
    answered (ReleaseWorkerData seen q) e = absurd (false≢true e)
    answered (StealResponse seen q a agreed) e = absurd (false≢true e)

-- ## The world

module _ (j : Job) (w : World) (inside : IsInsideWorld j.setting.shape w) (sound : IsSound w.sched) (home : IsHome j.setting.shape j.setting.clients w.sched.last_worker w)
    (h : IsRefreshing w) (i k : ℕ) where
  abbrev Told2 : World → Type 0
  Told2 v = v.alive i ≡ true → is_connected v i ≡ true → (v.workers i).asked k ≡ true → (list_any (questions k) (v.up i) || list_any (refreshes k) (v.down i)) ≡ true

  given_one : w.alive i ≡ true → i ≤ w.sched.last_worker
  given_one a = ⊎_elim (λ l. absurd (true≢false (sym a ∙ (home.bare i l).alive))) (λ l. l) (cases_lt w.sched.last_worker i)

  before : (s : SchedEvent) → w.alive i ≡ true → connected (sched_step w.sched s).facts i ≡ true → is_connected w i ≡ true
  before s a e = (change_framed w.sched s).threads i (ap (λ (t : ℕ → Option ℕ). is_some (t i)) (sym (step_settles w.sched s).threads) ∙ e) (given_one a)

  more_down : (b : Bool) (xs ys : List Down) → (b || list_any (refreshes k) xs) ≡ true → (b || list_any (refreshes k) (xs ++ ys)) ≡ true
  more_down true xs ys e = refl
  more_down false xs ys e = list_any-append (refreshes k) xs ys ∙ ap (λ c. c || list_any (refreshes k) ys) e

  more_up : (b : Bool) (xs ys : List Up) → (list_any (questions k) xs || b) ≡ true → (list_any (questions k) (xs ++ ys) || b) ≡ true
  more_up b xs ys e = ap (λ c. c || b) (list_any-append (questions k) xs ys) ∙ pick (list_any (questions k) xs) (list_any (questions k) ys) b e
    where
      pick : (x y b : Bool) → (x || b) ≡ true → ((x || y) || b) ≡ true
      pick true y b e = refl
      pick false true b e = refl
      pick false false b e = e

  r_scheduler : (v : World) (s : SchedEvent) → v.sched ≡ w.sched → v.alive ≡ w.alive → (is_connected w i ≡ true → w.alive i ≡ true → (v.workers i).asked k ≡ true → (list_any (questions k) (v.up i) || list_any (refreshes k) (v.down i)) ≡ true) → Told2 (at_scheduler v s)
  unfolding scheduled
  r_scheduler v s same living p a c q = more_down (list_any (questions k) (v.up i)) (v.down i) (mail i (sched_step v.sched s).down) (p (before s (ap (λ (f : ℕ → Bool). f i) (sym living) ∙ a) (ap (λ (f : Facts). connected (sched_step f s).facts i) (sym same) ∙ c)) (ap (λ (f : ℕ → Bool). f i) (sym living) ∙ a) q)

  r_own : (v : World) (x : ℕ) (e : WorkerEvent) → IsMessage k e → Told2 v → Told2 (at_worker v x e)
  unfolding worked
  r_own v x e o p a c = pick (eqb i x) refl
    where
      own : i ≡ x → (worker_step (v.workers x) e).facts.asked k ≡ true → (list_any (questions k) (v.up x ++ sends (worker_step (v.workers x) e).out) || list_any (refreshes k) (v.down i)) ≡ true
      own s q = subst (λ y. (list_any (questions k) (v.up y ++ sends (worker_step (v.workers x) e).out) || list_any (refreshes k) (v.down i)) ≡ true) s
          (⊎_elim (λ z. more_up (list_any (refreshes k) (v.down i)) (v.up i) (sends (worker_step (v.workers x) e).out) (p a c (ap (λ y. (v.workers y).asked k) s ∙ z)))
          (λ z. ap (λ b. b || list_any (refreshes k) (v.down i)) (list_any-append (questions k) (v.up i) (sends (worker_step (v.workers x) e).out) ∙ ap (λ b. list_any (questions k) (v.up i) || b) z ∙ or-true (list_any (questions k) (v.up i))))
          (own_asked k (v.workers x) e o q))

      pick : (b : Bool) → eqb i x ≡ b → (cond b (worker_step (v.workers x) e).facts (v.workers i)).asked k ≡ true → (list_any (questions k) (cond b (v.up x ++ sends (worker_step (v.workers x) e).out) (v.up i)) || list_any (refreshes k) (v.down i)) ≡ true
      pick true e = own (eqb-true i x e)
      pick false e = p a c

  r_told : (x : ℕ) (m : Down) (ms : List Down) → w.down x ≡ m ∷ ms → Told2 (at_worker (record w { down = put w.down x ms }) x (Told m))
  unfolding worked
  r_told x m ms e a c = pick (eqb i x) refl
    where
      out : List Up
      out = sends (worker_step (w.workers x) (Told m)).out

      own : i ≡ x → (worker_step (w.workers x) (Told m)).facts.asked k ≡ true → (list_any (questions k) (w.up x ++ out) || list_any (refreshes k) ms) ≡ true
      own s q = subst (λ y. (list_any (questions k) (w.up y ++ out) || list_any (refreshes k) ms) ≡ true) s
          (⊎_elim (λ z. more_up (list_any (refreshes k) ms) (w.up i) out (ap (λ b. list_any (questions k) (w.up i) || (b || list_any (refreshes k) ms)) (sym z.1)
          ∙ ap (λ l. list_any (questions k) (w.up i) || list_any (refreshes k) l) (sym (ap w.down s ∙ e)) ∙ h i k a c (ap (λ y. (w.workers y).asked k) s ∙ z.0)))
          (λ z. ap (λ b. b || list_any (refreshes k) ms) (list_any-append (questions k) (w.up i) out ∙ ap (λ b. list_any (questions k) (w.up i) || b) z ∙ or-true (list_any (questions k) (w.up i))))
          (told_asked k (w.workers x) m q))

      pick : (b : Bool) → eqb i x ≡ b → (cond b (worker_step (w.workers x) (Told m)).facts (w.workers i)).asked k ≡ true → (list_any (questions k) (cond b (w.up x ++ out) (w.up i)) || list_any (refreshes k) (cond b ms (w.down i))) ≡ true
      pick true q = own (eqb-true i x q)
      pick false q = h i k a c

  r_heard : (x : ℕ) (m : Up) (ms : List Up) → w.up x ≡ m ∷ ms → is_connected w x ≡ true → Told2 (at_scheduler (record w { up = put w.up x ms }) (FromWorker x m))
  unfolding scheduled
  r_heard x m ms e there a c q = pick (eqb i x) refl (h i k a (before (FromWorker x m) a c) q)
    where
      sent : List Down
      sent = mail i (sched_step w.sched (FromWorker x m)).down

      asks : i ≡ x → questions k m ≡ true → list_any (refreshes k) sent ≡ true
      asks s z = subst (λ y. connected (sched_step w.sched (FromWorker y m)).facts i ≡ true → IsSound (sched_step w.sched (FromWorker y m)).facts → list_any (refreshes k) (mail i (sched_step w.sched (FromWorker y m)).down) ≡ true) s
          (question_answered w.sched i k m z) c (sound_step w.sched sound (FromWorker x m) (up_taken j.setting.shape w inside x m ms e there))

      pick : (b : Bool) → eqb i x ≡ b → (list_any (questions k) (w.up i) || list_any (refreshes k) (w.down i)) ≡ true → (list_any (questions k) (cond b ms (w.up i)) || list_any (refreshes k) (w.down i ++ sent)) ≡ true
      pick false s p = more_down (list_any (questions k) (w.up i)) (w.down i) sent p
      pick true s p = by (questions k m) refl (ap (λ l. list_any (questions k) l || list_any (refreshes k) (w.down i)) (sym (ap w.up (eqb-true i x s) ∙ e)) ∙ p)
        where
          by : (d : Bool) → questions k m ≡ d → ((questions k m || list_any (questions k) ms) || list_any (refreshes k) (w.down i)) ≡ true → (list_any (questions k) ms || list_any (refreshes k) (w.down i ++ sent)) ≡ true
          by true z r = ap (λ b. list_any (questions k) ms || b) (list_any-append (refreshes k) (w.down i) sent ∙ ap (λ b. list_any (refreshes k) (w.down i) || b) (asks (eqb-true i x s) z) ∙ or-true (list_any (refreshes k) (w.down i))) ∙ or-true (list_any (questions k) ms)
          by false z r = more_down (list_any (questions k) ms) (w.down i) sent (ap (λ b. (b || list_any (questions k) ms) || list_any (refreshes k) (w.down i)) (sym z) ∙ r)

  r_dropped : (x : ℕ) (m : Up) (ms : List Up) → is_connected w x ≡ false → Told2 (record w { up = put w.up x ms })
  r_dropped x m ms gone a c q = pick (eqb i x) refl
    where
      pick : (b : Bool) → eqb i x ≡ b → (list_any (questions k) (cond b ms (w.up i)) || list_any (refreshes k) (w.down i)) ≡ true
      pick true e = absurd (true≢false (sym c ∙ ap (is_connected w) (eqb-true i x e) ∙ gone))
      pick false e = h i k a c q

  r_client : (v : World) (c : ℕ) (e : ClientEvent) → Told2 v → Told2 (at_client v c e)
  unfolding client_worked
  r_client v c e p = p

  r_gathered : (v : World) (a : Asker) (p n : ℕ) (found : List ℕ) → Told2 v → Told2 (gathered_at v a p n found)
  r_gathered v (Worker x) p n found t = r_own v x (Gathered p n found) tt t
  r_gathered v (Client c) p n found t = r_client v c (ClientGathered p n found) t

  r_fails : (a : Asker) (p : ℕ) (o : Option OpenAsk) → Told2 (fail_ask w a p o)
  r_fails a p None = h i k
  r_fails (Worker x) p (Some q) = r_own w x (GatherFailed p q.number) tt (h i k)
  r_fails (Client c) p (Some q) = r_client w c (ClientGatherFailed p q.number) (h i k)

  r_asks : (a : Asker) (p : ℕ) → Told2 (ask_by w a p)
  r_asks (Worker x) p = r_own w x (AskPeer p) tt (h i k)
  r_asks (Client c) p = r_client w c (ClientAsk p) (h i k)

  r_serves : (p : ℕ) (o : Option Parcel) → Told2 (serve w p o)
  r_serves p None = h i k
  r_serves p (Some q) = h i k

  r_answer : (o : Option Parcel) → Told2 (take_answer w o)
  r_answer None = h i k
  r_answer (Some q) = r_gathered (record w { answers = without_parcel q.asker q.peer q.ask w.answers }) q.asker q.peer q.ask q.keys (h i k)

  r_down : (x : ℕ) (ms : List Down) → w.down x ≡ ms → Told2 (take_down_first w x ms)
  r_down x [] e = h i k
  r_down x (m ∷ ms) e = r_told x m ms e

  r_up : (x : ℕ) (ms : List Up) → w.up x ≡ ms → Told2 (take_up_first w x ms)
  r_up x [] e = h i k
  r_up x (m ∷ ms) e = pick (is_connected w x) refl
    where
      pick : (b : Bool) → is_connected w x ≡ b → Told2 (take_up (record w { up = put w.up x ms }) x m b)
      pick true c = r_heard x m ms e c
      pick false c = r_dropped x m ms c

  r_news : (c : ℕ) (ms : List ToClient) → Told2 (take_to_client w c ms)
  r_news c [] = h i k
  r_news c (m ∷ ms) = r_client (record w { to_client = put w.to_client c ms }) c (FromScheduler m) (h i k)

  r_letter : (c : ℕ) (ms : List ClientMessage) → Told2 (take_from_client w c ms)
  r_letter c [] = h i k
  r_letter c (m ∷ ms) = r_scheduler (record w { from_client = put w.from_client c ms }) (FromClient c m) refl refl (λ c a q. h i k a c q)

  r_plain : (s : SchedEvent) → Told2 (at_scheduler w s)
  r_plain s = r_scheduler w s refl refl (λ c a q. h i k a c q)

  r_joined : (threads : ℕ) → Told2 (at_scheduler (new_at w (w.sched.last_worker + 1) threads) (JoinSched threads))
  unfolding scheduled
  r_joined threads a c q = pick (eqb i (w.sched.last_worker + 1)) refl q
    where
      living : (b : Bool) → eqb i (w.sched.last_worker + 1) ≡ b → b ≡ false → w.alive i ≡ true
      living b e z = ap (λ x. cond x true (w.alive i)) (sym (e ∙ z)) ∙ a

      pick : (b : Bool) → eqb i (w.sched.last_worker + 1) ≡ b → (cond b (new_worker (shape_of w) (w.sched.last_worker + 1) threads) (w.workers i)).asked k ≡ true → (list_any (questions k) (w.up i) || list_any (refreshes k) (w.down i ++ mail i (sched_step w.sched (JoinSched threads)).down)) ≡ true
      pick true e q = absurd (false≢true q)
      pick false e q = more_down (list_any (questions k) (w.up i)) (w.down i) (mail i (sched_step w.sched (JoinSched threads)).down) (h i k (living false e refl) (before (JoinSched threads) (living false e refl) c) q)

  r_died : (x : ℕ) → Told2 (died w x)
  r_died x = pick (eqb i x)
    where
      pick : (b : Bool) → cond b false (w.alive i) ≡ true → is_connected w i ≡ true → (cond b (record (w.workers x) { mem = λ q. false }) (w.workers i)).asked k ≡ true → (list_any (questions k) (w.up i) || list_any (refreshes k) (w.down i)) ≡ true
      pick true a c q = absurd (false≢true a)
      pick false a c q = h i k a c q

  r_lost : (x : ℕ) → w.alive x ≡ false → Told2 (cut_off (at_scheduler w (Leave x)) x)
  unfolding scheduled
  r_lost x dead a c q = pick (eqb i x) refl
    where
      pick : (b : Bool) → eqb i x ≡ b → (list_any (questions k) (cond b [] (w.up i)) || list_any (refreshes k) (cond b [] (w.down i ++ mail i (sched_step w.sched (Leave x)).down))) ≡ true
      pick true e = absurd (true≢false (sym a ∙ ap w.alive (eqb-true i x e) ∙ dead))
      pick false e = r_plain (Leave x) a c q

  not_alive : (x : ℕ) → not (w.alive x) ≡ true → w.alive x ≡ false
  not_alive x e = by (w.alive x) e
    where
      by : (b : Bool) → not b ≡ true → b ≡ false
      by true e = absurd (false≢true e)
      by false e = refl

  pub refreshing_step : (e : Event) → enabled w e ≡ true → Told2 (world_step j w e)
  unfolding world_step enabled
  refreshing_step (Want c ks) t = r_client w c (WantKeys ks) (h i k)
  refreshing_step (Release c ks) t = r_client w c (ReleaseKeys ks) (h i k)
  refreshing_step (Join threads) t = r_joined threads
  refreshing_step (Lose x) t = r_died x
  refreshing_step (SeeLoss x) t = r_lost x (not_alive x (and_parts (not (w.alive x)) (is_connected w x) t).0)
  refreshing_step (Suspect x) t = r_plain (Leave x)
  refreshing_step (DeliverDown x) t = r_down x (w.down x) refl
  refreshing_step (DeliverUp x) t = r_up x (w.up x) refl
  refreshing_step (DeliverToClient c) t = r_news c (w.to_client c)
  refreshing_step (DeliverFromClient c) t = r_letter c (w.from_client c)
  refreshing_step (Start x) t = r_own w x StartTask tt (h i k)
  refreshing_step (Finish x q) t = r_own w x (Done q (j.zero q)) tt (h i k)
  refreshing_step (SendGather a p) t = r_asks a p
  refreshing_step (ServeGather p a n) t = r_serves p (parcel_of a p n w.requests)
  refreshing_step (ArriveGather a p n) t = r_answer (parcel_of a p n w.answers)
  refreshing_step (FailGather a p) t = r_fails a p (open_ask w a p)
  refreshing_step Balance t = r_plain BalanceSched
  refreshing_step Evict t = r_plain EvictSched
  refreshing_step (Replicate q x) t = r_plain (ReplicateSched q x)
  refreshing_step (Spill x q) t = h i k
  refreshing_step (LoseSpilled x q) t = r_own w x (DataLost q) tt (h i k)
