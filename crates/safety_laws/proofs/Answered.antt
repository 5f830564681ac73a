-- Each open ask has its request or its answer under way.
use Rattle.std.proofs.Common.{◌≡◌, ℕ, ◌+◌, Bool, true, false, cond, not, ◌&&◌, List, [], ◌∷◌, ◌++◌, Option, Some, None, refl, sym, ap, ◌∙◌, subst, is_some, map, filter, fold, inl, inr, ◌⊎◌, ⊎_elim}
use Rattle.std.proofs.lemmas.Bool.{true≢false, false≢true, eqb-true, eq-eqb}
use Rattle.std.proofs.Math.Dec.{eqb}
use Rattle.cluster_msgs.specs.declared.messages.Down.{Down}
use Rattle.cluster_msgs.specs.declared.messages.Down.TheVariants.{ComputeTask, FreeKeys, StealRequest, RemoveReplicas, AcquireReplicas, RefreshWhoHas}
use Rattle.cluster_msgs.specs.declared.messages.Up.TheVariants.{TaskFinished, MissingData, StealResponse}
use Rattle.cluster_msgs.specs.declared.cores.Instruction.TheVariants.{Keep, Drop, Send}
use Rattle.cluster_msgs.specs.declared.cores.WorkerEvent.{WorkerEvent}
use Rattle.cluster_msgs.specs.declared.cores.WorkerEvent.TheVariants.{Down as Told, Start as StartTask, Done, Ask as AskPeer, Gathered, GatherFailed, DataLost}
use Rattle.cluster_rules.specs.Functions.{put}
use Rattle.cluster_rules.specs.Derived.{is_in}
use Rattle.cluster_rules.specs.Worker.{Ask as OpenAsk, WorkerFacts, awaited, is_wanted, wstate, is_missing_state, would_start, ask_to, without_ask}
use Rattle.cluster_rules.specs.WorkerStep.{WorkerStep, quiet, after_out, each_key, taken, set_holders, into_mem, give_up, given, free_key, yields, asked_back, remove_replica, remove_replicas, acquire, refresh, take_down, start, Arrivals, arrive_as, arrive, arrived, stopped, erred_as, done, keys_of, ask_peer, lose_holders, not_found, answered_ask, gathered_by, gathered, worker_row, worker_step}
use Rattle.cluster_msgs.specs.declared.messages.Up.{Up}
use Rattle.cluster_msgs.specs.declared.messages.ToClient.{ToClient}
use Rattle.cluster_msgs.specs.declared.messages.FromClient.{FromClient as ClientMessage}
use Rattle.cluster_msgs.specs.declared.cores.SchedEvent.{SchedEvent}
use Rattle.cluster_msgs.specs.declared.cores.SchedEvent.TheVariants.{Join as JoinSched, Leave, FromWorker, FromClient, Balance as BalanceSched, Evict as EvictSched, Replicate as ReplicateSched}
use Rattle.cluster_msgs.specs.declared.cores.ClientEvent.{ClientEvent}
use Rattle.cluster_msgs.specs.declared.cores.ClientEvent.TheVariants.{Want as WantKeys, Release as ReleaseKeys, FromScheduler, Ask as ClientAsk, Gathered as ClientGathered, GatherFailed as ClientGatherFailed}
use Rattle.cluster_msgs.specs.declared.events.Asker.{Asker}
use Rattle.cluster_msgs.specs.declared.events.Asker.TheVariants.{Worker, Client}
use Rattle.cluster_msgs.specs.declared.events.Event.{Event}
use Rattle.cluster_msgs.specs.declared.events.Event.TheVariants.{Want, Release, Join, Lose, SeeLoss, Suspect, DeliverDown, DeliverUp, DeliverToClient, DeliverFromClient, Start, Finish, SendGather, ServeGather, ArriveGather, FailGather, Balance, Evict, Replicate, Spill, LoseSpilled}
use Rattle.cluster_rules.specs.World.{Job, World, Parcel, shape_of, is_connected, is_client, is_asker, open_ask, is_parcel, parcel_of, without_parcel}
use Rattle.cluster_rules.specs.WorldStep.{scheduled, worked, client_worked, at_scheduler, at_worker, at_client, new_at, died, cut_off, take_down_first, take_up, take_up_first, take_to_client, take_from_client, ask_by, gathered_at, serve, take_answer, fail_ask, world_step}
use Rattle.cluster_rules.specs.Enabled.{enabled}
use Rattle.std.specs.Prelude.{nat_le, nat_lt}
use Rattle.cluster_rules.specs.Client.{ClientFacts, hear, client_gets, client_misses, client_answered, client_gathered_by, client_gathered, keeps_still, client_wants, client_releases, client_fetchable, client_ask, client_step}
use Rattle.cluster_msgs.specs.declared.messages.ToClient.TheVariants.{KeyInMemory, LostData, ClientTaskErred}
use Rattle.cluster_rules.specs.Worker.{new_worker, with_ask, ask_items, fetchable}
use Rattle.cluster_rules.specs.WorkerStep.{ask_with, unasked_keys}
use Rattle.cluster_msgs.specs.declared.messages.Up.TheVariants.{RequestRefreshWhoHas}
use Rattle.cluster_msgs.specs.declared.cores.Instruction.{Instruction}
use Rattle.cluster_msgs.specs.declared.cores.Instruction.TheVariants.{Execute, Gather}
use Rattle.cluster_msgs.specs.declared.cores.ClientInstruction.{ClientInstruction}
use Rattle.cluster_msgs.specs.declared.cores.ClientInstruction.TheVariants.{Send as ClientSend, Gather as ClientGather}
use Rattle.cluster_rules.specs.World.{with_parcel, parcel_before, same_asker}
use Rattle.cluster_rules.specs.WorldStep.{requested, client_requested, spill}
use Rattle.cluster_rules.specs.Sched.{Setting}
use Rattle.safety_laws.proofs.Turns.{same_setting}
use Rattle.safety_laws.proofs.Lively.{same_asker_is}
use Rattle.std.proofs.lemmas.Bool.{and_parts, and_from}
use Rattle.std.proofs.Math.Bool.{and-false}
use Rattle.std.proofs.lemmas.Option.{same_Some, none-some}
use Rattle.small_facts.proofs.Options.{find_passes}
use Rattle.safety_laws.proofs.Staying.{alive_answer, alive_fails, alive_asks, alive_serves, alive_down, alive_ups, alive_to_client, alive_from_client}

-- ## The rows

asks_set : (w : WorkerFacts) (who : List (ℕ × List (ℕ × ℕ))) → (fold set_holders w who).asks ≡ w.asks
asks_set w [] = refl
asks_set w (x ∷ xs) = asks_set (set_holders w x) xs

asks_acquire : (w : WorkerFacts) (who : List (ℕ × List (ℕ × ℕ))) → (fold acquire w who).asks ≡ w.asks
asks_acquire w [] = refl
asks_acquire w (x ∷ xs) = asks_acquire (acquire w x) xs ∙ one (w.mem x.0)
  where
    one : (b : Bool) → (cond b w (set_holders (record w { sought = put w.sought x.0 true }) x)).asks ≡ w.asks
    one true = refl
    one false = refl

asks_refresh : (w : WorkerFacts) (who : List (ℕ × List (ℕ × ℕ))) → (fold refresh w who).asks ≡ w.asks
asks_refresh w [] = refl
asks_refresh w (x ∷ xs) = asks_refresh (refresh w x) xs

asks_each : {A : Type 0} (row : WorkerFacts → A → WorkerStep) (xs : List A) (s : WorkerStep) → ((v : WorkerFacts) (x : A) → (row v x).facts.asks ≡ v.asks) → (each_key row s xs).facts.asks ≡ s.facts.asks
asks_each row [] s h = refl
asks_each row (x ∷ xs) s h = asks_each row xs (after_out s.out (row s.facts x)) h ∙ h s.facts x

asks_remove : (v : WorkerFacts) (x : ℕ) → (remove_replica v x).facts.asks ≡ v.asks
asks_remove v x = pick (v.mem x && not (awaited v x))
  where
    pick : (b : Bool) → (cond b (record { facts = record v { mem = put v.mem x false }; out = Drop x ∷ [] }) (quiet v)).facts.asks ≡ v.asks
    pick true = refl
    pick false = refl

asks_given : (w : WorkerFacts) (q a : ℕ) (who : List (ℕ × List (ℕ × ℕ))) → (given w q a who).facts.asks ≡ w.asks
unfolding given
asks_given w q a who = pick (w.mem q)
  where
    pick : (b : Bool) → (cond {A = WorkerStep} b (record { facts = record w { failed = put w.failed q false }; out = Send (TaskFinished w.seen q a) ∷ [] }) (quiet (fold set_holders (record w { failed = put w.failed q false; mine = put w.mine q (Some a) }) who))).facts.asks ≡ w.asks
    pick true = refl
    pick false = asks_set (record w { failed = put w.failed q false; mine = put w.mine q (Some a) }) who

asks_asked : (w : WorkerFacts) (q a : ℕ) → (asked_back w q a).facts.asks ≡ w.asks
unfolding asked_back
asks_asked w q a = pick (yields w q a)
  where
    pick : (b : Bool) → (cond {A = WorkerStep} b (record { facts = give_up w q; out = Send (StealResponse w.seen q a true) ∷ [] }) (record { facts = w; out = Send (StealResponse w.seen q a false) ∷ [] })).facts.asks ≡ w.asks
    pick true = refl
    pick false = refl

asks_told : (w : WorkerFacts) (m : Down) → (take_down w m).facts.asks ≡ w.asks
unfolding take_down remove_replicas
asks_told w (ComputeTask q a who) = asks_given w q a who
asks_told w (FreeKeys ks) = asks_each free_key ks (quiet w) (λ v x. refl)
asks_told w (StealRequest q a) = asks_asked w q a
asks_told w (RemoveReplicas ks) = asks_each remove_replica ks (quiet w) asks_remove
asks_told w (AcquireReplicas who) = asks_acquire w who
asks_told w (RefreshWhoHas who) = asks_refresh w who

asks_arrive : (r : Arrivals) (q : ℕ) → (arrive r q).facts.asks ≡ r.facts.asks
asks_arrive r q = pick (r.facts.mine q)
  where
    kept : (b : Bool) → (cond b (record { facts = into_mem r.facts q; out = r.out ++ Keep q ∷ []; added = r.added ++ q ∷ [] }) r).facts.asks ≡ r.facts.asks
    kept true = refl
    kept false = refl

    pick : (o : Option ℕ) → (arrive_as r q o).facts.asks ≡ r.facts.asks
    pick None = kept (is_wanted r.facts q)
    pick (Some a) = refl

asks_arrives : (qs : List ℕ) (r : Arrivals) → (fold arrive r qs).facts.asks ≡ r.facts.asks
asks_arrives [] r = refl
asks_arrives (q ∷ qs) r = asks_arrives qs (arrive r q) ∙ asks_arrive r q

asks_arrived : (w : WorkerFacts) (qs : List ℕ) → (arrived w qs).facts.asks ≡ w.asks
unfolding arrived
asks_arrived w qs = asks_arrives qs (record { facts = w; out = []; added = [] })

asks_not_found : (p : ℕ) (v : WorkerFacts) (x : ℕ × ℕ) → (not_found p v x).facts.asks ≡ v.asks
asks_not_found p v x = pick (is_missing_state (wstate (lose_holders v x.0) x.0))
  where
    pick : (b : Bool) → (cond {A = WorkerStep} b (record { facts = record (lose_holders v x.0) { asked = put v.asked x.0 true }; out = Send (MissingData v.seen x.0 p x.1) ∷ [] }) (quiet (lose_holders v x.0))).facts.asks ≡ v.asks
    pick true = refl
    pick false = refl

-- what an event leaves of the open asks
abbrev AreFewer : List OpenAsk → List OpenAsk → Type 0
AreFewer xs ys = (p : ℕ) (q : OpenAsk) → ask_to ys p ≡ Some q → ask_to xs p ≡ Some q

fewer_same : (xs ys : List OpenAsk) → ys ≡ xs → AreFewer xs ys
fewer_same xs ys e p q h = ap (λ l. ask_to l p) (sym e) ∙ h

-- an ask that is left
left_ask : (x p : ℕ) (q : OpenAsk) (qs : List OpenAsk) → ask_to (without_ask qs x) p ≡ Some q → (ask_to qs p ≡ Some q) × (eqb p x ≡ false)
left_ask x p q [] e = absurd (none-some q e)
left_ask x p q (y ∷ ys) e = pick (eqb y.peer x) refl (eqb y.peer p) refl (λ r. left_ask x p q ys r) e
  where
    pick : (b : Bool) → eqb y.peer x ≡ b → (c : Bool) → eqb y.peer p ≡ c → (ask_to (without_ask ys x) p ≡ Some q → (ask_to ys p ≡ Some q) × (eqb p x ≡ false)) → ask_to (cond (not b) (y ∷ without_ask ys x) (without_ask ys x)) p ≡ Some q → (cond c (Some y) (ask_to ys p) ≡ Some q) × (eqb p x ≡ false)
    pick true i true m rest r = let z = (rest r).1 in absurd (true≢false (sym (eq-eqb p x (sym (eqb-true y.peer p m) ∙ eqb-true y.peer x i)) ∙ z))
    pick true i false m rest r = rest r
    pick false i true m rest r = (sym (ap (λ b. cond b (Some y) (ask_to (without_ask ys x) p)) m) ∙ r, ap (λ n. eqb n x) (sym (eqb-true y.peer p m)) ∙ i)
    pick false i false m rest r = rest (sym (ap (λ b. cond b (Some y) (ask_to (without_ask ys x) p)) m) ∙ r)

-- an answer or a failure: the ask of that number is closed
asks_gathered : (w : WorkerFacts) (x n : ℕ) (found : List ℕ) (p : ℕ) (q : OpenAsk) → ask_to (gathered w x n found).facts.asks p ≡ Some q → (ask_to w.asks p ≡ Some q) × ((eqb p x && eqb q.number n) ≡ false)
unfolding gathered
asks_gathered w x n found p q = by_ask (ask_to w.asks x) refl
  where
    over : (a : OpenAsk) → ask_to w.asks x ≡ Some a → (b : Bool) → eqb a.number n ≡ b → ask_to (cond b (answered_ask (record w { asks = without_ask w.asks x }) x a.items found) (quiet w)).facts.asks p ≡ Some q → (ask_to w.asks p ≡ Some q) × ((eqb p x && eqb q.number n) ≡ false)
    over a e true i h = let l = left_ask x p q w.asks (sym (ap (λ l. ask_to l p) (asks_each (not_found x) (filter (λ k. not (is_in k.0 found)) a.items) (arrived (record w { asks = without_ask w.asks x }) (keys_of (filter (λ k. is_in k.0 found) a.items))) (asks_not_found x)
        ∙ asks_arrived (record w { asks = without_ask w.asks x }) (keys_of (filter (λ k. is_in k.0 found) a.items)))) ∙ h) in (l.0, ap (λ b. b && eqb q.number n) l.1)
    over a e false i h = (h, by (eqb p x) refl)
      where
        by : (b : Bool) → eqb p x ≡ b → (b && eqb q.number n) ≡ false
        by true m = ap (λ (y : OpenAsk). eqb y.number n) (same_Some q a (sym h ∙ ap (ask_to w.asks) (eqb-true p x m) ∙ e)) ∙ i
        by false m = refl

    by_ask : (o : Option OpenAsk) → ask_to w.asks x ≡ o → ask_to (gathered_by w x n found o).facts.asks p ≡ Some q → (ask_to w.asks p ≡ Some q) × ((eqb p x && eqb q.number n) ≡ false)
    by_ask None e h = (h, by (eqb p x) refl)
      where
        by : (b : Bool) → eqb p x ≡ b → (b && eqb q.number n) ≡ false
        by true m = absurd (none-some q (sym e ∙ ap (ask_to w.asks) (sym (eqb-true p x m)) ∙ h))
        by false m = refl
    by_ask (Some a) e h = over a e (eqb a.number n) refl h

asks_start : (w : WorkerFacts) (o : Option ℕ) → (start w o).facts.asks ≡ w.asks
asks_start w None = refl
asks_start w (Some q) = refl

asks_done : (w : WorkerFacts) (q : ℕ) (z : Bool) → (done w q z).facts.asks ≡ w.asks
asks_done w q false = asks_arrived (stopped w q) (q ∷ [])
asks_done w q true = pick (w.mine q)
  where
    pick : (o : Option ℕ) → (erred_as (stopped w q) q o).facts.asks ≡ w.asks
    pick None = refl
    pick (Some a) = refl

abbrev IsNoAsk : WorkerEvent → Type 0
IsNoAsk (AskPeer p) = ⊥
IsNoAsk e = Unit {0}

-- every event but an ask leaves at most the asks that were open
asks_fewer : (w : WorkerFacts) (e : WorkerEvent) → IsNoAsk e → AreFewer w.asks (worker_step w e).facts.asks
unfolding worker_step worker_row
asks_fewer w (Told m) o = fewer_same w.asks _ (asks_told (taken w) m)
asks_fewer w StartTask o = fewer_same w.asks _ (asks_start w (would_start w))
asks_fewer w (Done x z) o = fewer_same w.asks _ (asks_done w x z)
asks_fewer w (AskPeer p) o = absurd o
asks_fewer w (Gathered x n found) o = λ p q h. (asks_gathered w x n found p q h).0
asks_fewer w (GatherFailed x n) o = λ p q h. (asks_gathered w x n [] p q h).0
asks_fewer w (DataLost x) o = fewer_same w.asks _ refl

gathered_closes : (w : WorkerFacts) (x n : ℕ) (found : List ℕ) (p : ℕ) (q : OpenAsk) → ask_to (worker_step w (Gathered x n found)).facts.asks p ≡ Some q → (ask_to w.asks p ≡ Some q) × ((eqb p x && eqb q.number n) ≡ false)
unfolding worker_step worker_row
gathered_closes w x n found p q h = asks_gathered w x n found p q h

-- ## What is under way

abbrev UnderWay : Asker → ℕ → ℕ → List Parcel → List Parcel → Type 0
UnderWay a p n rs ss = (is_some (parcel_of a p n rs) ≡ true) ⊎ (is_some (parcel_of a p n ss) ≡ true)

some_with : (a : Asker) (p n : ℕ) (x : Parcel) (qs : List Parcel) → (is_parcel a p n x ≡ true) ⊎ (is_some (parcel_of a p n qs) ≡ true) → is_some (parcel_of a p n (with_parcel x qs)) ≡ true
some_with a p n x [] h = pick (is_parcel a p n x) h
  where
    pick : (b : Bool) → (b ≡ true) ⊎ (false ≡ true) → is_some (cond b (Some x) None) ≡ true
    pick true h = refl
    pick false (inl e) = absurd (false≢true e)
    pick false (inr e) = absurd (false≢true e)
some_with a p n x (y ∷ ys) h = pick (parcel_before x y) (is_parcel a p n x) refl (is_parcel a p n y) refl h (λ r. some_with a p n x ys r)
  where
    pick : (b : Bool) (c : Bool) → is_parcel a p n x ≡ c → (d : Bool) → is_parcel a p n y ≡ d → (c ≡ true) ⊎ (is_some (cond d (Some y) (parcel_of a p n ys)) ≡ true)
        → ((is_parcel a p n x ≡ true) ⊎ (is_some (parcel_of a p n ys) ≡ true) → is_some (parcel_of a p n (with_parcel x ys)) ≡ true)
        → is_some (parcel_of a p n (cond b (x ∷ y ∷ ys) (y ∷ with_parcel x ys))) ≡ true
    pick true c e d i (inl z) rest = ap (λ u. is_some (cond u (Some x) (cond (is_parcel a p n y) (Some y) (parcel_of a p n ys)))) (e ∙ z)
    pick true c e d i (inr z) rest = either (is_parcel a p n x) (ap (λ u. is_some (cond u (Some y) (parcel_of a p n ys))) i ∙ z)
      where
        either : (u : Bool) → is_some (cond (is_parcel a p n y) (Some y) (parcel_of a p n ys)) ≡ true → is_some (cond u (Some x) (cond (is_parcel a p n y) (Some y) (parcel_of a p n ys))) ≡ true
        either true t = refl
        either false t = t
    pick false c e true i z rest = ap (λ u. is_some (cond u (Some y) (parcel_of a p n (with_parcel x ys)))) i
    pick false c e false i (inl z) rest = ap (λ u. is_some (cond u (Some y) (parcel_of a p n (with_parcel x ys)))) i ∙ rest (inl (e ∙ z))
    pick false c e false i (inr z) rest = ap (λ u. is_some (cond u (Some y) (parcel_of a p n (with_parcel x ys)))) i ∙ rest (inr z)

-- another parcel goes
abbrev IsSame : Asker → ℕ → ℕ → Asker → ℕ → ℕ → Bool
IsSame a p n b x m = same_asker a b && (eqb p x && eqb n m)

same_parcel : (a : Asker) (p n : ℕ) (b : Asker) (x m : ℕ) (q : Parcel) → is_parcel a p n q ≡ true → is_parcel b x m q ≡ true → IsSame a p n b x m ≡ true
same_parcel a p n b x m q h i =
    let t = and_parts (same_asker q.asker a) (eqb q.peer p && eqb q.ask n) h in let t2 = and_parts (eqb q.peer p) (eqb q.ask n) t.1 in
    let u = and_parts (same_asker q.asker b) (eqb q.peer x && eqb q.ask m) i in let u2 = and_parts (eqb q.peer x) (eqb q.ask m) u.1 in
    and_from (same_asker a b) (eqb p x && eqb n m) (ap (λ y. same_asker y b) (sym (same_asker_is q.asker a t.0)) ∙ u.0)
    (and_from (eqb p x) (eqb n m) (ap (λ y. eqb y x) (sym (eqb-true q.peer p t2.0)) ∙ u2.0) (ap (λ y. eqb y m) (sym (eqb-true q.ask n t2.1)) ∙ u2.1))

some_without : (a : Asker) (p n : ℕ) (b : Asker) (x m : ℕ) (qs : List Parcel) → IsSame a p n b x m ≡ false → is_some (parcel_of a p n qs) ≡ true → is_some (parcel_of a p n (without_parcel b x m qs)) ≡ true
some_without a p n b x m [] s h = absurd (false≢true h)
some_without a p n b x m (y ∷ ys) s h = pick (is_parcel a p n y) refl (is_parcel b x m y) refl h (λ r. some_without a p n b x m ys s r)
  where
    pick : (c : Bool) → is_parcel a p n y ≡ c → (d : Bool) → is_parcel b x m y ≡ d → is_some (cond c (Some y) (parcel_of a p n ys)) ≡ true → (is_some (parcel_of a p n ys) ≡ true → is_some (parcel_of a p n (without_parcel b x m ys)) ≡ true)
        → is_some (parcel_of a p n (cond (not d) (y ∷ without_parcel b x m ys) (without_parcel b x m ys))) ≡ true
    pick true e true i z rest = absurd (true≢false (sym (same_parcel a p n b x m y e i) ∙ s))
    pick true e false i z rest = ap (λ u. is_some (cond u (Some y) (parcel_of a p n (without_parcel b x m ys)))) e
    pick false e true i z rest = rest z
    pick false e false i z rest = ap (λ u. is_some (cond u (Some y) (parcel_of a p n (without_parcel b x m ys)))) e ∙ rest z

-- requests that are added leave those under way
some_requested : (a : Asker) (p n : ℕ) (b : Asker) (out : List Instruction) (qs : List Parcel) → is_some (parcel_of a p n qs) ≡ true → is_some (parcel_of a p n (requested b qs out)) ≡ true
some_requested a p n b [] qs h = h
some_requested a p n b (Gather x m ks ∷ is) qs h = some_requested a p n b is (with_parcel (record { asker = b; peer = x; ask = m; keys = ks }) qs) (some_with a p n (record { asker = b; peer = x; ask = m; keys = ks }) qs (inr h))
some_requested a p n b (Send m ∷ is) qs h = some_requested a p n b is qs h
some_requested a p n b (Execute k ∷ is) qs h = some_requested a p n b is qs h
some_requested a p n b (Keep k ∷ is) qs h = some_requested a p n b is qs h
some_requested a p n b (Drop k ∷ is) qs h = some_requested a p n b is qs h

some_client_requested : (a : Asker) (p n : ℕ) (b : Asker) (out : List ClientInstruction) (qs : List Parcel) → is_some (parcel_of a p n qs) ≡ true → is_some (parcel_of a p n (client_requested b qs out)) ≡ true
some_client_requested a p n b [] qs h = h
some_client_requested a p n b (ClientGather x m ks ∷ is) qs h = some_client_requested a p n b is (with_parcel (record { asker = b; peer = x; ask = m; keys = ks }) qs) (some_with a p n (record { asker = b; peer = x; ask = m; keys = ks }) qs (inr h))
some_client_requested a p n b (ClientSend m ∷ is) qs h = some_client_requested a p n b is qs h

self_asker : (a : Asker) → same_asker a a ≡ true
self_asker (Worker i) = eq-eqb i i refl
self_asker (Client c) = eq-eqb c c refl

self_parcel : (a : Asker) (p n : ℕ) (ks : List ℕ) → is_parcel a p n (record { asker = a; peer = p; ask = n; keys = ks }) ≡ true
self_parcel a p n ks = and_from (same_asker a a) (eqb p p && eqb n n) (self_asker a) (and_from (eqb p p) (eqb n n) (eq-eqb p p refl) (eq-eqb n n refl))

-- an ask that is opened
with_one : (a : OpenAsk) (qs : List OpenAsk) (p : ℕ) (q : OpenAsk) → ask_to (with_ask a qs) p ≡ Some q → ((q ≡ a) × (p ≡ a.peer)) ⊎ (ask_to qs p ≡ Some q)
with_one a [] p q h = pick (eqb a.peer p) refl h
  where
    same : (u v : OpenAsk) → Some u ≡ Some v → v ≡ u
    same u v z = cc

    pick : (b : Bool) → eqb a.peer p ≡ b → cond b (Some a) None ≡ Some q → ((q ≡ a) × (p ≡ a.peer)) ⊎ (None ≡ Some q)
    pick true e z = inl (same a q z, sym (eqb-true a.peer p e))
    pick false e z = inr z
with_one a (y ∷ ys) p q h = pick (nat_lt a.peer y.peer) (eqb a.peer p) refl (eqb y.peer p) refl h (λ r. with_one a ys p q r)
  where
    same : (u v : OpenAsk) → Some u ≡ Some v → v ≡ u
    same u v z = cc

    pick : (b c : Bool) → eqb a.peer p ≡ c → (d : Bool) → eqb y.peer p ≡ d → ask_to (cond b (a ∷ y ∷ ys) (y ∷ with_ask a ys)) p ≡ Some q → (ask_to (with_ask a ys) p ≡ Some q → ((q ≡ a) × (p ≡ a.peer)) ⊎ (ask_to ys p ≡ Some q))
        → ((q ≡ a) × (p ≡ a.peer)) ⊎ (cond d (Some y) (ask_to ys p) ≡ Some q)
    pick true true e d i z rest = inl (same a q (sym (ap (λ u. cond u (Some a) (cond (eqb y.peer p) (Some y) (ask_to ys p))) e) ∙ z), sym (eqb-true a.peer p e))
    pick true false e d i z rest = inr (ap (λ u. cond u (Some y) (ask_to ys p)) (sym i) ∙ sym (ap (λ u. cond u (Some a) (cond (eqb y.peer p) (Some y) (ask_to ys p))) e) ∙ z)
    pick false c e true i z rest = inr (sym (ap (λ u. cond u (Some y) (ask_to (with_ask a ys) p)) i) ∙ z)
    pick false c e false i z rest = rest (sym (ap (λ u. cond u (Some y) (ask_to (with_ask a ys) p)) i) ∙ z)

-- ## One asker's events

-- whoever it is: where each ask that is open then was open and isn't what goes, or is new and its request was sent
abbrev AsksAnswered : (ℕ → Option OpenAsk) → Asker → List Parcel → List Parcel → Type 0
AsksAnswered asks a rs ss = (p : ℕ) (q : OpenAsk) → asks p ≡ Some q → UnderWay a p q.number rs ss

worker_answered : (w : World) (i : ℕ) (e : WorkerEvent) → IsNoAsk e → AsksAnswered (ask_to (w.workers i).asks) (Worker i) w.requests w.answers → AsksAnswered (ask_to (worker_step (w.workers i) e).facts.asks) (Worker i) (requested (Worker i) w.requests (worker_step (w.workers i) e).out) w.answers
worker_answered w i e o h p q k = ⊎_elim (λ r. inl (some_requested (Worker i) p q.number (Worker i) (worker_step (w.workers i) e).out w.requests r)) (λ r. inr r) (h p q (asks_fewer (w.workers i) e o p q k))

worker_asks : (w : World) (i x : ℕ) → AsksAnswered (ask_to (w.workers i).asks) (Worker i) w.requests w.answers → AsksAnswered (ask_to (worker_step (w.workers i) (AskPeer x)).facts.asks) (Worker i) (requested (Worker i) w.requests (worker_step (w.workers i) (AskPeer x)).out) w.answers
unfolding worker_step worker_row ask_peer
worker_asks w i x h p q k = ⊎_elim (λ n. inl (some_requested (Worker i) p q.number (Worker i) (map (λ y. Send (RequestRefreshWhoHas (w.workers i).seen y)) (unasked_keys s.facts)) (with_parcel r w.requests)
    (some_with (Worker i) p q.number r w.requests (inl (ap (λ (y : OpenAsk). is_parcel (Worker i) p y.number r) n.0 ∙ ap (λ y. is_parcel (Worker i) y (w.workers i).next_ask r) n.1 ∙ self_parcel (Worker i) x (w.workers i).next_ask (keys_of items))))))
    (λ o. ⊎_elim (λ u. inl (some_requested (Worker i) p q.number (Worker i) (worker_step (w.workers i) (AskPeer x)).out w.requests u)) (λ u. inr u) (h p q o))
    (with_one (record { peer = x; number = (w.workers i).next_ask; items = items }) (w.workers i).asks p q k)
  where
    items : List (ℕ × ℕ)
    items = ask_items (w.workers i).shape (fetchable (w.workers i) x)

    s : WorkerStep
    s = ask_with (w.workers i) x items

    r : Parcel
    r = record { asker = Worker i; peer = x; ask = (w.workers i).next_ask; keys = keys_of items }

worker_gathers : (w : World) (i x n : ℕ) (found : List ℕ) → AsksAnswered (ask_to (w.workers i).asks) (Worker i) w.requests w.answers
    → AsksAnswered (ask_to (worker_step (w.workers i) (Gathered x n found)).facts.asks) (Worker i) (requested (Worker i) w.requests (worker_step (w.workers i) (Gathered x n found)).out) (without_parcel (Worker i) x n w.answers)
worker_gathers w i x n found h p q k = let g = gathered_closes (w.workers i) x n found p q k in
    ⊎_elim (λ r. inl (some_requested (Worker i) p q.number (Worker i) (worker_step (w.workers i) (Gathered x n found)).out w.requests r))
    (λ r. inr (some_without (Worker i) p q.number (Worker i) x n w.answers (ap (λ b. same_asker (Worker i) (Worker i) && b) g.1 ∙ and-false (eqb i i)) r)) (h p q g.0)

-- a client
pub gets_asks : (ks : List ℕ) (c : ClientFacts) → (fold client_gets c ks).asks ≡ c.asks
gets_asks [] c = refl
gets_asks (k ∷ ks) c = gets_asks ks (client_gets c k) ∙ one (c.wants k)
  where
    one : (b : Bool) → (cond b (record c { got = put c.got k true; located = put c.located k [] }) c).asks ≡ c.asks
    one true = refl
    one false = refl

pub misses_asks : (is : List (ℕ × ℕ)) (c : ClientFacts) → (fold client_misses c is).asks ≡ c.asks
misses_asks [] c = refl
misses_asks (i ∷ is) c = misses_asks is (client_misses c i)

hears_asks : (c : ClientFacts) (m : ToClient) → (hear c m).asks ≡ c.asks
unfolding hear
hears_asks c (KeyInMemory k hs) = pick (c.wants k && not (c.got k))
  where
    pick : (b : Bool) → (cond b (record c { located = put c.located k hs }) c).asks ≡ c.asks
    pick true = refl
    pick false = refl
hears_asks c (LostData k) = refl
hears_asks c (ClientTaskErred k x) = pick (c.wants k && not (c.got k))
  where
    pick : (b : Bool) → (cond b (record c { failed = put c.failed k (Some x); located = put c.located k [] }) c).asks ≡ c.asks
    pick true = refl
    pick false = refl

client_closes : (c : ClientFacts) (x n : ℕ) (found : List ℕ) (p : ℕ) (q : OpenAsk) → ask_to (client_gathered c x n found).facts.asks p ≡ Some q → (ask_to c.asks p ≡ Some q) × ((eqb p x && eqb q.number n) ≡ false)
unfolding client_gathered
client_closes c x n found p q = by_ask (ask_to c.asks x) refl
  where
    over : (a : OpenAsk) → ask_to c.asks x ≡ Some a → (b : Bool) → eqb a.number n ≡ b → ask_to (cond b (client_answered (record c { asks = without_ask c.asks x }) x (keys_of (filter (λ i. is_in i.0 found) a.items)) (filter (λ i. not (is_in i.0 found)) a.items)) (keeps_still c)).facts.asks p ≡ Some q → (ask_to c.asks p ≡ Some q) × ((eqb p x && eqb q.number n) ≡ false)
    over a e true i h = let l = left_ask x p q c.asks (sym (ap (λ l. ask_to l p) (misses_asks (filter (λ i. not (is_in i.0 found)) a.items) (fold client_gets (record c { asks = without_ask c.asks x }) (keys_of (filter (λ i. is_in i.0 found) a.items)))
        ∙ gets_asks (keys_of (filter (λ i. is_in i.0 found) a.items)) (record c { asks = without_ask c.asks x }))) ∙ h) in (l.0, ap (λ b. b && eqb q.number n) l.1)
    over a e false i h = (h, by (eqb p x) refl)
      where
        by : (b : Bool) → eqb p x ≡ b → (b && eqb q.number n) ≡ false
        by true m = ap (λ (y : OpenAsk). eqb y.number n) (same_Some q a (sym h ∙ ap (ask_to c.asks) (eqb-true p x m) ∙ e)) ∙ i
        by false m = refl

    by_ask : (o : Option OpenAsk) → ask_to c.asks x ≡ o → ask_to (client_gathered_by c x n found o).facts.asks p ≡ Some q → (ask_to c.asks p ≡ Some q) × ((eqb p x && eqb q.number n) ≡ false)
    by_ask None e h = (h, by (eqb p x) refl)
      where
        by : (b : Bool) → eqb p x ≡ b → (b && eqb q.number n) ≡ false
        by true m = absurd (none-some q (sym e ∙ ap (ask_to c.asks) (sym (eqb-true p x m)) ∙ h))
        by false m = refl
    by_ask (Some a) e h = over a e (eqb a.number n) refl h

abbrev IsNoClientAsk : ClientEvent → Type 0
IsNoClientAsk (ClientAsk p) = ⊥
IsNoClientAsk e = Unit {0}

client_fewer : (c : ClientFacts) (e : ClientEvent) → IsNoClientAsk e → AreFewer c.asks (client_step c e).facts.asks
unfolding client_step client_wants client_releases
client_fewer c (WantKeys ks) o = fewer_same c.asks _ refl
client_fewer c (ReleaseKeys ks) o = fewer_same c.asks _ refl
client_fewer c (FromScheduler m) o = fewer_same c.asks _ (hears_asks c m)
client_fewer c (ClientAsk p) o = absurd o
client_fewer c (ClientGathered x n found) o = λ p q h. (client_closes c x n found p q h).0
client_fewer c (ClientGatherFailed x n) o = λ p q h. (client_closes c x n [] p q h).0

client_answers : (w : World) (c : ℕ) (e : ClientEvent) → IsNoClientAsk e → AsksAnswered (ask_to (w.clients c).asks) (Client c) w.requests w.answers → AsksAnswered (ask_to (client_step (w.clients c) e).facts.asks) (Client c) (client_requested (Client c) w.requests (client_step (w.clients c) e).out) w.answers
client_answers w c e o h p q k = ⊎_elim (λ r. inl (some_client_requested (Client c) p q.number (Client c) (client_step (w.clients c) e).out w.requests r)) (λ r. inr r) (h p q (client_fewer (w.clients c) e o p q k))

client_asks : (w : World) (c x : ℕ) → AsksAnswered (ask_to (w.clients c).asks) (Client c) w.requests w.answers → AsksAnswered (ask_to (client_step (w.clients c) (ClientAsk x)).facts.asks) (Client c) (client_requested (Client c) w.requests (client_step (w.clients c) (ClientAsk x)).out) w.answers
unfolding client_step client_ask
client_asks w c x h p q k = ⊎_elim (λ n. inl (some_with (Client c) p q.number r w.requests (inl (ap (λ (y : OpenAsk). is_parcel (Client c) p y.number r) n.0 ∙ ap (λ y. is_parcel (Client c) y (w.clients c).next_ask r) n.1 ∙ self_parcel (Client c) x (w.clients c).next_ask (keys_of items)))))
    (λ o. ⊎_elim (λ u. inl (some_with (Client c) p q.number r w.requests (inr u))) (λ u. inr u) (h p q o))
    (with_one (record { peer = x; number = (w.clients c).next_ask; items = items }) (w.clients c).asks p q k)
  where
    items : List (ℕ × ℕ)
    items = ask_items (w.clients c).shape (client_fetchable (w.clients c) x)

    r : Parcel
    r = record { asker = Client c; peer = x; ask = (w.clients c).next_ask; keys = keys_of items }

client_gathers : (w : World) (c x n : ℕ) (found : List ℕ) → AsksAnswered (ask_to (w.clients c).asks) (Client c) w.requests w.answers
    → AsksAnswered (ask_to (client_step (w.clients c) (ClientGathered x n found)).facts.asks) (Client c) (client_requested (Client c) w.requests (client_step (w.clients c) (ClientGathered x n found)).out) (without_parcel (Client c) x n w.answers)
unfolding client_step
client_gathers w c x n found h p q k = let g = client_closes (w.clients c) x n found p q k in
    ⊎_elim (λ r. inl (some_client_requested (Client c) p q.number (Client c) (client_gathered (w.clients c) x n found).out w.requests r))
    (λ r. inr (some_without (Client c) p q.number (Client c) x n w.answers (ap (λ b. same_asker (Client c) (Client c) && b) g.1 ∙ and-false (eqb c c)) r)) (h p q g.0)

-- ## The world

abbrev Answers : World → Asker → Type 0
Answers w a = AsksAnswered (open_ask w a) a w.requests w.answers

an_worker : (w : World) (i : ℕ) (e : WorkerEvent) (ss : List Parcel) → AsksAnswered (ask_to (worker_step (w.workers i) e).facts.asks) (Worker i) (requested (Worker i) w.requests (worker_step (w.workers i) e).out) ss
    → (a : Asker) → (same_asker a (Worker i) ≡ false → AsksAnswered (open_ask w a) a w.requests ss) → Answers (record (at_worker w i e) { answers = ss }) a
unfolding worked
an_worker w i e ss own (Worker x) h p q k = pick (eqb x i) refl p q k
  where
    pick : (b : Bool) → eqb x i ≡ b → AsksAnswered (ask_to (cond b (worker_step (w.workers i) e).facts (w.workers x)).asks) (Worker x) (requested (Worker i) w.requests (worker_step (w.workers i) e).out) ss
    pick true s p2 q2 k2 = subst (λ y. AsksAnswered (ask_to (worker_step (w.workers i) e).facts.asks) (Worker y) (requested (Worker i) w.requests (worker_step (w.workers i) e).out) ss) (sym (eqb-true x i s)) own p2 q2 k2
    pick false s p2 q2 k2 = ⊎_elim (λ r. inl (some_requested (Worker x) p2 q2.number (Worker i) (worker_step (w.workers i) e).out w.requests r)) (λ r. inr r) (h s p2 q2 k2)
an_worker w i e ss own (Client c) h p q k = ⊎_elim (λ r. inl (some_requested (Client c) p q.number (Worker i) (worker_step (w.workers i) e).out w.requests r)) (λ r. inr r) (h refl p q k)

an_client : (w : World) (c : ℕ) (e : ClientEvent) (ss : List Parcel) → (a : Asker) → (same_asker a (Client c) ≡ true → AsksAnswered (ask_to (client_step (w.clients c) e).facts.asks) (Client c) (client_requested (Client c) w.requests (client_step (w.clients c) e).out) ss)
    → (same_asker a (Client c) ≡ false → AsksAnswered (open_ask w a) a w.requests ss) → Answers (record (at_client w c e) { answers = ss }) a
unfolding client_worked
an_client w c e ss (Client x) own h p q k = pick (eqb x c) refl p q k
  where
    pick : (b : Bool) → eqb x c ≡ b → AsksAnswered (ask_to (cond b (client_step (w.clients c) e).facts (w.clients x)).asks) (Client x) (client_requested (Client c) w.requests (client_step (w.clients c) e).out) ss
    pick true s p2 q2 k2 = subst (λ y. AsksAnswered (ask_to (client_step (w.clients c) e).facts.asks) (Client y) (client_requested (Client c) w.requests (client_step (w.clients c) e).out) ss) (sym (eqb-true x c s)) (own s) p2 q2 k2
    pick false s p2 q2 k2 = ⊎_elim (λ r. inl (some_client_requested (Client x) p2 q2.number (Client c) (client_step (w.clients c) e).out w.requests r)) (λ r. inr r) (h s p2 q2 k2)
an_client w c e ss (Worker i) own h p q k = ⊎_elim (λ r. inl (some_client_requested (Worker i) p q.number (Client c) (client_step (w.clients c) e).out w.requests r)) (λ r. inr r) (h refl p q k)

-- who is alive, and which clients there are, after an event
abbrev alive_after : World → Event → ℕ → Bool
alive_after w (Join threads) = put w.alive (w.sched.last_worker + 1) true
alive_after w (Lose i) = put w.alive i false
alive_after w _ = w.alive

pub alive_is : (j : Job) (w : World) (e : Event) → (world_step j w e).alive ≡ alive_after w e
unfolding world_step scheduled worked client_worked
alive_is j w (Want c ks) = refl
alive_is j w (Release c ks) = refl
alive_is j w (Join threads) = refl
alive_is j w (Lose i) = refl
alive_is j w (SeeLoss i) = refl
alive_is j w (Suspect i) = refl
alive_is j w (DeliverDown i) = alive_down w i (w.down i)
alive_is j w (DeliverUp i) = alive_ups w i (w.up i)
alive_is j w (DeliverToClient c) = alive_to_client w c (w.to_client c)
alive_is j w (DeliverFromClient c) = alive_from_client w c (w.from_client c)
alive_is j w (Start i) = refl
alive_is j w (Finish i k) = refl
alive_is j w (SendGather a p) = alive_asks w a p
alive_is j w (ServeGather p a n) = alive_serves w p (parcel_of a p n w.requests)
alive_is j w (ArriveGather a p n) = alive_answer w (parcel_of a p n w.answers)
alive_is j w (FailGather a p) = alive_fails w a p (open_ask w a p)
alive_is j w Balance = refl
alive_is j w Evict = refl
alive_is j w (Replicate k i) = refl
alive_is j w (Spill i k) = refl
alive_is j w (LoseSpilled i k) = refl

module _ (w : World) (h : (a : Asker) → is_asker w a ≡ true → Answers w a) where
  -- what an actor does, where its own asks are answered
  an_own : (v : World) (i : ℕ) (e : WorkerEvent) → IsNoAsk e → v.workers ≡ w.workers → v.requests ≡ w.requests → v.answers ≡ w.answers → v.clients ≡ w.clients → w.alive i ≡ true → (a : Asker) → is_asker w a ≡ true → Answers (at_worker v i e) a
  unfolding worked
  an_own v i e o m r s k t a u = an_worker v i e v.answers (worker_answered v i e o (from (Worker i) t)) a (λ _. from a u)
    where
      from : (b : Asker) → is_asker w b ≡ true → AsksAnswered (open_ask v b) b v.requests v.answers
      from (Worker x) t p q z = subst (λ (y : List Parcel × List Parcel). UnderWay (Worker x) p q.number y.0 y.1) (λ l. (sym r l, sym s l)) (h (Worker x) t p q (ap (λ (f : ℕ → WorkerFacts). ask_to (f x).asks p) (sym m) ∙ z))
      from (Client c) t p q z = subst (λ (y : List Parcel × List Parcel). UnderWay (Client c) p q.number y.0 y.1) (λ l. (sym r l, sym s l)) (h (Client c) t p q (ap (λ (f : ℕ → ClientFacts). ask_to (f c).asks p) (sym k) ∙ z))

  an_told : (v : World) (c : ℕ) (e : ClientEvent) → IsNoClientAsk e → v.workers ≡ w.workers → v.requests ≡ w.requests → v.answers ≡ w.answers → v.clients ≡ w.clients → (a : Asker) → is_asker w a ≡ true → Answers (at_client v c e) a
  unfolding client_worked
  an_told v c e o m r s k a u = an_client v c e v.answers a (λ z. client_answers v c e o (from (Client c) (ap (is_asker w) (sym (same_asker_is a (Client c) z)) ∙ u))) (λ _. from a u)
    where
      from : (b : Asker) → is_asker w b ≡ true → AsksAnswered (open_ask v b) b v.requests v.answers
      from (Worker x) t p q z = subst (λ (y : List Parcel × List Parcel). UnderWay (Worker x) p q.number y.0 y.1) (λ l. (sym r l, sym s l)) (h (Worker x) t p q (ap (λ (f : ℕ → WorkerFacts). ask_to (f x).asks p) (sym m) ∙ z))
      from (Client c) t p q z = subst (λ (y : List Parcel × List Parcel). UnderWay (Client c) p q.number y.0 y.1) (λ l. (sym r l, sym s l)) (h (Client c) t p q (ap (λ (f : ℕ → ClientFacts). ask_to (f c).asks p) (sym k) ∙ z))

  an_asks : (a : Asker) (x : ℕ) → is_asker w a ≡ true → (b : Asker) → is_asker w b ≡ true → Answers (ask_by w a x) b
  unfolding worked client_worked
  an_asks (Worker i) x t b u = an_worker w i (AskPeer x) w.answers (worker_asks w i x (h (Worker i) t)) b (λ _. h b u)
  an_asks (Client c) x t b u = an_client w c (ClientAsk x) w.answers b (λ z. client_asks w c x (h (Client c) t)) (λ _. h b u)

  an_fails : (a : Asker) (x : ℕ) (o : Option OpenAsk) → is_asker w a ≡ true → (b : Asker) → is_asker w b ≡ true → Answers (fail_ask w a x o) b
  an_fails a x None t b u = h b u
  an_fails (Worker i) x (Some q) t b u = an_own w i (GatherFailed x q.number) tt refl refl refl refl t b u
  an_fails (Client c) x (Some q) t b u = an_told w c (ClientGatherFailed x q.number) tt refl refl refl refl b u

  an_serves : (p : ℕ) (o : Option Parcel) → (b : Asker) → is_asker w b ≡ true → Answers (serve w p o) b
  an_serves p None b u = h b u
  an_serves p (Some r) b u = kept b u
    where
      moved : (b : Asker) (p2 n : ℕ) → UnderWay b p2 n w.requests w.answers → UnderWay b p2 n (without_parcel r.asker r.peer r.ask w.requests) (with_parcel (record r { keys = filter (w.workers p).mem r.keys }) w.answers)
      moved b p2 n (inr e) = inr (some_with b p2 n (record r { keys = filter (w.workers p).mem r.keys }) w.answers (inr e))
      moved b p2 n (inl e) = pick (IsSame b p2 n r.asker r.peer r.ask) refl
        where
          turn : (x y : Asker) → same_asker x y ≡ true → same_asker y x ≡ true
          turn (Worker x) (Worker y) s = eq-eqb y x (sym (eqb-true x y s))
          turn (Client x) (Client y) s = eq-eqb y x (sym (eqb-true x y s))
          turn (Worker x) (Client y) s = absurd (false≢true s)
          turn (Client x) (Worker y) s = absurd (false≢true s)

          pick : (c : Bool) → IsSame b p2 n r.asker r.peer r.ask ≡ c → UnderWay b p2 n (without_parcel r.asker r.peer r.ask w.requests) (with_parcel (record r { keys = filter (w.workers p).mem r.keys }) w.answers)
          pick true s = let t = and_parts (same_asker b r.asker) (eqb p2 r.peer && eqb n r.ask) s in let v = and_parts (eqb p2 r.peer) (eqb n r.ask) t.1 in
              inr (some_with b p2 n (record r { keys = filter (w.workers p).mem r.keys }) w.answers (inl (and_from (same_asker r.asker b) (eqb r.peer p2 && eqb r.ask n) (turn b r.asker t.0) (and_from (eqb r.peer p2) (eqb r.ask n) (eq-eqb r.peer p2 (sym (eqb-true p2 r.peer v.0))) (eq-eqb r.ask n (sym (eqb-true n r.ask v.1)))))))
          pick false s = inl (some_without b p2 n r.asker r.peer r.ask w.requests s e)

      kept : (b : Asker) → is_asker w b ≡ true → AsksAnswered (open_ask w b) b (without_parcel r.asker r.peer r.ask w.requests) (with_parcel (record r { keys = filter (w.workers p).mem r.keys }) w.answers)
      kept b u p2 q k = moved b p2 q.number (h b u p2 q k)

  -- an answer that comes
  fewer_answers : (b c : Asker) (x m : ℕ) → is_asker w b ≡ true → same_asker b c ≡ false → AsksAnswered (open_ask w b) b w.requests (without_parcel c x m w.answers)
  fewer_answers b c x m u s p q k = ⊎_elim (λ e. inl e) (λ e. inr (some_without b p q.number c x m w.answers (ap (λ y. y && (eqb p x && eqb q.number m)) s) e)) (h b u p q k)

  an_answer : (a : Asker) (p n : ℕ) (o : Option Parcel) → parcel_of a p n w.answers ≡ o → is_asker w a ≡ true → (b : Asker) → is_asker w b ≡ true → Answers (take_answer w o) b
  unfolding worked client_worked
  an_answer a p n None e t b u = h b u
  an_answer a p n (Some q) e t b u = by q.asker (asker_of (and_parts (same_asker q.asker a) _ (find_passes (is_parcel a p n) w.answers q e)).0)
    where
      asker_of : same_asker q.asker a ≡ true → is_asker w q.asker ≡ true
      asker_of s = ap (is_asker w) (same_asker_is q.asker a s) ∙ t

      by : (c : Asker) → is_asker w c ≡ true → Answers (gathered_at (record w { answers = without_parcel c q.peer q.ask w.answers }) c q.peer q.ask q.keys) b
      by (Worker i) t = an_worker w i (Gathered q.peer q.ask q.keys) (without_parcel (Worker i) q.peer q.ask w.answers) (worker_gathers w i q.peer q.ask q.keys (h (Worker i) t)) b (λ s. fewer_answers b (Worker i) q.peer q.ask u s)
      by (Client c) t = an_client w c (ClientGathered q.peer q.ask q.keys) (without_parcel (Client c) q.peer q.ask w.answers) b (λ z. client_gathers w c q.peer q.ask q.keys (h (Client c) t)) (λ s. fewer_answers b (Client c) q.peer q.ask u s)

  an_down : (i : ℕ) (ms : List Down) → w.alive i ≡ true → (b : Asker) → is_asker w b ≡ true → Answers (take_down_first w i ms) b
  an_down i [] t b u = h b u
  an_down i (m ∷ ms) t b u = an_own (record w { down = put w.down i ms }) i (Told m) tt refl refl refl refl t b u

  an_news : (c : ℕ) (ms : List ToClient) (b : Asker) → is_asker w b ≡ true → Answers (take_to_client w c ms) b
  an_news c [] b u = h b u
  an_news c (m ∷ ms) b u = an_told (record w { to_client = put w.to_client c ms }) c (FromScheduler m) tt refl refl refl refl b u

  an_scheduler : (v : World) (s : SchedEvent) → v.workers ≡ w.workers → v.requests ≡ w.requests → v.answers ≡ w.answers → v.clients ≡ w.clients → (b : Asker) → is_asker w b ≡ true → Answers (at_scheduler v s) b
  unfolding scheduled
  an_scheduler v s m r k c (Worker x) u p q z = subst (λ (y : List Parcel × List Parcel). UnderWay (Worker x) p q.number y.0 y.1) (λ l. (sym r l, sym k l)) (h (Worker x) u p q (ap (λ (f : ℕ → WorkerFacts). ask_to (f x).asks p) (sym m) ∙ z))
  an_scheduler v s m r k c (Client x) u p q z = subst (λ (y : List Parcel × List Parcel). UnderWay (Client x) p q.number y.0 y.1) (λ l. (sym r l, sym k l)) (h (Client x) u p q (ap (λ (f : ℕ → ClientFacts). ask_to (f x).asks p) (sym c) ∙ z))

  an_up : (i : ℕ) (ms : List Up) (b : Asker) → is_asker w b ≡ true → Answers (take_up_first w i ms) b
  an_up i [] b u = h b u
  an_up i (m ∷ ms) b u = pick (is_connected w i)
    where
      less : (b : Asker) → is_asker w b ≡ true → Answers (record w { up = put w.up i ms }) b
      less (Worker x) u = h (Worker x) u
      less (Client c) u = h (Client c) u

      pick : (d : Bool) → Answers (take_up (record w { up = put w.up i ms }) i m d) b
      pick true = an_scheduler (record w { up = put w.up i ms }) (FromWorker i m) refl refl refl refl b u
      pick false = less b u

  an_letter : (c : ℕ) (ms : List ClientMessage) (b : Asker) → is_asker w b ≡ true → Answers (take_from_client w c ms) b
  an_letter c [] b u = h b u
  an_letter c (m ∷ ms) b u = an_scheduler (record w { from_client = put w.from_client c ms }) (FromClient c m) refl refl refl refl b u

  an_joined : (i threads : ℕ) (b : Asker) → is_asker (new_at w i threads) b ≡ true → Answers (new_at w i threads) b
  an_joined i threads (Client c) u = h (Client c) u
  an_joined i threads (Worker x) u = pick (eqb x i) u
    where
      pick : (d : Bool) → cond d true (w.alive x) ≡ true → AsksAnswered (ask_to (cond d (new_worker (shape_of w) i threads) (w.workers x)).asks) (Worker x) w.requests w.answers
      pick true u p q k = absurd (none-some q k)
      pick false u p q k = h (Worker x) u p q k

  an_died : (i : ℕ) (b : Asker) → is_asker (died w i) b ≡ true → Answers (died w i) b
  an_died i (Client c) u = h (Client c) u
  an_died i (Worker x) u = pick (eqb x i) u
    where
      pick : (d : Bool) → cond d false (w.alive x) ≡ true → AsksAnswered (ask_to (cond d (record (w.workers i) { mem = λ k. false }) (w.workers x)).asks) (Worker x) w.requests w.answers
      pick true u = absurd (false≢true u)
      pick false u = h (Worker x) u

  -- who may ask afterwards might before
  asked_before : (j : Job) (e : Event) → alive_after w e ≡ w.alive → (b : Asker) → is_asker (world_step j w e) b ≡ true → is_asker w b ≡ true
  asked_before j e s (Worker x) u = ap (λ (f : ℕ → Bool). f x) (sym (alive_is j w e ∙ s)) ∙ u
  asked_before j e s (Client c) u = subst (λ (x : Setting). (nat_le 1 c && nat_le c x.clients) ≡ true) (same_setting j w e) u

  client_before : (j : Job) (e : Event) (c : ℕ) → is_client (world_step j w e) c ≡ true → is_client w c ≡ true
  client_before j e c u = subst (λ (x : Setting). (nat_le 1 c && nat_le c x.clients) ≡ true) (same_setting j w e) u

  an_join : (j : Job) (threads : ℕ) (b : Asker) → is_asker (world_step j w (Join threads)) b ≡ true → Answers (at_scheduler (new_at w (w.sched.last_worker + 1) threads) (JoinSched threads)) b
  unfolding scheduled
  an_join j threads (Worker x) u p q k = an_joined (w.sched.last_worker + 1) threads (Worker x) (ap (λ (f : ℕ → Bool). f x) (sym (alive_is j w (Join threads))) ∙ u) p q k
  an_join j threads (Client c) u p q k = h (Client c) (client_before j (Join threads) c u) p q k

  an_lose : (j : Job) (i : ℕ) (b : Asker) → is_asker (world_step j w (Lose i)) b ≡ true → Answers (died w i) b
  an_lose j i (Worker x) u p q k = an_died i (Worker x) (ap (λ (f : ℕ → Bool). f x) (sym (alive_is j w (Lose i))) ∙ u) p q k
  an_lose j i (Client c) u p q k = h (Client c) (client_before j (Lose i) c u) p q k

  an_cut : (i : ℕ) (b : Asker) → is_asker w b ≡ true → Answers (cut_off (at_scheduler w (Leave i)) i) b
  unfolding scheduled
  an_cut i (Worker x) u = h (Worker x) u
  an_cut i (Client c) u = h (Client c) u

  an_spill : (i k : ℕ) (b : Asker) → is_asker w b ≡ true → Answers (spill w i k) b
  an_spill i k (Worker x) u = h (Worker x) u
  an_spill i k (Client c) u = h (Client c) u

  pub answered_step : (j : Job) (e : Event) → enabled w e ≡ true → (b : Asker) → is_asker (world_step j w e) b ≡ true → Answers (world_step j w e) b
  unfolding world_step enabled
  answered_step j (Want c ks) t b u = an_told w c (WantKeys ks) tt refl refl refl refl b (asked_before j (Want c ks) refl b u)
  answered_step j (Release c ks) t b u = an_told w c (ReleaseKeys ks) tt refl refl refl refl b (asked_before j (Release c ks) refl b u)
  answered_step j (Join threads) t b u = an_join j threads b u
  answered_step j (Lose i) t b u = an_lose j i b u
  answered_step j (SeeLoss i) t b u = an_cut i b (asked_before j (SeeLoss i) refl b u)
  answered_step j (Suspect i) t b u = an_scheduler w (Leave i) refl refl refl refl b (asked_before j (Suspect i) refl b u)
  answered_step j (DeliverDown i) t b u = an_down i (w.down i) (and_parts (w.alive i) _ t).0 b (asked_before j (DeliverDown i) refl b u)
  answered_step j (DeliverUp i) t b u = an_up i (w.up i) b (asked_before j (DeliverUp i) refl b u)
  answered_step j (DeliverToClient c) t b u = an_news c (w.to_client c) b (asked_before j (DeliverToClient c) refl b u)
  answered_step j (DeliverFromClient c) t b u = an_letter c (w.from_client c) b (asked_before j (DeliverFromClient c) refl b u)
  answered_step j (Start i) t b u = an_own w i StartTask tt refl refl refl refl (and_parts (w.alive i) _ t).0 b (asked_before j (Start i) refl b u)
  answered_step j (Finish i k) t b u = an_own w i (Done k (j.zero k)) tt refl refl refl refl (and_parts (w.alive i) _ t).0 b (asked_before j (Finish i k) refl b u)
  answered_step j (SendGather a p) t b u = an_asks a p (and_parts (is_asker w a) _ t).0 b (asked_before j (SendGather a p) refl b u)
  answered_step j (ServeGather p a n) t b u = an_serves p (parcel_of a p n w.requests) b (asked_before j (ServeGather p a n) refl b u)
  answered_step j (ArriveGather a p n) t b u = an_answer a p n (parcel_of a p n w.answers) refl (and_parts (is_asker w a) _ t).0 b (asked_before j (ArriveGather a p n) refl b u)
  answered_step j (FailGather a p) t b u = an_fails a p (open_ask w a p) (and_parts (is_asker w a) _ t).0 b (asked_before j (FailGather a p) refl b u)
  answered_step j Balance t b u = an_scheduler w BalanceSched refl refl refl refl b (asked_before j Balance refl b u)
  answered_step j Evict t b u = an_scheduler w EvictSched refl refl refl refl b (asked_before j Evict refl b u)
  answered_step j (Replicate k i) t b u = an_scheduler w (ReplicateSched k i) refl refl refl refl b (asked_before j (Replicate k i) refl b u)
  answered_step j (Spill i k) t b u = an_spill i k b (asked_before j (Spill i k) refl b u)
  answered_step j (LoseSpilled i k) t b u = an_own w i (DataLost k) tt refl refl refl refl (and_parts (w.alive i) _ t).0 b (asked_before j (LoseSpilled i k) refl b u)
