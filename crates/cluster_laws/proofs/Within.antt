-- After each event a worker holds and runs only what it held and ran, and what the event brings or starts.
use Rattle.std.proofs.Common.{◌≡◌, ℕ, Bool, true, false, not, ◌&&◌, ◌||◌, List, [], ◌∷◌, ◌++◌, Option, Some, None, refl, subst, cond, filter, fold}
use Rattle.std.specs.Prelude.{◌==◌}
use Rattle.std.specs.List.{AllByRecursion}
use Rattle.std.proofs.lemmas.Bool.{false≢true, eqb-true}
use Rattle.cluster_msgs.specs.declared.messages.Down.{Down}
use Rattle.cluster_msgs.specs.declared.messages.Down.TheVariants.{ComputeTask, FreeKeys, StealRequest, RemoveReplicas, AcquireReplicas, RefreshWhoHas}
use Rattle.cluster_msgs.specs.declared.messages.Up.TheVariants.{TaskFinished, StealResponse, MissingData}
use Rattle.cluster_msgs.specs.declared.cores.Instruction.TheVariants.{Keep, Drop, Send}
use Rattle.cluster_msgs.specs.declared.cores.WorkerEvent.{WorkerEvent}
use Rattle.cluster_msgs.specs.declared.cores.WorkerEvent.TheVariants.{Down as Told, Start, Done, Ask as AskPeer, Gathered, GatherFailed, DataLost}
use Rattle.cluster_rules.specs.Functions.{put}
use Rattle.cluster_rules.specs.Derived.{is_in}
use Rattle.cluster_rules.specs.Worker.{Ask, WorkerFacts, awaited, is_wanted, wstate, is_missing_state, would_start, ask_to, without_ask}
use Rattle.cluster_rules.specs.WorkerStep.{WorkerStep, quiet, after_out, each_key, taken, set_holders, into_mem, give_up, given, free_key, yields, asked_back, remove_replica, remove_replicas, acquire, refresh, take_down, start, Arrivals, arrive_as, arrive, arrived, stopped, erred_as, done, keys_of, ask_peer, lose_holders, not_found, answered_ask, gathered_by, gathered, worker_row, worker_step}
use Rattle.cluster_rules.proofs.WorkerLemmas.{at_one}

-- what is held is among these keys, and what runs is among those
pub record IsWithin (m r : ℕ → Bool) (w : WorkerFacts) : Type 0 where
  pub mem : (k : ℕ) → w.mem k ≡ true → m k ≡ true
  pub running : (k : ℕ) → w.running k ≡ true → r k ≡ true

-- all of these keys pass
abbrev pub AllPass : (ℕ → Bool) → List ℕ → Type 0
AllPass p ks = AllByRecursion (λ k. p k ≡ true) ks

-- an event brings only keys that pass, and starts only those that pass
abbrev pub BringsWithin : (ℕ → Bool) → (ℕ → Bool) → WorkerFacts → WorkerEvent → Type 0
BringsWithin m r w (Done k z) = z ≡ false → m k ≡ true
BringsWithin m r w (Gathered p n found) = AllPass m found
BringsWithin m r w Start = (k : ℕ) → would_start w ≡ Some k → r k ≡ true
BringsWithin m r w (Told x) = Unit {0}
BringsWithin m r w (AskPeer p) = Unit {0}
BringsWithin m r w (GatherFailed p n) = Unit {0}
BringsWithin m r w (DataLost k) = Unit {0}

module _ (m r : ℕ → Bool) where
  in_each : {A : Type 0} (row : WorkerFacts → A → WorkerStep) → ((w : WorkerFacts) (x : A) → IsWithin m r w → IsWithin m r (row w x).facts) → (s : WorkerStep) (xs : List A) → IsWithin m r s.facts → IsWithin m r (each_key row s xs).facts
  in_each row step s [] h = h
  in_each row step s (x ∷ xs) h = in_each row step (after_out s.out (row s.facts x)) xs (step s.facts x h)

  in_fold : {A : Type 0} (f : WorkerFacts → A → WorkerFacts) → ((w : WorkerFacts) (x : A) → IsWithin m r w → IsWithin m r (f w x)) → (w : WorkerFacts) (xs : List A) → IsWithin m r w → IsWithin m r (fold f w xs)
  in_fold f step w [] h = h
  in_fold f step w (x ∷ xs) h = in_fold f step (f w x) xs (step w x h)

  lost_mem : (g : ℕ → Bool) (q : ℕ) → ((k : ℕ) → g k ≡ true → m k ≡ true) → (k : ℕ) → put g q false k ≡ true → m k ≡ true
  lost_mem g q h = at_one q (λ b k. cond b false (g k) ≡ true → m k ≡ true) (λ e. absurd (false≢true e)) h

  in_free : (w : WorkerFacts) (q : ℕ) → IsWithin m r w → IsWithin m r (free_key w q).facts
  in_free w q h = record { mem = lost_mem w.mem q h.mem; running = h.running }

  in_holders : (w : WorkerFacts) (p : ℕ × List (ℕ × ℕ)) → IsWithin m r w → IsWithin m r (set_holders w p)
  in_holders w p h = record { mem = h.mem; running = h.running }

  in_given : (w : WorkerFacts) (q a : ℕ) (who : List (ℕ × List (ℕ × ℕ))) → IsWithin m r w → IsWithin m r (given w q a who).facts
  unfolding given
  in_given w q a who h = pick (w.mem q)
    where
      pick : (b : Bool) → IsWithin m r (cond b (record { facts = record w { failed = put w.failed q false }; out = Send (TaskFinished w.seen q a) ∷ [] })
          (quiet (fold set_holders (record w { failed = put w.failed q false; mine = put w.mine q (Some a) }) who))).facts
      pick true = record { mem = h.mem; running = h.running }
      pick false = in_fold set_holders in_holders _ who (record { mem = h.mem; running = h.running })

  in_asked_back : (w : WorkerFacts) (q a : ℕ) → IsWithin m r w → IsWithin m r (asked_back w q a).facts
  unfolding asked_back
  in_asked_back w q a h = pick (yields w q a)
    where
      pick : (b : Bool) → IsWithin m r (cond {A = WorkerStep} b (record { facts = give_up w q; out = Send (StealResponse w.seen q a true) ∷ [] }) (record { facts = w; out = Send (StealResponse w.seen q a false) ∷ [] })).facts
      pick true = record { mem = h.mem; running = h.running }
      pick false = h

  in_remove : (w : WorkerFacts) (q : ℕ) → IsWithin m r w → IsWithin m r (remove_replica w q).facts
  in_remove w q h = pick (w.mem q && not (awaited w q))
    where
      pick : (b : Bool) → IsWithin m r (cond b (record { facts = record w { mem = put w.mem q false }; out = Drop q ∷ [] }) (quiet w)).facts
      pick true = record { mem = lost_mem w.mem q h.mem; running = h.running }
      pick false = h

  in_acquire : (w : WorkerFacts) (p : ℕ × List (ℕ × ℕ)) → IsWithin m r w → IsWithin m r (acquire w p)
  in_acquire w p h = pick (w.mem p.0)
    where
      pick : (b : Bool) → IsWithin m r (cond b w (set_holders (record w { sought = put w.sought p.0 true }) p))
      pick true = h
      pick false = record { mem = h.mem; running = h.running }

  in_refresh : (w : WorkerFacts) (p : ℕ × List (ℕ × ℕ)) → IsWithin m r w → IsWithin m r (refresh w p)
  in_refresh w p h = record { mem = h.mem; running = h.running }

  in_down : (w : WorkerFacts) (x : Down) → IsWithin m r w → IsWithin m r (take_down w x).facts
  unfolding take_down remove_replicas
  in_down w (ComputeTask k a who) h = in_given w k a who h
  in_down w (FreeKeys ks) h = in_each free_key in_free (quiet w) ks h
  in_down w (StealRequest k a) h = in_asked_back w k a h
  in_down w (RemoveReplicas ks) h = in_each remove_replica in_remove (quiet w) ks h
  in_down w (AcquireReplicas who) h = in_fold acquire in_acquire w who h
  in_down w (RefreshWhoHas who) h = in_fold refresh in_refresh w who h

  in_start : (w : WorkerFacts) (o : Option ℕ) → ((k : ℕ) → o ≡ Some k → r k ≡ true) → IsWithin m r w → IsWithin m r (start w o).facts
  in_start w None s h = h
  in_start w (Some q) s h = record { mem = h.mem; running = at_one q (λ b k. cond b true (w.running k) ≡ true → r k ≡ true) (λ e. s q refl) h.running }

  in_mem : (w : WorkerFacts) (q : ℕ) → m q ≡ true → IsWithin m r w → IsWithin m r (into_mem w q)
  in_mem w q z h = record { mem = at_one q (λ b k. cond b true (w.mem k) ≡ true → m k ≡ true) (λ e. z) h.mem; running = h.running }

  in_arrive : (a : Arrivals) (q : ℕ) (o : Option ℕ) → m q ≡ true → IsWithin m r a.facts → IsWithin m r (arrive_as a q o).facts
  in_arrive a q (Some x) z h = in_mem (give_up a.facts q) q z (record { mem = h.mem; running = h.running })
  in_arrive a q None z h = pick (is_wanted a.facts q)
    where
      pick : (b : Bool) → IsWithin m r (cond b (record { facts = into_mem a.facts q; out = a.out ++ Keep q ∷ []; added = a.added ++ q ∷ [] }) a).facts
      pick true = in_mem a.facts q z h
      pick false = h

  in_arrivals : (ks : List ℕ) (a : Arrivals) → AllPass m ks → IsWithin m r a.facts → IsWithin m r (fold arrive a ks).facts
  in_arrivals [] a v h = h
  in_arrivals (q ∷ ks) a v h = in_arrivals ks (arrive a q) v.1 (in_arrive a q (a.facts.mine q) v.0 h)

  in_arrived : (w : WorkerFacts) (ks : List ℕ) → AllPass m ks → IsWithin m r w → IsWithin m r (arrived w ks).facts
  unfolding arrived
  in_arrived w ks v h = in_arrivals ks (record { facts = w; out = []; added = [] }) v h

  in_stopped : (w : WorkerFacts) (q : ℕ) → IsWithin m r w → IsWithin m r (stopped w q)
  in_stopped w q h = record { mem = h.mem; running = at_one q (λ b k. cond b false (w.running k) ≡ true → r k ≡ true) (λ e. absurd (false≢true e)) h.running }

  in_erred : (w : WorkerFacts) (q : ℕ) (o : Option ℕ) → IsWithin m r w → IsWithin m r (erred_as w q o).facts
  in_erred w q None h = h
  in_erred w q (Some a) h = record { mem = h.mem; running = h.running }

  in_done : (w : WorkerFacts) (q : ℕ) (z : Bool) → (z ≡ false → m q ≡ true) → IsWithin m r w → IsWithin m r (done w q z).facts
  in_done w q true v h = in_erred (stopped w q) q (w.mine q) (in_stopped w q h)
  in_done w q false v h = in_arrived (stopped w q) (q ∷ []) (v refl, tt) (in_stopped w q h)

  found_pass : (found : List ℕ) → AllPass m found → (q : ℕ) → is_in q found ≡ true → m q ≡ true
  found_pass [] v q e = absurd (false≢true e)
  found_pass (x ∷ found) v q e = pick (x == q) refl (found_pass found v.1 q) e
    where
      pick : (b : Bool) → (x == q) ≡ b → (is_in q found ≡ true → m q ≡ true) → (b || is_in q found) ≡ true → m q ≡ true
      pick true i g e = subst (λ k. m k ≡ true) (eqb-true x q i) v.0
      pick false i g e = g e

  pub kept_pass : (found : List ℕ) → AllPass m found → (is : List (ℕ × ℕ)) → AllPass m (keys_of (filter (λ i. is_in i.0 found) is))
  kept_pass found v [] = tt
  kept_pass found v (i ∷ is) = pick (is_in i.0 found) refl (kept_pass found v is)
    where
      pick : (b : Bool) → is_in i.0 found ≡ b → AllPass m (keys_of (filter (λ i. is_in i.0 found) is)) → AllPass m (keys_of (cond b (i ∷ filter (λ i. is_in i.0 found) is) (filter (λ i. is_in i.0 found) is)))
      pick true e g = (found_pass found v i.0 e, g)
      pick false e g = g

  in_missed : (p : ℕ) (w : WorkerFacts) (i : ℕ × ℕ) → IsWithin m r w → IsWithin m r (not_found p w i).facts
  in_missed p w i h = pick (is_missing_state (wstate (lose_holders w i.0) i.0))
    where
      pick : (b : Bool) → IsWithin m r (cond b (record { facts = record (lose_holders w i.0) { asked = put w.asked i.0 true }; out = Send (MissingData w.seen i.0 p i.1) ∷ [] }) (quiet (lose_holders w i.0))).facts
      pick true = record { mem = h.mem; running = h.running }
      pick false = record { mem = h.mem; running = h.running }

  in_gathered : (w : WorkerFacts) (p n : ℕ) (found : List ℕ) → AllPass m found → IsWithin m r w → IsWithin m r (gathered w p n found).facts
  unfolding gathered
  in_gathered w p n found v h = pick (ask_to w.asks p)
    where
      same : (a : Ask) (b : Bool) → IsWithin m r (cond b (answered_ask (record w { asks = without_ask w.asks p }) p a.items found) (quiet w)).facts
      same a true = in_each (not_found p) (in_missed p) (arrived (record w { asks = without_ask w.asks p }) (keys_of (filter (λ i. is_in i.0 found) a.items))) (filter (λ i. not (is_in i.0 found)) a.items) (in_arrived (record w { asks = without_ask w.asks p }) _ (kept_pass found v a.items) (record { mem = h.mem; running = h.running }))
      same a false = h

      pick : (o : Option Ask) → IsWithin m r (gathered_by w p n found o).facts
      pick None = h
      pick (Some a) = same a (a.number == n)

  in_row : (w : WorkerFacts) (e : WorkerEvent) → BringsWithin m r w e → IsWithin m r w → IsWithin m r (worker_row w e).facts
  unfolding worker_row ask_peer
  in_row w (Told x) f h = in_down (taken w) x (record { mem = h.mem; running = h.running })
  in_row w Start f h = in_start w (would_start w) f h
  in_row w (Done k z) f h = in_done w k z f h
  in_row w (AskPeer p) f h = record { mem = h.mem; running = h.running }
  in_row w (Gathered p n found) f h = in_gathered w p n found f h
  in_row w (GatherFailed p n) f h = in_gathered w p n [] tt h
  in_row w (DataLost k) f h = record { mem = lost_mem w.mem k h.mem; running = h.running }

  pub within_step : (w : WorkerFacts) (e : WorkerEvent) → BringsWithin m r w e → IsWithin m r w → IsWithin m r (worker_step w e).facts
  unfolding worker_step
  within_step w e f h = let s = in_row w e f h in record { mem = s.mem; running = s.running }
