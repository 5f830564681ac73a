-- What a worker keeps at each of its events.
use Rattle.std.proofs.Common.{◌≡◌, ℕ, ◌+◌, ◌<◌, ◌≤◌, Bool, true, false, not, ◌&&◌, ◌||◌, List, [], ◌∷◌, ◌++◌, Option, Some, None, refl, sym, ap, ◌∙◌, subst, arith, cond, is_some, filter, find, ⊎_elim, ◌⊎◌, inl, inr, zero-add, fold}
use Rattle.std.specs.Prelude.{option_map, nat_lt, ◌==◌}
use Rattle.std.specs.List.{list_any, filter_map, cons_option}
use Rattle.std.proofs.lemmas.Bool.{true≢false, false≢true, eqb-true, eq-eqb, or_cases, and_parts, or_right, and_right, or_left}
use Rattle.std.proofs.lemmas.Option.{same_Some}
use Rattle.small_facts.proofs.Lists.{any_of_take}
use Rattle.small_facts.proofs.Options.{find_passes}
use Rattle.small_facts.proofs.Truth.{or_weaker}
use Rattle.cluster_msgs.specs.Shape.{Shape, key_count}
use Rattle.cluster_msgs.specs.declared.cores.WState.{WState}
use Rattle.cluster_msgs.specs.declared.cores.WState.TheVariants.{Memory, Executing, ResumedExecuting, CancelledExecuting, ResumedFlight, Flight, CancelledFlight, Ready, Waiting, Fetch, Missing, Error, Released, Forgotten}
use Rattle.cluster_msgs.specs.declared.messages.Down.{Down}
use Rattle.cluster_msgs.specs.declared.messages.Down.TheVariants.{ComputeTask, FreeKeys, StealRequest, RemoveReplicas, AcquireReplicas, RefreshWhoHas}
use Rattle.cluster_msgs.specs.declared.messages.Up.TheVariants.{TaskFinished, StealResponse, MissingData}
use Rattle.cluster_msgs.specs.declared.cores.Instruction.TheVariants.{Send, Drop, Keep}
use Rattle.cluster_msgs.specs.declared.cores.WorkerEvent.{WorkerEvent}
use Rattle.cluster_msgs.specs.declared.cores.WorkerEvent.TheVariants.{Down as Told, Start, Done, Ask as AskPeer, Gathered, GatherFailed, DataLost}
use Rattle.cluster_rules.specs.Functions.{put}
use Rattle.cluster_rules.specs.Derived.{is_in}
use Rattle.cluster_rules.specs.Worker.{Ask, WorkerFacts, new_worker, worker_keys, names_key, is_asked_for, flying, awaited, used, is_wanted, is_fed, has_any, wstate, is_ready_state, is_fetch_state, is_missing_state, is_unstarted_state, running_count, would_start, fetchable, item_at, copy_at, ask_items, ask_to, without_ask, with_ask}
use Rattle.cluster_rules.specs.WorkerStep.{WorkerStep, quiet, after_out, each_key, taken, set_holders, into_mem, give_up, given, free_key, yields, asked_back, remove_replica, remove_replicas, acquire, refresh, take_down, start, Arrivals, arrive_as, arrive, arrived, stopped, erred_as, done, keys_of, ask_with, ask_peer, lose_holders, not_found, answered_ask, gathered_by, gathered, worker_row, unasked_keys, seek_missing, worker_step, is_key, worker_takes}
use Rattle.cluster_rules.specs.WorkerKept.{flights, KeyKept, KeptAt, KeysKept, IsKept}
use Rattle.cluster_rules.proofs.SchedFrame.{in_range}

-- the states, as tests alone
abbrev state_by : Bool → Bool → Bool → Bool → Bool → Bool → Bool → Bool → Bool → WState
state_by m r i x f d l e u =
    cond m Memory
    (cond (r && i) Executing
    (cond (r && x) ResumedExecuting
    (cond r CancelledExecuting
    (cond (f && i) ResumedFlight
    (cond (f && x) Flight
    (cond f CancelledFlight
    (cond (i && d) Ready
    (cond i Waiting
    (cond (x && l) Fetch
    (cond x Missing
    (cond e Error
    (cond u Released Forgotten))))))))))))

-- neither here, nor run, nor asked for
record Idle (m r f : Bool) : Type 0 where
  absent : m ≡ false
  still : r ≡ false
  grounded : f ≡ false

abbrev IsIdleWhere : (WState → Bool) → Type 0
IsIdleWhere t = (m r i x f d l e u : Bool) → t (state_by m r i x f d l e u) ≡ true → Idle m r f

ready_is : IsIdleWhere is_ready_state
ready_is true r i x f d l e u h = absurd (false≢true h)
ready_is false true true x f d l e u h = absurd (false≢true h)
ready_is false true false true f d l e u h = absurd (false≢true h)
ready_is false true false false f d l e u h = absurd (false≢true h)
ready_is false false true x true d l e u h = absurd (false≢true h)
ready_is false false false true true d l e u h = absurd (false≢true h)
ready_is false false false false true d l e u h = absurd (false≢true h)
ready_is false false i x false d l e u h = record { absent = refl; still = refl; grounded = refl }

fetch_is : IsIdleWhere is_fetch_state
fetch_is true r i x f d l e u h = absurd (false≢true h)
fetch_is false true true x f d l e u h = absurd (false≢true h)
fetch_is false true false true f d l e u h = absurd (false≢true h)
fetch_is false true false false f d l e u h = absurd (false≢true h)
fetch_is false false true x true d l e u h = absurd (false≢true h)
fetch_is false false false true true d l e u h = absurd (false≢true h)
fetch_is false false false false true d l e u h = absurd (false≢true h)
fetch_is false false i x false d l e u h = record { absent = refl; still = refl; grounded = refl }

missing_is : IsIdleWhere is_missing_state
missing_is true r i x f d l e u h = absurd (false≢true h)
missing_is false true true x f d l e u h = absurd (false≢true h)
missing_is false true false true f d l e u h = absurd (false≢true h)
missing_is false true false false f d l e u h = absurd (false≢true h)
missing_is false false true x true d l e u h = absurd (false≢true h)
missing_is false false false true true d l e u h = absurd (false≢true h)
missing_is false false false false true d l e u h = absurd (false≢true h)
missing_is false false i x false d l e u h = record { absent = refl; still = refl; grounded = refl }

abbrev IdleAt : WorkerFacts → ℕ → Type 0
IdleAt w k = Idle (w.mem k) (w.running k) (flying w k)

abbrev idle_where : (t : WState → Bool) → IsIdleWhere t → (w : WorkerFacts) (k : ℕ) → t (wstate w k) ≡ true → IdleAt w k
unfolding wstate
idle_where t by w k h = by (w.mem k) (w.running k) (is_some (w.mine k)) (is_wanted w k) (flying w k) (is_fed w k) (has_any (w.holders k)) (w.failed k) (used w k) h

-- flights and open asks
pub no_flight : (asks : List Ask) (k : ℕ) → is_asked_for asks k ≡ false → flights asks k ≡ 0
no_flight [] k h = refl
no_flight (a ∷ bs) k h = pick (names_key k a) (no_flight bs k) h
  where
    pick : (b : Bool) → (is_asked_for bs k ≡ false → flights bs k ≡ 0) → (b || is_asked_for bs k) ≡ false → cond b 1 0 + flights bs k ≡ 0
    pick true r h = absurd (true≢false h)
    pick false r h = rw (r h) refl

pub flights-with : (a : Ask) (bs : List Ask) (k : ℕ) → flights (with_ask a bs) k ≡ cond (names_key k a) 1 0 + flights bs k
flights-with a [] k = refl
flights-with a (b ∷ bs) k = pick (nat_lt a.peer b.peer) (flights-with a bs k)
  where
    pick : (t : Bool) → flights (with_ask a bs) k ≡ cond (names_key k a) 1 0 + flights bs k → flights (cond t (a ∷ b ∷ bs) (b ∷ with_ask a bs)) k ≡ cond (names_key k a) 1 0 + (cond (names_key k b) 1 0 + flights bs k)
    pick true r = refl
    pick false r = omega (arith, r)

pub flights-without : (asks : List Ask) (p k : ℕ) → flights (without_ask asks p) k ≤ flights asks k
flights-without [] p k = omega arith
flights-without (a ∷ bs) p k = pick (a.peer == p) (flights-without bs p k)
  where
    pick : (t : Bool) → flights (without_ask bs p) k ≤ flights bs k → flights (cond (not t) (a ∷ without_ask bs p) (without_ask bs p)) k ≤ cond (names_key k a) 1 0 + flights bs k
    pick true r = omega arith
    pick false r = omega arith

-- an open ask that goes takes its flights along
pub flights-gone : (asks : List Ask) (p k : ℕ) (a : Ask) → ask_to asks p ≡ Some a → names_key k a ≡ true → flights (without_ask asks p) k + 1 ≤ flights asks k
flights-gone [] p k a h n = absurd (some_none h)
  where
    some_none : ◌≡◌ {A = Option Ask} None (Some a) → ⊥
    some_none h = cc
flights-gone (b ∷ bs) p k a h n = pick (b.peer == p) (λ e. flights-gone bs p k a e n) h
  where
    more : (n : ℕ) → n ≤ flights bs k → (b' : Bool) → b' ≡ true → n + 1 ≤ cond b' 1 0 + flights bs k
    more n l true e = omega arith
    more n l false e = absurd (false≢true e)

    pick : (t : Bool) → (ask_to bs p ≡ Some a → flights (without_ask bs p) k + 1 ≤ flights bs k) → cond t (Some b) (ask_to bs p) ≡ Some a
        → flights (cond (not t) (b ∷ without_ask bs p) (without_ask bs p)) k + 1 ≤ cond (names_key k b) 1 0 + flights bs k
    pick true r e = more _ (flights-without bs p k) (names_key k b) (ap (λ (o : Ask). names_key k o) (same_Some b a e) ∙ n)
    pick false r e = omega (arith, r e)

-- what holds at one key and at each other
pub at_one : (q : ℕ) (Q : Bool → ℕ → Type 0) → Q true q → ((k : ℕ) → Q false k) → (k : ℕ) → Q (k == q) k
at_one q Q here there k = pick (k == q) refl
  where
    pick : (b : Bool) → (k == q) ≡ b → Q b k
    pick true e = subst (λ x. Q true x) (sym (eqb-true k q e)) here
    pick false e = there k

-- a key without a block
pub absent : (o : Option ℕ) (m r d u : Bool) (n : ℕ) → m ≡ false → (r ≡ true → n ≡ 0) → n ≤ 1 → KeyKept o m r d u n
absent o m r d u n z g l = record {
  no_task = λ e. no e;
  not_run = λ e. no e;
  not_flying = λ e. no e;
  not_asked = λ e. no e;
  not_sought = λ e. no e;
  run_alone = g;
  once = l;
}
  where
    no : {A : Type 0} → m ≡ true → A
    no e = absurd (false≢true (sym z ∙ e))

-- a key whose block has come
pub present : (o : Option ℕ) (r : Bool) (n : ℕ) → o ≡ None → r ≡ false → n ≡ 0 → KeyKept o true r false false n
present o r n e z l = record { no_task = λ t. e; not_run = λ t. z; not_flying = λ t. l; not_asked = λ t. refl; not_sought = λ t. refl; run_alone = λ t. l; once = omega (arith, l) }

-- rows for several keys, and changes one after another
kept_each : {A : Type 0} (row : WorkerFacts → A → WorkerStep) → ((w : WorkerFacts) (x : A) → KeysKept w → KeysKept (row w x).facts) → (s : WorkerStep) (xs : List A) → KeysKept s.facts → KeysKept (each_key row s xs).facts
kept_each row step s [] h = h
kept_each row step s (x ∷ xs) h = kept_each row step (after_out s.out (row s.facts x)) xs (step s.facts x h)

kept_fold : {A : Type 0} (f : WorkerFacts → A → WorkerFacts) → ((w : WorkerFacts) (x : A) → KeysKept w → KeysKept (f w x)) → (w : WorkerFacts) (xs : List A) → KeysKept w → KeysKept (fold f w xs)
kept_fold f step w [] h = h
kept_fold f step w (x ∷ xs) h = kept_fold f step (f w x) xs (step w x h)

-- facts that agree on all but holders and failures
kept_holders : (w : WorkerFacts) (p : ℕ × List (ℕ × ℕ)) → KeysKept w → KeysKept (set_holders w p)
kept_holders w p h = record { at = h.at }

kept_free : (w : WorkerFacts) (q : ℕ) → KeysKept w → KeysKept (free_key w q).facts
kept_free w q h = record {
  at = at_one q (λ b k. KeyKept (cond b None (w.mine k)) (cond b false (w.mem k)) (w.running k) (cond b false (w.asked k)) (cond b false (w.sought k)) (flights w.asks k))
      (absent _ _ _ _ _ _ refl (h.at q).run_alone (h.at q).once) h.at;
}

-- compute-task
kept_given : (w : WorkerFacts) (q a : ℕ) (who : List (ℕ × List (ℕ × ℕ))) → KeysKept w → KeysKept (given w q a who).facts
unfolding given
kept_given w q a who h = pick (w.mem q) refl
  where
    pick : (b : Bool) → w.mem q ≡ b → KeysKept (cond b (record { facts = record w { failed = put w.failed q false }; out = Send (TaskFinished w.seen q a) ∷ [] })
        (quiet (fold set_holders (record w { failed = put w.failed q false; mine = put w.mine q (Some a) }) who))).facts
    pick true e = record { at = h.at }
    pick false e = kept_fold set_holders kept_holders _ who (record {
      at = at_one q (λ b k. KeyKept (cond b (Some a) (w.mine k)) (w.mem k) (w.running k) (w.asked k) (w.sought k) (flights w.asks k))
          (absent _ _ _ _ _ _ e (h.at q).run_alone (h.at q).once) h.at;
    })

no_task_left : (o : Option ℕ) (m r d u : Bool) (n : ℕ) → KeyKept o m r d u n → KeyKept None m r d u n
no_task_left o m r d u n h = record { no_task = λ e. refl; not_run = h.not_run; not_flying = h.not_flying; not_asked = h.not_asked; not_sought = h.not_sought; run_alone = h.run_alone; once = h.once }

answered_for : (o : Option ℕ) (m r d u x : Bool) (n : ℕ) → KeyKept o m r d u n → KeyKept o m r false (x && u) n
answered_for o m r d u x n h = record { no_task = h.no_task; not_run = h.not_run; not_flying = h.not_flying; not_asked = λ e. refl; not_sought = λ e. and_right x u (h.not_sought e); run_alone = h.run_alone; once = h.once }

run_over : (o : Option ℕ) (m r d u : Bool) (n : ℕ) → KeyKept o m r d u n → KeyKept o m false d u n
run_over o m r d u n h = record { no_task = h.no_task; not_run = λ e. refl; not_flying = h.not_flying; not_asked = h.not_asked; not_sought = h.not_sought; run_alone = λ e. absurd (false≢true e); once = h.once }

asked_too : (o : Option ℕ) (m r d u : Bool) (n : ℕ) (b : Bool) → (b ≡ true → m ≡ false) → KeyKept o m r d u n → KeyKept o m r (d || b) u n
asked_too o m r d u n b g h = record { no_task = h.no_task; not_run = h.not_run; not_flying = h.not_flying; not_asked = λ e. neither d b (h.not_asked e) (λ i. absurd (false≢true (sym (g i) ∙ e))); not_sought = h.not_sought; run_alone = h.run_alone; once = h.once }
  where
    neither : (a b : Bool) → a ≡ false → (b ≡ true → ⊥) → (a || b) ≡ false
    neither a true x y = absurd (y refl)
    neither a false x y = rw x refl

kept_give_up : (w : WorkerFacts) (q : ℕ) → KeysKept w → KeysKept (give_up w q)
kept_give_up w q h = record {
  at = at_one q (λ b k. KeyKept (cond b None (w.mine k)) (w.mem k) (w.running k) (w.asked k) (w.sought k) (flights w.asks k))
      (no_task_left _ _ _ _ _ _ (h.at q)) h.at;
}

kept_asked_back : (w : WorkerFacts) (q a : ℕ) → KeysKept w → KeysKept (asked_back w q a).facts
unfolding asked_back
kept_asked_back w q a h = pick (yields w q a)
  where
    pick : (b : Bool) → KeysKept (cond {A = WorkerStep} b (record { facts = give_up w q; out = Send (StealResponse w.seen q a true) ∷ [] }) (record { facts = w; out = Send (StealResponse w.seen q a false) ∷ [] })).facts
    pick true = kept_give_up w q h
    pick false = h

-- a block goes
kept_lose : (w : WorkerFacts) (q : ℕ) → KeysKept w → KeysKept (record w { mem = put w.mem q false })
kept_lose w q h = record {
  at = at_one q (λ b k. KeyKept (w.mine k) (cond b false (w.mem k)) (w.running k) (w.asked k) (w.sought k) (flights w.asks k))
      (absent _ _ _ _ _ _ refl (h.at q).run_alone (h.at q).once) h.at;
}

kept_remove : (w : WorkerFacts) (q : ℕ) → KeysKept w → KeysKept (remove_replica w q).facts
kept_remove w q h = pick (w.mem q && not (awaited w q))
  where
    pick : (b : Bool) → KeysKept (cond b (record { facts = record w { mem = put w.mem q false }; out = Drop q ∷ [] }) (quiet w)).facts
    pick true = kept_lose w q h
    pick false = h

kept_acquire : (w : WorkerFacts) (p : ℕ × List (ℕ × ℕ)) → KeysKept w → KeysKept (acquire w p)
kept_acquire w p h = pick (w.mem p.0) refl
  where
    pick : (b : Bool) → w.mem p.0 ≡ b → KeysKept (cond b w (set_holders (record w { sought = put w.sought p.0 true }) p))
    pick true e = h
    pick false e = record {
      at = at_one p.0 (λ b k. KeyKept (w.mine k) (w.mem k) (w.running k) (w.asked k) (cond b true (w.sought k)) (flights w.asks k))
          (absent _ _ _ _ _ _ e (h.at p.0).run_alone (h.at p.0).once) h.at;
    }

kept_refresh : (w : WorkerFacts) (p : ℕ × List (ℕ × ℕ)) → KeysKept w → KeysKept (refresh w p)
kept_refresh w p h = record {
  at = at_one p.0 (λ b k. KeyKept (w.mine k) (w.mem k) (w.running k) (cond b false (w.asked k)) (cond b (has_any p.1 && w.sought p.0) (w.sought k)) (flights w.asks k))
      (answered_for _ _ _ _ _ (has_any p.1) _ (h.at p.0)) h.at;
}

kept_down : (w : WorkerFacts) (m : Down) → KeysKept w → KeysKept (take_down w m).facts
unfolding take_down remove_replicas
kept_down w (ComputeTask k a who) h = kept_given w k a who h
kept_down w (FreeKeys ks) h = kept_each free_key kept_free (quiet w) ks h
kept_down w (StealRequest k a) h = kept_asked_back w k a h
kept_down w (RemoveReplicas ks) h = kept_each remove_replica kept_remove (quiet w) ks h
kept_down w (AcquireReplicas who) h = kept_fold acquire kept_acquire w who h
kept_down w (RefreshWhoHas who) h = kept_fold refresh kept_refresh w who h

pub start_is_ready : (w : WorkerFacts) (k : ℕ) → would_start w ≡ Some k → is_ready_state (wstate w k) ≡ true
unfolding would_start
start_is_ready w k h = pick (nat_lt (running_count w) w.threads) h
  where
    some_none : ◌≡◌ {A = Option ℕ} None (Some k) → ⊥
    some_none h = cc

    pick : (b : Bool) → cond b (find (λ k. is_ready_state (wstate w k)) (worker_keys w)) None ≡ Some k → is_ready_state (wstate w k) ≡ true
    pick true h = find_passes (λ k. is_ready_state (wstate w k)) (worker_keys w) k h
    pick false h = absurd (some_none h)

grounded_is : (w : WorkerFacts) (k : ℕ) → flying w k ≡ false → flights w.asks k ≡ 0
unfolding flying
grounded_is w k h = no_flight w.asks k h

kept_start : (w : WorkerFacts) (o : Option ℕ) → ((k : ℕ) → o ≡ Some k → is_ready_state (wstate w k) ≡ true) → KeysKept w → KeysKept (start w o).facts
kept_start w None r h = h
kept_start w (Some q) r h =
    let idle : IdleAt w q = idle_where is_ready_state ready_is w q (r q refl) in
    record {
      at = at_one q (λ b k. KeyKept (w.mine k) (w.mem k) (cond b true (w.running k)) (w.asked k) (w.sought k) (flights w.asks k))
          (absent _ _ _ _ _ _ idle.absent (λ e. grounded_is w q idle.grounded) (h.at q).once) h.at;
    }

-- blocks that come
pub record Clears (w : WorkerFacts) (q : ℕ) : Type 0 where
  pub still : w.running q ≡ false
  pub grounded : flights w.asks q ≡ 0

kept_into_mem : (w : WorkerFacts) (q : ℕ) → w.mine q ≡ None → Clears w q → KeysKept w → KeysKept (into_mem w q)
kept_into_mem w q n c h = record {
  at = at_one q (λ b k. KeyKept (w.mine k) (cond b true (w.mem k)) (w.running k) (cond b false (w.asked k)) (cond b false (w.sought k)) (flights w.asks k))
      (present _ _ _ n c.still c.grounded) h.at;
}

kept_arrive : (r : Arrivals) (q : ℕ) (o : Option ℕ) → r.facts.mine q ≡ o → Clears r.facts q → KeysKept r.facts → KeysKept (arrive_as r q o).facts
kept_arrive r q (Some a) e c h = kept_into_mem (give_up r.facts q) q (ap (λ b. cond b None (r.facts.mine q)) (eq-eqb q q refl)) (record { still = c.still; grounded = c.grounded }) (kept_give_up r.facts q h)
kept_arrive r q None e c h = pick (is_wanted r.facts q)
  where
    pick : (b : Bool) → KeysKept (cond b (record { facts = into_mem r.facts q; out = r.out ++ Keep q ∷ []; added = r.added ++ q ∷ [] }) r).facts
    pick true = kept_into_mem r.facts q e c h
    pick false = h

clears_arrive : (r : Arrivals) (q : ℕ) (o : Option ℕ) (x : ℕ) → Clears r.facts x → Clears (arrive_as r q o).facts x
clears_arrive r q (Some a) x c = record { still = c.still; grounded = c.grounded }
clears_arrive r q None x c = pick (is_wanted r.facts q)
  where
    pick : (b : Bool) → Clears (cond b (record { facts = into_mem r.facts q; out = r.out ++ Keep q ∷ []; added = r.added ++ q ∷ [] }) r).facts x
    pick true = record { still = c.still; grounded = c.grounded }
    pick false = c

abbrev ClearsAll : WorkerFacts → List ℕ → Type 0
ClearsAll w ks = (q : ℕ) → is_in q ks ≡ true → Clears w q

kept_arrivals : (ks : List ℕ) (r : Arrivals) → ClearsAll r.facts ks → KeysKept r.facts → KeysKept (fold arrive r ks).facts
kept_arrivals [] r c h = h
kept_arrivals (q ∷ ks) r c h =
    kept_arrivals ks (arrive r q) (λ x e. clears_arrive r q (r.facts.mine q) x (c x (or_right (q == x) (is_in x ks) e)))
    (kept_arrive r q (r.facts.mine q) refl (c q (or_left (q == q) (is_in q ks) (eq-eqb q q refl))) h)

pub kept_arrived : (w : WorkerFacts) (ks : List ℕ) → ClearsAll w ks → KeysKept w → KeysKept (arrived w ks).facts
unfolding arrived
kept_arrived w ks c h = kept_arrivals ks (record { facts = w; out = []; added = [] }) c h

-- Done
kept_stopped : (w : WorkerFacts) (q : ℕ) → KeysKept w → KeysKept (stopped w q)
kept_stopped w q h = record {
  at = at_one q (λ b k. KeyKept (w.mine k) (w.mem k) (cond b false (w.running k)) (w.asked k) (w.sought k) (flights w.asks k))
      (run_over _ _ _ _ _ _ (h.at q)) h.at;
}

kept_erred : (w : WorkerFacts) (q : ℕ) (o : Option ℕ) → KeysKept w → KeysKept (erred_as w q o).facts
kept_erred w q None h = h
kept_erred w q (Some a) h = record { at = (kept_give_up w q h).at }

kept_done : (w : WorkerFacts) (q : ℕ) (z : Bool) → w.running q ≡ true → KeysKept w → KeysKept (done w q z).facts
kept_done w q true e h = kept_erred (stopped w q) q (w.mine q) (kept_stopped w q h)
kept_done w q false e h = kept_arrived (stopped w q) (q ∷ []) (λ x i. subst (λ y. Clears (stopped w q) y) (eqb-true q x (only (q == x) i)) clear) (kept_stopped w q h)
  where
    clear : Clears (stopped w q) q
    clear = record { still = ap (λ b. cond b false (w.running q)) (eq-eqb q q refl); grounded = (h.at q).run_alone e }

    only : (b : Bool) → (b || false) ≡ true → b ≡ true
    only true e = refl
    only false e = e

-- Ask
abbrev AreIdle : WorkerFacts → List (ℕ × ℕ) → Type 0
AreIdle w is = (k : ℕ) → list_any (λ i. i.0 == k) is ≡ true → (w.mem k ≡ false) × (w.running k ≡ false) × (flights w.asks k ≡ 0)

kept_ask_with : (w : WorkerFacts) (p : ℕ) (is : List (ℕ × ℕ)) → AreIdle w is → KeysKept w → KeysKept (ask_with w p is).facts
kept_ask_with w p is g h = record { at = λ k. subst (λ n. KeyKept (w.mine k) (w.mem k) (w.running k) (w.asked k) (w.sought k) n) (sym (flights-with (record { peer = p; number = w.next_ask; items = is }) w.asks k)) (pick k (list_any (λ i. i.0 == k) is) refl) }
  where
    pick : (k : ℕ) (b : Bool) → list_any (λ i. i.0 == k) is ≡ b → KeyKept (w.mine k) (w.mem k) (w.running k) (w.asked k) (w.sought k) (cond b 1 0 + flights w.asks k)
    pick k true e = absent _ _ _ _ _ _ (g k e).0 (λ r. absurd (false≢true (sym (g k e).1 ∙ r))) (omega (arith, (g k e).2))
    pick k false e = rw zero-add (h.at k)

-- an item that is made of a key names it
pub item_key : (p k q : ℕ) (hs : List (ℕ × ℕ)) (is : List (ℕ × ℕ)) → list_any (λ i. i.0 == k) (cons_option (item_at p q hs) is) ≡ true → ((q == k) || list_any (λ i. i.0 == k) is) ≡ true
item_key p k q hs is h = pick (copy_at p hs) h
  where
    pick : (o : Option ℕ) → list_any (λ i. i.0 == k) (cons_option (option_map (λ c. (q, c)) o) is) ≡ true → ((q == k) || list_any (λ i. i.0 == k) is) ≡ true
    pick None h = or_right (q == k) _ h
    pick (Some c) h = h

any_items : (w : WorkerFacts) (p k : ℕ) (qs : List ℕ) → list_any (λ i. i.0 == k) (filter_map (λ q. item_at p q (w.holders q)) qs) ≡ true → is_in k qs ≡ true
any_items w p k [] h = h
any_items w p k (q ∷ qs) h = pick (q == k) (any_items w p k qs) (item_key p k q (w.holders q) _ h)
  where
    pick : (b : Bool) → (list_any (λ i. i.0 == k) (filter_map (λ q. item_at p q (w.holders q)) qs) ≡ true → is_in k qs ≡ true)
        → (b || list_any (λ i. i.0 == k) (filter_map (λ q. item_at p q (w.holders q)) qs)) ≡ true → (b || is_in k qs) ≡ true
    pick true r h = refl
    pick false r h = r h

pub in_filter : (t : ℕ → Bool) (ks : List ℕ) (k : ℕ) → is_in k (filter t ks) ≡ true → t k ≡ true
in_filter t [] k h = absurd (false≢true h)
in_filter t (x ∷ ks) k h = pick (t x) refl (in_filter t ks k) h
  where
    pick : (b : Bool) → t x ≡ b → (is_in k (filter t ks) ≡ true → t k ≡ true) → is_in k (cond b (x ∷ filter t ks) (filter t ks)) ≡ true → t k ≡ true
    pick true e r h = ⊎_elim (λ i. subst (λ y. t y ≡ true) (eqb-true x k i) e) r (or_cases (x == k) (is_in k (filter t ks)) h)
    pick false e r h = r h

pub filter_in : (t : ℕ → Bool) (ks : List ℕ) (k : ℕ) → is_in k ks ≡ true → t k ≡ true → is_in k (filter t ks) ≡ true
filter_in t [] k h e = h
filter_in t (x ∷ ks) k h e = pick (t x) refl (λ i. filter_in t ks k i e) (or_cases (x == k) (is_in k ks) h)
  where
    pick : (b : Bool) → t x ≡ b → (is_in k ks ≡ true → is_in k (filter t ks) ≡ true) → ((x == k) ≡ true) ⊎ (is_in k ks ≡ true) → is_in k (cond b (x ∷ filter t ks) (filter t ks)) ≡ true
    pick true z r (inl i) = or_left (x == k) _ i
    pick true z r (inr i) = or_right (x == k) _ (r i)
    pick false z r (inl i) = absurd (false≢true (sym z ∙ (ap t (eqb-true x k i) ∙ e)))
    pick false z r (inr i) = r i

kept_ask : (w : WorkerFacts) (p : ℕ) → KeysKept w → KeysKept (ask_peer w p).facts
unfolding ask_peer fetchable ask_items
kept_ask w p h = kept_ask_with w p _ (λ k e. idle k (in_filter (λ k. is_fetch_state (wstate w k)) (worker_keys w) k (any_items w p k _ (any_of_take (λ i. i.0 == k) _ _ e)))) h
  where
    idle : (k : ℕ) → is_fetch_state (wstate w k) ≡ true → (w.mem k ≡ false) × (w.running k ≡ false) × (flights w.asks k ≡ 0)
    idle k e = let i : IdleAt w k = idle_where is_fetch_state fetch_is w k e in (i.absent, i.still, grounded_is w k i.grounded)

-- Gathered
any_kept : (t : ℕ × ℕ → Bool) (is : List (ℕ × ℕ)) (k : ℕ) → is_in k (keys_of (filter t is)) ≡ true → list_any (λ i. i.0 == k) is ≡ true
any_kept t [] k h = h
any_kept t (x ∷ is) k h = pick (t x) (any_kept t is k) h
  where
    pick : (b : Bool) → (is_in k (keys_of (filter t is)) ≡ true → list_any (λ i. i.0 == k) is ≡ true) → is_in k (keys_of (cond b (x ∷ filter t is) (filter t is))) ≡ true → ((x.0 == k) || list_any (λ i. i.0 == k) is) ≡ true
    pick true r h = or_weaker (x.0 == k) _ _ r h
    pick false r h = or_right (x.0 == k) _ (r h)

kept_missed : (p : ℕ) (w : WorkerFacts) (i : ℕ × ℕ) → KeysKept w → KeysKept (not_found p w i).facts
kept_missed p w i h = pick (is_missing_state (wstate (lose_holders w i.0) i.0)) refl
  where
    pick : (b : Bool) → is_missing_state (wstate (lose_holders w i.0) i.0) ≡ b
        → KeysKept (cond b (record { facts = record (lose_holders w i.0) { asked = put w.asked i.0 true }; out = Send (MissingData w.seen i.0 p i.1) ∷ [] }) (quiet (lose_holders w i.0))).facts
    pick false e = record { at = h.at }
    pick true e = record {
      at = at_one i.0 (λ b k. KeyKept (w.mine k) (w.mem k) (w.running k) (cond b true (w.asked k)) (w.sought k) (flights w.asks k))
          (absent _ _ _ _ _ _ (idle_where is_missing_state missing_is (lose_holders w i.0) i.0 e).absent (h.at i.0).run_alone (h.at i.0).once) h.at;
    }

kept_without : (w : WorkerFacts) (p : ℕ) → KeysKept w → KeysKept (record w { asks = without_ask w.asks p })
kept_without w p h = record { at = λ k. fewer k (h.at k) (flights-without w.asks p k) }
  where
    fewer : (k : ℕ) → KeptAt w k → flights (without_ask w.asks p) k ≤ flights w.asks k → KeptAt (record w { asks = without_ask w.asks p }) k
    fewer k o l = record {
      no_task = o.no_task;
      not_run = o.not_run;
      not_flying = λ e. omega (arith, o.not_flying e);
      not_asked = o.not_asked;
      not_sought = o.not_sought;
      run_alone = λ e. omega (arith, o.run_alone e);
      once = omega (arith, o.once);
    }

kept_answered : (w : WorkerFacts) (p : ℕ) (a : Ask) (found : List ℕ) → ask_to w.asks p ≡ Some a → KeysKept w → KeysKept (answered_ask (record w { asks = without_ask w.asks p }) p a.items found).facts
kept_answered w p a found e h =
    kept_each (not_found p) (kept_missed p) _ (filter (λ i. not (is_in i.0 found)) a.items)
    (kept_arrived (record w { asks = without_ask w.asks p }) (keys_of (filter (λ i. is_in i.0 found) a.items)) clears (kept_without w p h))
  where
    clear : (q : ℕ) → names_key q a ≡ true → flights (without_ask w.asks p) q + 1 ≤ flights w.asks q → Clears (record w { asks = without_ask w.asks p }) q
    clear q n l = record { still = not_running (w.running q) refl; grounded = omega (arith, (h.at q).once) }
      where
        not_running : (b : Bool) → w.running q ≡ b → w.running q ≡ false
        not_running false z = z
        not_running true z = absurd (omega (arith, (h.at q).run_alone z))

    clears : ClearsAll (record w { asks = without_ask w.asks p }) (keys_of (filter (λ i. is_in i.0 found) a.items))
    clears q i = let n : names_key q a ≡ true = any_kept (λ i. is_in i.0 found) a.items q i in clear q n (flights-gone w.asks p q a e n)

kept_gathered : (w : WorkerFacts) (p n : ℕ) (found : List ℕ) → KeysKept w → KeysKept (gathered w p n found).facts
unfolding gathered
kept_gathered w p n found h = pick (ask_to w.asks p) refl
  where
    pick : (o : Option Ask) → ask_to w.asks p ≡ o → KeysKept (gathered_by w p n found o).facts
    pick None e = h
    pick (Some a) e = same (a.number == n)
      where
        same : (b : Bool) → KeysKept (cond b (answered_ask (record w { asks = without_ask w.asks p }) p a.items found) (quiet w)).facts
        same true = kept_answered w p a found e h
        same false = h

-- each row
kept_row : (w : WorkerFacts) (e : WorkerEvent) → worker_takes w e ≡ true → KeysKept w → KeysKept (worker_row w e).facts
unfolding worker_row worker_takes
kept_row w (Told m) t h = kept_down (taken w) m (record { at = h.at })
kept_row w Start t h = kept_start w (would_start w) (start_is_ready w) h
kept_row w (Done k z) t h = kept_done w k z (and_parts (is_key w k) (w.running k) t).1 h
kept_row w (AskPeer p) t h = kept_ask w p h
kept_row w (Gathered p n found) t h = kept_gathered w p n found h
kept_row w (GatherFailed p n) t h = kept_gathered w p n [] h
kept_row w (DataLost k) t h = kept_lose w k h

-- the holders of what is missing are asked for
kept_sought : (s : WorkerStep) → KeysKept s.facts → IsKept (seek_missing s).facts
unfolding unasked_keys wstate flying awaited used
kept_sought s h = record {
  keys = record { at = λ k. asked_too _ _ _ _ _ _ (is_in k (unasked_keys s.facts)) (unseen k) (h.at k) };
  missing = λ k l m. found k l m (s.facts.asked k) refl;
}
  where
    unseen : (k : ℕ) → is_in k (unasked_keys s.facts) ≡ true → s.facts.mem k ≡ false
    unseen k i = (idle_where is_missing_state missing_is s.facts k (and_parts _ _ (in_filter (λ k. is_missing_state (wstate s.facts k) && not (s.facts.asked k)) (worker_keys s.facts) k i)).0).absent

    found : (k : ℕ) → k < key_count s.facts.shape → is_missing_state (wstate s.facts k) ≡ true → (b : Bool) → s.facts.asked k ≡ b → (b || is_in k (unasked_keys s.facts)) ≡ true
    found k l m true e = refl
    found k l m false e = filter_in (λ k. is_missing_state (wstate s.facts k) && not (s.facts.asked k)) (worker_keys s.facts) k (in_range 0 (key_count s.facts.shape) k (omega arith) (omega arith)) (rw (m, e) refl)

any_never : (t : ℕ → Bool) → ((j : ℕ) → t j ≡ false) → (ks : List ℕ) → list_any t ks ≡ false
any_never t h [] = refl
any_never t h (x ∷ ks) = rw (h x) (any_never t h ks)

wanted_is : (m r i x f d l e u : Bool) → is_missing_state (state_by m r i x f d l e u) ≡ true → x ≡ true
wanted_is m r i true f d l e u h = refl
wanted_is true r i false f d l e u h = absurd (false≢true h)
wanted_is false true true false f d l e u h = absurd (false≢true h)
wanted_is false true false false f d l e u h = absurd (false≢true h)
wanted_is false false true false true d l e u h = absurd (false≢true h)
wanted_is false false false false true d l e u h = absurd (false≢true h)
wanted_is false false true false false true l e u h = absurd (false≢true h)
wanted_is false false true false false false l e u h = absurd (false≢true h)
wanted_is false false false false false d l true u h = absurd (false≢true h)
wanted_is false false false false false d l false true h = absurd (false≢true h)
wanted_is false false false false false d l false false h = absurd (false≢true h)

pub missing_is_wanted : (w : WorkerFacts) (k : ℕ) → is_missing_state (wstate w k) ≡ true → is_wanted w k ≡ true
unfolding wstate
missing_is_wanted w k h = wanted_is (w.mem k) (w.running k) (is_some (w.mine k)) (is_wanted w k) (flying w k) (is_fed w k) (has_any (w.holders k)) (w.failed k) (used w k) h

unwanted_at_first : (g : Shape) (id threads k : ℕ) → is_wanted (new_worker g id threads) k ≡ false
unfolding awaited
unwanted_at_first g id threads k = any_never _ (λ j. refl) (worker_keys (new_worker g id threads))

pub kept_at_first : (g : Shape) (id threads : ℕ) → IsKept (new_worker g id threads)
kept_at_first g id threads = record {
  keys = record { at = λ k. absent _ _ _ _ _ _ refl (λ e. refl) (omega arith) };
  missing = λ k l m. absurd (false≢true (sym (unwanted_at_first g id threads k) ∙ missing_is_wanted (new_worker g id threads) k m));
}

pub kept_by_event : (w : WorkerFacts) (e : WorkerEvent) → worker_takes w e ≡ true → IsKept w → IsKept (worker_step w e).facts
unfolding worker_step
kept_by_event w e t h = kept_sought (worker_row w e) (kept_row w e t h.keys)

-- which tests each of these states is
ready_test : (m r i x f d l e u : Bool) → is_ready_state (state_by m r i x f d l e u) ≡ (not m && (not r && (not f && (i && d))))
ready_test true r i x f d l e u = refl
ready_test false true true x f d l e u = refl
ready_test false true false true f d l e u = refl
ready_test false true false false f d l e u = refl
ready_test false false true x true d l e u = refl
ready_test false false false true true d l e u = refl
ready_test false false false false true d l e u = refl
ready_test false false true x false true l e u = refl
ready_test false false true x false false l e u = refl
ready_test false false false true false d true e u = refl
ready_test false false false true false d false e u = refl
ready_test false false false false false d l true u = refl
ready_test false false false false false d l false true = refl
ready_test false false false false false d l false false = refl

fetch_test : (m r i x f d l e u : Bool) → is_fetch_state (state_by m r i x f d l e u) ≡ (not m && (not r && (not f && (not i && (x && l)))))
fetch_test true r i x f d l e u = refl
fetch_test false true true x f d l e u = refl
fetch_test false true false true f d l e u = refl
fetch_test false true false false f d l e u = refl
fetch_test false false true x true d l e u = refl
fetch_test false false false true true d l e u = refl
fetch_test false false false false true d l e u = refl
fetch_test false false true x false true l e u = refl
fetch_test false false true x false false l e u = refl
fetch_test false false false true false d true e u = refl
fetch_test false false false true false d false e u = refl
fetch_test false false false false false d l true u = refl
fetch_test false false false false false d l false true = refl
fetch_test false false false false false d l false false = refl

missing_test : (m r i x f d l e u : Bool) → is_missing_state (state_by m r i x f d l e u) ≡ (not m && (not r && (not f && (not i && (x && not l)))))
missing_test true r i x f d l e u = refl
missing_test false true true x f d l e u = refl
missing_test false true false true f d l e u = refl
missing_test false true false false f d l e u = refl
missing_test false false true x true d l e u = refl
missing_test false false false true true d l e u = refl
missing_test false false false false true d l e u = refl
missing_test false false true x false true l e u = refl
missing_test false false true x false false l e u = refl
missing_test false false false true false d true e u = refl
missing_test false false false true false d false e u = refl
missing_test false false false false false d l true u = refl
missing_test false false false false false d l false true = refl
missing_test false false false false false d l false false = refl

unstarted_test : (m r i x f d l e u : Bool) → is_unstarted_state (state_by m r i x f d l e u) ≡ (not m && (not r && (not f && (i))))
unstarted_test true r i x f d l e u = refl
unstarted_test false true true x f d l e u = refl
unstarted_test false true false true f d l e u = refl
unstarted_test false true false false f d l e u = refl
unstarted_test false false true x true d l e u = refl
unstarted_test false false false true true d l e u = refl
unstarted_test false false false false true d l e u = refl
unstarted_test false false true x false true l e u = refl
unstarted_test false false true x false false l e u = refl
unstarted_test false false false true false d true e u = refl
unstarted_test false false false true false d false e u = refl
unstarted_test false false false false false d l true u = refl
unstarted_test false false false false false d l false true = refl
unstarted_test false false false false false d l false false = refl

pub ready_state-is : (w : WorkerFacts) (k : ℕ) → is_ready_state (wstate w k) ≡ (not (w.mem k) && (not (w.running k) && (not (flying w k) && (is_some (w.mine k) && is_fed w k))))
unfolding wstate
ready_state-is w k = ready_test (w.mem k) (w.running k) (is_some (w.mine k)) (is_wanted w k) (flying w k) (is_fed w k) (has_any (w.holders k)) (w.failed k) (used w k)

pub fetch_state-is : (w : WorkerFacts) (k : ℕ) → is_fetch_state (wstate w k) ≡ (not (w.mem k) && (not (w.running k) && (not (flying w k) && (not (is_some (w.mine k)) && (is_wanted w k && has_any (w.holders k))))))
unfolding wstate
fetch_state-is w k = fetch_test (w.mem k) (w.running k) (is_some (w.mine k)) (is_wanted w k) (flying w k) (is_fed w k) (has_any (w.holders k)) (w.failed k) (used w k)

pub missing_state-is : (w : WorkerFacts) (k : ℕ) → is_missing_state (wstate w k) ≡ (not (w.mem k) && (not (w.running k) && (not (flying w k) && (not (is_some (w.mine k)) && (is_wanted w k && not (has_any (w.holders k)))))))
unfolding wstate
missing_state-is w k = missing_test (w.mem k) (w.running k) (is_some (w.mine k)) (is_wanted w k) (flying w k) (is_fed w k) (has_any (w.holders k)) (w.failed k) (used w k)

pub unstarted_state-is : (w : WorkerFacts) (k : ℕ) → is_unstarted_state (wstate w k) ≡ (not (w.mem k) && (not (w.running k) && (not (flying w k) && (is_some (w.mine k)))))
unfolding wstate
unstarted_state-is w k = unstarted_test (w.mem k) (w.running k) (is_some (w.mine k)) (is_wanted w k) (flying w k) (is_fed w k) (has_any (w.holders k)) (w.failed k) (used w k)
