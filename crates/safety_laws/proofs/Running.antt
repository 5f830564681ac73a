-- What runs goes on: an event of a worker leaves a task of it running, unless it is the task that ends.
use Rattle.std.proofs.Common.{◌≡◌, ℕ, ◌+◌, ◌≤◌, Bool, true, false, cond, not, ◌&&◌, List, [], ◌∷◌, ◌++◌, Option, Some, None, refl, sym, ap, ◌∙◌, subst, arith, filter, fold, inl, inr, ◌⊎◌}
use Rattle.std.proofs.lemmas.Bool.{false≢true, eqb-true, eq-eqb}
use Rattle.std.proofs.Math.Dec.{eqb}
use Rattle.std.proofs.lemmas.Option.{none-some, same_Some}
use Rattle.cluster_msgs.specs.declared.messages.Down.{Down}
use Rattle.cluster_msgs.specs.declared.messages.Down.TheVariants.{ComputeTask, FreeKeys, StealRequest, RemoveReplicas, AcquireReplicas, RefreshWhoHas}
use Rattle.cluster_msgs.specs.declared.messages.Up.TheVariants.{TaskFinished, MissingData, StealResponse}
use Rattle.cluster_msgs.specs.declared.cores.Instruction.TheVariants.{Keep, Drop, Send}
use Rattle.cluster_msgs.specs.declared.cores.WorkerEvent.{WorkerEvent}
use Rattle.cluster_msgs.specs.declared.cores.WorkerEvent.TheVariants.{Down as Told, Start, Done, Ask as AskPeer, Gathered, GatherFailed, DataLost}
use Rattle.cluster_rules.specs.Functions.{put}
use Rattle.cluster_rules.specs.Derived.{is_in}
use Rattle.cluster_rules.specs.Worker.{Ask as OpenAsk, WorkerFacts, awaited, is_wanted, wstate, is_missing_state, would_start, ask_to, without_ask}
use Rattle.cluster_rules.specs.WorkerStep.{WorkerStep, quiet, after_out, each_key, taken, set_holders, into_mem, give_up, given, free_key, yields, asked_back, remove_replica, remove_replicas, acquire, refresh, take_down, start, Arrivals, arrive_as, arrive, arrived, stopped, erred_as, done, keys_of, ask_peer, lose_holders, not_found, answered_ask, gathered_by, gathered, worker_row, worker_step, worker_takes}
use Rattle.pair_machine.specs.Pair.{Note, Task, Free, Remove, Ask, Other, is_at, given_count, Pair}
use Rattle.pair_machine.specs.Moves.{take_note, take_remove, take_ask, opening}
use Rattle.pair_moves.specs.Projection.{note_of}
use Rattle.pair_moves.proofs.WorkerMoves.{IsClosed, own_keeps, told_keeps, IsOwn}

-- ## The rows that leave what runs

run_set : (w : WorkerFacts) (who : List (ℕ × List (ℕ × ℕ))) → (fold set_holders w who).running ≡ w.running
run_set w [] = refl
run_set w (x ∷ xs) = run_set (set_holders w x) xs

run_acquire : (w : WorkerFacts) (who : List (ℕ × List (ℕ × ℕ))) → (fold acquire w who).running ≡ w.running
run_acquire w [] = refl
run_acquire w (x ∷ xs) = run_acquire (acquire w x) xs ∙ one (w.mem x.0)
  where
    one : (b : Bool) → (cond b w (set_holders (record w { sought = put w.sought x.0 true }) x)).running ≡ w.running
    one true = refl
    one false = refl

run_refresh : (w : WorkerFacts) (who : List (ℕ × List (ℕ × ℕ))) → (fold refresh w who).running ≡ w.running
run_refresh w [] = refl
run_refresh w (x ∷ xs) = run_refresh (refresh w x) xs

run_each : {A : Type 0} (row : WorkerFacts → A → WorkerStep) (xs : List A) (s : WorkerStep) → ((v : WorkerFacts) (x : A) → (row v x).facts.running ≡ v.running) → (each_key row s xs).facts.running ≡ s.facts.running
run_each row [] s h = refl
run_each row (x ∷ xs) s h = run_each row xs (after_out s.out (row s.facts x)) h ∙ h s.facts x

run_remove : (v : WorkerFacts) (x : ℕ) → (remove_replica v x).facts.running ≡ v.running
run_remove v x = pick (v.mem x && not (awaited v x))
  where
    pick : (b : Bool) → (cond b (record { facts = record v { mem = put v.mem x false }; out = Drop x ∷ [] }) (quiet v)).facts.running ≡ v.running
    pick true = refl
    pick false = refl

run_given : (w : WorkerFacts) (q a : ℕ) (who : List (ℕ × List (ℕ × ℕ))) → (given w q a who).facts.running ≡ w.running
unfolding given
run_given w q a who = pick (w.mem q)
  where
    pick : (b : Bool) → (cond {A = WorkerStep} b (record { facts = record w { failed = put w.failed q false }; out = Send (TaskFinished w.seen q a) ∷ [] }) (quiet (fold set_holders (record w { failed = put w.failed q false; mine = put w.mine q (Some a) }) who))).facts.running ≡ w.running
    pick true = refl
    pick false = run_set (record w { failed = put w.failed q false; mine = put w.mine q (Some a) }) who

run_asked : (w : WorkerFacts) (q a : ℕ) → (asked_back w q a).facts.running ≡ w.running
unfolding asked_back
run_asked w q a = pick (yields w q a)
  where
    pick : (b : Bool) → (cond {A = WorkerStep} b (record { facts = give_up w q; out = Send (StealResponse w.seen q a true) ∷ [] }) (record { facts = w; out = Send (StealResponse w.seen q a false) ∷ [] })).facts.running ≡ w.running
    pick true = refl
    pick false = refl

run_told : (w : WorkerFacts) (m : Down) → (take_down w m).facts.running ≡ w.running
unfolding take_down remove_replicas
run_told w (ComputeTask q a who) = run_given w q a who
run_told w (FreeKeys ks) = run_each free_key ks (quiet w) (λ v x. refl)
run_told w (StealRequest q a) = run_asked w q a
run_told w (RemoveReplicas ks) = run_each remove_replica ks (quiet w) run_remove
run_told w (AcquireReplicas who) = run_acquire w who
run_told w (RefreshWhoHas who) = run_refresh w who

run_arrive : (r : Arrivals) (q : ℕ) → (arrive r q).facts.running ≡ r.facts.running
run_arrive r q = pick (r.facts.mine q)
  where
    kept : (b : Bool) → (cond b (record { facts = into_mem r.facts q; out = r.out ++ Keep q ∷ []; added = r.added ++ q ∷ [] }) r).facts.running ≡ r.facts.running
    kept true = refl
    kept false = refl

    pick : (o : Option ℕ) → (arrive_as r q o).facts.running ≡ r.facts.running
    pick None = kept (is_wanted r.facts q)
    pick (Some a) = refl

run_arrives : (qs : List ℕ) (r : Arrivals) → (fold arrive r qs).facts.running ≡ r.facts.running
run_arrives [] r = refl
run_arrives (q ∷ qs) r = run_arrives qs (arrive r q) ∙ run_arrive r q

run_arrived : (w : WorkerFacts) (qs : List ℕ) → (arrived w qs).facts.running ≡ w.running
unfolding arrived
run_arrived w qs = run_arrives qs (record { facts = w; out = []; added = [] })

run_not_found : (p : ℕ) (v : WorkerFacts) (x : ℕ × ℕ) → (not_found p v x).facts.running ≡ v.running
run_not_found p v x = pick (is_missing_state (wstate (lose_holders v x.0) x.0))
  where
    pick : (b : Bool) → (cond {A = WorkerStep} b (record { facts = record (lose_holders v x.0) { asked = put v.asked x.0 true }; out = Send (MissingData v.seen x.0 p x.1) ∷ [] }) (quiet (lose_holders v x.0))).facts.running ≡ v.running
    pick true = refl
    pick false = refl

run_gathered : (w : WorkerFacts) (p n : ℕ) (found : List ℕ) → (gathered w p n found).facts.running ≡ w.running
unfolding gathered
run_gathered w p n found = by_ask (ask_to w.asks p)
  where
    over : (a : OpenAsk) (b : Bool) → (cond b (answered_ask (record w { asks = without_ask w.asks p }) p a.items found) (quiet w)).facts.running ≡ w.running
    over a true = run_each (not_found p) (filter (λ i. not (is_in i.0 found)) a.items) (arrived (record w { asks = without_ask w.asks p }) (keys_of (filter (λ i. is_in i.0 found) a.items))) (run_not_found p)
        ∙ run_arrived (record w { asks = without_ask w.asks p }) (keys_of (filter (λ i. is_in i.0 found) a.items))
    over a false = refl

    by_ask : (o : Option OpenAsk) → (gathered_by w p n found o).facts.running ≡ w.running
    by_ask None = refl
    by_ask (Some a) = over a (eqb a.number n)

-- the ending task is no longer the worker's
done_mine : (w : WorkerFacts) (q : ℕ) (z : Bool) → (done w q z).facts.mine q ≡ None
unfolding arrived
done_mine w q false = pick (w.mine q) refl
  where
    r : Arrivals
    r = record { facts = stopped w q; out = []; added = [] }

    kept : (b : Bool) → w.mine q ≡ None → (cond b (record { facts = into_mem r.facts q; out = r.out ++ Keep q ∷ []; added = r.added ++ q ∷ [] }) r).facts.mine q ≡ None
    kept true e = e
    kept false e = e

    pick : (o : Option ℕ) → w.mine q ≡ o → (arrive_as r q o).facts.mine q ≡ None
    pick None e = kept (is_wanted r.facts q) e
    pick (Some a) e = ap (λ b. cond b None (w.mine q)) (eq-eqb q q refl)
done_mine w q true = pick (w.mine q) refl
  where
    pick : (o : Option ℕ) → w.mine q ≡ o → (erred_as (stopped w q) q o).facts.mine q ≡ None
    pick None e = e
    pick (Some a) e = ap (λ b. cond b None (w.mine q)) (eq-eqb q q refl)

-- ## Where a task comes from

module _ (a : ℕ) (P : Type 0) where
  abbrev pub IsGiven : Note → Type 0
  IsGiven (Task b) = b ≡ a → P
  IsGiven Free = Unit {0}
  IsGiven Remove = Unit {0}
  IsGiven (Ask b) = Unit {0}
  IsGiven Other = Unit {0}

  abbrev pub AreGiven : List Note → Type 0
  AreGiven [] = Unit {0}
  AreGiven (n ∷ ns) = IsGiven n × AreGiven ns

  abbrev pub IsFrom : Pair → Type 0
  IsFrom p = (p.mine ≡ Some a → P) × AreGiven p.down

  from_take : (agrees : Bool) (seen : ℕ) (mem : Bool) (mine : Option ℕ) (n : Note) → IsGiven n → (mine ≡ Some a → P) → (take_note agrees seen mem mine n).mine ≡ Some a → P
  from_take agrees seen true mine (Task b) g h e = h e
  from_take agrees seen false mine (Task b) g h e = g (same_Some b a e)
  from_take agrees seen mem mine Free g h e = absurd (none-some a e)
  from_take agrees seen true mine Remove g h e = pick agrees e
    where
      pick : (b : Bool) → (take_remove seen true mine b).mine ≡ Some a → P
      pick true q = h q
      pick false q = h q
  from_take agrees seen false mine Remove g h e = h e
  from_take agrees seen mem mine (Ask b) g h e = pick (is_at b mine && agrees) e
    where
      pick : (c : Bool) → (take_ask mem mine b c).mine ≡ Some a → P
      pick true e = absurd (none-some a e)
      pick false e = h e
  from_take agrees seen mem mine Other g h e = h e

  pub from_closed : IsClosed IsFrom (λ _. Unit {0})
  from_closed = record {
    finish = λ p b e x. (λ q. absurd (none-some a q), x.1);
    fail = λ p b e x. (λ q. absurd (none-some a q), x.1);
    store = λ p m e x. x;
    lose = λ p m x. x;
    say = λ p x. x;
    takes = λ agrees p n ns y x. (from_take agrees (p.seen + 1) p.mem p.mine n x.1.0 x.0, x.1.1);
  }

-- a task is the worker's as before, or the message gives it
pub told_from : (w : WorkerFacts) (m : Down) (k a : ℕ) → worker_takes w (Told m) ≡ true → (worker_step w (Told m)).facts.mine k ≡ Some a → (w.mine k ≡ Some a) ⊎ (1 ≤ given_count a (note_of k m ∷ []))
told_from w m k a t e = (told_keeps (IsFrom a P) (λ _. Unit {0}) (from_closed a P) k w m t (λ _. tt) opening [] (λ q. inl q, (first (note_of k m) (λ l. inr l), tt))).0 e
  where
    P : Type 0
    P = (w.mine k ≡ Some a) ⊎ (1 ≤ given_count a (note_of k m ∷ []))

    first : (n : Note) → (1 ≤ given_count a (n ∷ []) → P) → IsGiven a P n
    first (Task b) h = λ i. h (one (eqb b a) (eq-eqb b a i))
      where
        one : (c : Bool) → c ≡ true → 1 ≤ cond c 1 0 + 0
        one true e = omega arith
        one false e = absurd (false≢true e)
    first Free h = tt
    first Remove h = tt
    first (Ask b) h = tt
    first Other h = tt

own_from : (w : WorkerFacts) (e : WorkerEvent) (k a : ℕ) → IsOwn (IsFrom a (w.mine k ≡ Some a)) (λ _. Unit {0}) (from_closed a (w.mine k ≡ Some a)) k e → worker_takes w e ≡ true → (worker_step w e).facts.mine k ≡ Some a → w.mine k ≡ Some a
own_from w e k a o t q = (own_keeps (IsFrom a (w.mine k ≡ Some a)) (λ _. Unit {0}) (from_closed a (w.mine k ≡ Some a)) k w e o t opening (λ i. i, tt)).0 q

-- ## Every event

-- what runs and is the worker's goes on
pub told_runs : (w : WorkerFacts) (m : Down) → (worker_step w (Told m)).facts.running ≡ w.running
unfolding worker_step worker_row
told_runs w m = run_told (taken w) m

-- what runs after an event that isn't a message
run_start : (w : WorkerFacts) (o : Option ℕ) (k : ℕ) → w.running k ≡ true → (start w o).facts.running k ≡ true
run_start w None k r = r
run_start w (Some q) k r = pick (eqb k q)
  where
    pick : (b : Bool) → cond b true (w.running k) ≡ true
    pick true = refl
    pick false = r

run_done : (w : WorkerFacts) (q : ℕ) (z : Bool) → (done w q z).facts.running ≡ put w.running q false
run_done w q false = run_arrived (stopped w q) (q ∷ [])
run_done w q true = pick (w.mine q)
  where
    pick : (o : Option ℕ) → (erred_as (stopped w q) q o).facts.running ≡ put w.running q false
    pick None = refl
    pick (Some a) = refl

runs_on : (w : WorkerFacts) (e : WorkerEvent) (k a : ℕ) → (worker_step w e).facts.mine k ≡ Some a → w.running k ≡ true → (worker_step w e).facts.running k ≡ true
unfolding worker_step worker_row ask_peer
runs_on w (Told m) k a q r = ap (λ (f : ℕ → Bool). f k) (run_told (taken w) m) ∙ r
runs_on w Start k a q r = run_start w (would_start w) k r
runs_on w (Done x z) k a q r = pick (eqb k x) refl
  where
    pick : (b : Bool) → eqb k x ≡ b → (done w x z).facts.running k ≡ true
    pick true e = absurd (none-some a (sym (done_mine w x z) ∙ ap (done w x z).facts.mine (sym (eqb-true k x e)) ∙ q))
    pick false e = ap (λ (f : ℕ → Bool). f k) (run_done w x z) ∙ ap (λ b. cond b false (w.running k)) e ∙ r
runs_on w (AskPeer p) k a q r = r
runs_on w (Gathered p n found) k a q r = ap (λ (f : ℕ → Bool). f k) (run_gathered w p n found) ∙ r
runs_on w (GatherFailed p n) k a q r = ap (λ (f : ℕ → Bool). f k) (run_gathered w p n []) ∙ r
runs_on w (DataLost x) k a q r = r

pub own_runs : (w : WorkerFacts) (e : WorkerEvent) (k a : ℕ) → IsOwn (IsFrom a (w.mine k ≡ Some a)) (λ _. Unit {0}) (from_closed a (w.mine k ≡ Some a)) k e → worker_takes w e ≡ true → (worker_step w e).facts.mine k ≡ Some a → (w.mine k ≡ Some a) × (w.running k ≡ true → (worker_step w e).facts.running k ≡ true)
own_runs w e k a o t q = (own_from w e k a o t q, λ r. runs_on w e k a q r)

-- a start makes its key run
pub start_runs : (w : WorkerFacts) (k : ℕ) → would_start w ≡ Some k → (worker_step w Start).facts.running k ≡ true
unfolding worker_step worker_row
start_runs w k e = subst (λ o. (start w o).facts.running k ≡ true) (sym e) (ap (λ b. cond b true (w.running k)) (eq-eqb k k refl))
