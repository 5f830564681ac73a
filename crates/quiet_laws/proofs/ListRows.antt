-- A worker's messages list no more keys than there are.
use Rattle.std.proofs.Common.{◌≡◌, ℕ, suc, ◌+◌, ◌≤◌, Bool, true, false, cond, not, ◌&&◌, List, [], ◌∷◌, ◌++◌, length, Option, Some, None, refl, sym, ap, subst, arith, filter, fold}
use Rattle.std.proofs.Math.Dec.{eqb}
use Rattle.std.specs.List.{AllByRecursion}
use Rattle.small_facts.proofs.Every.{all_join}
use Rattle.small_facts.proofs.Lists.{filter_fewer}
use Rattle.cluster_msgs.specs.Shape.{key_count}
use Rattle.cluster_msgs.specs.declared.messages.Down.{Down}
use Rattle.cluster_msgs.specs.declared.messages.Down.TheVariants.{ComputeTask, FreeKeys, StealRequest, RemoveReplicas, AcquireReplicas, RefreshWhoHas}
use Rattle.cluster_msgs.specs.declared.messages.Up.{Up}
use Rattle.cluster_msgs.specs.declared.messages.Up.TheVariants.{TaskFinished, MissingData, StealResponse}
use Rattle.cluster_msgs.specs.declared.cores.Instruction.{Instruction}
use Rattle.cluster_msgs.specs.declared.cores.Instruction.TheVariants.{Send, Keep, Drop}
use Rattle.cluster_msgs.specs.declared.cores.WorkerEvent.{WorkerEvent}
use Rattle.cluster_msgs.specs.declared.cores.WorkerEvent.TheVariants.{Down as Told, Start as StartTask, Done, Ask as AskPeer, Gathered, GatherFailed, DataLost}
use Rattle.cluster_rules.specs.Functions.{put}
use Rattle.cluster_rules.specs.Derived.{is_in}
use Rattle.cluster_rules.specs.Worker.{Ask, WorkerFacts, worker_keys, ask_to, without_ask, awaited, is_wanted, wstate, is_missing_state, would_start}
use Rattle.cluster_rules.specs.WorkerStep.{WorkerStep, quiet, after_out, each_key, taken, set_holders, into_mem, give_up, given, free_key, yields, asked_back, remove_replica, add_message, remove_replicas, take_down, start, Arrivals, arrive_as, arrive, counted, arrived, stopped, erred_as, done, keys_of, lose_holders, not_found, answered_ask, gathered_by, gathered, ask_peer, worker_row, worker_step, unasked_keys}
use Rattle.cluster_rules.specs.WorldStep.{sends}
use Rattle.cluster_rules.proofs.InsideSched.{all_found}
use Rattle.quiet_measure.proofs.Asked.{sends_append}
use Rattle.quiet_measure.proofs.Told.{asking}
use Rattle.quiet_measure.specs.Bounded.{up_length}
use Rattle.quiet_measure.proofs.Weighed.{length_keys}

module _ (n : ℕ) (one : 1 ≤ n) where
  abbrev pub SendsShort : List Instruction → Type 0
  SendsShort out = AllByRecursion (λ (m : Up). up_length m ≤ n) (sends out)

  both : (xs ys : List Instruction) → SendsShort xs → SendsShort ys → SendsShort (xs ++ ys)
  both xs ys h g = subst (AllByRecursion (λ (m : Up). up_length m ≤ n)) (sym (sends_append xs ys)) (all_join (λ (m : Up). up_length m ≤ n) (sends xs) (sends ys) h g)

  each : {A : Type 0} (row : WorkerFacts → A → WorkerStep) → ((v : WorkerFacts) (x : A) → SendsShort (row v x).out) → (s : WorkerStep) (xs : List A) → SendsShort s.out → SendsShort (each_key row s xs).out
  each row h s [] g = g
  each row h s (x ∷ xs) g = each row h (after_out s.out (row s.facts x)) xs (both s.out (row s.facts x).out g (h s.facts x))

  add_short : (seen : ℕ) (ks : List ℕ) → length ks ≤ n → SendsShort (add_message seen ks)
  add_short seen [] l = tt
  add_short seen (k ∷ ks) l = (l, tt)

  given_short : (w : WorkerFacts) (q a : ℕ) (who : List (ℕ × List (ℕ × ℕ))) → SendsShort (given w q a who).out
  unfolding given
  given_short w q a who = pick (w.mem q)
    where
      pick : (b : Bool) → SendsShort (cond {A = WorkerStep} b (record { facts = record w { failed = put w.failed q false }; out = Send (TaskFinished w.seen q a) ∷ [] }) (quiet (fold set_holders (record w { failed = put w.failed q false; mine = put w.mine q (Some a) }) who))).out
      pick true = (omega arith, tt)
      pick false = tt

  asked_short : (w : WorkerFacts) (q a : ℕ) → SendsShort (asked_back w q a).out
  unfolding asked_back
  asked_short w q a = pick (yields w q a)
    where
      pick : (b : Bool) → SendsShort (cond {A = WorkerStep} b (record { facts = give_up w q; out = Send (StealResponse w.seen q a true) ∷ [] }) (record { facts = w; out = Send (StealResponse w.seen q a false) ∷ [] })).out
      pick true = (omega arith, tt)
      pick false = (omega arith, tt)

  remove_short : (v : WorkerFacts) (x : ℕ) → SendsShort (remove_replica v x).out
  remove_short v x = pick (v.mem x && not (awaited v x))
    where
      pick : (b : Bool) → SendsShort (cond {A = WorkerStep} b (record { facts = record v { mem = put v.mem x false }; out = Drop x ∷ [] }) (quiet v)).out
      pick true = tt
      pick false = tt

  removes_short : (w : WorkerFacts) (ks : List ℕ) → key_count w.shape ≤ n → SendsShort (remove_replicas w ks).out
  unfolding remove_replicas
  removes_short w ks few = both (each_key remove_replica (quiet w) ks).out _ (each remove_replica remove_short (quiet w) ks tt) (add_short w.seen _ short)
    where
      short : length (filter (λ k. is_in k ks && (w.mem k && awaited w k)) (worker_keys w)) ≤ n
      short = let a : length (filter (λ k. is_in k ks && (w.mem k && awaited w k)) (worker_keys w)) ≤ length (worker_keys w) = filter_fewer (λ k. is_in k ks && (w.mem k && awaited w k)) (worker_keys w) in
          omega (arith, a, length_keys (key_count w.shape), few)

  free_short : (v : WorkerFacts) (x : ℕ) → SendsShort (free_key v x).out
  free_short v x = by (v.mem x)
    where
      by : (b : Bool) → SendsShort (cond b (Drop x ∷ []) [])
      by true = tt
      by false = tt

  told_short : (w : WorkerFacts) (m : Down) → key_count w.shape ≤ n → SendsShort (take_down w m).out
  unfolding take_down
  told_short w (ComputeTask q a who) few = given_short w q a who
  told_short w (FreeKeys ks) few = each free_key free_short (quiet w) ks tt
  told_short w (StealRequest q a) few = asked_short w q a
  told_short w (RemoveReplicas ks) few = removes_short w ks few
  told_short w (AcquireReplicas who) few = tt
  told_short w (RefreshWhoHas who) few = tt

  -- the keys that are to be counted are some of those that came
  arrive_short : (r : Arrivals) (q : ℕ) → SendsShort r.out → SendsShort (arrive r q).out × (length (arrive r q).added ≤ length r.added + 1)
  arrive_short r q h = pick (r.facts.mine q)
    where
      one_more : (xs : List ℕ) → length (xs ++ q ∷ []) ≤ length xs + 1
      one_more [] = omega arith
      one_more (x ∷ xs) = let l : length (xs ++ q ∷ []) ≤ length xs + 1 = one_more xs in omega arith

      kept : (b : Bool) → SendsShort (cond b (record { facts = into_mem r.facts q; out = r.out ++ Keep q ∷ []; added = r.added ++ q ∷ [] }) r).out
          × (length (cond b (record { facts = into_mem r.facts q; out = r.out ++ Keep q ∷ []; added = r.added ++ q ∷ [] }) r).added ≤ length r.added + 1)
      kept true = (both r.out (Keep q ∷ []) h tt, one_more r.added)
      kept false = (h, omega arith)

      pick : (o : Option ℕ) → SendsShort (arrive_as r q o).out × (length (arrive_as r q o).added ≤ length r.added + 1)
      pick None = kept (is_wanted r.facts q)
      pick (Some a) = (both r.out (Keep q ∷ Send (TaskFinished r.facts.seen q a) ∷ []) h (omega arith, tt), omega arith)

  arrives_short : (r : Arrivals) (qs : List ℕ) → SendsShort r.out → SendsShort (fold arrive r qs).out × (length (fold arrive r qs).added ≤ length r.added + length qs)
  arrives_short r [] h = (h, omega arith)
  arrives_short r (q ∷ qs) h =
      let a = arrive_short r q h in
      let b = arrives_short (arrive r q) qs a.0 in
      let l : length (arrive r q).added ≤ length r.added + 1 = a.1 in
      let m : length (fold arrive (arrive r q) qs).added ≤ length (arrive r q).added + length qs = b.1 in
      (b.0, omega arith)

  arrived_short : (w : WorkerFacts) (qs : List ℕ) → length qs ≤ n → SendsShort (arrived w qs).out
  unfolding arrived
  arrived_short w qs l = by (arrives_short (record { facts = w; out = []; added = [] }) qs tt)
    where
      by : SendsShort (fold arrive (record { facts = w; out = []; added = [] }) qs).out × (length (fold arrive (record { facts = w; out = []; added = [] }) qs).added ≤ 0 + length qs) → SendsShort (counted (fold arrive (record { facts = w; out = []; added = [] }) qs)).out
      by h = both (fold arrive (record { facts = w; out = []; added = [] }) qs).out _ h.0 (add_short _ _ (omega (arith, h.1, l)))

  not_found_short : (p : ℕ) (v : WorkerFacts) (x : ℕ × ℕ) → SendsShort (not_found p v x).out
  not_found_short p v x = pick (is_missing_state (wstate (lose_holders v x.0) x.0))
    where
      pick : (b : Bool) → SendsShort (cond {A = WorkerStep} b (record { facts = record (lose_holders v x.0) { asked = put v.asked x.0 true }; out = Send (MissingData v.seen x.0 p x.1) ∷ [] }) (quiet (lose_holders v x.0))).out
      pick true = (omega arith, tt)
      pick false = tt

  keys_length : (is : List (ℕ × ℕ)) → length (keys_of is) ≡ length is
  keys_length [] = refl
  keys_length (x ∷ is) = ap (λ m. suc m) (keys_length is)

  gathered_short : (w : WorkerFacts) (p k : ℕ) (found : List ℕ) → AllByRecursion (λ (q : Ask). length q.items ≤ n) w.asks → SendsShort (gathered w p k found).out
  unfolding gathered
  gathered_short w p k found short = by_ask (ask_to w.asks p) refl
    where
      here : (a : Ask) → length a.items ≤ n → (b : Bool) → SendsShort (cond b (answered_ask (record w { asks = without_ask w.asks p }) p a.items found) (quiet w)).out
      here a l true = each (not_found p) (not_found_short p) (arrived (record w { asks = without_ask w.asks p }) (keys_of (filter (λ i. is_in i.0 found) a.items))) (filter (λ i. not (is_in i.0 found)) a.items)
          (arrived_short (record w { asks = without_ask w.asks p }) (keys_of (filter (λ i. is_in i.0 found) a.items))
          (let x : length (filter (λ i. is_in i.0 found) a.items) ≤ length a.items = filter_fewer (λ i. is_in i.0 found) a.items in omega (arith, x, l, keys_length (filter (λ i. is_in i.0 found) a.items))))
      here a l false = tt

      by_ask : (o : Option Ask) → ask_to w.asks p ≡ o → SendsShort (gathered_by w p k found o).out
      by_ask None e = tt
      by_ask (Some a) e = here a (all_found (λ (q : Ask). length q.items ≤ n) (λ (q : Ask). eqb q.peer p) w.asks a e short) (eqb a.number k)

  start_short : (w : WorkerFacts) (o : Option ℕ) → SendsShort (start w o).out
  start_short w None = tt
  start_short w (Some q) = tt

  done_short : (w : WorkerFacts) (q : ℕ) (z : Bool) → SendsShort (done w q z).out
  done_short w q false = arrived_short (stopped w q) (q ∷ []) (omega (arith, one))
  done_short w q true = pick (w.mine q)
    where
      pick : (o : Option ℕ) → SendsShort (erred_as (stopped w q) q o).out
      pick None = tt
      pick (Some a) = (omega arith, tt)

  row_short : (w : WorkerFacts) (e : WorkerEvent) → key_count w.shape ≤ n → AllByRecursion (λ (q : Ask). length q.items ≤ n) w.asks → SendsShort (worker_row w e).out
  unfolding worker_row ask_peer
  row_short w (Told m) few short = told_short (taken w) m few
  row_short w StartTask few short = start_short w (would_start w)
  row_short w (Done x z) few short = done_short w x z
  row_short w (AskPeer p) few short = tt
  row_short w (Gathered p k found) few short = gathered_short w p k found short
  row_short w (GatherFailed p k) few short = gathered_short w p k [] short
  row_short w (DataLost x) few short = (omega arith, tt)

  asking_short : (seen : ℕ) (ks : List ℕ) → SendsShort (asking seen ks)
  asking_short seen [] = tt
  asking_short seen (k ∷ ks) = (omega arith, asking_short seen ks)

  pub step_short : (w : WorkerFacts) (e : WorkerEvent) → key_count w.shape ≤ n → AllByRecursion (λ (q : Ask). length q.items ≤ n) w.asks → SendsShort (worker_step w e).out
  unfolding worker_step
  step_short w e few short = both (worker_row w e).out (asking (worker_row w e).facts.seen (unasked_keys (worker_row w e).facts)) (row_short w e few short) (asking_short _ _)
