-- What workers and clients send names only copies that were drawn.
use Rattle.std.proofs.Common.{◌≡◌, ℕ, ◌<◌, Bool, true, false, cond, not, ◌&&◌, List, [], ◌∷◌, ◌++◌, Option, Some, None, refl, filter, fold, map}
use Rattle.std.proofs.Math.Dec.{eqb}
use Rattle.std.specs.List.{filter_map, cons_option, AllByRecursion}
use Rattle.small_facts.proofs.Every.{all_join, all_of_filter}
use Rattle.cluster_msgs.specs.declared.messages.Down.{Down}
use Rattle.cluster_msgs.specs.declared.messages.Down.TheVariants.{ComputeTask, FreeKeys, StealRequest, RemoveReplicas, AcquireReplicas, RefreshWhoHas}
use Rattle.cluster_msgs.specs.declared.messages.Up.TheVariants.{TaskFinished, MissingData, RequestRefreshWhoHas, StealResponse}
use Rattle.cluster_msgs.specs.declared.messages.FromClient.TheVariants.{Missing as MissingMessage}
use Rattle.cluster_msgs.specs.declared.cores.Instruction.{Instruction}
use Rattle.cluster_msgs.specs.declared.cores.Instruction.TheVariants.{Execute, Gather, Keep, Drop, Send}
use Rattle.cluster_msgs.specs.declared.cores.ClientInstruction.TheVariants.{Send as ClientSend}
use Rattle.cluster_msgs.specs.declared.cores.WorkerEvent.{WorkerEvent}
use Rattle.cluster_msgs.specs.declared.cores.WorkerEvent.TheVariants.{Down as Told, Start as StartTask, Done, Ask as AskPeer, Gathered, GatherFailed, DataLost}
use Rattle.cluster_msgs.specs.declared.cores.ClientEvent.{ClientEvent}
use Rattle.cluster_msgs.specs.declared.cores.ClientEvent.TheVariants.{Want as WantKeys, Release as ReleaseKeys, FromScheduler, Ask as ClientAsk, Gathered as ClientGathered, GatherFailed as ClientGatherFailed}
use Rattle.cluster_rules.specs.Functions.{put}
use Rattle.cluster_rules.specs.Derived.{is_in}
use Rattle.cluster_rules.specs.Worker.{Ask as OpenAsk, WorkerFacts, worker_keys, awaited, is_wanted, wstate, is_missing_state, would_start, ask_to, without_ask}
use Rattle.cluster_rules.specs.WorkerStep.{WorkerStep, quiet, after_out, each_key, taken, set_holders, give_up, given, free_key, yields, asked_back, remove_replica, remove_replicas, add_message, take_down, start, Arrivals, arrive_as, arrive, arrived, stopped, erred_as, done, keys_of, ask_peer, lose_holders, not_found, answered_ask, gathered_by, gathered, worker_row, unasked_keys, worker_step, into_mem}
use Rattle.cluster_rules.specs.WorldStep.{sends, client_sends}
use Rattle.cluster_rules.specs.Client.{ClientFacts, client_wants, client_releases, client_ask, client_answered, missing_message, client_gathered_by, client_gathered, keeps_still, client_step}
use Rattle.cluster_rules.proofs.InsideSched.{all_found}
use Rattle.quiet_laws.specs.Old.{IsOldUp, IsOldLetter, IsOldAsk}

module _ (N : ℕ) where
  abbrev pub IsOldOut : Instruction → Type 0
  IsOldOut (Send m) = IsOldUp N m
  IsOldOut (Execute k) = Unit {0}
  IsOldOut (Gather p n ks) = Unit {0}
  IsOldOut (Keep k) = Unit {0}
  IsOldOut (Drop k) = Unit {0}

  abbrev pub AllOut : List Instruction → Type 0
  AllOut os = AllByRecursion IsOldOut os

  pub out_sends : (os : List Instruction) → AllOut os → AllByRecursion (IsOldUp N) (sends os)
  out_sends [] h = tt
  out_sends (Send m ∷ os) h = (h.0, out_sends os h.1)
  out_sends (Execute k ∷ os) h = out_sends os h.1
  out_sends (Gather p n ks ∷ os) h = out_sends os h.1
  out_sends (Keep k ∷ os) h = out_sends os h.1
  out_sends (Drop k ∷ os) h = out_sends os h.1

  joined : (xs ys : List Instruction) → AllOut xs → AllOut ys → AllOut (xs ++ ys)
  joined xs ys a b = all_join IsOldOut xs ys a b

  each_out : {A : Type 0} (row : WorkerFacts → A → WorkerStep) (P : A → Type 0) (xs : List A) (s : WorkerStep) → ((v : WorkerFacts) (x : A) → P x → AllOut (row v x).out) → AllByRecursion P xs → AllOut s.out → AllOut (each_key row s xs).out
  each_out row P [] s f p h = h
  each_out row P (x ∷ xs) s f p h = each_out row P xs (after_out s.out (row s.facts x)) f p.1 (joined s.out (row s.facts x).out h (f s.facts x p.0))

  all_units : {A : Type 0} (xs : List A) → AllByRecursion (λ (x : A). Unit {0}) xs
  all_units [] = tt
  all_units (x ∷ xs) = (tt, all_units xs)

  free_out : (v : WorkerFacts) (k : ℕ) → AllOut (free_key v k).out
  free_out v k = by (v.mem k)
    where
      by : (b : Bool) → AllOut (cond b (Drop k ∷ []) [])
      by true = (tt, tt)
      by false = tt

  remove_out : (v : WorkerFacts) (k : ℕ) → AllOut (remove_replica v k).out
  remove_out v k = by (v.mem k && not (awaited v k))
    where
      by : (b : Bool) → AllOut (cond b (record { facts = record v { mem = put v.mem k false }; out = Drop k ∷ [] }) (quiet v)).out
      by true = (tt, tt)
      by false = tt

  added_out : (seen : ℕ) (ks : List ℕ) → AllOut (add_message seen ks)
  added_out seen [] = tt
  added_out seen (k ∷ ks) = (tt, tt)

  told_out : (v : WorkerFacts) (m : Down) → AllOut (take_down v m).out
  unfolding take_down given asked_back remove_replicas
  told_out v (ComputeTask k a who) = by (v.mem k)
    where
      by : (b : Bool) → AllOut (cond {A = WorkerStep} b (record { facts = record v { failed = put v.failed k false }; out = Send (TaskFinished v.seen k a) ∷ [] }) (quiet (fold set_holders (record v { failed = put v.failed k false; mine = put v.mine k (Some a) }) who))).out
      by true = (tt, tt)
      by false = tt
  told_out v (FreeKeys ks) = each_out free_key (λ k. Unit {0}) ks (quiet v) (λ v k u. free_out v k) (all_units ks) tt
  told_out v (StealRequest k a) = by (yields v k a)
    where
      by : (b : Bool) → AllOut (cond {A = WorkerStep} b (record { facts = give_up v k; out = Send (StealResponse v.seen k a true) ∷ [] }) (record { facts = v; out = Send (StealResponse v.seen k a false) ∷ [] })).out
      by true = (tt, tt)
      by false = (tt, tt)
  told_out v (RemoveReplicas ks) = joined (each_key remove_replica (quiet v) ks).out (add_message v.seen (filter (λ k. is_in k ks && (v.mem k && awaited v k)) (worker_keys v))) (each_out remove_replica (λ k. Unit {0}) ks (quiet v) (λ v k u. remove_out v k) (all_units ks) tt) (added_out v.seen _)
  told_out v (AcquireReplicas who) = tt
  told_out v (RefreshWhoHas who) = tt

  arrive_out : (r : Arrivals) (q : ℕ) → AllOut r.out → AllOut (arrive r q).out
  arrive_out r q h = pick (r.facts.mine q)
    where
      kept : (b : Bool) → AllOut (cond b (record { facts = into_mem r.facts q; out = r.out ++ Keep q ∷ []; added = r.added ++ q ∷ [] }) r).out
      kept true = joined r.out (Keep q ∷ []) h (tt, tt)
      kept false = h

      pick : (o : Option ℕ) → AllOut (arrive_as r q o).out
      pick None = kept (is_wanted r.facts q)
      pick (Some a) = joined r.out (Keep q ∷ Send (TaskFinished r.facts.seen q a) ∷ []) h (tt, (tt, tt))

  arrives_out : (qs : List ℕ) (r : Arrivals) → AllOut r.out → AllOut (fold arrive r qs).out
  arrives_out [] r h = h
  arrives_out (q ∷ qs) r h = arrives_out qs (arrive r q) (arrive_out r q h)

  arrived_out : (v : WorkerFacts) (qs : List ℕ) → AllOut (arrived v qs).out
  unfolding arrived
  arrived_out v qs = joined (fold arrive (record { facts = v; out = []; added = [] }) qs).out _ (arrives_out qs (record { facts = v; out = []; added = [] }) tt) (added_out _ _)

  not_found_out : (p : ℕ) (v : WorkerFacts) (x : ℕ × ℕ) → x.1 < N → AllOut (not_found p v x).out
  not_found_out p v x l = pick (is_missing_state (wstate (lose_holders v x.0) x.0))
    where
      pick : (b : Bool) → AllOut (cond {A = WorkerStep} b (record { facts = record (lose_holders v x.0) { asked = put v.asked x.0 true }; out = Send (MissingData v.seen x.0 p x.1) ∷ [] }) (quiet (lose_holders v x.0))).out
      pick true = (l, tt)
      pick false = tt

  gathered_out : (v : WorkerFacts) (p n : ℕ) (found : List ℕ) → AllByRecursion (IsOldAsk N) v.asks → AllOut (gathered v p n found).out
  unfolding gathered
  gathered_out v p n found h = by_ask (ask_to v.asks p) refl
    where
      over : (a : OpenAsk) → IsOldAsk N a → (b : Bool) → AllOut (cond {A = WorkerStep} b (answered_ask (record v { asks = without_ask v.asks p }) p a.items found) (quiet v)).out
      over a o true = each_out (not_found p) (λ (x : ℕ × ℕ). x.1 < N) (filter (λ i. not (is_in i.0 found)) a.items) (arrived (record v { asks = without_ask v.asks p }) (keys_of (filter (λ i. is_in i.0 found) a.items))) (not_found_out p)
          (all_of_filter (λ (x : ℕ × ℕ). x.1 < N) (λ i. not (is_in i.0 found)) a.items o) (arrived_out (record v { asks = without_ask v.asks p }) (keys_of (filter (λ i. is_in i.0 found) a.items)))
      over a o false = tt

      by_ask : (o : Option OpenAsk) → ask_to v.asks p ≡ o → AllOut (gathered_by v p n found o).out
      by_ask None e = tt
      by_ask (Some a) e = over a (all_found (IsOldAsk N) (λ (x : OpenAsk). eqb x.peer p) v.asks a e h) (eqb a.number n)

  start_out : (v : WorkerFacts) (o : Option ℕ) → AllOut (start v o).out
  start_out v None = tt
  start_out v (Some k) = (tt, tt)

  done_out : (v : WorkerFacts) (k : ℕ) (z : Bool) → AllOut (done v k z).out
  done_out v k false = arrived_out (stopped v k) (k ∷ [])
  done_out v k true = by (v.mine k)
    where
      by : (o : Option ℕ) → AllOut (erred_as (stopped v k) k o).out
      by None = tt
      by (Some a) = (tt, tt)

  row_out : (v : WorkerFacts) (e : WorkerEvent) → AllByRecursion (IsOldAsk N) v.asks → AllOut (worker_row v e).out
  unfolding worker_row ask_peer
  row_out v (Told m) h = told_out (taken v) m
  row_out v StartTask h = start_out v (would_start v)
  row_out v (Done k z) h = done_out v k z
  row_out v (AskPeer p) h = (tt, tt)
  row_out v (Gathered p n found) h = gathered_out v p n found h
  row_out v (GatherFailed p n) h = gathered_out v p n [] h
  row_out v (DataLost k) h = (tt, tt)

  sought_out : (seen : ℕ) (ks : List ℕ) → AllOut (map (λ k. Send (RequestRefreshWhoHas seen k)) ks)
  sought_out seen [] = tt
  sought_out seen (k ∷ ks) = (tt, sought_out seen ks)

  pub step_out : (v : WorkerFacts) (e : WorkerEvent) → AllByRecursion (IsOldAsk N) v.asks → AllByRecursion (IsOldUp N) (sends (worker_step v e).out)
  unfolding worker_step
  step_out v e h = out_sends _ (joined (worker_row v e).out _ (row_out v e h) (sought_out (worker_row v e).facts.seen (unasked_keys (worker_row v e).facts)))

  -- ## A client

  missed_sends : (c : ClientFacts) (p : ℕ) (is : List (ℕ × ℕ)) → AllByRecursion (λ (x : ℕ × ℕ). x.1 < N) is → AllByRecursion (IsOldLetter N) (client_sends (filter_map (missing_message c p) is))
  missed_sends c p [] h = tt
  missed_sends c p (i ∷ is) h = by (c.wants i.0) (missed_sends c p is h.1)
    where
      by : (b : Bool) → AllByRecursion (IsOldLetter N) (client_sends (filter_map (missing_message c p) is)) → AllByRecursion (IsOldLetter N) (client_sends (cons_option (cond b (Some (ClientSend (MissingMessage i.0 p i.1))) None) (filter_map (missing_message c p) is)))
      by true r = (h.0, r)
      by false r = r

  client_gathered_out : (c : ClientFacts) (p n : ℕ) (found : List ℕ) → AllByRecursion (IsOldAsk N) c.asks → AllByRecursion (IsOldLetter N) (client_sends (client_gathered c p n found).out)
  unfolding client_gathered
  client_gathered_out c p n found h = by_ask (ask_to c.asks p) refl
    where
      over : (a : OpenAsk) → IsOldAsk N a → (b : Bool) → AllByRecursion (IsOldLetter N) (client_sends (cond b (client_answered (record c { asks = without_ask c.asks p }) p (keys_of (filter (λ i. is_in i.0 found) a.items)) (filter (λ i. not (is_in i.0 found)) a.items)) (keeps_still c)).out)
      over a o true = missed_sends (record c { asks = without_ask c.asks p }) p (filter (λ i. not (is_in i.0 found)) a.items) (all_of_filter (λ (x : ℕ × ℕ). x.1 < N) (λ i. not (is_in i.0 found)) a.items o)
      over a o false = tt

      by_ask : (o : Option OpenAsk) → ask_to c.asks p ≡ o → AllByRecursion (IsOldLetter N) (client_sends (client_gathered_by c p n found o).out)
      by_ask None e = tt
      by_ask (Some a) e = over a (all_found (IsOldAsk N) (λ (x : OpenAsk). eqb x.peer p) c.asks a e h) (eqb a.number n)

  pub client_out : (c : ClientFacts) (e : ClientEvent) → AllByRecursion (IsOldAsk N) c.asks → AllByRecursion (IsOldLetter N) (client_sends (client_step c e).out)
  unfolding client_step client_wants client_releases client_ask
  client_out c (WantKeys ks) h = (tt, tt)
  client_out c (ReleaseKeys ks) h = (tt, tt)
  client_out c (FromScheduler m) h = tt
  client_out c (ClientAsk p) h = tt
  client_out c (ClientGathered p n found) h = client_gathered_out c p n found h
  client_out c (ClientGatherFailed p n) h = client_gathered_out c p n [] h
