-- A worker reports an error only of a task that it is told has met a zero divisor.
use Rattle.std.proofs.Common.{◌≡◌, ℕ, Bool, true, false, not, ◌&&◌, List, [], ◌∷◌, ◌++◌, Option, Some, None, cond, filter, map, fold, subst, sym}
use Rattle.std.specs.Prelude.{◌==◌}
use Rattle.std.specs.List.{AllByRecursion}
use Rattle.std.proofs.lemmas.List.Elements.{All-from_recursion}
use Rattle.small_facts.proofs.Every.{all_join}
use Rattle.cluster_msgs.specs.Labels.{LabelFacts, ErrorFits}
use Rattle.cluster_msgs.specs.declared.messages.Down.{Down}
use Rattle.cluster_msgs.specs.declared.messages.Down.TheVariants.{ComputeTask, FreeKeys, StealRequest, RemoveReplicas, AcquireReplicas, RefreshWhoHas}
use Rattle.cluster_msgs.specs.declared.messages.Up.TheVariants.{TaskFinished, MissingData, RequestRefreshWhoHas, StealResponse}
use Rattle.cluster_msgs.specs.declared.cores.Instruction.{Instruction}
use Rattle.cluster_msgs.specs.declared.cores.Instruction.TheVariants.{Keep, Drop, Send}
use Rattle.cluster_msgs.specs.declared.cores.WorkerEvent.{WorkerEvent}
use Rattle.cluster_msgs.specs.declared.cores.WorkerEvent.TheVariants.{Down as Told, Start, Done, Ask as AskPeer, Gathered, GatherFailed, DataLost}
use Rattle.cluster_rules.specs.Functions.{put}
use Rattle.cluster_rules.specs.Derived.{is_in}
use Rattle.cluster_rules.specs.Worker.{worker_keys, Ask, WorkerFacts, awaited, is_wanted, wstate, is_missing_state, would_start, ask_to, without_ask}
use Rattle.cluster_rules.specs.WorkerStep.{WorkerStep, quiet, after_out, each_key, taken, set_holders, into_mem, give_up, given, free_key, yields, asked_back, remove_replica, add_message, remove_replicas, take_down, start, Arrivals, arrive_as, arrive, arrived, stopped, erred_as, done, ask_peer, lose_holders, not_found, answered_ask, gathered_by, gathered, worker_row, unasked_keys, worker_step}
use Rattle.node_states.specs.Fitting.{WorkerEventFits, InstructionFits, InstructionsFit}

module _ {B : Type 0} (facts : LabelFacts B) where
  abbrev Fit : List Instruction → Type 0
  Fit out = AllByRecursion (InstructionFits facts) out

  fit_each : {A : Type 0} (row : WorkerFacts → A → WorkerStep) → ((w : WorkerFacts) (x : A) → Fit (row w x).out) → (s : WorkerStep) (xs : List A) → Fit s.out → Fit (each_key row s xs).out
  fit_each row step s [] h = h
  fit_each row step s (x ∷ xs) h = fit_each row step (after_out s.out (row s.facts x)) xs (all_join (InstructionFits facts) s.out (row s.facts x).out h (step s.facts x))

  fit_drop : (q : ℕ) (b : Bool) → Fit (cond b (Drop q ∷ []) [])
  fit_drop q true = (tt, tt)
  fit_drop q false = tt

  fit_free : (w : WorkerFacts) (q : ℕ) → Fit (free_key w q).out
  fit_free w q = fit_drop q (w.mem q)

  fit_given : (w : WorkerFacts) (q a : ℕ) (who : List (ℕ × List (ℕ × ℕ))) → Fit (given w q a who).out
  unfolding given
  fit_given w q a who = pick (w.mem q)
    where
      pick : (b : Bool) → Fit (cond {A = WorkerStep} b (record { facts = record w { failed = put w.failed q false }; out = Send (TaskFinished w.seen q a) ∷ [] })
          (quiet (fold set_holders (record w { failed = put w.failed q false; mine = put w.mine q (Some a) }) who))).out
      pick true = (tt, tt)
      pick false = tt

  fit_asked_back : (w : WorkerFacts) (q a : ℕ) → Fit (asked_back w q a).out
  unfolding asked_back
  fit_asked_back w q a = pick (yields w q a)
    where
      pick : (b : Bool) → Fit (cond {A = WorkerStep} b (record { facts = give_up w q; out = Send (StealResponse w.seen q a true) ∷ [] }) (record { facts = w; out = Send (StealResponse w.seen q a false) ∷ [] })).out
      pick true = (tt, tt)
      pick false = (tt, tt)

  fit_remove : (w : WorkerFacts) (q : ℕ) → Fit (remove_replica w q).out
  fit_remove w q = pick (w.mem q && not (awaited w q))
    where
      pick : (b : Bool) → Fit (cond {A = WorkerStep} b (record { facts = record w { mem = put w.mem q false }; out = Drop q ∷ [] }) (quiet w)).out
      pick true = (tt, tt)
      pick false = tt

  fit_add : (seen : ℕ) (ks : List ℕ) → Fit (add_message seen ks)
  fit_add seen [] = tt
  fit_add seen (k ∷ ks) = (tt, tt)

  fit_down : (w : WorkerFacts) (m : Down) → Fit (take_down w m).out
  unfolding take_down remove_replicas
  fit_down w (ComputeTask k a who) = fit_given w k a who
  fit_down w (FreeKeys ks) = fit_each free_key fit_free (quiet w) ks tt
  fit_down w (StealRequest k a) = fit_asked_back w k a
  fit_down w (RemoveReplicas ks) =
      all_join (InstructionFits facts) (each_key remove_replica (quiet w) ks).out _ (fit_each remove_replica fit_remove (quiet w) ks tt) (fit_add w.seen (filter (λ k. is_in k ks && (w.mem k && awaited w k)) (worker_keys w)))
  fit_down w (AcquireReplicas who) = tt
  fit_down w (RefreshWhoHas who) = tt

  fit_start : (w : WorkerFacts) (o : Option ℕ) → Fit (start w o).out
  fit_start w None = tt
  fit_start w (Some q) = (tt, tt)

  fit_arrive : (r : Arrivals) (q : ℕ) (o : Option ℕ) → Fit r.out → Fit (arrive_as r q o).out
  fit_arrive r q (Some a) h = all_join (InstructionFits facts) r.out _ h (tt, (tt, tt))
  fit_arrive r q None h = pick (is_wanted r.facts q)
    where
      pick : (b : Bool) → Fit (cond {A = Arrivals} b (record { facts = into_mem r.facts q; out = r.out ++ Keep q ∷ []; added = r.added ++ q ∷ [] }) r).out
      pick true = all_join (InstructionFits facts) r.out _ h (tt, tt)
      pick false = h

  fit_arrivals : (ks : List ℕ) (r : Arrivals) → Fit r.out → Fit (fold arrive r ks).out
  fit_arrivals [] r h = h
  fit_arrivals (q ∷ ks) r h = fit_arrivals ks (arrive r q) (fit_arrive r q (r.facts.mine q) h)

  fit_arrived : (w : WorkerFacts) (ks : List ℕ) → Fit (arrived w ks).out
  unfolding arrived
  fit_arrived w ks = all_join (InstructionFits facts) (fold arrive (record { facts = w; out = []; added = [] }) ks).out _ (fit_arrivals ks (record { facts = w; out = []; added = [] }) tt) (fit_add _ _)

  fit_erred : (w : WorkerFacts) (q : ℕ) (o : Option ℕ) → ErrorFits facts q → Fit (erred_as w q o).out
  fit_erred w q None f = tt
  fit_erred w q (Some a) f = (f, tt)

  fit_done : (w : WorkerFacts) (q : ℕ) (z : Bool) → WorkerEventFits facts (Done q z) → Fit (done w q z).out
  fit_done w q true f = fit_erred (stopped w q) q (w.mine q) f
  fit_done w q false f = fit_arrived (stopped w q) (q ∷ [])

  fit_missed : (p : ℕ) (w : WorkerFacts) (i : ℕ × ℕ) → Fit (not_found p w i).out
  fit_missed p w i = pick (is_missing_state (wstate (lose_holders w i.0) i.0))
    where
      pick : (b : Bool) → Fit (cond {A = WorkerStep} b (record { facts = record (lose_holders w i.0) { asked = put w.asked i.0 true }; out = Send (MissingData w.seen i.0 p i.1) ∷ [] }) (quiet (lose_holders w i.0))).out
      pick true = (tt, tt)
      pick false = tt

  fit_gathered : (w : WorkerFacts) (p n : ℕ) (found : List ℕ) → Fit (gathered w p n found).out
  unfolding gathered
  fit_gathered w p n found = pick (ask_to w.asks p)
    where
      same : (a : Ask) (b : Bool) → Fit (cond {A = WorkerStep} b (answered_ask (record w { asks = without_ask w.asks p }) p a.items found) (quiet w)).out
      same a true = fit_each (not_found p) (fit_missed p) _ (filter (λ i. not (is_in i.0 found)) a.items) (fit_arrived (record w { asks = without_ask w.asks p }) _)
      same a false = tt

      pick : (o : Option Ask) → Fit (gathered_by w p n found o).out
      pick None = tt
      pick (Some a) = same a (a.number == n)

  fit_row : (w : WorkerFacts) (e : WorkerEvent) → WorkerEventFits facts e → Fit (worker_row w e).out
  unfolding worker_row ask_peer
  fit_row w (Told m) f = fit_down (taken w) m
  fit_row w Start f = fit_start w (would_start w)
  fit_row w (Done k z) f = fit_done w k z f
  fit_row w (AskPeer p) f = (tt, tt)
  fit_row w (Gathered p n found) f = fit_gathered w p n found
  fit_row w (GatherFailed p n) f = fit_gathered w p n []
  fit_row w (DataLost k) f = (tt, tt)

  fit_requests : (seen : ℕ) (ks : List ℕ) → Fit (map (λ k. Send (RequestRefreshWhoHas seen k)) ks)
  fit_requests seen [] = tt
  fit_requests seen (k ∷ ks) = (tt, fit_requests seen ks)

  fit_step : (w : WorkerFacts) (e : WorkerEvent) → WorkerEventFits facts e → Fit (worker_step w e).out
  unfolding worker_step
  fit_step w e f = all_join (InstructionFits facts) (worker_row w e).out _ (fit_row w e f) (fit_requests _ (unasked_keys (worker_row w e).facts))

-- the law: an event that fits makes instructions that fit
pub out_fits : {B : Type 0} (facts : LabelFacts B) (w : WorkerFacts) (e : WorkerEvent) (out : List Instruction) → WorkerEventFits facts e → out ≡ (worker_step w e).out → InstructionsFit facts out
out_fits facts w e out f is = record { each = All-from_recursion (InstructionFits facts) out (subst (AllByRecursion (InstructionFits facts)) (sym is) (fit_step facts w e f)) }

pub no_instructions : {B : Type 0} (facts : LabelFacts B) (out : List Instruction) → out ≡ [] → InstructionsFit facts out
no_instructions facts out is = record { each = All-from_recursion (InstructionFits facts) out (subst (AllByRecursion (InstructionFits facts)) (sym is) tt) }
