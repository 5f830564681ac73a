-- How much one event raises the counts of messages and asks, and that rows leave the graph and the running tasks as they are.
use Rattle.std.proofs.Common.{◌≡◌, ℕ, ◌+◌, ◌≤◌, Bool, true, false, not, ◌&&◌, List, [], ◌∷◌, ◌++◌, Option, Some, None, refl, ◌∙◌, arith, cond, filter, fold}
use Rattle.std.specs.Prelude.{◌==◌}
use Rattle.cluster_msgs.specs.declared.messages.Down.{Down}
use Rattle.cluster_msgs.specs.declared.messages.Down.TheVariants.{ComputeTask, FreeKeys, StealRequest, RemoveReplicas, AcquireReplicas, RefreshWhoHas}
use Rattle.cluster_msgs.specs.declared.cores.Instruction.TheVariants.{Keep}
use Rattle.cluster_msgs.specs.declared.cores.WorkerEvent.{WorkerEvent}
use Rattle.cluster_msgs.specs.declared.cores.WorkerEvent.TheVariants.{Down as Told, Start, Done, Ask as AskPeer, Gathered, GatherFailed, DataLost}
use Rattle.cluster_rules.specs.Functions.{put}
use Rattle.cluster_rules.specs.Derived.{is_in}
use Rattle.cluster_rules.specs.Worker.{Ask, WorkerFacts, awaited, is_wanted, wstate, is_missing_state, would_start, ask_to, without_ask}
use Rattle.cluster_rules.specs.WorkerStep.{WorkerStep, quiet, after_out, each_key, taken, set_holders, into_mem, given, free_key, yields, asked_back, remove_replica, remove_replicas, acquire, refresh, take_down, start, Arrivals, arrive_as, arrive, arrived, stopped, erred_as, done, keys_of, ask_peer, lose_holders, not_found, answered_ask, gathered_by, gathered, worker_row, worker_step}

-- the same graph and threads, and the same tasks run
pub record SameRuns (w v : WorkerFacts) : Type 0 where
  pub shape : v.shape ≡ w.shape
  pub threads : v.threads ≡ w.threads
  pub running : v.running ≡ w.running

-- the same counts as well
pub record SameCounts (w v : WorkerFacts) : Type 0 where
  pub shape : v.shape ≡ w.shape
  pub seen : v.seen ≡ w.seen
  pub asks : v.next_ask ≡ w.next_ask
  pub runs : SameRuns w v

-- at most one more each
pub record OneMore (w v : WorkerFacts) : Type 0 where
  pub seen : v.seen ≤ w.seen + 1
  pub asks : v.next_ask ≤ w.next_ask + 1

pub same : (w : WorkerFacts) → SameCounts w w
same w = record { shape = refl; seen = refl; asks = refl; runs = record { shape = refl; threads = refl; running = refl } }

and_same : (u v w : WorkerFacts) → SameCounts u v → SameCounts v w → SameCounts u w
and_same u v w a b = record { shape = b.shape ∙ a.shape; seen = b.seen ∙ a.seen; asks = b.asks ∙ a.asks; runs = record { shape = b.shape ∙ a.shape; threads = b.runs.threads ∙ a.runs.threads; running = b.runs.running ∙ a.runs.running } }

each_same : {A : Type 0} (row : WorkerFacts → A → WorkerStep) → ((w : WorkerFacts) (x : A) → SameCounts w (row w x).facts) → (u : WorkerFacts) (s : WorkerStep) (xs : List A) → SameCounts u s.facts → SameCounts u (each_key row s xs).facts
each_same row f u s [] h = h
each_same row f u s (x ∷ xs) h = each_same row f u (after_out s.out (row s.facts x)) xs (and_same u s.facts (row s.facts x).facts h (f s.facts x))

fold_same : {A : Type 0} (g : WorkerFacts → A → WorkerFacts) → ((w : WorkerFacts) (x : A) → SameCounts w (g w x)) → (u w : WorkerFacts) (xs : List A) → SameCounts u w → SameCounts u (fold g w xs)
fold_same g f u w [] h = h
fold_same g f u w (x ∷ xs) h = fold_same g f u (g w x) xs (and_same u w (g w x) h (f w x))

-- either of two steps
either : (w : WorkerFacts) (b : Bool) (s t : WorkerStep) → SameCounts w s.facts → SameCounts w t.facts → SameCounts w (cond b s t).facts
either w true s t a b = a
either w false s t a b = b

same_given : (w : WorkerFacts) (k a : ℕ) (who : List (ℕ × List (ℕ × ℕ))) → SameCounts w (given w k a who).facts
unfolding given
same_given w k a who = either w (w.mem k) _ _ (record { shape = refl; seen = refl; asks = refl; runs = record { shape = refl; threads = refl; running = refl } }) (fold_same set_holders (λ v p. record { shape = refl; seen = refl; asks = refl; runs = record { shape = refl; threads = refl; running = refl } }) w _ who (record { shape = refl; seen = refl; asks = refl; runs = record { shape = refl; threads = refl; running = refl } }))

same_asked_back : (w : WorkerFacts) (k a : ℕ) → SameCounts w (asked_back w k a).facts
unfolding asked_back
same_asked_back w k a = either w (yields w k a) _ _ (record { shape = refl; seen = refl; asks = refl; runs = record { shape = refl; threads = refl; running = refl } }) (record { shape = refl; seen = refl; asks = refl; runs = record { shape = refl; threads = refl; running = refl } })

pub same_remove : (w : WorkerFacts) (k : ℕ) → SameCounts w (remove_replica w k).facts
same_remove w k = either w (w.mem k && not (awaited w k)) _ _ (record { shape = refl; seen = refl; asks = refl; runs = record { shape = refl; threads = refl; running = refl } }) (record { shape = refl; seen = refl; asks = refl; runs = record { shape = refl; threads = refl; running = refl } })

same_acquire : (w : WorkerFacts) (p : ℕ × List (ℕ × ℕ)) → SameCounts w (acquire w p)
same_acquire w p = pick (w.mem p.0)
  where
    pick : (b : Bool) → SameCounts w (cond b w (set_holders (record w { sought = put w.sought p.0 true }) p))
    pick true = same w
    pick false = record { shape = refl; seen = refl; asks = refl; runs = record { shape = refl; threads = refl; running = refl } }

pub same_down : (w : WorkerFacts) (m : Down) → SameCounts w (take_down w m).facts
unfolding take_down remove_replicas
same_down w (ComputeTask k a who) = same_given w k a who
same_down w (FreeKeys ks) = each_same free_key (λ v k. record { shape = refl; seen = refl; asks = refl; runs = record { shape = refl; threads = refl; running = refl } }) w (quiet w) ks (same w)
same_down w (StealRequest k a) = same_asked_back w k a
same_down w (RemoveReplicas ks) = each_same remove_replica same_remove w (quiet w) ks (same w)
same_down w (AcquireReplicas who) = fold_same acquire same_acquire w w who (same w)
same_down w (RefreshWhoHas who) = fold_same refresh (λ v p. record { shape = refl; seen = refl; asks = refl; runs = record { shape = refl; threads = refl; running = refl } }) w w who (same w)

same_arrive_as : (r : Arrivals) (k : ℕ) (o : Option ℕ) → SameCounts r.facts (arrive_as r k o).facts
same_arrive_as r k (Some a) = record { shape = refl; seen = refl; asks = refl; runs = record { shape = refl; threads = refl; running = refl } }
same_arrive_as r k None = pick (is_wanted r.facts k)
  where
    pick : (b : Bool) → SameCounts r.facts (cond {A = Arrivals} b (record { facts = into_mem r.facts k; out = r.out ++ Keep k ∷ []; added = r.added ++ k ∷ [] }) r).facts
    pick true = record { shape = refl; seen = refl; asks = refl; runs = record { shape = refl; threads = refl; running = refl } }
    pick false = same r.facts

same_arrivals : (w : WorkerFacts) (r : Arrivals) (ks : List ℕ) → SameCounts w r.facts → SameCounts w (fold arrive r ks).facts
same_arrivals w r [] h = h
same_arrivals w r (k ∷ ks) h = same_arrivals w (arrive r k) ks (and_same w r.facts (arrive r k).facts h (same_arrive_as r k (r.facts.mine k)))

pub same_arrived : (w v : WorkerFacts) (ks : List ℕ) → SameCounts w v → SameCounts w (arrived v ks).facts
unfolding arrived
same_arrived w v ks h = same_arrivals w (record { facts = v; out = []; added = [] }) ks h

same_erred : (w v : WorkerFacts) (k : ℕ) (o : Option ℕ) → SameCounts w v → SameCounts w (erred_as v k o).facts
same_erred w v k None h = h
same_erred w v k (Some a) h = record { shape = h.shape; seen = h.seen; asks = h.asks; runs = record { shape = h.shape; threads = h.runs.threads; running = h.runs.running } }

-- when a task is done, relative to the facts in which it no longer runs
pub same_done : (w : WorkerFacts) (k : ℕ) (z : Bool) → SameCounts (stopped w k) (done w k z).facts
same_done w k true = same_erred (stopped w k) (stopped w k) k (w.mine k) (same (stopped w k))
same_done w k false = same_arrived (stopped w k) (stopped w k) (k ∷ []) (same (stopped w k))

pub same_missed : (p : ℕ) (w : WorkerFacts) (i : ℕ × ℕ) → SameCounts w (not_found p w i).facts
same_missed p w i = either w (is_missing_state (wstate (lose_holders w i.0) i.0)) _ _ (record { shape = refl; seen = refl; asks = refl; runs = record { shape = refl; threads = refl; running = refl } }) (record { shape = refl; seen = refl; asks = refl; runs = record { shape = refl; threads = refl; running = refl } })

pub same_gathered_by : (w : WorkerFacts) (p n : ℕ) (found : List ℕ) (o : Option Ask) → SameCounts w (gathered_by w p n found o).facts
same_gathered_by w p n found None = same w
same_gathered_by w p n found (Some a) = either w (a.number == n) (answered_ask (record w { asks = without_ask w.asks p }) p a.items found) (quiet w)
    (each_same (not_found p) (same_missed p) w (arrived (record w { asks = without_ask w.asks p }) (keys_of (filter (λ i. is_in i.0 found) a.items))) (filter (λ i. not (is_in i.0 found)) a.items) (same_arrived w (record w { asks = without_ask w.asks p }) (keys_of (filter (λ i. is_in i.0 found) a.items)) (record { shape = refl; seen = refl; asks = refl; runs = record { shape = refl; threads = refl; running = refl } })))
    (same w)

one_more : (w v : WorkerFacts) → SameCounts w v → OneMore w v
one_more w v h = record { seen = omega (arith, h.seen); asks = omega (arith, h.asks) }

one_more_start : (w : WorkerFacts) (o : Option ℕ) → OneMore w (start w o).facts
one_more_start w None = one_more w w (same w)
one_more_start w (Some k) = record { seen = omega arith; asks = omega arith }

one_more_row : (w : WorkerFacts) (e : WorkerEvent) → OneMore w (worker_row w e).facts
unfolding worker_row ask_peer gathered
one_more_row w (Told m) = let h = same_down (taken w) m in record { seen = omega (arith, h.seen); asks = omega (arith, h.asks) }
one_more_row w Start = one_more_start w (would_start w)
one_more_row w (Done k z) = let h = same_done w k z in record { seen = omega (arith, h.seen); asks = omega (arith, h.asks) }
one_more_row w (AskPeer p) = record { seen = omega arith; asks = omega arith }
one_more_row w (Gathered p n found) = one_more w _ (same_gathered_by w p n found (ask_to w.asks p))
one_more_row w (GatherFailed p n) = one_more w _ (same_gathered_by w p n [] (ask_to w.asks p))
one_more_row w (DataLost k) = record { seen = omega arith; asks = omega arith }

pub one_more_event : (w : WorkerFacts) (e : WorkerEvent) → OneMore w (worker_step w e).facts
unfolding worker_step
one_more_event w e = let h = one_more_row w e in record { seen = h.seen; asks = h.asks }
