-- No more tasks run than there are threads.
use Rattle.std.proofs.Common.{◌≡◌, ℕ, ◌+◌, ◌<◌, Bool, true, false, List, [], ◌∷◌, Option, Some, None, refl, ap, ◌∙◌, arith, cond, find}
use Rattle.std.specs.Prelude.{◌==◌, nat_lt}
use Rattle.std.proofs.lemmas.Bool.{and_parts, ltb-true}
use Rattle.cluster_msgs.specs.Shape.{Shape, key_count}
use Rattle.cluster_msgs.specs.declared.cores.WorkerEvent.{WorkerEvent}
use Rattle.cluster_msgs.specs.declared.cores.WorkerEvent.TheVariants.{Down as Told, Start, Done, Ask as AskPeer, Gathered, GatherFailed, DataLost}
use Rattle.cluster_rules.specs.Functions.{put, count}
use Rattle.cluster_rules.specs.Derived.{below}
use Rattle.cluster_rules.specs.Worker.{WorkerFacts, new_worker, worker_keys, wstate, is_ready_state, running_count, would_start, ask_to}
use Rattle.cluster_rules.specs.WorkerStep.{taken, start, stopped, gathered, ask_peer, worker_row, worker_step, worker_takes, is_key}
use Rattle.cluster_rules.proofs.TotalLemmas.{total-agree}
use Rattle.worker_facts.proofs.FactLemmas.{total-put}
use Rattle.worker_core.specs.Core.{RunsFew}
use Rattle.worker_core.proofs.CoreLemmas.{start_below}
use Rattle.worker_core.proofs.CountLemmas.{SameRuns, same_down, same_done, same_gathered_by}

-- one test changed
count-put : (f : ℕ → Bool) (k : ℕ) (b : Bool) (n : ℕ) → k < n → count (put f k b) (below n) + cond (f k) 1 0 ≡ count f (below n) + cond b 1 0
count-put f k b n l =
    ap (λ t. t + cond (f k) 1 0) (total-agree (λ x. cond (put f k b x) 1 0) (put one k (cond b 1 0)) (below n) (λ x m. pick (f x) (x == k)))
    ∙ total-put one k (cond b 1 0) 0 n (omega arith) (omega (arith, l))
  where
    one : ℕ → ℕ
    one x = cond (f x) 1 0

    pick : (a c : Bool) → ◌≡◌ {A = ℕ} (cond (cond c b a) 1 0) (cond c (cond b 1 0) (cond a 1 0))
    pick a true = refl
    pick a false = refl

few_same : (w v : WorkerFacts) → SameRuns w v → RunsFew w → RunsFew v
unfolding running_count
few_same w v h l =
    let keys : count v.running (below (key_count v.shape)) ≡ count v.running (below (key_count w.shape)) = ap (λ (g : Shape). count v.running (below (key_count g))) h.shape in
    let runs : count v.running (below (key_count w.shape)) ≡ count w.running (below (key_count w.shape)) = ap (λ (r : ℕ → Bool). count r (below (key_count w.shape))) h.running in
    omega (arith, keys, runs, h.threads, l)

few_stopped : (w : WorkerFacts) (k : ℕ) → k < key_count w.shape → RunsFew w → RunsFew (stopped w k)
unfolding running_count
few_stopped w k l h =
    let e : count (put w.running k false) (below (key_count w.shape)) + cond (w.running k) 1 0 ≡ count w.running (below (key_count w.shape)) + 0 = count-put w.running k false (key_count w.shape) l in
    omega (arith, e, h)

few_started : (w : WorkerFacts) (o : Option ℕ) → would_start w ≡ o → RunsFew w → RunsFew (start w o).facts
unfolding running_count would_start
few_started w None e h = h
few_started w (Some k) e h = more (free (nat_lt (running_count w) w.threads) (find (λ j. is_ready_state (wstate w j)) (worker_keys w)) e)
  where
    none : ◌≡◌ {A = Option ℕ} None (Some k) → ⊥
    none x = cc

    free : (b : Bool) (o : Option ℕ) → cond b o None ≡ Some k → b ≡ true
    free true o x = refl
    free false o x = absurd (none x)

    more : nat_lt (running_count w) w.threads ≡ true → RunsFew (start w (Some k)).facts
    more t =
        let l : running_count w < w.threads = ltb-true _ _ t in
        let c : count (put w.running k true) (below (key_count w.shape)) + cond (w.running k) 1 0 ≡ count w.running (below (key_count w.shape)) + 1 = count-put w.running k true (key_count w.shape) (start_below w k e) in
        omega (arith, c, l)

few_row : (w : WorkerFacts) (e : WorkerEvent) → worker_takes w e ≡ true → RunsFew w → RunsFew (worker_row w e).facts
unfolding worker_row worker_takes ask_peer gathered
few_row w (Told m) t h = few_same w _ (record { shape = (same_down (taken w) m).runs.shape; threads = (same_down (taken w) m).runs.threads; running = (same_down (taken w) m).runs.running }) h
few_row w Start t h = few_started w (would_start w) refl h
few_row w (Done k z) t h = few_same (stopped w k) _ (same_done w k z).runs (few_stopped w k (ltb-true k (key_count w.shape) (and_parts (is_key w k) (w.running k) t).0) h)
few_row w (AskPeer p) t h = few_same w _ (record { shape = refl; threads = refl; running = refl }) h
few_row w (Gathered p n found) t h = few_same w _ (same_gathered_by w p n found (ask_to w.asks p)).runs h
few_row w (GatherFailed p n) t h = few_same w _ (same_gathered_by w p n [] (ask_to w.asks p)).runs h
few_row w (DataLost k) t h = few_same w _ (record { shape = refl; threads = refl; running = refl }) h

-- each event that is taken
pub few_run : (w : WorkerFacts) (e : WorkerEvent) → worker_takes w e ≡ true → RunsFew w → RunsFew (worker_step w e).facts
unfolding worker_step
few_run w e t h = few_same (worker_row w e).facts _ (record { shape = refl; threads = refl; running = refl }) (few_row w e t h)

pub few_at_first : (g : Shape) (id threads : ℕ) → RunsFew (new_worker g id threads)
unfolding running_count
few_at_first g id threads = let e = none (below (key_count g)) in omega (arith, e)
  where
    none : (xs : List ℕ) → count (λ (k : ℕ). false) xs ≡ 0
    none [] = refl
    none (x ∷ xs) = let e : count (λ (k : ℕ). false) xs ≡ 0 = none xs in omega (arith, e)
