-- Finish lowers the measure.
use Rattle.std.proofs.Common.{◌≡◌, ℕ, ◌+◌, ◌*◌, ◌≤◌, ◌<◌, Bool, true, false, cond, not, ◌&&◌, ◌||◌, List, [], ◌∷◌, ◌++◌, length, Option, Some, None, refl, sym, ap, ◌∙◌, arith, is_some, map}
use Rattle.std.proofs.Math.Dec.{eqb}
use Rattle.std.proofs.lemmas.Bool.{false≢true, true≢false, eqb-true, and_parts, and_from}
use Rattle.cluster_msgs.specs.Shape.{Shape, key_count}
use Rattle.cluster_msgs.specs.declared.messages.Up.{Up}
use Rattle.cluster_msgs.specs.declared.messages.Up.TheVariants.{TaskFinished, TaskErred, AddKeys, RequestRefreshWhoHas}
use Rattle.cluster_msgs.specs.declared.cores.Instruction.{Instruction}
use Rattle.cluster_msgs.specs.declared.cores.Instruction.TheVariants.{Send, Keep}
use Rattle.cluster_msgs.specs.declared.cores.WorkerEvent.TheVariants.{Done}
use Rattle.cluster_msgs.specs.declared.events.Asker.TheVariants.{Worker}
use Rattle.cluster_msgs.specs.declared.events.Event.TheVariants.{Finish}
use Rattle.cluster_rules.specs.Functions.{put, total}
use Rattle.cluster_rules.specs.Derived.{is_in, below}
use Rattle.cluster_rules.specs.Sched.{Facts, IsSound}
use Rattle.cluster_rules.specs.Worker.{Ask, ask_to, WorkerFacts, worker_keys, flying, is_wanted, has_any, wstate, is_missing_state}
use Rattle.cluster_rules.specs.WorkerStep.{WorkerStep, give_up, into_mem, arrive_as, counted, arrived, stopped, erred_as, worker_row, unasked_keys, ask_holders, seek_missing, worker_step}
use Rattle.cluster_rules.specs.WorkerKept.{IsKept}
use Rattle.cluster_rules.specs.World.{Job, World, Parcel, is_connected}
use Rattle.cluster_rules.specs.WorldStep.{sends, requested, worked, world_step}
use Rattle.cluster_rules.specs.Enabled.{enabled}
use Rattle.cluster_rules.proofs.WorkerLemmas.{missing_state-is}
use Rattle.std.proofs.lemmas.Bool.{eq-eqb}
use Rattle.quiet_measure.specs.Weights.{bit, sum_of, question, list_weight, is_stale, task_weight, known_weight, is_sought, ask_weight, core_weight, up_weight}
use Rattle.quiet_measure.specs.Measure.{missed_in, up_disturbs, disturbances, deaths, links_weight}
use Rattle.quiet_measure.specs.Measure.{Falls}
use Rattle.quiet_measure.proofs.Sums.{total_at_most, total_trade, sum_append}
use Rattle.quiet_measure.proofs.Falling.{same_most, falls}
use Rattle.quiet_measure.proofs.Turn.{after, disturbs_less, links_less}
use Rattle.quiet_measure.proofs.Start.{less_known, asked_apart}
use Rattle.quiet_measure.proofs.Fewer.{asks_at_most, IsFewer, fewer_wanted, fewer_flying, fewer_sought, asks_once}
use Rattle.quiet_measure.proofs.Asked.{sends_append, asking_weight, asking_calm, asking_requests}

-- what a worker has of all keys but one
pub record IsSameBut (w v : WorkerFacts) (k : ℕ) : Type 0 where
  pub mem : (q : ℕ) → eqb q k ≡ false → v.mem q ≡ w.mem q
  pub running : (q : ℕ) → eqb q k ≡ false → v.running q ≡ w.running q
  pub mine : (q : ℕ) → eqb q k ≡ false → v.mine q ≡ w.mine q
  pub holders : (q : ℕ) → eqb q k ≡ false → v.holders q ≡ w.holders q
  pub asked : (q : ℕ) → eqb q k ≡ false → v.asked q ≡ w.asked q

-- besides that key, what is missing was so before
pub but_missing : (w v : WorkerFacts) (k : ℕ) → IsFewer w v → IsSameBut w v k → (q : ℕ) → eqb q k ≡ false → is_missing_state (wstate v q) ≡ true → is_missing_state (wstate w q) ≡ true
but_missing w v k h s q o e = missing_state-is w q ∙ by (sym
    (ap (λ b. not b && (not (v.running q) && (not (flying v q) && (not (is_some (v.mine q)) && (is_wanted v q && not (has_any (v.holders q))))))) (s.mem q o)
    ∙ ap (λ b. not (w.mem q) && (not b && (not (flying v q) && (not (is_some (v.mine q)) && (is_wanted v q && not (has_any (v.holders q))))))) (s.running q o)
    ∙ ap (λ b. not (w.mem q) && (not (w.running q) && (not b && (not (is_some (v.mine q)) && (is_wanted v q && not (has_any (v.holders q))))))) (fewer_flying w v h q)
    ∙ ap (λ b. not (w.mem q) && (not (w.running q) && (not (flying w q) && (not (is_some b) && (is_wanted v q && not (has_any (v.holders q))))))) (s.mine q o)
    ∙ ap (λ b. not (w.mem q) && (not (w.running q) && (not (flying w q) && (not (is_some (w.mine q)) && (is_wanted v q && not (has_any b)))))) (s.holders q o))
    ∙ sym (missing_state-is v q) ∙ e)
  where
    by : (not (w.mem q) && (not (w.running q) && (not (flying w q) && (not (is_some (w.mine q)) && (is_wanted v q && not (has_any (w.holders q))))))) ≡ true
        → (not (w.mem q) && (not (w.running q) && (not (flying w q) && (not (is_some (w.mine q)) && (is_wanted w q && not (has_any (w.holders q))))))) ≡ true
    by x =
        let a = and_parts (not (w.mem q)) _ x in
        let b = and_parts (not (w.running q)) _ a.1 in
        let c = and_parts (not (flying w q)) _ b.1 in
        let g = and_parts (not (is_some (w.mine q))) _ c.1 in
        let p = and_parts (is_wanted v q) _ g.1 in
        and_from _ _ a.0 (and_from _ _ b.0 (and_from _ _ c.0 (and_from _ _ g.0 (and_from _ _ (fewer_wanted w v h q p.0) p.1))))

-- ## A worker whose task no longer runs

pub record IsDone (w v : WorkerFacts) (k : ℕ) : Type 0 where
  pub fewer : IsFewer w v
  pub same : IsSameBut w v k
  pub mine : v.mine k ≡ None
  pub running : v.running k ≡ false
  pub holders : (q : ℕ) → has_any (v.holders q) ≡ true → v.holders q ≡ w.holders q

pub done_weight : (f : Facts) (d : ℕ → ℕ) (w v : WorkerFacts) (k : ℕ) → IsDone w v k → w.running k ≡ true → k < key_count w.shape → core_weight f d v + (question d k + 3) ≤ core_weight f d w
unfolding core_weight
done_weight f d w v k h r l =
    let t : total (task_weight d v) (below (key_count w.shape)) + (question d k + 3) ≤ total (task_weight d w) (below (key_count w.shape)) + 0 = total_trade _ _ (question d k + 3) 0 k 0 (key_count w.shape) other here (omega arith) (omega (arith, l)) in
    let n : total (λ q. known_weight f d q (is_sought v q) (v.holders q)) (below (key_count w.shape)) ≤ total (λ q. known_weight f d q (is_sought w q) (w.holders q)) (below (key_count w.shape)) = total_at_most _ _ (below (key_count w.shape)) known in
    let a : sum_of (ask_weight f d) v.asks ≡ sum_of (ask_weight f d) w.asks = ap (sum_of (ask_weight f d)) h.fewer.asks in
    let t2 : total (task_weight d v) (worker_keys v) ≡ total (task_weight d v) (below (key_count w.shape)) = ap (λ (g : Shape). total (task_weight d v) (below (key_count g))) h.fewer.shape in
    let n2 : total (λ q. known_weight f d q (is_sought v q) (v.holders q)) (worker_keys v) ≡ total (λ q. known_weight f d q (is_sought v q) (v.holders q)) (below (key_count w.shape)) =
    ap (λ (g : Shape). total (λ q. known_weight f d q (is_sought v q) (v.holders q)) (below (key_count g))) h.fewer.shape in
    omega arith
  where
    other : (y : ℕ) → eqb y k ≡ false → task_weight d v y ≤ task_weight d w y
    other y o = same_most _ _ (ap (λ m. cond (is_some m && not (v.running y)) (question d y + 4) 0 + cond (v.running y) (question d y + 3) 0) (h.same.mine y o)
        ∙ ap (λ x. cond (is_some (w.mine y) && not x) (question d y + 4) 0 + cond x (question d y + 3) 0) (h.same.running y o))

    here : task_weight d v k + (question d k + 3) ≤ task_weight d w k + 0
    here =
        let a : task_weight d v k ≡ 0 + 0 = ap (λ m. cond (is_some m && not (v.running k)) (question d k + 4) 0 + cond (v.running k) (question d k + 3) 0) h.mine ∙ ap (λ x. 0 + cond x (question d k + 3) 0) h.running in
        let b : task_weight d w k ≡ cond (is_some (w.mine k) && false) (question d k + 4) 0 + (question d k + 3) = ap (λ x. cond (is_some (w.mine k) && not x) (question d k + 4) 0 + cond x (question d k + 3) 0) r in
        omega (arith, a, b)

    known : (q : ℕ) → known_weight f d q (is_sought v q) (v.holders q) ≤ known_weight f d q (is_sought w q) (w.holders q)
    known q = by (has_any (v.holders q)) refl
      where
        empty : (b : Bool) (n : ℕ) → cond (b && false) n 0 ≤ 0
        empty true n = omega arith
        empty false n = omega arith

        by : (b : Bool) → has_any (v.holders q) ≡ b → known_weight f d q (is_sought v q) (v.holders q) ≤ known_weight f d q (is_sought w q) (w.holders q)
        by true e =
            let x : known_weight f d q (is_sought v q) (v.holders q) ≡ known_weight f d q (is_sought v q) (w.holders q) = ap (λ hs. known_weight f d q (is_sought v q) hs) (h.holders q e) in
            let y : known_weight f d q (is_sought v q) (w.holders q) ≤ known_weight f d q (is_sought w q) (w.holders q) = less_known f d q _ _ (w.holders q) (fewer_sought w v h.fewer q) in
            omega (arith, x, y)
        by false e =
            let x : known_weight f d q (is_sought v q) (v.holders q) ≡ cond (is_sought v q && false) (list_weight d q (is_stale f q (v.holders q))) 0 = ap (λ b. cond (is_sought v q && b) (list_weight d q (is_stale f q (v.holders q))) 0) e in
            let z : cond (is_sought v q && false) (list_weight d q (is_stale f q (v.holders q))) 0 ≤ 0 = empty (is_sought v q) _ in
            omega (arith, x, z)

module _ (W : WorkerFacts) (k : ℕ) (M : ℕ → Option ℕ) (gone : M k ≡ None) (rest : (q : ℕ) → eqb q k ≡ false → M q ≡ W.mine q) where
  abbrev pub base : (ℕ → Bool) → WorkerFacts
  base F = record W { running = put W.running k false; mine = M; failed = F }

  abbrev pub filled : WorkerFacts
  filled = into_mem (base W.failed) k

  fewer_pending : (j : ℕ) → (is_some (M j) && not (cond (eqb j k) false (W.running j))) ≡ true → (is_some (W.mine j) && not (W.running j)) ≡ true
  fewer_pending j e = by (eqb j k) refl e
    where
      by : (b : Bool) → eqb j k ≡ b → (is_some (M j) && not (cond b false (W.running j))) ≡ true → (is_some (W.mine j) && not (W.running j)) ≡ true
      by true o x = absurd (false≢true (sym (ap (λ m. is_some m && true) (ap M (eqb-true j k o) ∙ gone)) ∙ x))
      by false o x = sym (ap (λ m. is_some m && not (W.running j)) (rest j o)) ∙ x

  stops : cond (eqb k k) false (W.running k) ≡ false
  stops = ap (λ b. cond b false (W.running k)) (eq-eqb k k refl)

  pub base_done : (F : ℕ → Bool) → IsDone W (base F) k
  base_done F = record {
    fewer = record { shape = refl; pending = fewer_pending; sought = λ q e. e; mem = λ q e. e; asks = refl };
    same = record { mem = λ q o. refl; running = λ q o. ap (λ b. cond b false (W.running q)) o; mine = rest; holders = λ q o. refl; asked = λ q o. refl };
    mine = gone;
    running = stops;
    holders = λ q e. refl;
  }

  pub filled_done : IsDone W filled k
  filled_done = record {
    fewer = record { shape = refl; pending = fewer_pending; sought = λ q e. sought q (eqb q k) e; mem = λ q e. mem q (eqb q k) e; asks = refl };
    same = record {
      mem = λ q o. ap (λ b. cond b true (W.mem q)) o;
      running = λ q o. ap (λ b. cond b false (W.running q)) o;
      mine = rest;
      holders = λ q o. ap (λ b. cond b [] (W.holders q)) o;
      asked = λ q o. ap (λ b. cond b false (W.asked q)) o;
    };
    mine = gone;
    running = stops;
    holders = λ q e. holders q (eqb q k) e;
  }
    where
      sought : (q : ℕ) (b : Bool) → cond b false (W.sought q) ≡ true → W.sought q ≡ true
      sought q true e = absurd (false≢true e)
      sought q false e = e

      mem : (q : ℕ) (b : Bool) → cond b true (W.mem q) ≡ false → W.mem q ≡ false
      mem q true e = absurd (true≢false e)
      mem q false e = e

      holders : (q : ℕ) (b : Bool) → has_any (cond b [] (W.holders q)) ≡ true → cond b [] (W.holders q) ≡ W.holders q
      holders q true e = absurd (false≢true e)
      holders q false e = refl

  -- a key whose block came is not missing
  pub filled_there : is_missing_state (wstate filled k) ≡ false
  filled_there = missing_state-is filled k ∙ ap (λ b. not (cond b true (W.mem k)) && (not (filled.running k) && (not (flying filled k) && (not (is_some (filled.mine k)) && (is_wanted filled k && not (has_any (filled.holders k))))))) (eq-eqb k k refl)

-- ## The event

module _ (w : World) (i k : ℕ) (alive : w.alive i ≡ true) (there : is_connected w i ≡ true) (low : 1 ≤ i) (high : i ≤ w.sched.last_worker) (kept : IsKept (w.workers i))
    (runs : (w.workers i).running k ≡ true) (inside : k < key_count (w.workers i).shape) where
  abbrev step : WorkerFacts → List Instruction → WorkerStep
  step v outs = ask_holders (record { facts = v; out = outs }) (unasked_keys v)

  ends : (v : WorkerFacts) (outs : List Instruction) → IsDone (w.workers i) v k
      → ((d : ℕ → ℕ) → total (question d) (unasked_keys v) + sum_of (up_weight w.sched d) (sends outs) ≤ question d k + 2)
      → sum_of (up_disturbs w i) (sends outs) ≡ 0 → ((qs : List Parcel) (is : List Instruction) → requested (Worker i) qs (outs ++ is) ≡ requested (Worker i) qs is)
      → Falls w (worked w i (step v outs))
  unfolding worked
  ends v outs h most calm asks = falls w (worked w i (step v outs)) refl
      (disturbs_less w i (step v outs) calms (λ q p. same_most _ _ (ap (λ (l : List Ask). missed_in w q (ask_to l p)) h.fewer.asks)))
      (let d : ℕ → ℕ = deaths w.sched (disturbances w) in
      let l : links_weight d (worked w i (step v outs)) + 1 ≤ links_weight d w + 0 = links_less w i (step v outs) d 0 alive there low high (less d) in
      omega (arith, l))
    where
      ks : List ℕ
      ks = unasked_keys v

      split : (g : Up → ℕ) → sum_of g (sends (step v outs).out) ≡ sum_of g (sends outs) + sum_of g (sends (map (λ q. Send (RequestRefreshWhoHas v.seen q)) (unasked_keys v)))
      split g = ap (sum_of g) (sends_append outs (map (λ q. Send (RequestRefreshWhoHas v.seen q)) (unasked_keys v))) ∙ sum_append g (sends outs) (sends (map (λ q. Send (RequestRefreshWhoHas v.seen q)) (unasked_keys v)))

      calms : sum_of (up_disturbs w i) (sends (step v outs).out) ≡ 0
      calms = let r = asking_calm w i v.seen (unasked_keys v) in let s = split (up_disturbs w i) in omega (arith, r, s, calm)

      less : (d : ℕ → ℕ) → (core_weight w.sched d (step v outs).facts + sum_of (up_weight w.sched d) (sends (step v outs).out)) + 2 * length (after w i (step v outs)).requests + 1 ≤ (core_weight w.sched d (w.workers i) + 2 * length w.requests) + 0
      less d =
          let c : core_weight w.sched d (step v outs).facts ≡ core_weight w.sched d v = asked_apart w.sched d v (λ q. v.asked q || is_in q (unasked_keys v)) in
          let s = split (up_weight w.sched d) in
          let u : sum_of (up_weight w.sched d) (sends (map (λ q. Send (RequestRefreshWhoHas v.seen q)) (unasked_keys v))) ≡ total (question d) (unasked_keys v) = asking_weight w.sched d v.seen (unasked_keys v) in
          let r : length (after w i (step v outs)).requests ≡ length w.requests = ap length (asks w.requests (map (λ q. Send (RequestRefreshWhoHas v.seen q)) (unasked_keys v)) ∙ asking_requests w.requests i v.seen (unasked_keys v)) in
          let x : core_weight w.sched d v + (question d k + 3) ≤ core_weight w.sched d (w.workers i) = done_weight w.sched d (w.workers i) v k h runs inside in
          omega (arith, c, s, u, r, x, most d)

  -- of the keys only k may be asked for
  once : (v : WorkerFacts) → IsDone (w.workers i) v k → (d : ℕ → ℕ) → total (question d) (unasked_keys v) ≤ question d k
  once v h d = asks_once d (w.workers i) v k kept h.fewer.shape h.same.asked (but_missing (w.workers i) v k h.fewer h.same)

  pub finish_done : (z : Bool) → Falls w (worked w i (worker_step (w.workers i) (Done k z)))
  unfolding worker_step worker_row arrived
  finish_done true = by ((w.workers i).mine k) refl
    where
      by : (o : Option ℕ) → (w.workers i).mine k ≡ o → Falls w (worked w i (seek_missing (erred_as (stopped (w.workers i) k) k o)))
      by None e = let h : IsDone (w.workers i) (stopped (w.workers i) k) k = base_done (w.workers i) k (w.workers i).mine e (λ q o. refl) (w.workers i).failed in
          ends (stopped (w.workers i) k) [] h (λ d. let l = once (stopped (w.workers i) k) h d in omega (arith, l)) refl (λ qs is. refl)
      by (Some a) e =
          let v : WorkerFacts = record (give_up (stopped (w.workers i) k) k) { failed = put (w.workers i).failed k true } in
          let h : IsDone (w.workers i) v k = base_done (w.workers i) k (put (w.workers i).mine k None) (ap (λ b. cond b None ((w.workers i).mine k)) (eq-eqb k k refl)) (λ q o. ap (λ b. cond b None ((w.workers i).mine q)) o) (put (w.workers i).failed k true) in
          ends v (Send (TaskErred (w.workers i).seen k a) ∷ []) h (λ d. let l = once v h d in omega (arith, l)) refl (λ qs is. refl)
  finish_done false = by ((w.workers i).mine k) refl
    where
      by : (o : Option ℕ) → (w.workers i).mine k ≡ o → Falls w (worked w i (seek_missing (counted (arrive_as (record { facts = stopped (w.workers i) k; out = []; added = [] }) k o))))
      by (Some a) e =
          let v : WorkerFacts = into_mem (give_up (stopped (w.workers i) k) k) k in
          let h : IsDone (w.workers i) v k = filled_done (w.workers i) k (put (w.workers i).mine k None) (ap (λ b. cond b None ((w.workers i).mine k)) (eq-eqb k k refl)) (λ q o. ap (λ b. cond b None ((w.workers i).mine q)) o) in
          ends v (Keep k ∷ Send (TaskFinished (w.workers i).seen k a) ∷ []) h (λ d. let l = once v h d in omega (arith, l)) (ap (λ b. bit (not b) + 0) alive) (λ qs is. refl)
      by None e = pick (is_wanted (stopped (w.workers i) k) k)
        where
          pick : (b : Bool) → Falls w (worked w i (seek_missing (counted (cond b
              (record { facts = into_mem (stopped (w.workers i) k) k; out = [] ++ Keep k ∷ []; added = [] ++ k ∷ [] })
              (record { facts = stopped (w.workers i) k; out = []; added = [] })))))
          pick false = let h : IsDone (w.workers i) (stopped (w.workers i) k) k = base_done (w.workers i) k (w.workers i).mine e (λ q o. refl) (w.workers i).failed in
              ends (stopped (w.workers i) k) [] h (λ d. let l = once (stopped (w.workers i) k) h d in omega (arith, l)) refl (λ qs is. refl)
          pick true =
              let v : WorkerFacts = into_mem (stopped (w.workers i) k) k in
              let h : IsDone (w.workers i) v k = filled_done (w.workers i) k (w.workers i).mine e (λ q o. refl) in
              ends v (Keep k ∷ Send (AddKeys (w.workers i).seen (k ∷ [])) ∷ []) h
              (λ d. let l : total (question d) (unasked_keys v) ≤ 0 = asks_at_most 0 d (w.workers i) v k kept h.fewer.shape h.same.asked (but_missing (w.workers i) v k h.fewer h.same)
              (same_most _ _ (ap (λ b. cond (b && not (v.asked k)) (question d k) 0) (filled_there (w.workers i) k (w.workers i).mine e (λ q o. refl)))) in
              omega (arith, l))
              (ap (λ b. cond b 0 (length (k ∷ [])) + 0) alive) (λ qs is. refl)

pub finish_falls : (j : Job) (w : World) (i k : ℕ) → IsSound w.sched → IsKept (w.workers i) → is_connected w i ≡ true → k < key_count (w.workers i).shape → enabled w (Finish i k) ≡ true → Falls w (world_step j w (Finish i k))
unfolding enabled world_step
finish_falls j w i k sound kept there inside t = let p = and_parts (w.alive i) ((w.workers i).running k) t in
    finish_done w i k p.0 there (sound.numbers i there).0 (sound.numbers i there).1 kept p.1 inside (j.zero k)
