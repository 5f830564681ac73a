-- A request for a task that hasn't started lowers the measure.
use Rattle.std.proofs.Common.{◌≡◌, ℕ, ◌+◌, ◌*◌, ◌≤◌, Bool, true, false, cond, not, ◌&&◌, ◌||◌, List, [], ◌∷◌, ◌++◌, length, None, refl, sym, ap, ◌∙◌, subst, arith, is_some, map}
use Rattle.std.proofs.Math.Dec.{eqb}
use Rattle.std.proofs.lemmas.Bool.{false≢true, and_parts, and_from}
use Rattle.cluster_msgs.specs.declared.messages.Down.{Down}
use Rattle.cluster_msgs.specs.declared.messages.Down.TheVariants.{StealRequest}
use Rattle.cluster_msgs.specs.declared.messages.Up.TheVariants.{RequestRefreshWhoHas, StealResponse}
use Rattle.cluster_msgs.specs.declared.cores.Instruction.{Instruction}
use Rattle.cluster_msgs.specs.declared.cores.Instruction.TheVariants.{Send, Execute, Gather, Keep, Drop}
use Rattle.cluster_msgs.specs.declared.events.Asker.TheVariants.{Worker}
use Rattle.cluster_msgs.specs.declared.events.Event.TheVariants.{DeliverDown}
use Rattle.cluster_rules.specs.Functions.{total}
use Rattle.cluster_rules.specs.Derived.{is_in}
use Rattle.cluster_rules.specs.Sched.{Facts, IsSound}
use Rattle.cluster_rules.specs.Worker.{Ask, ask_to, used, WorkerFacts, worker_keys, pending, awaited, flying, is_wanted, has_any, wstate, is_missing_state}
use Rattle.cluster_rules.specs.WorkerStep.{WorkerStep, taken, give_up, yields, asked_back, take_down, worker_row, unasked_keys, ask_holders, seek_missing, worker_step}
use Rattle.cluster_rules.specs.WorkerKept.{IsKept}
use Rattle.cluster_rules.specs.World.{Job, World, Parcel, is_connected}
use Rattle.cluster_rules.specs.WorldStep.{sends, requested, worked, take_down_first, world_step}
use Rattle.cluster_rules.proofs.WorkerLemmas.{missing_state-is}
use Rattle.quiet_measure.specs.Weights.{sum_of, question, task_weight, known_weight, is_sought, core_weight, up_weight}
use Rattle.quiet_measure.specs.Measure.{missed_in, up_disturbs, disturbances, deaths, links_weight}
use Rattle.quiet_measure.specs.Measure.{Falls}
use Rattle.quiet_measure.proofs.Sums.{total_at_most}
use Rattle.quiet_measure.proofs.Falling.{same_most, falls}
use Rattle.quiet_measure.proofs.Turn.{after, disturbs_less, links_less, popped, popped_disturbs, popped_links}
use Rattle.quiet_measure.proofs.Start.{less_known, asked_apart}
use Rattle.quiet_measure.proofs.Fewer.{IsFewer, fewer_wanted, fewer_sought, asks_once}

-- ## What a worker asks for at the end of its turn

pub sends_append : (xs ys : List Instruction) → sends (xs ++ ys) ≡ sends xs ++ sends ys
sends_append [] ys = refl
sends_append (Send m ∷ xs) ys = ap (λ l. m ∷ l) (sends_append xs ys)
sends_append (Execute k ∷ xs) ys = sends_append xs ys
sends_append (Gather p n ks ∷ xs) ys = sends_append xs ys
sends_append (Keep k ∷ xs) ys = sends_append xs ys
sends_append (Drop k ∷ xs) ys = sends_append xs ys

pub asking_weight : (f : Facts) (d : ℕ → ℕ) (seen : ℕ) (ks : List ℕ) → sum_of (up_weight f d) (sends (map (λ k. Send (RequestRefreshWhoHas seen k)) ks)) ≡ total (question d) ks
asking_weight f d seen [] = refl
asking_weight f d seen (k ∷ ks) = ap (λ n. question d k + n) (asking_weight f d seen ks)

pub asking_calm : (w : World) (i seen : ℕ) (ks : List ℕ) → sum_of (up_disturbs w i) (sends (map (λ k. Send (RequestRefreshWhoHas seen k)) ks)) ≡ 0
asking_calm w i seen [] = refl
asking_calm w i seen (k ∷ ks) = let r : sum_of (up_disturbs w i) (sends (map (λ k. Send (RequestRefreshWhoHas seen k)) ks)) ≡ 0 = asking_calm w i seen ks in omega (arith, r)

pub asking_requests : (qs : List Parcel) (i seen : ℕ) (ks : List ℕ) → requested (Worker i) qs (map (λ k. Send (RequestRefreshWhoHas seen k)) ks) ≡ qs
asking_requests qs i seen [] = refl
asking_requests qs i seen (k ∷ ks) = asking_requests qs i seen ks

-- ## The row

module _ (w : WorkerFacts) (k : ℕ) where
  abbrev pub gave : WorkerFacts
  gave = give_up (taken w) k

  fewer : IsFewer w gave
  fewer = record {
    shape = refl;
    pending = λ j e. by j (eqb j k) e;
    sought = λ q e. e;
    mem = λ q e. e;
    asks = refl;
  }
    where
      by : (j : ℕ) (b : Bool) → (is_some (cond b None (w.mine j)) && not (w.running j)) ≡ true → (is_some (w.mine j) && not (w.running j)) ≡ true
      by j true h = absurd (false≢true h)
      by j false h = h

  pub gave_weight : (f : Facts) (d : ℕ → ℕ) → core_weight f d gave ≤ core_weight f d w
  unfolding core_weight
  gave_weight f d =
      let t : total (task_weight d gave) (worker_keys w) ≤ total (task_weight d w) (worker_keys w) = total_at_most _ _ (worker_keys w) task in
      let n : total (λ q. known_weight f d q (is_sought gave q) (w.holders q)) (worker_keys w) ≤ total (λ q. known_weight f d q (is_sought w q) (w.holders q)) (worker_keys w) =
      total_at_most _ _ (worker_keys w) (λ q. less_known f d q _ _ (w.holders q) (fewer_sought w gave fewer q)) in
      omega arith
    where
      less : (a b : Bool) (n m : ℕ) → (a ≡ true → b ≡ true) → cond a n 0 + m ≤ cond b n 0 + m
      less false b n m h = omega arith
      less true b n m h = same_most _ _ (ap (λ x. cond x n 0 + m) (sym (h refl)))

      task : (q : ℕ) → task_weight d gave q ≤ task_weight d w q
      task q = less (pending gave q) (pending w q) (question d q + 4) _ (fewer.pending q)

  -- besides k what is missing was so before
  pub gave_missing : (q : ℕ) → eqb q k ≡ false → is_missing_state (wstate gave q) ≡ true → is_missing_state (wstate w q) ≡ true
  unfolding flying
  gave_missing q o e = missing_state-is w q ∙ by (sym (ap (λ b. not (w.mem q) && (not (w.running q) && (not (flying w q) && (not (is_some (cond b None (w.mine q))) && (is_wanted gave q && not (has_any (w.holders q))))))) o) ∙ sym (missing_state-is gave q) ∙ e)
    where
      by : (not (w.mem q) && (not (w.running q) && (not (flying w q) && (not (is_some (w.mine q)) && (is_wanted gave q && not (has_any (w.holders q))))))) ≡ true
          → (not (w.mem q) && (not (w.running q) && (not (flying w q) && (not (is_some (w.mine q)) && (is_wanted w q && not (has_any (w.holders q))))))) ≡ true
      by h =
          let a = and_parts (not (w.mem q)) _ h in
          let b = and_parts (not (w.running q)) _ a.1 in
          let c = and_parts (not (flying w q)) _ b.1 in
          let g = and_parts (not (is_some (w.mine q))) _ c.1 in
          let p = and_parts (is_wanted gave q) _ g.1 in
          and_from _ _ a.0 (and_from _ _ b.0 (and_from _ _ c.0 (and_from _ _ g.0 (and_from _ _ (fewer_wanted w gave fewer q p.0) p.1))))

taken_apart : (f : Facts) (d : ℕ → ℕ) (w : WorkerFacts) → core_weight f d (taken w) ≡ core_weight f d w
unfolding core_weight awaited flying
taken_apart f d w = refl

missing_taken : (w : WorkerFacts) (q : ℕ) → is_missing_state (wstate (taken w) q) ≡ true → is_missing_state (wstate w q) ≡ true
unfolding wstate awaited flying used
missing_taken w q h = h

-- ## The event

module _ (w : World) (i k a : ℕ) (ms : List Down) (e : w.down i ≡ StealRequest k a ∷ ms) (alive : w.alive i ≡ true) (there : is_connected w i ≡ true) (low : 1 ≤ i) (high : i ≤ w.sched.last_worker) where
  abbrev W : WorkerFacts
  W = w.workers i

  abbrev P : World
  P = popped w i (StealRequest k a) ms e

  abbrev answer : WorkerFacts → Bool → WorkerStep
  answer v agreed = ask_holders (record { facts = v; out = Send (StealResponse (W.seen + 1) k a agreed) ∷ [] }) (unasked_keys v)

  answered : (v : WorkerFacts) (agreed : Bool) → ((f : Facts) (d : ℕ → ℕ) → core_weight f d v ≤ core_weight f d W) → v.asks ≡ W.asks
      → ((d : ℕ → ℕ) → total (question d) (unasked_keys v) ≤ question d k) → Falls w (worked P i (answer v agreed))
  unfolding worked
  answered v agreed core asks once = falls w (worked P i (answer v agreed)) refl
      (let l : disturbances (worked P i (answer v agreed)) ≤ disturbances P = disturbs_less P i (answer v agreed) calm (λ q p. same_most _ _ (ap (λ (l : List Ask). missed_in P q (ask_to l p)) asks)) in
      omega (arith, l, popped_disturbs w i (StealRequest k a) ms e))
      (let d : ℕ → ℕ = deaths w.sched (disturbances w) in
      let l : links_weight d (worked P i (answer v agreed)) + 1 ≤ links_weight d P + (2 + question d k) = links_less P i (answer v agreed) d (2 + question d k) alive there low high (less d) in
      let p : links_weight d P + (2 + question d k) ≤ links_weight d w = popped_links w i (StealRequest k a) ms e d alive there low high in
      omega (arith, l, p))
    where
      seen : ℕ
      seen = v.seen

      calm : sum_of (up_disturbs P i) (sends (answer v agreed).out) ≡ 0
      calm = let r = asking_calm P i v.seen (unasked_keys v) in omega (arith, r)

      less : (d : ℕ → ℕ) → (core_weight w.sched d (answer v agreed).facts + sum_of (up_weight w.sched d) (sends (answer v agreed).out)) + 2 * length (after P i (answer v agreed)).requests + 1 ≤ (core_weight w.sched d W + 2 * length w.requests) + (2 + question d k)
      less d =
          let c : core_weight w.sched d (answer v agreed).facts ≡ core_weight w.sched d v = asked_apart w.sched d v (λ q. v.asked q || is_in q (unasked_keys v)) in
          let u : sum_of (up_weight w.sched d) (sends (answer v agreed).out) ≡ 1 + total (question d) (unasked_keys v) = ap (λ n. 1 + n) (asking_weight w.sched d v.seen (unasked_keys v)) in
          let r : length (after P i (answer v agreed)).requests ≡ length w.requests = ap length (asking_requests w.requests i v.seen (unasked_keys v)) in
          omega (arith, c, u, r, core w.sched d, once d)

  pub steal_request_falls : IsKept W → Falls w (take_down_first w i (StealRequest k a ∷ ms))
  unfolding worker_step worker_row take_down asked_back
  steal_request_falls kept = by (yields (taken W) k a)
    where
      same_missing : (q : ℕ) → is_missing_state (wstate (taken W) q) ≡ true → is_missing_state (wstate W q) ≡ true
      same_missing q h = missing_taken W q h

      by : (b : Bool) → Falls w (worked P i (seek_missing (cond b
          (record { facts = give_up (taken W) k; out = Send (StealResponse (taken W).seen k a true) ∷ [] })
          (record { facts = taken W; out = Send (StealResponse (taken W).seen k a false) ∷ [] }))))
      by true = answered (gave W k) true (gave_weight W k) refl (λ d. asks_once d W (gave W k) k kept refl (λ q o. refl) (gave_missing W k))
      by false = answered (taken W) false (λ f d. same_most _ _ (taken_apart f d W)) refl (λ d. asks_once d W (taken W) k kept refl (λ q o. refl) (λ q o. same_missing q))

pub deliver_steal_request_falls : (j : Job) (w : World) (i k a : ℕ) (ms : List Down) → w.down i ≡ StealRequest k a ∷ ms → IsSound w.sched → IsKept (w.workers i) → is_connected w i ≡ true → w.alive i ≡ true
    → Falls w (world_step j w (DeliverDown i))
unfolding world_step
deliver_steal_request_falls j w i k a ms e sound kept there alive = subst (λ (l : List Down). Falls w (take_down_first w i l)) (sym e)
    (steal_request_falls w i k a ms e alive there (sound.numbers i there).0 (sound.numbers i there).1 kept)
