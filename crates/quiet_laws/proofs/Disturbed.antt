-- The disturbances left after an event of the scheduler.
use Rattle.std.proofs.Common.{◌≡◌, ℕ, ◌+◌, ◌<◌, ◌≤◌, Bool, true, false, cond, ◌&&◌, ◌||◌, List, [], ◌∷◌, Some, refl, sym, ap, ◌∙◌, arith, ◌⊎◌}
use Rattle.std.specs.Prelude.{nat_le}
use Rattle.std.specs.List.{list_any, AllByRecursion, Contains}
use Rattle.std.proofs.lemmas.Bool.{true≢false, false≢true, eqb-true}
use Rattle.std.proofs.Math.Dec.{eqb}
use Rattle.small_facts.proofs.Ranges.{range_has}
use Rattle.cluster_msgs.specs.Shape.{key_count}
use Rattle.cluster_msgs.specs.declared.messages.Up.{Up}
use Rattle.cluster_msgs.specs.declared.messages.Up.TheVariants.{TaskFinished, TaskErred, AddKeys, ReleaseWorkerData, MissingData, RequestRefreshWhoHas, StealResponse}
use Rattle.cluster_msgs.specs.declared.events.Asker.{Asker}
use Rattle.cluster_msgs.specs.declared.events.Asker.TheVariants.{Worker, Client}
use Rattle.cluster_rules.specs.Functions.{from_one, total, count}
use Rattle.cluster_rules.specs.Derived.{below}
use Rattle.cluster_rules.specs.Sched.{Setting, keys, holds, connected}
use Rattle.cluster_rules.specs.SchedStep.{Stages, finish_step}
use Rattle.cluster_rules.specs.Worker.{Ask, WorkerFacts, ask_to}
use Rattle.cluster_rules.specs.Client.{ClientFacts}
use Rattle.cluster_rules.specs.World.{World, Parcel, open_ask, all_workers, all_clients}
use Rattle.cluster_rules.specs.WorldStep.{scheduled}
use Rattle.cluster_rules.proofs.InsideSched.{all_found}
use Rattle.cluster_laws.proofs.Lists.{count_less}
use Rattle.quiet_measure.specs.Weights.{bit, sum_of}
use Rattle.quiet_measure.specs.Measure.{counts_loss, up_disturbs, death_disturbs, worker_disturbs, client_disturbs, missed_in, answer_disturbs, disturbances}
use Rattle.quiet_measure.proofs.Sums.{total_at_most, total_falls, sum_at_most}
use Rattle.quiet_measure.specs.Lighter.{under}
use Rattle.quiet_laws.specs.Old.{IsOldUp, IsOldAsk, AreOld}
use Rattle.quiet_laws.proofs.Wrongful.{IsHonest, up_less, ups_less, missed_less}

-- only the facts of the scheduler count
scheduled_under : (v : World) (t : Stages) → disturbances (scheduled v (finish_step t)) ≡ disturbances (under v (finish_step t).facts)
unfolding scheduled disturbances worker_disturbs client_disturbs answer_disturbs
scheduled_under v t = refl

pub record IsTaken (w v : World) (t : Stages) : Type 0 where
  pub alive : v.alive ≡ w.alive
  pub workers : v.workers ≡ w.workers
  pub clients : v.clients ≡ w.clients
  pub answers : v.answers ≡ w.answers
  pub last : (finish_step t).facts.last_worker ≡ w.sched.last_worker
  pub setting : (finish_step t).facts.setting ≡ w.sched.setting
  pub old : AreOld w
  pub honest : IsHonest w.sched t
  pub took : (x k : ℕ) → list_any (counts_loss w.sched x k) (w.up x) ≡ true → (list_any (counts_loss w.sched x k) (v.up x) ≡ true) ⊎ (holds (finish_step t).facts x k ≡ false)

module _ (w v : World) (t : Stages) (h : IsTaken w v t) where
  abbrev then : World
  then = under v (finish_step t).facts

  -- at one worker
  abbrev pub Site : ℕ → ℕ → Type 0
  Site i n = (sum_of (up_disturbs (under v (finish_step t).facts) i) (v.up i) + death_disturbs (under v (finish_step t).facts) i) + n ≤ sum_of (up_disturbs w i) (w.up i) + death_disturbs w i

  pub worker_at : (i n : ℕ) → connected (finish_step t).facts i ≡ true → connected w.sched i ≡ true → Site i n → worker_disturbs (under v (finish_step t).facts) i + n ≤ worker_disturbs w i
  unfolding worker_disturbs
  worker_at i n a b l =
      let x : cond (connected (finish_step t).facts i) (sum_of (up_disturbs then i) (v.up i) + death_disturbs then i) 0 ≡ sum_of (up_disturbs then i) (v.up i) + death_disturbs then i = ap (λ c. cond c (sum_of (up_disturbs then i) (v.up i) + death_disturbs then i) 0) a in
      let y : cond (connected w.sched i) (sum_of (up_disturbs w i) (w.up i) + death_disturbs w i) 0 ≡ sum_of (up_disturbs w i) (w.up i) + death_disturbs w i = ap (λ c. cond c (sum_of (up_disturbs w i) (w.up i) + death_disturbs w i) 0) b in
      omega (arith, x, y, l)

  pub worker_gone : (i : ℕ) → connected (finish_step t).facts i ≡ false → worker_disturbs (under v (finish_step t).facts) i ≡ 0
  unfolding worker_disturbs
  worker_gone i a = ap (λ c. cond c (sum_of (up_disturbs then i) (v.up i) + death_disturbs then i) 0) a

  pub worker_less : (i : ℕ) → (connected (finish_step t).facts i ≡ true → (connected w.sched i ≡ true) × Site i 0) → worker_disturbs (under v (finish_step t).facts) i ≤ worker_disturbs w i
  worker_less i s = pick (connected (finish_step t).facts i) refl
    where
      pick : (b : Bool) → connected (finish_step t).facts i ≡ b → worker_disturbs then i ≤ worker_disturbs w i
      pick true e = let p = s e in let l : worker_disturbs then i + 0 ≤ worker_disturbs w i = worker_at i 0 e p.0 p.1 in omega (arith, l)
      pick false e = let z : worker_disturbs then i ≡ 0 = worker_gone i e in omega (arith, z)

  answer_less : (q : Parcel) → answer_disturbs then q ≤ answer_disturbs w q
  unfolding answer_disturbs
  answer_less q =
      let a : missed_in then q (open_ask v q.asker q.peer) ≤ missed_in w q (open_ask v q.asker q.peer) = missed_less w v t h.honest h.alive h.took q (open_ask v q.asker q.peer) (λ b e. old q.asker b (same q.asker ∙ e)) in
      let b : missed_in w q (open_ask v q.asker q.peer) ≡ missed_in w q (open_ask w q.asker q.peer) = ap (missed_in w q) (sym (same q.asker)) in
      omega (arith, a, b)
    where
      same : (a : Asker) → open_ask w a q.peer ≡ open_ask v a q.peer
      same (Worker i) = ap (λ (f : ℕ → WorkerFacts). ask_to (f i).asks q.peer) (sym h.workers)
      same (Client c) = ap (λ (f : ℕ → ClientFacts). ask_to (f c).asks q.peer) (sym h.clients)

      old : (a : Asker) (b : Ask) → open_ask w a q.peer ≡ Some b → IsOldAsk w.sched.counter b
      old (Worker i) b e = all_found (IsOldAsk w.sched.counter) (λ (x : Ask). eqb x.peer q.peer) (w.workers i).asks b e (h.old.asks i)
      old (Client c) b e = all_found (IsOldAsk w.sched.counter) (λ (x : Ask). eqb x.peer q.peer) (w.clients c).asks b e (h.old.client_asks c)

  answers_less : sum_of (answer_disturbs then) v.answers ≤ sum_of (answer_disturbs w) w.answers
  answers_less = let a : sum_of (answer_disturbs then) v.answers ≤ sum_of (answer_disturbs w) v.answers = sum_at_most _ _ v.answers answer_less in
      let b : sum_of (answer_disturbs w) v.answers ≡ sum_of (answer_disturbs w) w.answers = ap (sum_of (answer_disturbs w)) h.answers in omega (arith, a, b)

  workers_are : total (worker_disturbs then) (from_one (finish_step t).facts.last_worker) ≡ total (worker_disturbs then) (all_workers w)
  workers_are = ap (λ n. total (worker_disturbs then) (from_one n)) h.last

  clients_are : total (client_disturbs then) (from_one (finish_step t).facts.setting.clients) ≡ total (client_disturbs then) (all_clients w)
  clients_are = ap (λ (s : Setting). total (client_disturbs then) (from_one s.clients)) h.setting

  -- one worker's share falls by n
  pub turn_at_worker : (n x : ℕ) → ((i : ℕ) → worker_disturbs (under v (finish_step t).facts) i ≤ worker_disturbs w i) → Contains (all_workers w) x → worker_disturbs (under v (finish_step t).facts) x + n ≤ worker_disturbs w x
      → ((c : ℕ) → client_disturbs (under v (finish_step t).facts) c ≤ client_disturbs w c) → disturbances (scheduled v (finish_step t)) + n ≤ disturbances w
  unfolding disturbances
  turn_at_worker n x a m l c =
      let p = scheduled_under v t in
      let u : total (worker_disturbs then) (all_workers w) + n ≤ total (worker_disturbs w) (all_workers w) = total_falls (worker_disturbs then) (worker_disturbs w) n x (all_workers w) a m l in
      let y : total (client_disturbs then) (all_clients w) ≤ total (client_disturbs w) (all_clients w) = total_at_most _ _ (all_clients w) c in
      omega (arith, p, u, y, answers_less, workers_are, clients_are)

  -- one client's share falls by n
  pub turn_at_client : (n x : ℕ) → ((i : ℕ) → worker_disturbs (under v (finish_step t).facts) i ≤ worker_disturbs w i) → ((c : ℕ) → client_disturbs (under v (finish_step t).facts) c ≤ client_disturbs w c)
      → Contains (all_clients w) x → client_disturbs (under v (finish_step t).facts) x + n ≤ client_disturbs w x → disturbances (scheduled v (finish_step t)) + n ≤ disturbances w
  unfolding disturbances
  turn_at_client n x a c m l =
      let p = scheduled_under v t in
      let u : total (client_disturbs then) (all_clients w) + n ≤ total (client_disturbs w) (all_clients w) = total_falls (client_disturbs then) (client_disturbs w) n x (all_clients w) c m l in
      let y : total (worker_disturbs then) (all_workers w) ≤ total (worker_disturbs w) (all_workers w) = total_at_most _ _ (all_workers w) a in
      omega (arith, p, u, y, answers_less, workers_are, clients_are)

  -- ## Deaths

  -- a worker that gets no new copy
  pub death_less : (i : ℕ) → ((k : ℕ) → holds (finish_step t).facts i k ≡ true → holds w.sched i k ≡ true) → death_disturbs (under v (finish_step t).facts) i ≤ death_disturbs w i
  death_less i s =
      let a : cond (v.alive i) 0 (1 + count (λ k. holds (finish_step t).facts i k) (below (keys (finish_step t).facts))) ≡ cond (w.alive i) 0 (1 + count (λ k. holds (finish_step t).facts i k) (below (keys w.sched))) =
      ap (λ (al : ℕ → Bool). cond (al i) 0 (1 + count (λ k. holds (finish_step t).facts i k) (below (keys (finish_step t).facts)))) h.alive
      ∙ ap (λ (s : Setting). cond (w.alive i) 0 (1 + count (λ k. holds (finish_step t).facts i k) (below (key_count s.shape)))) h.setting in
      let b : count (λ k. holds (finish_step t).facts i k) (below (keys w.sched)) ≤ count (λ k. holds w.sched i k) (below (keys w.sched)) = count_less _ _ (below (keys w.sched)) s in
      let c : cond (w.alive i) 0 (1 + count (λ k. holds (finish_step t).facts i k) (below (keys w.sched))) ≤ cond (w.alive i) 0 (1 + count (λ k. holds w.sched i k) (below (keys w.sched))) = by (w.alive i) in
      omega (arith, a, c)
    where
      by : (b : Bool) → cond b 0 (1 + count (λ k. holds (finish_step t).facts i k) (below (keys w.sched))) ≤ cond b 0 (1 + count (λ k. holds w.sched i k) (below (keys w.sched)))
      by true = omega arith
      by false = let b : count (λ k. holds (finish_step t).facts i k) (below (keys w.sched)) ≤ count (λ k. holds w.sched i k) (below (keys w.sched)) = count_less _ _ (below (keys w.sched)) s in omega (arith, b)

  -- at a dead worker as many more as it gets copies
  pub death_more : (i n : ℕ) → count (λ k. holds (finish_step t).facts i k) (below (keys w.sched)) ≤ count (λ k. holds w.sched i k) (below (keys w.sched)) + n → death_disturbs (under v (finish_step t).facts) i ≤ death_disturbs w i + cond (w.alive i) 0 n
  death_more i n s =
      let a : cond (v.alive i) 0 (1 + count (λ k. holds (finish_step t).facts i k) (below (keys (finish_step t).facts))) ≡ cond (w.alive i) 0 (1 + count (λ k. holds (finish_step t).facts i k) (below (keys w.sched))) =
      ap (λ (al : ℕ → Bool). cond (al i) 0 (1 + count (λ k. holds (finish_step t).facts i k) (below (keys (finish_step t).facts)))) h.alive
      ∙ ap (λ (s : Setting). cond (w.alive i) 0 (1 + count (λ k. holds (finish_step t).facts i k) (below (key_count s.shape)))) h.setting in
      let c : cond (w.alive i) 0 (1 + count (λ k. holds (finish_step t).facts i k) (below (keys w.sched))) ≤ cond (w.alive i) 0 (1 + count (λ k. holds w.sched i k) (below (keys w.sched))) + cond (w.alive i) 0 n = by (w.alive i) in
      omega (arith, a, c)
    where
      by : (b : Bool) → cond b 0 (1 + count (λ k. holds (finish_step t).facts i k) (below (keys w.sched))) ≤ cond b 0 (1 + count (λ k. holds w.sched i k) (below (keys w.sched))) + cond b 0 n
      by true = omega arith
      by false = omega (arith, s)

  -- at a dead worker fewer where it loses a copy
  pub death_fewer : (i k : ℕ) → w.alive i ≡ false → k < keys w.sched → ((q : ℕ) → holds (finish_step t).facts i q ≡ true → holds w.sched i q ≡ true) → holds w.sched i k ≡ true → holds (finish_step t).facts i k ≡ false → death_disturbs (under v (finish_step t).facts) i + 1 ≤ death_disturbs w i
  death_fewer i k dead l s p q =
      let a : cond (v.alive i) 0 (1 + count (λ k. holds (finish_step t).facts i k) (below (keys (finish_step t).facts))) ≡ cond (w.alive i) 0 (1 + count (λ k. holds (finish_step t).facts i k) (below (keys w.sched))) =
      ap (λ (al : ℕ → Bool). cond (al i) 0 (1 + count (λ k. holds (finish_step t).facts i k) (below (keys (finish_step t).facts)))) h.alive
      ∙ ap (λ (s : Setting). cond (w.alive i) 0 (1 + count (λ k. holds (finish_step t).facts i k) (below (key_count s.shape)))) h.setting in
      let b : count (λ k. holds (finish_step t).facts i k) (below (keys w.sched)) + 1 ≤ count (λ k. holds w.sched i k) (below (keys w.sched)) =
      total_falls (λ k. cond (holds (finish_step t).facts i k) 1 0) (λ k. cond (holds w.sched i k) 1 0) 1 k (below (keys w.sched)) (λ y. one (holds (finish_step t).facts i y) (holds w.sched i y) (s y)) (range_has 0 (keys w.sched) k (omega arith) (omega (arith, l))) (fewer (holds (finish_step t).facts i k) (holds w.sched i k) q p) in
      let c : ◌≡◌ {A = ℕ} (cond (w.alive i) 0 (1 + count (λ k. holds (finish_step t).facts i k) (below (keys w.sched)))) (1 + count (λ k. holds (finish_step t).facts i k) (below (keys w.sched))) = ap (λ z. cond z 0 (1 + count (λ k. holds (finish_step t).facts i k) (below (keys w.sched)))) dead in
      let d : ◌≡◌ {A = ℕ} (cond (w.alive i) 0 (1 + count (λ k. holds w.sched i k) (below (keys w.sched)))) (1 + count (λ k. holds w.sched i k) (below (keys w.sched))) = ap (λ z. cond z 0 (1 + count (λ k. holds w.sched i k) (below (keys w.sched)))) dead in
      omega (arith, a, b, c, d)
    where
      one : (x y : Bool) → (x ≡ true → y ≡ true) → cond x 1 0 ≤ cond y 1 0
      one false y p = omega arith
      one true y p = let e : ◌≡◌ {A = ℕ} (cond y 1 0) 1 = ap (λ b. cond b 1 0) (p refl) in omega (arith, e)

      fewer : (x y : Bool) → x ≡ false → y ≡ true → cond x 1 0 + 1 ≤ cond y 1 0
      fewer true y e p = absurd (true≢false e)
      fewer false true e p = omega arith
      fewer false false e p = absurd (false≢true p)

  -- ## A loss that counts no longer

  pub loss_spent : (x k : ℕ) (us : List Up) → AllByRecursion (IsOldUp w.sched.counter) us → list_any (counts_loss w.sched x k) us ≡ true → list_any (counts_loss (finish_step t).facts x k) us ≡ false
      → sum_of (up_disturbs (under v (finish_step t).facts) x) us + 1 ≤ sum_of (up_disturbs w x) us
  loss_spent x k [] o e n = absurd (false≢true e)
  loss_spent x k (m ∷ us) o e n = pick (counts_loss w.sched x k m) refl (counts_loss (finish_step t).facts x k m) refl e n (loss_spent x k us o.1)
    where
      spent : (m : Up) → counts_loss w.sched x k m ≡ true → counts_loss (finish_step t).facts x k m ≡ false → up_disturbs then x m + 1 ≤ up_disturbs w x m
      spent (ReleaseWorkerData seen q) a b = same (eqb q k) refl a b
        where
          both : (x y : Bool) → x ≡ false → y ≡ true → bit x + 1 ≤ bit y
          both true y e p = absurd (true≢false e)
          both false true e p = omega arith
          both false false e p = absurd (false≢true p)

          same : (y : Bool) → eqb q k ≡ y → (y && nat_le (w.sched.fence x k) seen) ≡ true → (y && nat_le ((finish_step t).facts.fence x k) seen) ≡ false
              → bit (nat_le ((finish_step t).facts.fence x q) seen) + 1 ≤ bit (nat_le (w.sched.fence x q) seen)
          same true i a b = both (nat_le ((finish_step t).facts.fence x q) seen) (nat_le (w.sched.fence x q) seen) (ap (λ z. nat_le ((finish_step t).facts.fence x z) seen) (eqb-true q k i) ∙ b) (ap (λ z. nat_le (w.sched.fence x z) seen) (eqb-true q k i) ∙ a)
          same false i a b = absurd (false≢true a)
      spent (TaskFinished seen q a) c b = absurd (false≢true c)
      spent (TaskErred seen q a) c b = absurd (false≢true c)
      spent (AddKeys seen ks) c b = absurd (false≢true c)
      spent (MissingData seen q p a) c b = absurd (false≢true c)
      spent (RequestRefreshWhoHas seen q) c b = absurd (false≢true c)
      spent (StealResponse seen q a agreed) c b = absurd (false≢true c)

      rest : sum_of (up_disturbs then x) us ≤ sum_of (up_disturbs w x) us
      rest = ups_less w v t h.honest h.alive h.took x us o.1

      pick : (a : Bool) → counts_loss w.sched x k m ≡ a → (b : Bool) → counts_loss (finish_step t).facts x k m ≡ b → (a || list_any (counts_loss w.sched x k) us) ≡ true → (b || list_any (counts_loss (finish_step t).facts x k) us) ≡ false
          → (list_any (counts_loss w.sched x k) us ≡ true → list_any (counts_loss (finish_step t).facts x k) us ≡ false → sum_of (up_disturbs then x) us + 1 ≤ sum_of (up_disturbs w x) us)
          → (up_disturbs then x m + sum_of (up_disturbs then x) us) + 1 ≤ up_disturbs w x m + sum_of (up_disturbs w x) us
      pick a p true q e n again = absurd (true≢false n)
      pick true p false q e n again = let z : up_disturbs then x m + 1 ≤ up_disturbs w x m = spent m p q in omega (arith, z, rest)
      pick false p false q e n again = let z : up_disturbs then x m ≤ up_disturbs w x m = up_less w v t h.honest h.alive h.took x m o.0 in let y : sum_of (up_disturbs then x) us + 1 ≤ sum_of (up_disturbs w x) us = again e n in omega (arith, z, y)
