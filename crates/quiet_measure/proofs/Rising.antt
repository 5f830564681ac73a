-- All weights rise with how many more times keys may be lost.
use Rattle.std.proofs.Common.{ℕ, ◌+◌, ◌*◌, ◌-◌, ◌≤◌, Bool, true, false, cond, ◌&&◌, List, length, arith, is_some, mul-le-mul, le_refl}
use Rattle.cluster_msgs.specs.declared.messages.Down.{Down}
use Rattle.cluster_msgs.specs.declared.messages.Down.TheVariants.{ComputeTask, FreeKeys, StealRequest, RemoveReplicas, AcquireReplicas, RefreshWhoHas}
use Rattle.cluster_msgs.specs.declared.messages.Up.{Up}
use Rattle.cluster_msgs.specs.declared.messages.Up.TheVariants.{TaskFinished, TaskErred, AddKeys, ReleaseWorkerData, MissingData, RequestRefreshWhoHas, StealResponse}
use Rattle.cluster_msgs.specs.declared.messages.ToClient.{ToClient}
use Rattle.cluster_msgs.specs.declared.messages.ToClient.TheVariants.{KeyInMemory, LostData, ClientTaskErred}
use Rattle.cluster_msgs.specs.declared.messages.FromClient.{FromClient as ClientMessage}
use Rattle.cluster_msgs.specs.declared.messages.FromClient.TheVariants.{Want, Release, Missing}
use Rattle.cluster_rules.specs.Functions.{total}
use Rattle.cluster_rules.specs.Derived.{below}
use Rattle.cluster_rules.specs.Sched.{Facts, keys, deps, held, holder_count}
use Rattle.cluster_rules.specs.Worker.{Ask, WorkerFacts, worker_keys, pending, has_any}
use Rattle.cluster_rules.specs.Client.{ClientFacts, client_keys, is_open}
use Rattle.cluster_rules.specs.World.{World, all_workers, all_clients}
use Rattle.quiet_measure.specs.Weights.{bit, sum_of, is_current, is_stale, question, list_weight, given_weight, refresh_weight, down_weight, added_weight, missed_weight, up_weight, news_weight, letter_weight, task_weight, known_weight, is_sought, ask_weight, core_weight, client_core_weight}
use Rattle.quiet_measure.specs.Measure.{is_to_try, deaths, most_listed, most_told, most_asked, client_count, end_weight, try_weight, disturbance_weight, key_weight, sched_weight, site_weight, worker_weight, client_site_weight, client_weight, links_weight, measure_at}
use Rattle.quiet_measure.proofs.Sums.{total_at_most, sum_at_most}

-- ## By deaths

module _ (f : Facts) (d e : ℕ → ℕ) (h : (k : ℕ) → d k ≤ e k) where
  pub question_rises : (k : ℕ) → question d k ≤ question e k
  question_rises k = let l : d k ≤ e k = h k in omega arith

  pub list_rises : (k : ℕ) (s : Bool) → list_weight d k s ≤ list_weight e k s
  list_rises k s = let l : d k ≤ e k = h k in omega arith

  down_rises : (i : ℕ) (m : Down) → down_weight f d i m ≤ down_weight f e i m
  down_rises i (ComputeTask k a who) =
      let l : question d k ≤ question e k = question_rises k in
      let r : sum_of (given_weight f d i) who ≤ sum_of (given_weight f e i) who = sum_at_most (given_weight f d i) (given_weight f e i) who (λ p. list_rises p.0 _) in
      omega arith
  down_rises i (FreeKeys ks) = let r : total (question d) ks ≤ total (question e) ks = total_at_most (question d) (question e) ks question_rises in omega arith
  down_rises i (StealRequest k a) = let l : d k ≤ e k = h k in omega arith
  down_rises i (RemoveReplicas ks) =
      let r : total (λ k. question d k + 1) ks ≤ total (λ k. question e k + 1) ks = total_at_most (λ k. question d k + 1) (λ k. question e k + 1) ks (λ k. let l : d k ≤ e k = h k in omega arith) in
      omega arith
  down_rises i (AcquireReplicas who) =
      let r : sum_of (given_weight f d i) who ≤ sum_of (given_weight f e i) who = sum_at_most (given_weight f d i) (given_weight f e i) who (λ p. list_rises p.0 _) in
      omega arith
  down_rises i (RefreshWhoHas who) =
      let r : sum_of (refresh_weight f d i) who ≤ sum_of (refresh_weight f e i) who = sum_at_most (refresh_weight f d i) (refresh_weight f e i) who (λ p. list_rises p.0 _) in
      omega arith

  less_rises : (n m b : ℕ) → n ≤ m → 7 * (n - b) + 6 ≤ 7 * (m - b) + 6
  less_rises n m b l = omega arith

  missed_rises : (k x c : ℕ) → missed_weight f d k x c ≤ missed_weight f e k x c
  missed_rises k x c = let l : d k ≤ e k = h k in let r : 7 * (d k - bit (is_current f x k c)) + 6 ≤ 7 * (e k - bit (is_current f x k c)) + 6 = less_rises _ _ (bit (is_current f x k c)) l in omega arith

  up_rises : (m : Up) → up_weight f d m ≤ up_weight f e m
  up_rises (AddKeys seen ks) =
      let r : total (added_weight f d) ks ≤ total (added_weight f e) ks = total_at_most (added_weight f d) (added_weight f e) ks (λ k. less_rises _ _ (bit (held f k)) (h k)) in
      omega arith
  up_rises (MissingData seen k x c) = missed_rises k x c
  up_rises (RequestRefreshWhoHas seen k) = question_rises k
  up_rises (TaskFinished seen k a) = omega arith
  up_rises (TaskErred seen k a) = omega arith
  up_rises (ReleaseWorkerData seen k) = omega arith
  up_rises (StealResponse seen k a agreed) = omega arith

  news_rises : (m : ToClient) → news_weight f d m ≤ news_weight f e m
  news_rises (KeyInMemory k hs) = let r : list_weight d k (is_stale f k hs) ≤ list_weight e k (is_stale f k hs) = list_rises k _ in omega arith
  news_rises (LostData k) = omega arith
  news_rises (ClientTaskErred k b) = omega arith

  letter_rises : (m : ClientMessage) → letter_weight f d m ≤ letter_weight f e m
  letter_rises (Want ks) = omega arith
  letter_rises (Release ks) = omega arith
  letter_rises (Missing k x c) = missed_rises k x c

  pub where_rises : (b : Bool) (n m : ℕ) → n ≤ m → cond b n 0 ≤ cond b m 0
  where_rises true n m l = l
  where_rises false n m l = omega arith

  pub task_rises : (w : WorkerFacts) (k : ℕ) → task_weight d w k ≤ task_weight e w k
  task_rises w k =
      let l : d k ≤ e k = h k in
      let p : cond (pending w k) (question d k + 4) 0 ≤ cond (pending w k) (question e k + 4) 0 = where_rises (pending w k) _ _ (omega arith) in
      let r : cond (w.running k) (question d k + 3) 0 ≤ cond (w.running k) (question e k + 3) 0 = where_rises (w.running k) _ _ (omega arith) in
      omega arith

  known_rises : (k : ℕ) (b : Bool) (hs : List (ℕ × ℕ)) → known_weight f d k b hs ≤ known_weight f e k b hs
  known_rises k b hs = where_rises (b && has_any hs) _ _ (list_rises k _)

  ask_rises : (a : Ask) → ask_weight f d a ≤ ask_weight f e a
  ask_rises a = sum_at_most _ _ a.items (λ (i : ℕ × ℕ). let l : d i.0 ≤ e i.0 = h i.0 in omega arith)

  core_rises : (w : WorkerFacts) → core_weight f d w ≤ core_weight f e w
  unfolding core_weight
  core_rises w =
      let t : total (task_weight d w) (worker_keys w) ≤ total (task_weight e w) (worker_keys w) = total_at_most _ _ (worker_keys w) (task_rises w) in
      let n : total (λ k. known_weight f d k (is_sought w k) (w.holders k)) (worker_keys w) ≤ total (λ k. known_weight f e k (is_sought w k) (w.holders k)) (worker_keys w) =
      total_at_most _ _ (worker_keys w) (λ k. known_rises k _ _) in
      let a : sum_of (ask_weight f d) w.asks ≤ sum_of (ask_weight f e) w.asks = sum_at_most _ _ w.asks ask_rises in
      omega arith

  client_core_rises : (c : ClientFacts) → client_core_weight f d c ≤ client_core_weight f e c
  unfolding client_core_weight
  client_core_rises c =
      let n : total (λ k. known_weight f d k (is_open c k) (c.located k)) (client_keys c) ≤ total (λ k. known_weight f e k (is_open c k) (c.located k)) (client_keys c) =
      total_at_most _ _ (client_keys c) (λ k. known_rises k _ _) in
      let a : sum_of (ask_weight f d) c.asks ≤ sum_of (ask_weight f e) c.asks = sum_at_most _ _ c.asks ask_rises in
      omega arith

  site_rises : (i : ℕ) (b c : Bool) (ds : List Down) (w : WorkerFacts) (us : List Up) → site_weight f d i b c ds w us ≤ site_weight f e i b c ds w us
  unfolding site_weight
  site_rises i b c ds w us =
      let n : sum_of (down_weight f d i) ds ≤ sum_of (down_weight f e i) ds = sum_at_most _ _ ds (down_rises i) in
      let o : core_weight f d w ≤ core_weight f e w = core_rises w in
      let u : sum_of (up_weight f d) us ≤ sum_of (up_weight f e) us = sum_at_most _ _ us up_rises in
      let l : cond b (sum_of (down_weight f d i) ds + core_weight f d w) 0 ≤ cond b (sum_of (down_weight f e i) ds + core_weight f e w) 0 = where_rises b _ _ (omega arith) in
      where_rises c _ _ (omega arith)

module _ (w : World) (d e : ℕ → ℕ) (h : (k : ℕ) → d k ≤ e k) where
  pub links_rise : links_weight d w ≤ links_weight e w
  unfolding links_weight worker_weight client_weight client_site_weight
  links_rise =
      let s : total (worker_weight d w) (all_workers w) ≤ total (worker_weight e w) (all_workers w) = total_at_most _ _ (all_workers w) (λ i. site_rises w.sched d e h i _ _ _ _ _) in
      let c : total (client_weight d w) (all_clients w) ≤ total (client_weight e w) (all_clients w) = total_at_most _ _ (all_clients w) one in
      omega arith
    where
      one : (c : ℕ) → client_weight d w c ≤ client_weight e w c
      one c =
          let n : sum_of (news_weight w.sched d) (w.to_client c) ≤ sum_of (news_weight w.sched e) (w.to_client c) = sum_at_most _ _ (w.to_client c) (news_rises w.sched d e h) in
          let o : client_core_weight w.sched d (w.clients c) ≤ client_core_weight w.sched e (w.clients c) = client_core_rises w.sched d e h (w.clients c) in
          let l : sum_of (letter_weight w.sched d) (w.from_client c) ≤ sum_of (letter_weight w.sched e) (w.from_client c) = sum_at_most _ _ (w.from_client c) (letter_rises w.sched d e h) in
          omega arith

-- ## By disturbances

module _ (f : Facts) (b c : ℕ) (h : b ≤ c) where
  pub deaths_rise : (k : ℕ) → deaths f b k ≤ deaths f c k
  unfolding deaths
  deaths_rise k = omega (arith, h)

  told_rises : client_count f * most_told b ≤ client_count f * most_told c
  told_rises = mul-le-mul (le_refl (client_count f)) (omega (arith, h))

  pub end_rises : end_weight f b ≤ end_weight f c
  end_rises = omega (arith, h, told_rises)

  pub try_rises : (k : ℕ) → try_weight f b k ≤ try_weight f c k
  try_rises k =
      let e : end_weight f b ≤ end_weight f c = end_rises in
      let l : length (deps f k) * most_listed b ≤ length (deps f k) * most_listed c = mul-le-mul (le_refl (length (deps f k))) (omega (arith, h)) in
      sums (end_weight f b) (end_weight f c) _ _ e l
    where
      sums : (x y u v : ℕ) → x ≤ y → u ≤ v → x + (most_asked b + 6 + u) ≤ y + (most_asked c + 6 + v)
      sums x y u v l m = omega (arith, h)

  pub disturbance_rises : disturbance_weight f b ≤ disturbance_weight f c
  unfolding disturbance_weight
  disturbance_rises =
      let t : total (try_weight f b) (below (keys f)) ≤ total (try_weight f c) (below (keys f)) = total_at_most _ _ (below (keys f)) try_rises in
      let m : client_count f * keys f * (most_told b + 2) ≤ client_count f * keys f * (most_told c + 2) = mul-le-mul (le_refl (client_count f * keys f)) (omega (arith, h)) in
      sums _ _ _ _ t m
    where
      sums : (x y u v : ℕ) → x ≤ y → u ≤ v → x + (u + (most_asked b + 4)) ≤ y + (v + (most_asked c + 4))
      sums x y u v l m = omega (arith, h)

  pub key_rises : (k : ℕ) → key_weight f b k ≤ key_weight f c k
  key_rises k = sums _ _ _ _ _ _ (part (is_to_try f k) _ _ (try_rises k)) (part (is_some (f.on k)) _ _ end_rises) (mul-le-mul (le_refl (holder_count f k)) (omega (arith, h)))
    where
      part : (x : Bool) (n m : ℕ) → n ≤ m → cond x n 0 ≤ cond x m 0
      part true n m l = l
      part false n m l = omega arith

      sums : (x y u v n m : ℕ) → x ≤ y → u ≤ v → n ≤ m → x + (u + n) ≤ y + (v + m)
      sums x y u v n m p q r = omega arith

  pub sched_rises : sched_weight f b ≤ sched_weight f c
  unfolding sched_weight
  sched_rises =
      let t : total (key_weight f b) (below (keys f)) ≤ total (key_weight f c) (below (keys f)) = total_at_most _ _ (below (keys f)) key_rises in
      let m : b * disturbance_weight f b ≤ c * disturbance_weight f c = mul-le-mul h disturbance_rises in
      sums _ _ _ _ _ m t
    where
      sums : (x y u v n : ℕ) → x ≤ y → u ≤ v → x + (u + n) ≤ y + (v + n)
      sums x y u v n p q = omega arith

pub measure_rises : (w : World) (b c : ℕ) → b ≤ c → measure_at b w ≤ measure_at c w
unfolding measure_at
measure_rises w b c h = sums _ _ _ _ (sched_rises w.sched b c h) (links_rise w (deaths w.sched b) (deaths w.sched c) (deaths_rise w.sched b c h))
  where
    sums : (x y u v : ℕ) → x ≤ y → u ≤ v → x + u ≤ y + v
    sums x y u v p q = omega arith
