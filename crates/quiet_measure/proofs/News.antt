-- DeliverToClient lowers the measure.
use Rattle.std.proofs.Common.{◌≡◌, ℕ, ◌+◌, ◌≤◌, Bool, true, false, cond, not, ◌&&◌, List, [], ◌∷◌, ◌++◌, Some, refl, ap, arith, append-nil}
use Rattle.std.proofs.Math.Dec.{eqb}
use Rattle.std.specs.Prelude.{nat_le}
use Rattle.std.proofs.lemmas.Bool.{and_parts, leb-true, false≢true}
use Rattle.cluster_msgs.specs.declared.messages.ToClient.{ToClient}
use Rattle.cluster_msgs.specs.declared.messages.ToClient.TheVariants.{KeyInMemory, LostData, ClientTaskErred}
use Rattle.cluster_msgs.specs.declared.events.Asker.{Asker}
use Rattle.cluster_msgs.specs.declared.events.Asker.TheVariants.{Worker, Client}
use Rattle.cluster_msgs.specs.declared.events.Event.TheVariants.{DeliverToClient}
use Rattle.cluster_msgs.specs.Shape.{key_count}
use Rattle.cluster_rules.specs.Functions.{put, total}
use Rattle.cluster_rules.specs.Sched.{Facts}
use Rattle.cluster_rules.specs.Worker.{ask_to, has_any}
use Rattle.cluster_rules.specs.Client.{ClientFacts, client_keys, is_open, hear, client_step}
use Rattle.cluster_rules.specs.World.{Job, World, Parcel, all_workers, all_clients, is_client, open_ask}
use Rattle.cluster_rules.specs.WorldStep.{client_worked, take_to_client, world_step}
use Rattle.cluster_rules.specs.Enabled.{enabled}
use Rattle.cluster_rules.proofs.WorkerLemmas.{at_one}
use Rattle.std.proofs.lemmas.Bool.{eq-eqb}
use Rattle.quiet_measure.specs.Weights.{sum_of, is_stale, list_weight, known_weight, news_weight, letter_weight, client_core_weight}
use Rattle.quiet_measure.specs.Measure.{letter_disturbs, missed_in, worker_disturbs, client_disturbs, answer_disturbs, disturbances, deaths, worker_weight, client_site_weight, client_weight, links_weight}
use Rattle.quiet_measure.specs.Measure.{Falls}
use Rattle.quiet_measure.proofs.Sums.{total_at_most, sum_at_most, total_gain, total_trade}
use Rattle.quiet_measure.proofs.Falling.{same_most, falls}

-- ## One client

heard_asks : (c : ClientFacts) (m : ToClient) → (hear c m).asks ≡ c.asks
unfolding hear
heard_asks c (KeyInMemory k hs) = pick (c.wants k && not (c.got k))
  where
    pick : (b : Bool) → (cond b (record c { located = put c.located k hs }) c).asks ≡ c.asks
    pick true = refl
    pick false = refl
heard_asks c (LostData k) = refl
heard_asks c (ClientTaskErred k b) = pick (c.wants k && not (c.got k))
  where
    pick : (x : Bool) → (cond x (record c { failed = put c.failed k (Some b); located = put c.located k [] }) c).asks ≡ c.asks
    pick true = refl
    pick false = refl

module _ (f : Facts) (d : ℕ → ℕ) where
  -- what one key's list becomes
  put_list : (c : ClientFacts) (k : ℕ) (hs : List (ℕ × ℕ)) (q : ℕ) → known_weight f d k (is_open c k) hs ≤ q
      → total (λ y. known_weight f d y (is_open c y) (put c.located k hs y)) (client_keys c) ≤ total (λ y. known_weight f d y (is_open c y) (c.located y)) (client_keys c) + q
  put_list c k hs q l = total_gain _ _ q k 0 (key_count c.shape) (λ y m. other y) here
    where
      other : (y : ℕ) → eqb y k ≡ false → known_weight f d y (is_open c y) (cond (eqb y k) hs (c.located y)) ≤ known_weight f d y (is_open c y) (c.located y)
      other y e = same_most _ _ (ap (λ b. known_weight f d y (is_open c y) (cond b hs (c.located y))) e)

      here : known_weight f d k (is_open c k) (cond (eqb k k) hs (c.located k)) ≤ known_weight f d k (is_open c k) (c.located k) + q
      here = let e : known_weight f d k (is_open c k) (cond (eqb k k) hs (c.located k)) ≡ known_weight f d k (is_open c k) hs =
          ap (λ b. known_weight f d k (is_open c k) (cond b hs (c.located k))) (eq-eqb k k refl) in
          omega (arith, l, e)

  at_most_list : (k : ℕ) (b : Bool) (hs : List (ℕ × ℕ)) → known_weight f d k b hs ≤ list_weight d k (is_stale f k hs)
  at_most_list k b hs = pick (b && has_any hs)
    where
      pick : (x : Bool) → cond x (list_weight d k (is_stale f k hs)) 0 ≤ list_weight d k (is_stale f k hs)
      pick true = omega arith
      pick false = omega arith

  no_list : (k : ℕ) (b : Bool) → known_weight f d k b [] ≤ 0
  no_list k true = omega arith
  no_list k false = omega arith

  pub heard_weight : (c : ClientFacts) (m : ToClient) → client_core_weight f d (hear c m) + 1 ≤ news_weight f d m + client_core_weight f d c
  unfolding hear client_core_weight
  heard_weight c (KeyInMemory k hs) = pick (c.wants k && not (c.got k))
    where
      pick : (b : Bool) → client_core_weight f d (cond b (record c { located = put c.located k hs }) c) + 1 ≤ (1 + list_weight d k (is_stale f k hs)) + client_core_weight f d c
      pick true = let l : total (λ y. known_weight f d y (is_open c y) (put c.located k hs y)) (client_keys c) ≤ total (λ y. known_weight f d y (is_open c y) (c.located y)) (client_keys c) + list_weight d k (is_stale f k hs) =
          put_list c k hs (list_weight d k (is_stale f k hs)) (at_most_list k (is_open c k) hs) in
          omega arith
      pick false = omega arith
  heard_weight c (LostData k) =
      let l : total (λ y. known_weight f d y (is_open c y) (put c.located k [] y)) (client_keys c) ≤ total (λ y. known_weight f d y (is_open c y) (c.located y)) (client_keys c) + 0 = put_list c k [] 0 (no_list k (is_open c k)) in
      omega arith
  heard_weight c (ClientTaskErred k b) = pick (c.wants k && not (c.got k))
    where
      pick : (x : Bool) → client_core_weight f d (cond x (record c { failed = put c.failed k (Some b); located = put c.located k [] }) c) + 1 ≤ 1 + client_core_weight f d c
      pick true = let l : total (λ y. known_weight f d y (is_open c y) (put c.located k [] y)) (client_keys c) ≤ total (λ y. known_weight f d y (is_open c y) (c.located y)) (client_keys c) + 0 = put_list c k [] 0 (no_list k (is_open c k)) in
          omega arith
      pick false = omega arith

-- ## The event

module _ (w : World) (c : ℕ) (m : ToClient) (ms : List ToClient) (e : w.to_client c ≡ m ∷ ms) (there : is_client w c ≡ true) where
  abbrev pub after : World
  after = take_to_client w c (m ∷ ms)

  letters_same : (x : ℕ) → cond (eqb x c) (w.from_client c ++ []) (w.from_client x) ≡ w.from_client x
  letters_same = at_one c (λ b x. cond b (w.from_client c ++ []) (w.from_client x) ≡ w.from_client x) (append-nil (w.from_client c)) (λ x. refl)

  asks_same : (p d : ℕ) → ask_to (cond (eqb d c) (hear (w.clients c) m) (w.clients d)).asks p ≡ ask_to (w.clients d).asks p
  asks_same p = at_one c (λ b x. ask_to (cond b (hear (w.clients c) m) (w.clients x)).asks p ≡ ask_to (w.clients x).asks p) (ap (λ l. ask_to l p) (heard_asks (w.clients c) m)) (λ x. refl)

  open_same : (a : Asker) (p : ℕ) → open_ask after a p ≡ open_ask w a p
  unfolding client_worked client_step
  open_same (Worker i) p = refl
  open_same (Client d) p = asks_same p d

  disturbs_same : disturbances after ≤ disturbances w
  unfolding disturbances worker_disturbs client_disturbs answer_disturbs client_worked client_step
  disturbs_same =
      let x : total (worker_disturbs after) (all_workers w) ≤ total (worker_disturbs w) (all_workers w) = total_at_most _ _ (all_workers w) (λ i. same_most _ _ refl) in
      let y : total (client_disturbs after) (all_clients w) ≤ total (client_disturbs w) (all_clients w) = total_at_most _ _ (all_clients w) (λ d. same_most _ _ (ap (sum_of (letter_disturbs w)) (letters_same d))) in
      let z : sum_of (answer_disturbs after) w.answers ≤ sum_of (answer_disturbs w) w.answers = sum_at_most _ _ w.answers (λ (q : Parcel). same_most _ _ (ap (missed_in w q) (open_same q.asker q.peer))) in
      omega arith

  module _ (d : ℕ → ℕ) where
    place : Bool → ℕ → ℕ
    place b x = client_site_weight w.sched d (cond b ms (w.to_client x)) (cond b (hear (w.clients c) m) (w.clients x)) (cond b (w.from_client c ++ []) (w.from_client x))

    here : place true c + 1 ≤ client_weight d w c
    unfolding place client_site_weight client_weight
    here =
        let h : client_core_weight w.sched d (hear (w.clients c) m) + 1 ≤ news_weight w.sched d m + client_core_weight w.sched d (w.clients c) = heard_weight w.sched d (w.clients c) m in
        let l : sum_of (letter_weight w.sched d) (w.from_client c ++ []) ≡ sum_of (letter_weight w.sched d) (w.from_client c) = ap (sum_of (letter_weight w.sched d)) (append-nil (w.from_client c)) in
        let n : sum_of (news_weight w.sched d) (w.to_client c) ≡ news_weight w.sched d m + sum_of (news_weight w.sched d) ms = ap (sum_of (news_weight w.sched d)) e in
        omega arith

    links_fall : links_weight d after + 1 ≤ links_weight d w
    unfolding links_weight worker_weight client_weight place client_worked client_step
    links_fall =
        let p = and_parts (nat_le 1 c) (nat_le c w.sched.setting.clients) there in
        let x : total (worker_weight d after) (all_workers w) ≤ total (worker_weight d w) (all_workers w) = total_at_most _ _ (all_workers w) (λ i. same_most _ _ refl) in
        let y : total (client_weight d after) (all_clients w) + 1 ≤ total (client_weight d w) (all_clients w) + 0 =
        total_trade _ _ 1 0 c 1 w.sched.setting.clients (λ y o. same_most _ _ (ap (λ b. place b y) o)) one (leb-true 1 c p.0) (let z : c ≤ w.sched.setting.clients = leb-true c w.sched.setting.clients p.1 in omega arith) in
        omega arith
      where
        one : client_weight d after c + 1 ≤ client_weight d w c + 0
        one = let q : client_weight d after c ≡ place true c = ap (λ b. place b c) (eq-eqb c c refl) in omega (arith, here, q)

  pub news_falls : Falls w after
  unfolding client_worked client_step
  news_falls = falls w after refl disturbs_same (links_fall (deaths w.sched (disturbances w)))

pub deliver_to_client_falls : (j : Job) (w : World) (c : ℕ) → enabled w (DeliverToClient c) ≡ true → is_client w c ≡ true → Falls w (world_step j w (DeliverToClient c))
unfolding enabled world_step
deliver_to_client_falls j w c t l = by (w.to_client c) refl t
  where
    by : (ms : List ToClient) → w.to_client c ≡ ms → has_any ms ≡ true → Falls w (take_to_client w c ms)
    by [] e h = absurd (false≢true h)
    by (m ∷ ms) e h = news_falls w c m ms e l
