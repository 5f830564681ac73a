-- What is under way weighs no more where each copy that goes lowers the deaths that are left of its key.
use Rattle.std.proofs.Common.{◌≡◌, ℕ, ◌+◌, ◌*◌, ◌-◌, ◌≤◌, Bool, true, false, cond, not, ◌&&◌, ◌||◌, List, [], ◌∷◌, refl, ap, arith}
use Rattle.std.proofs.lemmas.Bool.{true≢false, false≢true}
use Rattle.cluster_msgs.specs.declared.messages.Down.{Down}
use Rattle.cluster_msgs.specs.declared.messages.Down.TheVariants.{ComputeTask, FreeKeys, StealRequest, RemoveReplicas, AcquireReplicas, RefreshWhoHas}
use Rattle.cluster_msgs.specs.declared.messages.Up.{Up}
use Rattle.cluster_msgs.specs.declared.messages.Up.TheVariants.{TaskFinished, TaskErred, AddKeys, ReleaseWorkerData, MissingData, RequestRefreshWhoHas, StealResponse}
use Rattle.cluster_msgs.specs.declared.messages.ToClient.{ToClient}
use Rattle.cluster_msgs.specs.declared.messages.ToClient.TheVariants.{KeyInMemory, LostData, ClientTaskErred}
use Rattle.cluster_msgs.specs.declared.messages.FromClient.{FromClient as ClientMessage}
use Rattle.cluster_msgs.specs.declared.messages.FromClient.TheVariants.{Want, Release, Missing}
use Rattle.cluster_rules.specs.Functions.{from_one, total}
use Rattle.cluster_rules.specs.Sched.{Facts, Setting, held, connected}
use Rattle.cluster_rules.specs.Worker.{Ask, WorkerFacts, worker_keys, has_any}
use Rattle.cluster_rules.specs.WorkerStep.{others}
use Rattle.cluster_rules.specs.Client.{ClientFacts, client_keys, is_open}
use Rattle.cluster_rules.specs.World.{World, all_workers, all_clients}
use Rattle.quiet_measure.specs.Weights.{bit, sum_of, is_current, is_stale, question, list_weight, given_weight, refresh_weight, down_weight, added_weight, missed_weight, up_weight, news_weight, letter_weight, task_weight, known_weight, is_sought, ask_weight, core_weight, client_core_weight}
use Rattle.quiet_measure.specs.Measure.{site_weight, worker_weight, client_site_weight, client_weight, links_weight}
use Rattle.quiet_measure.proofs.Sums.{total_at_most, sum_at_most}
use Rattle.quiet_measure.proofs.Rising.{question_rises, where_rises, task_rises}
use Rattle.quiet_measure.specs.Lighter.{IsLighter, under}

module _ (f g : Facts) (d e : ℕ → ℕ) (h : IsLighter f g d e) where
  stale_grows : (k : ℕ) (hs : List (ℕ × ℕ)) → is_stale f k hs ≡ false → is_stale g k hs ≡ true → e k + 1 ≤ d k
  stale_grows k [] a b = absurd (false≢true b)
  stale_grows k (x ∷ hs) a b = pick (is_current f x.0 k x.1) refl (is_current g x.0 k x.1) refl a b (stale_grows k hs)
    where
      pick : (y : Bool) → is_current f x.0 k x.1 ≡ y → (z : Bool) → is_current g x.0 k x.1 ≡ z → (not y || is_stale f k hs) ≡ false → (not z || is_stale g k hs) ≡ true
          → (is_stale f k hs ≡ false → is_stale g k hs ≡ true → e k + 1 ≤ d k) → e k + 1 ≤ d k
      pick false p z q a b rest = absurd (true≢false a)
      pick true p true q a b rest = rest a b
      pick true p false q a b rest = h.gone x.0 k x.1 p q

  -- what a flag costs is paid by a death
  flag_pays : (k : ℕ) (s t : Bool) → (t ≡ false → s ≡ true → e k + 1 ≤ d k) → e k + bit s ≤ d k + bit t
  flag_pays k true true p = let l : e k ≤ d k = h.deaths k in omega arith
  flag_pays k false true p = let l : e k ≤ d k = h.deaths k in omega arith
  flag_pays k false false p = let l : e k ≤ d k = h.deaths k in omega arith
  flag_pays k true false p = let l : e k + 1 ≤ d k = p refl refl in omega arith

  more_pays : (k : ℕ) (s t z : Bool) → (t ≡ false → s ≡ true → e k + 1 ≤ d k) → e k + bit (s || z) ≤ d k + bit (t || z)
  more_pays k s t true p = let a : bit (s || true) ≤ 1 = most (s || true) in let b : 1 ≤ bit (t || true) = one t in let l : e k ≤ d k = h.deaths k in omega arith
    where
      most : (b : Bool) → bit b ≤ 1
      most true = omega arith
      most false = omega arith

      one : (b : Bool) → 1 ≤ bit (b || true)
      one true = omega arith
      one false = omega arith
  more_pays k true t false p = flag_pays k true (t || false) (λ x y. p (flip t x) y)
    where
      flip : (b : Bool) → (b || false) ≡ false → b ≡ false
      flip true e = e
      flip false e = refl
  more_pays k false t false p = let l : e k ≤ d k = h.deaths k in omega arith

  list_pays : (k : ℕ) (s t : Bool) → e k + bit s ≤ d k + bit t → list_weight e k s ≤ list_weight d k t
  list_pays k s t l = omega arith

  given_pays : (i : ℕ) (p : ℕ × List (ℕ × ℕ)) → given_weight g e i p ≤ given_weight f d i p
  given_pays i p = list_pays p.0 _ _ (more_pays p.0 (is_stale g p.0 (others i p.1)) (is_stale f p.0 (others i p.1)) (not (has_any (others i p.1))) (stale_grows p.0 (others i p.1)))

  refresh_pays : (i : ℕ) (p : ℕ × List (ℕ × ℕ)) → refresh_weight g e i p ≤ refresh_weight f d i p
  refresh_pays i p = list_pays p.0 _ _ (flag_pays p.0 (is_stale g p.0 (others i p.1)) (is_stale f p.0 (others i p.1)) (stale_grows p.0 (others i p.1)))

  asks_pay : (k : ℕ) → question e k ≤ question d k
  asks_pay k = question_rises f e d h.deaths k

  down_pays : (i : ℕ) (m : Down) → down_weight g e i m ≤ down_weight f d i m
  down_pays i (ComputeTask k a who) =
      let l : question e k ≤ question d k = asks_pay k in
      let r : sum_of (given_weight g e i) who ≤ sum_of (given_weight f d i) who = sum_at_most (given_weight g e i) (given_weight f d i) who (given_pays i) in
      omega arith
  down_pays i (FreeKeys ks) = let r : total (question e) ks ≤ total (question d) ks = total_at_most (question e) (question d) ks asks_pay in omega arith
  down_pays i (StealRequest k a) = let l : question e k ≤ question d k = asks_pay k in omega arith
  down_pays i (RemoveReplicas ks) =
      let r : total (λ k. question e k + 1) ks ≤ total (λ k. question d k + 1) ks = total_at_most (λ k. question e k + 1) (λ k. question d k + 1) ks (λ k. let l : question e k ≤ question d k = asks_pay k in omega arith) in
      omega arith
  down_pays i (AcquireReplicas who) =
      let r : sum_of (given_weight g e i) who ≤ sum_of (given_weight f d i) who = sum_at_most (given_weight g e i) (given_weight f d i) who (given_pays i) in
      omega arith
  down_pays i (RefreshWhoHas who) =
      let r : sum_of (refresh_weight g e i) who ≤ sum_of (refresh_weight f d i) who = sum_at_most (refresh_weight g e i) (refresh_weight f d i) who (refresh_pays i) in
      omega arith

  -- what a good copy saves is paid by a death where it goes
  less_pays : (k n : ℕ) (s t : Bool) → (t ≡ true → s ≡ false → e k + 1 ≤ d k) → 7 * (e k - bit s) + n ≤ 7 * (d k - bit t) + n
  less_pays k n true true p = let l : e k ≤ d k = h.deaths k in omega arith
  less_pays k n true false p = let l : e k ≤ d k = h.deaths k in omega arith
  less_pays k n false false p = let l : e k ≤ d k = h.deaths k in omega arith
  less_pays k n false true p = let l : e k + 1 ≤ d k = p refl refl in omega arith

  missed_pays : (k x c : ℕ) → missed_weight g e k x c ≤ missed_weight f d k x c
  missed_pays k x c = less_pays k 5 (is_current g x k c) (is_current f x k c) (h.gone x k c)

  up_pays : (m : Up) → up_weight g e m ≤ up_weight f d m
  up_pays (AddKeys seen ks) =
      let r : total (added_weight g e) ks ≤ total (added_weight f d) ks = total_at_most (added_weight g e) (added_weight f d) ks (λ k. less_pays k 6 (held g k) (held f k) (h.unheld k)) in
      omega arith
  up_pays (MissingData seen k x c) = missed_pays k x c
  up_pays (RequestRefreshWhoHas seen k) = asks_pay k
  up_pays (TaskFinished seen k a) = omega arith
  up_pays (TaskErred seen k a) = omega arith
  up_pays (ReleaseWorkerData seen k) = omega arith
  up_pays (StealResponse seen k a agreed) = omega arith

  known_list : (k : ℕ) (hs : List (ℕ × ℕ)) → list_weight e k (is_stale g k hs) ≤ list_weight d k (is_stale f k hs)
  known_list k hs = list_pays k _ _ (flag_pays k (is_stale g k hs) (is_stale f k hs) (stale_grows k hs))

  news_pays : (m : ToClient) → news_weight g e m ≤ news_weight f d m
  news_pays (KeyInMemory k hs) = let r : list_weight e k (is_stale g k hs) ≤ list_weight d k (is_stale f k hs) = known_list k hs in omega arith
  news_pays (LostData k) = omega arith
  news_pays (ClientTaskErred k b) = omega arith

  letter_pays : (m : ClientMessage) → letter_weight g e m ≤ letter_weight f d m
  letter_pays (Want ks) = omega arith
  letter_pays (Release ks) = omega arith
  letter_pays (Missing k x c) = missed_pays k x c

  known_pays : (k : ℕ) (b : Bool) (hs : List (ℕ × ℕ)) → known_weight g e k b hs ≤ known_weight f d k b hs
  known_pays k b hs = where_rises f e d h.deaths (b && has_any hs) _ _ (known_list k hs)

  ask_pays : (a : Ask) → ask_weight g e a ≤ ask_weight f d a
  ask_pays a = sum_at_most _ _ a.items (λ (i : ℕ × ℕ). one i (is_current g a.peer i.0 i.1) refl (is_current f a.peer i.0 i.1) refl)
    where
      one : (i : ℕ × ℕ) (s : Bool) → is_current g a.peer i.0 i.1 ≡ s → (t : Bool) → is_current f a.peer i.0 i.1 ≡ t → 7 * (e i.0 + bit (not s)) ≤ 7 * (d i.0 + bit (not t))
      one i true p t q = let l : e i.0 ≤ d i.0 = h.deaths i.0 in omega arith
      one i false p false q = let l : e i.0 ≤ d i.0 = h.deaths i.0 in omega arith
      one i false p true q = let l : e i.0 + 1 ≤ d i.0 = h.gone a.peer i.0 i.1 q p in omega arith

  core_pays : (w : WorkerFacts) → core_weight g e w ≤ core_weight f d w
  unfolding core_weight
  core_pays w =
      let t : total (task_weight e w) (worker_keys w) ≤ total (task_weight d w) (worker_keys w) = total_at_most _ _ (worker_keys w) (task_rises f e d h.deaths w) in
      let n : total (λ k. known_weight g e k (is_sought w k) (w.holders k)) (worker_keys w) ≤ total (λ k. known_weight f d k (is_sought w k) (w.holders k)) (worker_keys w) =
      total_at_most _ _ (worker_keys w) (λ k. known_pays k _ _) in
      let a : sum_of (ask_weight g e) w.asks ≤ sum_of (ask_weight f d) w.asks = sum_at_most _ _ w.asks ask_pays in
      omega arith

  client_core_pays : (c : ClientFacts) → client_core_weight g e c ≤ client_core_weight f d c
  unfolding client_core_weight
  client_core_pays c =
      let n : total (λ k. known_weight g e k (is_open c k) (c.located k)) (client_keys c) ≤ total (λ k. known_weight f d k (is_open c k) (c.located k)) (client_keys c) =
      total_at_most _ _ (client_keys c) (λ k. known_pays k _ _) in
      let a : sum_of (ask_weight g e) c.asks ≤ sum_of (ask_weight f d) c.asks = sum_at_most _ _ c.asks ask_pays in
      omega arith

  site_pays : (i : ℕ) (b s t : Bool) (ds : List Down) (w : WorkerFacts) (us : List Up) → (s ≡ true → t ≡ true) → site_weight g e i b s ds w us ≤ site_weight f d i b t ds w us
  unfolding site_weight
  site_pays i b false t ds w us p = omega arith
  site_pays i b true t ds w us p =
      let n : sum_of (down_weight g e i) ds ≤ sum_of (down_weight f d i) ds = sum_at_most _ _ ds (down_pays i) in
      let o : core_weight g e w ≤ core_weight f d w = core_pays w in
      let u : sum_of (up_weight g e) us ≤ sum_of (up_weight f d) us = sum_at_most _ _ us up_pays in
      let l : cond b (sum_of (down_weight g e i) ds + core_weight g e w) 0 ≤ cond b (sum_of (down_weight f d i) ds + core_weight f d w) 0 = where_rises f e d h.deaths b _ _ (omega arith) in
      let x : cond t (cond b (sum_of (down_weight f d i) ds + core_weight f d w) 0 + sum_of (up_weight f d) us) 0 ≡ cond b (sum_of (down_weight f d i) ds + core_weight f d w) 0 + sum_of (up_weight f d) us =
      ap (λ y. cond y (cond b (sum_of (down_weight f d i) ds + core_weight f d w) 0 + sum_of (up_weight f d) us) 0) (p refl) in
      omega arith

pub links_lighter : (w : World) (g : Facts) (d e : ℕ → ℕ) → g.last_worker ≡ w.sched.last_worker → g.setting ≡ w.sched.setting
    → ((i : ℕ) → connected g i ≡ true → connected w.sched i ≡ true) → IsLighter w.sched g d e → links_weight e (under w g) ≤ links_weight d w
unfolding links_weight worker_weight client_weight client_site_weight
links_lighter w g d e last same there h =
    let s : total (worker_weight e (under w g)) (all_workers w) ≤ total (worker_weight d w) (all_workers w) = total_at_most _ _ (all_workers w) (λ i. site_pays w.sched g d e h i _ _ _ _ _ _ (there i)) in
    let c : total (client_weight e (under w g)) (all_clients w) ≤ total (client_weight d w) (all_clients w) = total_at_most _ _ (all_clients w) one in
    let a : total (worker_weight e (under w g)) (from_one g.last_worker) ≡ total (worker_weight e (under w g)) (all_workers w) = ap (λ n. total (worker_weight e (under w g)) (from_one n)) last in
    let b : total (client_weight e (under w g)) (from_one g.setting.clients) ≡ total (client_weight e (under w g)) (all_clients w) = ap (λ (x : Setting). total (client_weight e (under w g)) (from_one x.clients)) same in
    omega arith
  where
    one : (c : ℕ) → client_weight e (under w g) c ≤ client_weight d w c
    one c =
        let n : sum_of (news_weight g e) (w.to_client c) ≤ sum_of (news_weight w.sched d) (w.to_client c) = sum_at_most _ _ (w.to_client c) (news_pays w.sched g d e h) in
        let o : client_core_weight g e (w.clients c) ≤ client_core_weight w.sched d (w.clients c) = client_core_pays w.sched g d e h (w.clients c) in
        let l : sum_of (letter_weight g e) (w.from_client c) ≤ sum_of (letter_weight w.sched d) (w.from_client c) = sum_at_most _ _ (w.from_client c) (letter_pays w.sched g d e h) in
        omega arith
