-- What is under way, and what workers and clients know and do, by how much of it there is.
use Rattle.std.proofs.Common.{◌≡◌, ℕ, suc, ◌+◌, ◌*◌, ◌-◌, ◌≤◌, Bool, true, false, cond, not, ◌&&◌, List, [], ◌∷◌, length, ap, ◌∙◌, arith, mul-le-mul, le_refl}
use Rattle.std.specs.List.{AllByRecursion}
use Rattle.std.proofs.lemmas.List.FromFn.{length-range_with_len}
use Rattle.cluster_msgs.specs.Shape.{key_count}
use Rattle.cluster_msgs.specs.declared.messages.Down.{Down}
use Rattle.cluster_msgs.specs.declared.messages.Down.TheVariants.{ComputeTask, FreeKeys, StealRequest, RemoveReplicas, AcquireReplicas, RefreshWhoHas}
use Rattle.cluster_msgs.specs.declared.messages.Up.{Up}
use Rattle.cluster_msgs.specs.declared.messages.Up.TheVariants.{TaskFinished, TaskErred, AddKeys, ReleaseWorkerData, MissingData, RequestRefreshWhoHas, StealResponse}
use Rattle.cluster_msgs.specs.declared.messages.ToClient.{ToClient}
use Rattle.cluster_msgs.specs.declared.messages.ToClient.TheVariants.{KeyInMemory, LostData, ClientTaskErred}
use Rattle.cluster_msgs.specs.declared.messages.FromClient.{FromClient as ClientMessage}
use Rattle.cluster_msgs.specs.declared.messages.FromClient.TheVariants.{Want, Release, Missing}
use Rattle.cluster_rules.specs.Functions.{total}
use Rattle.cluster_rules.specs.Derived.{below}
use Rattle.cluster_rules.specs.Sched.{Facts, held}
use Rattle.cluster_rules.specs.Worker.{Ask, WorkerFacts, worker_keys, pending, pairs}
use Rattle.cluster_rules.specs.Client.{ClientFacts, client_keys, is_open, client_pairs}
use Rattle.cluster_rules.proofs.TotalLemmas.{total-bound}
use Rattle.quiet_measure.specs.Weights.{bit, sum_of, is_current, is_stale, question, list_weight, given_weight, refresh_weight, down_weight, added_weight, missed_weight, up_weight, news_weight, letter_weight, task_weight, known_weight, is_sought, ask_weight, core_weight, client_core_weight}
use Rattle.quiet_measure.proofs.Sums.{total_at_most, sum_at_most}
use Rattle.quiet_measure.proofs.Asks.{sum_where}
use Rattle.quiet_measure.specs.Bounded.{down_length, up_length}

-- ## Sums of bounded terms

pub bit_most : (b : Bool) → bit b ≤ 1
bit_most true = omega arith
bit_most false = omega arith

pub sum_times : {A : Type 0} (c : ℕ) (xs : List A) → sum_of (λ x. c) xs ≡ length xs * c
sum_times c [] = omega arith
sum_times c (x ∷ xs) = let r : sum_of (λ x. c) xs ≡ length xs * c = sum_times c xs in omega arith

pub sum_bound : {A : Type 0} (g : A → ℕ) (c : ℕ) (xs : List A) → ((x : A) → g x ≤ c) → sum_of g xs ≤ length xs * c
sum_bound g c xs h = let a : sum_of g xs ≤ sum_of (λ x. c) xs = sum_at_most g (λ x. c) xs h in omega (arith, a, sum_times c xs)

pub sum_bound_where : {A : Type 0} (Q : A → Type 0) (g : A → ℕ) (c : ℕ) (xs : List A) → AllByRecursion Q xs → ((x : A) → Q x → g x ≤ c) → sum_of g xs ≤ length xs * c
sum_bound_where Q g c xs a h = let l : sum_of g xs ≤ sum_of (λ x. c) xs = sum_where Q g (λ x. c) xs a h in omega (arith, l, sum_times c xs)

pub total_times : (g : ℕ → ℕ) (c : ℕ) (xs : List ℕ) → total (λ x. g x * c) xs ≡ total g xs * c
total_times g c [] = omega arith
total_times g c (x ∷ xs) = let r : total (λ x. g x * c) xs ≡ total g xs * c = total_times g c xs in omega arith

pub length_keys : (n : ℕ) → length (below n) ≡ n
length_keys n = length-range_with_len 0 n

-- ## One message, one worker, one client

module _ (f : Facts) (d : ℕ → ℕ) (b n : ℕ) (h : (k : ℕ) → d k ≤ b + 2) where
  abbrev pub message_most : ℕ
  message_most = (n + 1) * (7 * b + 25)

  question_most : (k : ℕ) → question d k ≤ 7 * b + 19
  question_most k = let l : d k ≤ b + 2 = h k in omega arith

  list_most : (k : ℕ) (s : Bool) → list_weight d k s ≤ 7 * b + 24
  list_most k s = let l : d k ≤ b + 2 = h k in omega (arith, bit_most s)

  less : (x y c : ℕ) → x ≤ y → 7 * (x - c) ≤ 7 * y
  less x y c l = omega arith

  added_most : (k : ℕ) → added_weight f d k ≤ 7 * b + 20
  added_most k = let l : 7 * (d k - bit (held f k)) ≤ 7 * (b + 2) = less (d k) (b + 2) (bit (held f k)) (h k) in omega arith

  missed_most : (k x c : ℕ) → missed_weight f d k x c ≤ 7 * b + 19
  missed_most k x c = let l : 7 * (d k - bit (is_current f x k c)) ≤ 7 * (b + 2) = less (d k) (b + 2) (bit (is_current f x k c)) (h k) in omega arith

  -- of a list no longer than there are keys
  lists : (x c s : ℕ) → s ≤ x * c → x ≤ n → s ≤ n * c
  lists x c s l m = let t : x * c ≤ n * c = mul-le-mul m (le_refl c) in omega arith

  pub down_most : (i : ℕ) (m : Down) → down_length m ≤ n → down_weight f d i m ≤ message_most
  down_most i (ComputeTask k a who) l =
      let s : sum_of (given_weight f d i) who ≤ n * (7 * b + 24) = lists (length who) (7 * b + 24) _ (sum_bound (given_weight f d i) (7 * b + 24) who (λ p. list_most p.0 _)) l in
      let q : question d k ≤ 7 * b + 19 = question_most k in
      omega arith
  down_most i (FreeKeys ks) l = let s : total (question d) ks ≤ n * (7 * b + 19) = lists (length ks) (7 * b + 19) _ (total-bound (question d) (7 * b + 19) ks question_most) l in omega arith
  down_most i (StealRequest k a) l = let q : question d k ≤ 7 * b + 19 = question_most k in omega arith
  down_most i (RemoveReplicas ks) l =
      let s : total (λ k. question d k + 1) ks ≤ n * (7 * b + 20) = lists (length ks) (7 * b + 20) _ (total-bound (λ k. question d k + 1) (7 * b + 20) ks (λ k. let q : question d k ≤ 7 * b + 19 = question_most k in omega arith)) l in
      omega arith
  down_most i (AcquireReplicas who) l = let s : sum_of (given_weight f d i) who ≤ n * (7 * b + 24) = lists (length who) (7 * b + 24) _ (sum_bound (given_weight f d i) (7 * b + 24) who (λ p. list_most p.0 _)) l in omega arith
  down_most i (RefreshWhoHas who) l = let s : sum_of (refresh_weight f d i) who ≤ n * (7 * b + 24) = lists (length who) (7 * b + 24) _ (sum_bound (refresh_weight f d i) (7 * b + 24) who (λ p. list_most p.0 _)) l in omega arith

  pub up_most : (m : Up) → up_length m ≤ n → up_weight f d m ≤ message_most
  up_most (AddKeys seen ks) l = let s : total (added_weight f d) ks ≤ n * (7 * b + 20) = lists (length ks) (7 * b + 20) _ (total-bound (added_weight f d) (7 * b + 20) ks added_most) l in omega arith
  up_most (MissingData seen k x c) l = let s : missed_weight f d k x c ≤ 7 * b + 19 = missed_most k x c in omega arith
  up_most (RequestRefreshWhoHas seen k) l = let s : question d k ≤ 7 * b + 19 = question_most k in omega arith
  up_most (TaskFinished seen k a) l = omega arith
  up_most (TaskErred seen k a) l = omega arith
  up_most (ReleaseWorkerData seen k) l = omega arith
  up_most (StealResponse seen k a agreed) l = omega arith

  pub news_most : (m : ToClient) → news_weight f d m ≤ message_most
  news_most (KeyInMemory k hs) = let s : list_weight d k (is_stale f k hs) ≤ 7 * b + 24 = list_most k _ in omega arith
  news_most (LostData k) = omega arith
  news_most (ClientTaskErred k e) = omega arith

  pub letter_most : (m : ClientMessage) → letter_weight f d m ≤ message_most
  letter_most (Want ks) = omega arith
  letter_most (Release ks) = omega arith
  letter_most (Missing k x c) = let s : missed_weight f d k x c ≤ 7 * b + 19 = missed_most k x c in omega arith

  task_most : (w : WorkerFacts) (k : ℕ) → task_weight d w k ≤ 14 * b + 45
  task_most w k = by (pending w k) (w.running k) (question_most k)
    where
      by : (x y : Bool) → question d k ≤ 7 * b + 19 → cond x (question d k + 4) 0 + cond y (question d k + 3) 0 ≤ 14 * b + 45
      by true true l = omega arith
      by true false l = omega arith
      by false true l = omega arith
      by false false l = omega arith

  known_most : (k : ℕ) (o : Bool) (hs : List (ℕ × ℕ)) → known_weight f d k o hs ≤ length hs * (7 * b + 24)
  known_most k o [] = by o
    where
      by : (o : Bool) → cond (o && false) (list_weight d k false) 0 ≤ 0 * (7 * b + 24)
      by true = omega arith
      by false = omega arith
  known_most k o (x ∷ hs) = by o (list_most k (is_stale f k (x ∷ hs)))
    where
      by : (o : Bool) → list_weight d k (is_stale f k (x ∷ hs)) ≤ 7 * b + 24 → cond (o && true) (list_weight d k (is_stale f k (x ∷ hs))) 0 ≤ suc (length hs) * (7 * b + 24)
      by true l = more (length hs) _ l
        where
          more : (m z : ℕ) → z ≤ 7 * b + 24 → z ≤ suc m * (7 * b + 24)
          more m z l = omega arith
      by false l = omega arith

  ask_most : (q : Ask) → length q.items ≤ n → ask_weight f d q ≤ n * (7 * b + 21)
  ask_most q l = lists (length q.items) (7 * b + 21) _ (sum_bound _ (7 * b + 21) q.items (λ i. let m : d i.0 ≤ b + 2 = h i.0 in omega (arith, m, bit_most (not (is_current f q.peer i.0 i.1))))) l

  pub core_most : (w : WorkerFacts) → key_count w.shape ≡ n → AllByRecursion (λ (q : Ask). length q.items ≤ n) w.asks
      → core_weight f d w ≤ (n * (14 * b + 45) + pairs w * (7 * b + 24)) + length w.asks * (n * (7 * b + 21))
  unfolding core_weight pairs
  core_most w s a =
      let t : total (task_weight d w) (worker_keys w) ≤ length (worker_keys w) * (14 * b + 45) = total-bound (task_weight d w) (14 * b + 45) (worker_keys w) (task_most w) in
      let z : length (worker_keys w) * (14 * b + 45) ≡ n * (14 * b + 45) = ap (λ x. x * (14 * b + 45)) (length_keys (key_count w.shape) ∙ s) in
      let k : total (λ k. known_weight f d k (is_sought w k) (w.holders k)) (worker_keys w) ≤ total (λ k. length (w.holders k) * (7 * b + 24)) (worker_keys w) = total_at_most _ _ (worker_keys w) (λ k. known_most k (is_sought w k) (w.holders k)) in
      let p : total (λ k. length (w.holders k) * (7 * b + 24)) (worker_keys w) ≡ total (λ k. length (w.holders k)) (worker_keys w) * (7 * b + 24) = total_times (λ k. length (w.holders k)) (7 * b + 24) (worker_keys w) in
      let q : sum_of (ask_weight f d) w.asks ≤ length w.asks * (n * (7 * b + 21)) = sum_bound_where _ (ask_weight f d) (n * (7 * b + 21)) w.asks a ask_most in
      together _ _ _ _ _ _ t z k p q
    where
      together : (t x k y q r : ℕ) {u v : ℕ} → t ≤ u → u ≡ x → k ≤ v → v ≡ y → q ≤ r → (t + k) + q ≤ (x + y) + r
      together t x k y q r a b c d e = omega arith

  pub client_core_most : (c : ClientFacts) → AllByRecursion (λ (q : Ask). length q.items ≤ n) c.asks → client_core_weight f d c ≤ client_pairs c * (7 * b + 24) + length c.asks * (n * (7 * b + 21))
  unfolding client_core_weight client_pairs
  client_core_most c a =
      let k : total (λ k. known_weight f d k (is_open c k) (c.located k)) (client_keys c) ≤ total (λ k. length (c.located k) * (7 * b + 24)) (client_keys c) = total_at_most _ _ (client_keys c) (λ k. known_most k (is_open c k) (c.located k)) in
      let p : total (λ k. length (c.located k) * (7 * b + 24)) (client_keys c) ≡ total (λ k. length (c.located k)) (client_keys c) * (7 * b + 24) = total_times (λ k. length (c.located k)) (7 * b + 24) (client_keys c) in
      let q : sum_of (ask_weight f d) c.asks ≤ length c.asks * (n * (7 * b + 21)) = sum_bound_where _ (ask_weight f d) (n * (7 * b + 21)) c.asks a ask_most in
      together _ _ _ _ k p q
    where
      together : (k y q r : ℕ) {v : ℕ} → k ≤ v → v ≡ y → q ≤ r → k + q ≤ y + r
      together k y q r c d e = omega arith
