-- The scheduler's part, by how many keys, edges, clients and workers there are.
use Rattle.std.proofs.Common.{◌≡◌, ℕ, zero, suc, ◌+◌, ◌*◌, ◌≤◌, Bool, true, false, cond, not, ◌||◌, List, [], ◌∷◌, length, refl, sym, ap, arith, is_some, mul-le-mul, le_refl}
use Rattle.std.specs.List.{range_with_len}
use Rattle.std.specs.Prelude.{slice_index_or}
use Rattle.std.proofs.lemmas.List.FromFn.{length-range_with_len}
use Rattle.cluster_msgs.specs.Shape.{edge_count, total_length}
use Rattle.cluster_rules.specs.Functions.{total, from_one}
use Rattle.cluster_rules.specs.Derived.{below}
use Rattle.cluster_rules.specs.Sched.{Facts, IsSound, keys, deps, holds, held, erred, holder_count}
use Rattle.cluster_rules.specs.World.{World, all_workers, is_connected, shape_of, worker_count, under_way, quiet_bound}
use Rattle.cluster_rules.proofs.TotalLemmas.{total-bound}
use Rattle.quiet_measure.specs.Weights.{bit}
use Rattle.quiet_measure.specs.Measure.{is_to_try, most_listed, most_asked, client_count, end_weight, try_weight, disturbance_weight, key_weight, told_weight, sched_weight, disturbances, deaths, measure, measure_at, links_weight}
use Rattle.quiet_measure.proofs.Sums.{total_at_most}
use Rattle.quiet_measure.proofs.Falling.{same_most}
use Rattle.quiet_measure.proofs.KeyByKey.{total_sum}
use Rattle.quiet_measure.specs.Bounded.{world_keys, StaysWithin}
use Rattle.quiet_measure.proofs.Weighed.{bit_most, length_keys}
use Rattle.quiet_measure.proofs.Formula.{sum_by, within_formula}
use Rattle.quiet_measure.proofs.Linked.{links_most, disturbances_most}

-- the dependencies of all keys together
shifted : (g : ℕ → ℕ) (a n : ℕ) → total g (range_with_len (a + 1) n) ≡ total (λ k. g (suc k)) (range_with_len a n)
shifted g a zero = refl
shifted g a (suc n) =
    let r : total g (range_with_len ((a + 1) + 1) n) ≡ total (λ k. g (suc k)) (range_with_len (a + 1) n) = shifted g (a + 1) n in
    let h : g (a + 1) ≡ g (suc a) = ap g (omega arith) in
    omega arith

edges_are : (dss : List (List ℕ)) → total (λ k. length (slice_index_or dss k [])) (range_with_len 0 (length dss)) ≡ total_length dss
edges_are [] = refl
edges_are (ds ∷ dss) =
    let r : total (λ k. length (slice_index_or dss k [])) (range_with_len 0 (length dss)) ≡ total_length dss = edges_are dss in
    let s : total (λ k. length (slice_index_or (ds ∷ dss) k [])) (range_with_len (0 + 1) (length dss)) ≡ total (λ k. length (slice_index_or (ds ∷ dss) (suc k) [])) (range_with_len 0 (length dss)) =
    shifted (λ k. length (slice_index_or (ds ∷ dss) k [])) 0 (length dss) in
    omega arith

total_affine : (x y z : ℕ) (g : ℕ → ℕ) (xs : List ℕ) → total (λ k. x + (y + g k * z)) xs ≡ length xs * (x + y) + total g xs * z
total_affine x y z g [] = omega arith
total_affine x y z g (k ∷ xs) = more (length xs) (total (λ k. x + (y + g k * z)) xs) (total g xs) (g k) (total_affine x y z g xs)
  where
    more : (n t s e : ℕ) → t ≡ n * (x + y) + s * z → (x + (y + e * z)) + t ≡ suc n * (x + y) + (e + s) * z
    more n t s e r = omega arith

total_constant : (c : ℕ) (xs : List ℕ) → total (λ k. c) xs ≡ length xs * c
total_constant c [] = omega arith
total_constant c (x ∷ xs) = let r : total (λ k. c) xs ≡ length xs * c = total_constant c xs in omega arith

module _ (f : Facts) (b : ℕ) where
  abbrev c : ℕ
  c = client_count f

  abbrev k : ℕ
  k = keys f

  abbrev e : ℕ
  e = edge_count f.setting.shape

  some : 1 ≤ c
  some = omega arith

  more_clients : (x : ℕ) → x ≤ c * x
  more_clients x = let l : 1 * x ≤ c * x = mul-le-mul some (le_refl x) in omega arith

  end_most : end_weight f b ≤ c * (14 * b + 47 + k)
  end_most = by c k (more_clients (7 * b + 22))
    where
      by : (c k : ℕ) → 7 * b + 22 ≤ c * (7 * b + 22) → c * (7 * (b + 3) + 3 + 1) + (7 * (b + 2) + 5 + (c * k + 3)) ≤ c * (14 * b + 47 + k)
      by c k l = omega arith

  tries_most : total (try_weight f b) (below k) ≤ c * (k * (21 * b + 72 + k) + e * (7 * b + 24))
  tries_most =
      let a : total (try_weight f b) (below k) ≡ length (below k) * (end_weight f b + (most_asked b + 6)) + total (λ q. length (deps f q)) (below k) * most_listed b = total_affine (end_weight f b) (most_asked b + 6) (most_listed b) (λ q. length (deps f q)) (below k) in
      by (total (try_weight f b) (below k)) (length (below k)) (total (λ q. length (deps f q)) (below k)) (end_weight f b) c k e a (length_keys k) (edges_are f.setting.shape.deps) end_most (more_clients (7 * b + 25)) (more_clients (7 * b + 24))
    where
      by : (t n s x c k e : ℕ) → t ≡ n * (x + (7 * (b + 2) + 5 + 6)) + s * (7 * (b + 3) + 3) → n ≡ k → s ≡ e → x ≤ c * (14 * b + 47 + k) → 7 * b + 25 ≤ c * (7 * b + 25) → 7 * b + 24 ≤ c * (7 * b + 24) → t ≤ c * (k * (21 * b + 72 + k) + e * (7 * b + 24))
      by t n s x c k e a m g l o r =
          let u : k * (x + (7 * (b + 2) + 5 + 6)) ≤ k * (c * (21 * b + 72 + k)) = mul-le-mul (le_refl k) (omega arith) in
          let v : e * (7 * b + 24) ≤ e * (c * (7 * b + 24)) = mul-le-mul (le_refl e) r in
          let y : n * (x + (7 * (b + 2) + 5 + 6)) ≡ k * (x + (7 * (b + 2) + 5 + 6)) = ap (λ h. h * (x + (7 * (b + 2) + 5 + 6))) m in
          let z : s * (7 * (b + 3) + 3) ≡ e * (7 * (b + 3) + 3) = ap (λ h. h * (7 * (b + 3) + 3)) g in
          omega (arith, a, u, v, y, z)

  disturbance_most : disturbance_weight f b ≤ c * ((k * (28 * b + 99 + k) + e * (7 * b + 24)) + (7 * b + 23))
  unfolding disturbance_weight
  disturbance_most = by (total (try_weight f b) (below k)) c k e tries_most (more_clients (7 * b + 23))
    where
      by : (t c k e : ℕ) → t ≤ c * (k * (21 * b + 72 + k) + e * (7 * b + 24)) → 7 * b + 23 ≤ c * (7 * b + 23)
          → t + (c * k * (7 * (b + 3) + 3 + 1 + 2) + (7 * (b + 2) + 5 + 4)) ≤ c * ((k * (28 * b + 99 + k) + e * (7 * b + 24)) + (7 * b + 23))
      by t c k e l m = omega arith

  told_most : total (λ c. total (told_weight f c) (below k)) (from_one f.setting.clients) ≤ c * (k * 2)
  told_most =
      let a : total (λ c. total (told_weight f c) (below k)) (from_one f.setting.clients) ≤ length (from_one f.setting.clients) * (k * 2) = total-bound (λ c. total (told_weight f c) (below k)) (k * 2) (from_one f.setting.clients) one in
      let n : length (from_one f.setting.clients) ≡ f.setting.clients = length-range_with_len 1 f.setting.clients in
      let m : length (from_one f.setting.clients) * (k * 2) ≤ c * (k * 2) = mul-le-mul (omega (arith, n)) (le_refl (k * 2)) in
      omega (arith, a, m)
    where
      most : (w x y : Bool) → cond w (bit (not x) + bit y) 0 ≤ 2
      most true true true = omega arith
      most true true false = omega arith
      most true false true = omega arith
      most true false false = omega arith
      most false x y = omega arith

      one : (c : ℕ) → total (told_weight f c) (below k) ≤ k * 2
      one c =
          let l : total (told_weight f c) (below k) ≤ length (below k) * 2 = total-bound (told_weight f c) 2 (below k) (λ q. most (f.want c q) (erred f q) (held f q)) in
          omega (arith, l, length_keys k)

  -- a key is held by no more workers than there are
  module _ (w : ℕ) (few : (q : ℕ) → holder_count f q ≤ w) where
    keys_most : total (key_weight f b) (below k) ≤ (c * (k * (21 * b + 72 + k) + e * (7 * b + 24)) + k * (c * (14 * b + 47 + k))) + (w * k) * (7 * b + 6)
    keys_most =
        let a : total (key_weight f b) (below k) ≤ total (λ q. try_weight f b q + (end_weight f b + w * (7 * b + 6))) (below k) = total_at_most _ _ (below k) (λ q. one q) in
        let s : total (λ q. try_weight f b q + (end_weight f b + w * (7 * b + 6))) (below k) ≡ total (try_weight f b) (below k) + total (λ q. end_weight f b + w * (7 * b + 6)) (below k) = total_sum (try_weight f b) (λ q. end_weight f b + w * (7 * b + 6)) (below k) in
        let t : total (λ q. end_weight f b + w * (7 * b + 6)) (below k) ≡ length (below k) * (end_weight f b + w * (7 * b + 6)) = total_constant (end_weight f b + w * (7 * b + 6)) (below k) in
        by (total (key_weight f b) (below k)) (total (try_weight f b) (below k)) (length (below k)) (end_weight f b) k (c * (k * (21 * b + 72 + k) + e * (7 * b + 24))) (c * (14 * b + 47 + k)) (omega (arith, a, s, t)) (length_keys k) tries_most end_most
      where
        parts : (x y : Bool) (t n p r : ℕ) → p ≤ r → cond x t 0 + (cond y n 0 + p) ≤ t + (n + r)
        parts true true t n p r l = omega arith
        parts true false t n p r l = omega arith
        parts false true t n p r l = omega arith
        parts false false t n p r l = omega arith

        one : (q : ℕ) → key_weight f b q ≤ try_weight f b q + (end_weight f b + w * (7 * b + 6))
        one q = parts (is_to_try f q) (is_some (f.on q)) (try_weight f b q) (end_weight f b) (holder_count f q * (7 * b + 6)) (w * (7 * b + 6)) (mul-le-mul (few q) (le_refl (7 * b + 6)))

        by : (t y n x k u v : ℕ) → t ≤ y + n * (x + w * (7 * b + 6)) → n ≡ k → y ≤ u → x ≤ v → t ≤ (u + k * v) + (w * k) * (7 * b + 6)
        by t y n x k u v a m p q =
            let z : n * (x + w * (7 * b + 6)) ≡ k * (x + w * (7 * b + 6)) = ap (λ h. h * (x + w * (7 * b + 6))) m in
            let r : k * x ≤ k * v = mul-le-mul (le_refl k) q in
            omega (arith, a, p, z, r)

    pub sched_most : sched_weight f b ≤ c * (b * ((k * (28 * b + 99 + k) + e * (7 * b + 24)) + (7 * b + 23)) + (k * (35 * b + 121 + 2 * k) + e * (7 * b + 24))) + (w * k) * (7 * b + 6)
    unfolding sched_weight
    sched_most = by (disturbance_weight f b) ((k * (28 * b + 99 + k) + e * (7 * b + 24)) + (7 * b + 23)) (total (key_weight f b) (below k)) (total (λ c. total (told_weight f c) (below k)) (from_one f.setting.clients)) c k e disturbance_most keys_most told_most
      where
        by : (D U T S c k e : ℕ) → D ≤ c * U → T ≤ (c * (k * (21 * b + 72 + k) + e * (7 * b + 24)) + k * (c * (14 * b + 47 + k))) + (w * k) * (7 * b + 6) → S ≤ c * (k * 2)
            → b * D + (T + S) ≤ c * (b * U + (k * (35 * b + 121 + 2 * k) + e * (7 * b + 24))) + (w * k) * (7 * b + 6)
        by D U T S c k e l m n =
            let p : b * D ≤ b * (c * U) = mul-le-mul (le_refl b) l in
            omega (arith, p, m, n)

-- ## All together

holders_few : (w : World) → IsSound w.sched → (q : ℕ) → holder_count w.sched q ≤ worker_count w
unfolding holder_count worker_count
holders_few w sound q = total_at_most _ _ (all_workers w) (λ i. by (holds w.sched i q) (w.alive i) (is_connected w i) (sound.holders i q))
  where
    by : (x a y : Bool) → (x ≡ true → y ≡ true) → cond x 1 0 ≤ cond (a || y) 1 0
    by false a y h = omega arith
    by true true y h = omega arith
    by true false y h = same_most _ _ (ap (λ z. cond z 1 0) (sym (h refl)))

deaths_most : (f : Facts) (b q : ℕ) → deaths f b q ≤ b + 2
unfolding deaths
deaths_most f b q = omega (arith, bit_most (is_to_try f q), bit_most (is_some (f.on q) || held f q))

pub stays_within : StaysWithin
unfolding measure measure_at
stays_within w h = by (sched_weight w.sched n) (links_weight (deaths w.sched n) w) (client_count w.sched) n (world_keys w) (edge_count (shape_of w)) (under_way w) (worker_count w)
    (sched_most w.sched n (worker_count w) (holders_few w h.sound)) (links_most w h (deaths w.sched n) n (deaths_most w.sched n)) (more_clients w.sched 0) (disturbances_most w h)
  where
    n : ℕ
    n = disturbances w

    by : (S L c b k e m w : ℕ) → S ≤ c * (b * ((k * (28 * b + 99 + k) + e * (7 * b + 24)) + (7 * b + 23)) + (k * (35 * b + 121 + 2 * k) + e * (7 * b + 24))) + (w * k) * (7 * b + 6)
        → L ≤ m * ((k + 1) * (7 * b + 25)) + w * (k * (14 * b + 45)) → ((x : ℕ) → x ≤ c * x) → b ≤ (k + 1) * (m + w) → S + L ≤ quiet_bound c m w k e
    by S L c b k e m w p q one d = chain (S + L) (c * sum_by b k e m w) (quiet_bound c m w k e) sums (within_formula c b k e m w wide)
      where
        chain : (x y z : ℕ) → x ≤ y → y ≤ z → x ≤ z
        chain x y z p q = omega arith

        wide : b ≤ (k + e + 1) * (m + w)
        wide = let s : (k + 1) * (m + w) ≤ (k + e + 1) * (m + w) = mul-le-mul (omega arith) (le_refl (m + w)) in omega (arith, d, s)

        rest : ℕ
        rest = (w * k) * (21 * b + 51) + (m * (k + 1)) * (7 * b + 25)

        same : ((w * k) * (7 * b + 6)) + (m * ((k + 1) * (7 * b + 25)) + w * (k * (14 * b + 45))) ≡ (w * k) * (21 * b + 51) + (m * (k + 1)) * (7 * b + 25)
        same = omega arith

        sums : S + L ≤ c * sum_by b k e m w
        sums = parts (b * ((k * (28 * b + 99 + k) + e * (7 * b + 24)) + (7 * b + 23)) + (k * (35 * b + 121 + 2 * k) + e * (7 * b + 24))) ((w * k) * (21 * b + 51) + (m * (k + 1)) * (7 * b + 25)) ((w * k) * (7 * b + 6)) (m * ((k + 1) * (7 * b + 25)) + w * (k * (14 * b + 45))) p q same
          where
            parts : (x y u v : ℕ) → S ≤ c * x + u → L ≤ v → u + v ≡ y → S + L ≤ c * (x + y)
            parts x y u v p q s = let l : y ≤ c * y = one y in omega arith
