-- Costs of events that answer nothing and free nothing, and what a finished task leaves to tell.
use Rattle.std.proofs.Common.{◌≡◌, ℕ, zero, suc, ◌+◌, ◌*◌, ◌≤◌, Bool, true, false, cond, not, List, [], ◌∷◌, length, refl, sym, ap, arith, is_some, mul-le-mul, le_refl, max}
use Rattle.std.specs.List.{range_with_len}
use Rattle.cluster_rules.specs.Functions.{from_one, total}
use Rattle.cluster_rules.specs.Sched.{Facts, IsSound, held, erred, holder_count}
use Rattle.cluster_rules.specs.SchedTable.{Changed, plain}
use Rattle.cluster_rules.specs.SchedStep.{Stages, settle}
use Rattle.cluster_rules.proofs.TotalLemmas.{total-bound}
use Rattle.quiet_measure.specs.Weights.{bit}
use Rattle.cluster_laws.specs.Settled.{IsSettled}
use Rattle.quiet_measure.specs.Measure.{is_to_try, deaths, most_told, client_count, told_weight, end_weight, pair_weight}
use Rattle.quiet_measure.proofs.CalmPay.{Rest}
use Rattle.quiet_measure.proofs.CalmTold.{told_pays}
use Rattle.quiet_measure.proofs.Sums.{total_at_most}
use Rattle.quiet_measure.proofs.Fewer.{total_nothing}
use Rattle.quiet_measure.specs.Changes.{AreDrawn, IsCalmChange}
use Rattle.quiet_measure.proofs.Posts.{total_plus, told_cost, answer_cost, reply_cost}
use Rattle.quiet_measure.proofs.Pay.{IsBacked, one_most, told_most}
use Rattle.quiet_measure.proofs.Assemble.{event_total}

pub zero_total : (n ks : List ℕ) → total (λ k. total (λ i. 0) n) ks ≡ 0
zero_total n [] = refl
zero_total n (k ∷ ks) = let a : total (λ i. 0) n ≡ 0 = total_nothing n in let b : total (λ k. total (λ i. 0) n) ks ≡ 0 = zero_total n ks in omega (arith, a, b)

pub plain_costs : (f x : Facts) (e : ℕ → ℕ) (ks : List ℕ) → (event_total (settle f (plain x)) e ks + total (λ k. 0) ks) + (answer_cost (settle f (plain x)) e + reply_cost (settle f (plain x)) e) ≡ 0
unfolding settle
plain_costs f x e ks =
    let a : total (λ k. total (λ i. 0) (from_one (settle f (plain x)).placed.last_worker)) ks ≡ 0 = zero_total (from_one (settle f (plain x)).placed.last_worker) ks in
    let b : total (λ i. 0) (from_one (settle f (plain x)).placed.last_worker) ≡ 0 = total_nothing (from_one (settle f (plain x)).placed.last_worker) in
    let c : total (λ k. 0) ks ≡ 0 = total_nothing ks in
    omega (arith, a, b, c)

-- the facts as they were
pub calm_same : (f : Facts) (own : ℕ → Bool) → ((k : ℕ) → own k ≡ true → ⊥) → IsCalmChange f f own
calm_same f own n = record {
  setting = refl;
  last = refl;
  want = refl;
  counter = omega arith;
  had_place = λ k e. absurd (n k e);
  on = λ k e. refl;
  steal = λ k e. refl;
  copies = λ x k c e. e;
  held_still = λ k e. e;
  held_new = λ k e o. e;
  bad = λ k e. e;
  bad_new = λ k e o. e;
}

range_length : (a n : ℕ) → length (range_with_len a n) ≡ n
range_length a zero = refl
range_length a (suc n) = ap suc (range_length (a + 1) n)

-- a key that becomes held: each client is told once
pub told_held : (t : Stages) (e : ℕ → ℕ) (b k : ℕ) → ((q : ℕ) → e q ≤ b + 2) → ((c : ℕ) → t.placed.want c k ≡ t.before.want c k) → erred t.before k ≡ false
    → total (λ c. told_weight t.placed c k) (from_one t.before.setting.clients) + total (λ c. told_cost t e c k) (from_one t.before.setting.clients) ≤ total (λ c. told_weight t.before c k) (from_one t.before.setting.clients) + client_count t.before * (most_told b + 1)
told_held t e b k l same right =
    let a = total_plus (λ c. told_weight t.placed c k) (λ c. told_cost t e c k) cs in
    let x : total (λ c. told_weight t.placed c k + told_cost t e c k) cs ≤ total (λ c. told_weight t.before c k + (most_told b + 1)) cs = total_at_most _ _ cs (λ c. let z : told_cost t e c k ≤ most_told b = told_most t e b l c k in let y : told_weight t.placed c k ≤ told_weight t.before c k + 1 = one c in omega (arith, y, z)) in
    let y = total_plus (λ c. told_weight t.before c k) (λ c. most_told b + 1) cs in
    let z : total (λ c. most_told b + 1) cs ≤ length cs * (most_told b + 1) = total-bound (λ c. most_told b + 1) (most_told b + 1) cs (λ c. omega arith) in
    let m : length cs * (most_told b + 1) ≤ client_count t.before * (most_told b + 1) = mul-le-mul (let u : length cs ≡ t.before.setting.clients = range_length 1 t.before.setting.clients in let v : t.before.setting.clients ≤ max 1 t.before.setting.clients = omega arith in omega (arith, u, v)) (le_refl (most_told b + 1)) in
    omega (arith, a, x, y, z, m)
  where
    cs : List ℕ
    cs = from_one t.before.setting.clients

    by : (p q : Bool) (x y u v : Bool) → p ≡ q → u ≡ false → cond p (bit (not x) + bit y) 0 ≤ cond q (bit (not u) + bit v) 0 + 1
    by false q x y u v e n = omega arith
    by true q x y u v e n =
        let c : cond q (bit (not u) + bit v) 0 ≡ bit (not u) + bit v = ap (λ b. cond b (bit (not u) + bit v) 0) (sym e) in
        let d : bit (not u) ≡ 1 = ap (λ b. bit (not b)) n in
        let f : bit (not x) ≤ 1 = one_most (not x) in
        let g : bit y ≤ 1 = one_most y in
        omega (arith, c, d, f, g)

    one : (c : ℕ) → told_weight t.placed c k ≤ told_weight t.before c k + 1
    one c = by (t.placed.want c k) (t.before.want c k) (erred t.placed k) (held t.placed k) (erred t.before k) (held t.before k) (same c) right

-- where nothing becomes held and no place is new, what was there pays
pub rest_plain : (f : Facts) (g : Changed) (own : ℕ → Bool) (sound : IsSound f) (settled : IsSettled f) (drawn : AreDrawn f) (sh : IsSound g.facts) (calm : IsCalmChange f g.facts own) (n : ℕ) (b : (q : ℕ) → IsBacked (settle f g) q (is_to_try f q))
    → ((q : ℕ) → g.asked q ≡ false) → ((q : ℕ) → held g.facts q ≡ true → held f q ≡ true) → ((q : ℕ) → is_some (g.facts.on q) ≡ true → is_some (f.on q) ≡ true)
    → (q gain : ℕ) → holder_count g.facts q * pair_weight n ≤ holder_count f q * pair_weight n + gain → Rest f g own sound settled drawn sh calm n b q gain
rest_plain f g own sound settled drawn sh calm n b asked kept placed q gain more =
    let p = told_pays f g own sound settled drawn sh calm (deaths (settle f g).placed n) q (asked q) (kept q) in
    let r : cond (is_some (g.facts.on q)) (end_weight f n) 0 ≤ cond (is_some (f.on q)) (end_weight f n) 0 = where_most (is_some (g.facts.on q)) (is_some (f.on q)) (end_weight f n) (placed q) in
    omega (arith, p, r, more)
  where
    where_most : (p q : Bool) (m : ℕ) → (p ≡ true → q ≡ true) → cond p m 0 ≤ cond q m 0
    where_most false q m h = omega arith
    where_most true q m h = let e : cond q m 0 ≡ m = ap (λ b. cond b m 0) (h refl) in omega (arith, e)
