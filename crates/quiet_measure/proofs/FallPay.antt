-- An event that lowers the disturbances is paid for by them.
use Rattle.std.proofs.Common.{◌≡◌, ℕ, zero, suc, ◌+◌, ◌*◌, ◌<◌, ◌≤◌, Bool, true, false, not, ◌||◌, cond, List, [], ◌∷◌, length, Option, Some, None, refl, sym, ap, ◌∙◌, arith, is_some, ⊎_elim, max, mul-le-mul, le_refl}
use Rattle.std.specs.Prelude.{nat_le}
use Rattle.std.specs.List.{range_with_len}
use Rattle.std.proofs.lemmas.Bool.{true≢false, false≢true, not-true, leb-true, or_left, or_right, or_cases, eqb-true}
use Rattle.small_facts.proofs.Truth.{and_first}
use Rattle.cluster_rules.specs.Functions.{from_one, total, count}
use Rattle.cluster_rules.specs.Derived.{below}
use Rattle.cluster_rules.specs.Sched.{Facts, IsSound, keys, holds, held, erred, holder_count}
use Rattle.cluster_rules.specs.SchedTable.{Changed, is_asked_back, is_copy}
use Rattle.cluster_rules.specs.SchedStep.{settle}
use Rattle.cluster_rules.proofs.TotalLemmas.{total-bound}
use Rattle.cluster_laws.specs.Settled.{IsSettled}
use Rattle.cluster_laws.proofs.Errors.{holder_holds, ready_is_not_held}
use Rattle.cluster_laws.proofs.Lists.{count_less}
use Rattle.quiet_measure.specs.Weights.{bit, question}
use Rattle.quiet_measure.specs.Measure.{is_to_try, deaths, most_told, most_asked, pair_weight, client_count, end_weight, try_weight, disturbance_weight, key_weight, told_weight, sched_weight}
use Rattle.quiet_measure.proofs.Sums.{total_at_most}
use Rattle.quiet_measure.proofs.Rising.{disturbance_rises, key_rises, sched_rises}
use Rattle.quiet_measure.specs.Lighter.{IsLighter}
use Rattle.quiet_measure.specs.Settles.{SettlesAt}
use Rattle.quiet_measure.specs.Changes.{AreDrawn, IsLessening}
use Rattle.quiet_measure.proofs.Settle.{settles_at}
use Rattle.quiet_measure.proofs.Posts.{total_plus, freed_cost, new_cost, told_cost}
use Rattle.quiet_measure.proofs.Pay.{bit_most, one_most, most_deaths, is_new, IsBacked, settle_deaths, settle_pays, freed_most, told_two, told_most}
use Rattle.quiet_measure.proofs.CalmChanges.{sound_drop_bad}
use Rattle.quiet_measure.proofs.CalmPay.{to_try_parts, placed_ready, olds_there, backed_asked, end_by, try_by, sched_by}

copy_is : (c : ℕ) (o : Option ℕ) → is_copy c o ≡ true → o ≡ Some c
copy_is c None e = absurd (false≢true e)
copy_is c (Some d) e = ap (λ n. Some n) (eqb-true d c e)

range_length : (a n : ℕ) → length (range_with_len a n) ≡ n
range_length a zero = refl
range_length a (suc n) = ap suc (range_length (a + 1) n)

same_total : (n : ℕ) (xs : List ℕ) → total (λ x. n) xs ≡ length xs * n
same_total n [] = omega arith
same_total n (x ∷ xs) = let r : total (λ x. n) xs ≡ length xs * n = same_total n xs in let z : suc (length xs) * n ≡ n + length xs * n = omega arith in omega (arith, r, z)

-- one disturbance more pays for all keys anew
pub one_more : (f : Facts) (b : ℕ) → sched_weight f b + disturbance_weight f b ≤ sched_weight f (b + 1)
unfolding sched_weight
one_more f b =
    let t : total (key_weight f b) (below (keys f)) ≤ total (key_weight f (b + 1)) (below (keys f)) = total_at_most _ _ (below (keys f)) (key_rises f b (b + 1) (omega arith)) in
    let m : (b + 1) * disturbance_weight f b ≤ (b + 1) * disturbance_weight f (b + 1) = mul-le-mul (le_refl (b + 1)) (disturbance_rises f b (b + 1) (omega arith)) in
    let s : (b + 1) * disturbance_weight f b ≡ b * disturbance_weight f b + disturbance_weight f b = omega arith in
    omega (arith, t, m, s)

module _ (f : Facts) (g : Changed) (sound : IsSound f) (settled : IsSettled f) (drawn : AreDrawn f) (sh : IsSound g.facts) (less : IsLessening f g.facts) (b n : ℕ) (fallen : b + 1 ≤ n) where
  here : (k : ℕ) → SettlesAt (settle f g) k
  here k = settles_at f g (sound_drop_bad g.facts sh) k

  abbrev P : Facts
  P = (settle f g).placed

  abbrev pub after : ℕ → ℕ
  after = deaths (settle f g).placed b

  drawn_more : (settle f g).before.counter ≤ g.facts.counter
  unfolding settle
  drawn_more = let c : g.facts.counter ≡ f.counter = less.counter in omega (arith, c)

  some_new : (y : Option (ℕ × ℕ)) → is_new (settle f g) y ≡ true → is_some y ≡ true
  some_new None e = absurd (false≢true e)
  some_new (Some q) e = refl

  pub back : (k : ℕ) → IsBacked (settle f g) k true
  unfolding settle
  back k = record { tries = λ e. refl; news = λ e. (refl, by (g.facts.on k) refl e); olds = olds_there (settle f g) k (here k) drawn_more }
    where
      over : (q : ℕ × ℕ) → q.1 < f.counter → nat_le f.counter q.1 ≡ true → ⊥
      over q l e = let m : f.counter ≤ q.1 = leb-true f.counter q.1 e in omega (arith, l, m)

      by : (o : Option (ℕ × ℕ)) → g.facts.on k ≡ o → is_new (settle f g) ((settle f g).placed.on k) ≡ true → is_to_try (settle f g).placed k ≡ false
      by None e m = ((backed_asked (settle f g) k (here k) drawn_more (ap is_asked_back (sh.steal k e))).news m).1
      by (Some q) e m = absurd (over q (drawn k q (less.on k q e)) (sym (ap (is_new (settle f g)) ((here k).kept (placed_ready (settle f g) k (here k) drawn_more (some_new ((settle f g).placed.on k) m)) q e)) ∙ m))

  on_before : (k : ℕ) → is_some (g.facts.on k) ≡ true → is_some (f.on k) ≡ true
  on_before k e = by (g.facts.on k) refl e
    where
      by : (o : Option (ℕ × ℕ)) → g.facts.on k ≡ o → is_some o ≡ true → is_some (f.on k) ≡ true
      by None x e = absurd (false≢true e)
      by (Some q) x e = ap is_some (less.on k q x)

  deaths_fall : (k : ℕ) → deaths (settle f g).placed b k ≤ deaths f n k
  unfolding deaths settle
  deaths_fall k =
      let a : bit (is_to_try P k) + bit (is_some (P.on k) || held P k) ≤ bit true + bit (is_some (g.facts.on k) || held g.facts k) = settle_deaths (settle f g) k (here k) true (back k) in
      let c : bit (is_some (g.facts.on k) || held g.facts k) ≤ bit (is_some (f.on k) || held f k) = bit_most (is_some (g.facts.on k) || held g.facts k) (is_some (f.on k) || held f k)
      (λ e. ⊎_elim (λ q. or_left (is_some (f.on k)) (held f k) (on_before k q)) (λ q. or_right (is_some (f.on k)) (held f k) (less.held_before k q)) (or_cases (is_some (g.facts.on k)) (held g.facts k) e)) in
      omega (arith, a, c, fallen)

  -- a key that was held had no place
  gone_falls : (k : ℕ) → held f k ≡ true → deaths (settle f g).placed b k + 1 ≤ deaths f n k
  unfolding deaths settle
  gone_falls k h =
      let a : bit (is_to_try P k) + bit (is_some (P.on k) || held P k) ≤ 1 = pick (is_new (settle f g) (P.on k)) refl in
      let c : bit (is_some (f.on k) || held f k) ≡ 1 = ap bit (or_right (is_some (f.on k)) (held f k) h) in
      omega (arith, a, c, fallen)
    where
      nowhere : is_some (f.on k) ≡ true → ⊥
      nowhere o = true≢false (sym h ∙ ready_is_not_held f k (settled.placed_are_ready k o))

      exclusive : (o : Bool) → is_some (P.on k) ≡ o → (is_to_try P k ≡ true → held P k ≡ false) → o ≡ false → bit (is_to_try P k) + bit (is_some (P.on k) || held P k) ≤ 1
      exclusive true e x z = absurd (true≢false z)
      exclusive false e x z = let y : bit (is_some (P.on k) || held P k) ≡ bit (held P k) = ap (λ o. bit (o || held P k)) e in let w : bit (is_to_try P k) + bit (held P k) ≤ 1 = both (is_to_try P k) (held P k) x in omega (arith, y, w)
        where
          both : (u v : Bool) → (u ≡ true → v ≡ false) → bit u + bit v ≤ 1
          both true v p = let z : bit v ≡ 0 = ap bit (p refl) in omega (arith, z)
          both false v p = let z : bit v ≤ 1 = one_most v in omega (arith, z)

      pick : (x : Bool) → is_new (settle f g) (P.on k) ≡ x → bit (is_to_try P k) + bit (is_some (P.on k) || held P k) ≤ 1
      pick true e = let y : bit (is_to_try P k) ≡ 0 = ap bit ((back k).news e).1 in let z : bit (is_some (P.on k) || held P k) ≤ 1 = one_most (is_some (P.on k) || held P k) in omega (arith, y, z)
      pick false e = exclusive (is_some (P.on k)) refl (λ u. not-true (held P k) (and_first (not (held P k)) (not (erred P k)) (to_try_parts P k u).1)) (none (is_some (P.on k)) refl)
        where
          none : (o : Bool) → is_some (P.on k) ≡ o → o ≡ false
          none false q = refl
          none true q = absurd (nowhere (on_before k ((back k).olds q e)))

  pub lighter : IsLighter f (settle f g).placed (deaths f n) (deaths (settle f g).placed b)
  unfolding settle
  lighter = record { deaths = deaths_fall; gone = λ x k c e m. gone_falls k (holder_holds f sound x k (ap is_some (copy_is c (f.has x k) e))); unheld = λ k e m. gone_falls k e }

  abbrev pub cs : List ℕ
  cs = from_one f.setting.clients

  abbrev pub told_sum : Facts → ℕ → ℕ
  told_sum h k = total (λ c. told_weight h c k) cs

  abbrev pub news_sum : ℕ → ℕ
  news_sum k = total (λ c. told_cost (settle f g) after c k) cs

  abbrev pub free_sum : ℕ → ℕ
  free_sum k = total (λ i. freed_cost (settle f g) after i k) (from_one (settle f g).placed.last_worker)

  abbrev pub event_sum : ℕ → ℕ
  event_sum k = total (λ i. cond (g.freed i k) (question after k + 1) 0) (from_one (settle f g).placed.last_worker)

  fewer_copies : (k : ℕ) → holder_count g.facts k ≤ holder_count f k
  unfolding holder_count
  fewer_copies k =
      let a : count (λ w. holds g.facts w k) (from_one f.last_worker) ≤ count (λ w. holds f w k) (from_one f.last_worker) = count_less (λ w. holds g.facts w k) (λ w. holds f w k) (from_one f.last_worker) (λ w e. one w (g.facts.has w k) refl e) in
      let c : count (λ w. holds g.facts w k) (from_one g.facts.last_worker) ≡ count (λ w. holds g.facts w k) (from_one f.last_worker) = ap (λ m. count (λ w. holds g.facts w k) (from_one m)) less.last in
      omega (arith, a, c)
    where
      one : (w : ℕ) (o : Option ℕ) → g.facts.has w k ≡ o → is_some o ≡ true → holds f w k ≡ true
      one w None e x = absurd (false≢true x)
      one w (Some c) e x = ap is_some (less.copies w k c e)

  told_at_most : (k : ℕ) → told_sum (settle f g).placed k + news_sum k ≤ client_count f * (most_told b + 2)
  told_at_most k =
      let a = total_plus (λ c. told_weight P c k) (λ c. told_cost (settle f g) after c k) cs in
      let c : total (λ c. told_weight P c k + told_cost (settle f g) after c k) cs ≤ length cs * (most_told b + 2) = total-bound _ (most_told b + 2) cs (λ c. let x : told_weight P c k ≤ 2 = told_two P c k in let y : told_cost (settle f g) after c k ≤ most_told b = told_most (settle f g) after b (most_deaths P b) c k in omega (arith, x, y)) in
      let d : length cs * (most_told b + 2) ≤ client_count f * (most_told b + 2) = mul-le-mul (let z : length cs ≡ f.setting.clients = range_length 1 f.setting.clients in let m : f.setting.clients ≤ max 1 f.setting.clients = omega arith in omega (arith, z, m)) (le_refl (most_told b + 2)) in
      omega (arith, a, c, d)

  key_pays : (k : ℕ) → (key_weight (settle f g).placed b k + told_sum (settle f g).placed k) + (free_sum k + (new_cost (settle f g) after k ((settle f g).placed.on k) + news_sum k))
      ≤ (key_weight f b k + told_sum f k) + (event_sum k + (try_weight f b k + client_count f * (most_told b + 2)))
  unfolding settle
  key_pays k =
      let a = settle_pays (settle f g) k (here k) true (back k) b in
      let c = freed_most (settle f g) k (here k) after in
      let x : try_weight P b k ≡ try_weight f b k = try_by f P ((here k).setting_is ∙ less.setting) b k in
      let y : end_weight P b ≡ end_weight f b = end_by f P ((here k).setting_is ∙ less.setting) b in
      let v : cond (is_some (g.facts.on k)) (end_weight P b) 0 ≡ cond (is_some (g.facts.on k)) (end_weight f b) 0 = ap (λ m. cond (is_some (g.facts.on k)) m 0) y in
      let w : cond (is_some (g.facts.on k)) (end_weight f b) 0 ≤ cond (is_some (f.on k)) (end_weight f b) 0 = where_most (is_some (g.facts.on k)) (is_some (f.on k)) (end_weight f b) (on_before k) in
      let u : holder_count g.facts k * pair_weight b ≤ holder_count f k * pair_weight b = mul-le-mul (fewer_copies k) (le_refl (pair_weight b)) in
      let t = told_at_most k in
      omega (arith, a, c, x, v, w, u, t)
    where
      where_most : (p q : Bool) (m : ℕ) → (p ≡ true → q ≡ true) → cond p m 0 ≤ cond q m 0
      where_most false q m h = omega arith
      where_most true q m h = let e : cond q m 0 ≡ m = ap (λ b. cond b m 0) (h refl) in omega (arith, e)

  pub sched_pays : (sched_weight (settle f g).placed b + (total free_sum (below (keys f)) + (total (λ k. new_cost (settle f g) after k ((settle f g).placed.on k)) (below (keys f)) + total news_sum (below (keys f))))) + (most_asked b + 4)
      ≤ sched_weight f n + total event_sum (below (keys f))
  unfolding settle disturbance_weight
  sched_pays =
      let p = sched_by f P ((here 0).setting_is ∙ less.setting) b in
      let q = sched_by f f refl b in
      let all : total (λ k. (key_weight P b k + told_sum P k) + (free_sum k + (new_cost (settle f g) after k (P.on k) + news_sum k))) ks ≤ total (λ k. (key_weight f b k + told_sum f k) + (event_sum k + (try_weight f b k + client_count f * (most_told b + 2)))) ks = total_at_most _ _ ks key_pays in
      let l1 = total_plus (λ k. key_weight P b k + told_sum P k) (λ k. free_sum k + (new_cost (settle f g) after k (P.on k) + news_sum k)) ks in
      let l2 = total_plus (key_weight P b) (told_sum P) ks in
      let l3 = total_plus free_sum (λ k. new_cost (settle f g) after k (P.on k) + news_sum k) ks in
      let l4 = total_plus (λ k. new_cost (settle f g) after k (P.on k)) news_sum ks in
      let r1 = total_plus (λ k. key_weight f b k + told_sum f k) (λ k. event_sum k + (try_weight f b k + client_count f * (most_told b + 2))) ks in
      let r2 = total_plus (key_weight f b) (told_sum f) ks in
      let r3 = total_plus event_sum (λ k. try_weight f b k + client_count f * (most_told b + 2)) ks in
      let r4 = total_plus (try_weight f b) (λ k. client_count f * (most_told b + 2)) ks in
      let c : total (λ k. client_count f * (most_told b + 2)) ks ≡ client_count f * keys f * (most_told b + 2) = same_total (client_count f * (most_told b + 2)) ks ∙ ap (λ m. m * (client_count f * (most_told b + 2))) (range_length 0 (keys f)) ∙ turn (keys f) (client_count f) (most_told b + 2) in
      let m : sched_weight f b + disturbance_weight f b ≤ sched_weight f (b + 1) = one_more f b in
      let s : sched_weight f (b + 1) ≤ sched_weight f n = sched_rises f (b + 1) n fallen in
      omega (arith, p, q, all, l1, l2, l3, l4, r1, r2, r3, r4, c, m, s)
    where
      ks : List ℕ
      ks = below (keys f)

      turn : (x y z : ℕ) → x * (y * z) ≡ y * x * z
      turn x y z = grind arith
