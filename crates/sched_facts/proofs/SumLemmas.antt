-- Sums after one write.
use Rattle.std.proofs.Common.{◌≡◌, ℕ, zero, suc, ◌+◌, ◌-◌, ◌<◌, ◌≤◌, Bool, true, false, cond, ◌&&◌, ◌||◌, List, [], ◌∷◌, Option, is_some, refl, sym, ap, ◌∙◌, arith, ⊎_elim, ◌⊎◌, ltb}
use Rattle.std.proofs.Math.Dec.{eqb}
use Rattle.std.proofs.lemmas.Bool.{eqb-true}
use Rattle.std.specs.List.{range_with_len, list_any}
use Rattle.std.proofs.Math.Bool.{and-false}
use Rattle.std.proofs.Math.Nat.{zero-add}
use Rattle.small_facts.proofs.Numbers.{next_positive, unequal_next, none_plus, eqb_turned, unequal_over, equal_or_above, eqb_self}
use Rattle.cluster_msgs.specs.Shape.{work_of, nbytes_of}
use Rattle.cluster_rules.specs.Functions.{put, put_pair, from_one, total, count}
use Rattle.cluster_rules.specs.Derived.{below}
use Rattle.cluster_rules.specs.Sched.{Facts, keys, holds, is_for, tasks, occupancy, bytes_held, holder_count}
use Rattle.sched_facts.specs.Kept.{want_count}

-- above the changed place
total_away : (g h : ℕ → ℕ) (k x : ℕ) → ((j : ℕ) → h j ≡ cond (eqb j k) x (g j)) → (a n : ℕ) → k < a → total h (range_with_len a n) ≡ total g (range_with_len a n)
total_away g h k x e a zero l = refl
total_away g h k x e a (suc n) l =
    let first : h a ≡ g a = e a ∙ ap (λ b. cond b x (g a)) (unequal_over a k l) in
    let rest : total h (range_with_len (a + 1) n) ≡ total g (range_with_len (a + 1) n) = total_away g h k x e (a + 1) n (omega arith) in
    omega arith

-- the sum after one number changed
pub total_put : (g h : ℕ → ℕ) (k x : ℕ) → ((j : ℕ) → h j ≡ cond (eqb j k) x (g j)) → (a n : ℕ) → a ≤ k → k < a + n → total h (range_with_len a n) + g k ≡ total g (range_with_len a n) + x
total_put g h k x e a zero l m = absurd (omega arith)
total_put g h k x e a (suc n) l m = ⊎_elim here (λ i. above i (total_put g h k x e (a + 1) n i (omega arith))) (equal_or_above a k l)
  where
    here : a ≡ k → h a + total h (range_with_len (a + 1) n) + g k ≡ g a + total g (range_with_len (a + 1) n) + x
    here i =
        let first : h a ≡ x = e a ∙ ap (λ b. cond b x (g a)) (ap (λ y. eqb a y) (sym i) ∙ eqb_self a) in
        let same : g a ≡ g k = ap g i in
        let rest : total h (range_with_len (a + 1) n) ≡ total g (range_with_len (a + 1) n) = total_away g h k x e (a + 1) n (omega arith) in
        omega arith

    above : a + 1 ≤ k → total h (range_with_len (a + 1) n) + g k ≡ total g (range_with_len (a + 1) n) + x → h a + total h (range_with_len (a + 1) n) + g k ≡ g a + total g (range_with_len (a + 1) n) + x
    above i rest =
        let first : h a ≡ g a = e a ∙ ap (λ b. cond b x (g a)) (unequal_next a k i) in
        omega arith

-- functions with the same values have one sum
pub total_same : (g h : ℕ → ℕ) → ((x : ℕ) → g x ≡ h x) → (xs : List ℕ) → total g xs ≡ total h xs
total_same g h e xs = ap (λ f. total f xs) (λ i x. e x i)

-- a table by key
pub place_sum : {A : Type 0} (p : ℕ → A → ℕ) (t : ℕ → A) (n k : ℕ) (to : A) → k < n → total (λ j. p j (put t k to j)) (below n) + p k (t k) ≡ total (λ j. p j (t j)) (below n) + p k to
place_sum p t n k to l = total_put (λ j. p j (t j)) (λ j. p j (put t k to j)) k (p k to) (λ j. pick j (eqb j k) refl) 0 n (omega arith) (omega arith)
  where
    pick : (j : ℕ) (b : Bool) → eqb j k ≡ b → p j (cond b to (t j)) ≡ cond b (p k to) (p j (t j))
    pick j true e = ap (λ i. p i to) (eqb-true j k e)
    pick j false e = refl

-- a line of a table by worker and key
pub line_sum : {A : Type 0} (p : ℕ → A → ℕ) (t : ℕ → ℕ → A) (n w k : ℕ) (to : A) → k < n → (v : ℕ) → total (λ j. p j (put_pair t w k to v j)) (below n) + cond (eqb v w) (p k (t w k)) 0 ≡ total (λ j. p j (t v j)) (below n) + cond (eqb v w) (p k to) 0
line_sum p t n w k to l v = pick (eqb v w) refl
  where
    pick : (b : Bool) → eqb v w ≡ b → total (λ j. p j (cond (b && eqb j k) to (t v j))) (below n) + cond b (p k (t w k)) 0 ≡ total (λ j. p j (t v j)) (below n) + cond b (p k to) 0
    pick true e = ap (λ u. total (λ j. p j (cond (eqb j k) to (t v j))) (below n) + p k (t u k)) (sym (eqb-true v w e)) ∙ place_sum p (t v) n k to l
    pick false e = refl

-- a column of it
pub column_sum : {A : Type 0} (p : A → ℕ) (t : ℕ → ℕ → A) (n w k : ℕ) (to : A) → 1 ≤ w → w ≤ n → (j : ℕ) → total (λ v. p (put_pair t w k to v j)) (from_one n) + cond (eqb j k) (p (t w k)) 0 ≡ total (λ v. p (t v j)) (from_one n) + cond (eqb j k) (p to) 0
column_sum p t n w k to l m j = pick (eqb j k) refl
  where
    at : (v : ℕ) (c : Bool) → p (cond (c && true) to (t v j)) ≡ cond c (p to) (p (t v j))
    at v true = refl
    at v false = refl

    pick : (b : Bool) → eqb j k ≡ b → total (λ v. p (cond (eqb v w && b) to (t v j))) (from_one n) + cond b (p (t w k)) 0 ≡ total (λ v. p (t v j)) (from_one n) + cond b (p to) 0
    pick true e = ap (λ i. total (λ v. p (cond (eqb v w && true) to (t v j))) (from_one n) + p (t w i)) (sym (eqb-true j k e)) ∙ total_put (λ v. p (t v j)) (λ v. p (cond (eqb v w && true) to (t v j))) w (p to) (λ v. at v (eqb v w)) 1 n l (omega arith)
    pick false e = ap (λ s. s + 0) (total_same (λ v. p (cond (eqb v w && false) to (t v j))) (λ v. p (t v j)) (λ v. ap (λ b. p (cond b to (t v j))) (and-false (eqb v w))) (from_one n))

-- the sums of the facts
pub tasks-placed : (f : Facts) (k : ℕ) (to : Option (ℕ × ℕ)) (st : ℕ → Option (ℕ × Bool)) → k < keys f → (w : ℕ) → tasks (record f { on = put f.on k to; steal = st }) w + cond (is_for w (f.on k)) 1 0 ≡ tasks f w + cond (is_for w to) 1 0
unfolding tasks
tasks-placed f k to st l w = place_sum (λ j o. cond (is_for w o) 1 0) f.on (keys f) k to l

pub occupancy-placed : (f : Facts) (k : ℕ) (to : Option (ℕ × ℕ)) (st : ℕ → Option (ℕ × Bool)) → k < keys f → (w : ℕ) → occupancy (record f { on = put f.on k to; steal = st }) w + cond (is_for w (f.on k)) (work_of f.setting.shape k) 0 ≡ occupancy f w + cond (is_for w to) (work_of f.setting.shape k) 0
unfolding occupancy
occupancy-placed f k to st l w = place_sum (λ j o. cond (is_for w o) (work_of f.setting.shape j) 0) f.on (keys f) k to l

pub bytes-copied : (f : Facts) (w k : ℕ) (to : Option ℕ) → k < keys f → (v : ℕ) → bytes_held (record f { has = put_pair f.has w k to }) v + cond (eqb v w) (cond (holds f w k) (nbytes_of f.setting.shape k) 0) 0 ≡ bytes_held f v + cond (eqb v w) (cond (is_some to) (nbytes_of f.setting.shape k) 0) 0
unfolding bytes_held
bytes-copied f w k to l v = line_sum (λ j o. cond (is_some o) (nbytes_of f.setting.shape j) 0) f.has (keys f) w k to l v

pub holders-copied : (f : Facts) (w k : ℕ) (to : Option ℕ) → 1 ≤ w → w ≤ f.last_worker → (j : ℕ) → holder_count (record f { has = put_pair f.has w k to }) j + cond (eqb j k) (cond (holds f w k) 1 0) 0 ≡ holder_count f j + cond (eqb j k) (cond (is_some to) 1 0) 0
unfolding holder_count
holders-copied f w k to l m j = column_sum (λ o. cond (is_some o) 1 0) f.has f.last_worker w k to l m j

pub wanters-put : (f : Facts) (c k : ℕ) (to : Bool) → 1 ≤ c → c ≤ f.setting.clients → (j : ℕ) → want_count (record f { want = put_pair f.want c k to }) j + cond (eqb j k) (cond (f.want c k) 1 0) 0 ≡ want_count f j + cond (eqb j k) (cond to 1 0) 0
unfolding want_count
wanters-put f c k to l m j = column_sum (λ b. cond b 1 0) f.want f.setting.clients c k to l m j

-- some member passes where the count is not 0
pub any-count : (p : ℕ → Bool) (xs : List ℕ) → list_any p xs ≡ ltb 0 (count p xs)
any-count p [] = refl
any-count p (x ∷ xs) = pick (p x) (any-count p xs)
  where
    pick : (b : Bool) → list_any p xs ≡ ltb 0 (count p xs) → (b || list_any p xs) ≡ ltb 0 (cond b 1 0 + count p xs)
    pick true e = sym (next_positive (count p xs))
    pick false e = e ∙ ap (ltb 0) (sym (zero-add (count p xs)))

-- a sum that was raised or lowered at one place
pub raised_there : (old : ℕ → ℕ) (w by_ v : ℕ) → put old w (old w + by_) v ≡ old v + cond (eqb w v) by_ 0
raised_there old w by_ v = ap (λ b. cond b (old w + by_) (old v)) (eqb_turned v w) ∙ pick (eqb w v) refl
  where
    pick : (b : Bool) → eqb w v ≡ b → cond b (old w + by_) (old v) ≡ old v + cond b by_ 0
    pick true e = ap (λ u. old u + by_) (eqb-true w v e)
    pick false e = none_plus (old v)

pub lowered_there : (old : ℕ → ℕ) (w by_ v : ℕ) → put old w (old w - by_) v ≡ old v - cond (eqb w v) by_ 0
lowered_there old w by_ v = ap (λ b. cond b (old w - by_) (old v)) (eqb_turned v w) ∙ pick (eqb w v) refl
  where
    plain : (n : ℕ) → n ≡ n - 0
    plain n = omega arith

    pick : (b : Bool) → eqb w v ≡ b → cond b (old w - by_) (old v) ≡ old v - cond b by_ 0
    pick true e = ap (λ u. old u - by_) (eqb-true w v e)
    pick false e = plain (old v)
