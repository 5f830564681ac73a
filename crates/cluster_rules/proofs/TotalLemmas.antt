-- Sums and counts over lists of numbers.
use Rattle.std.proofs.Common.{◌≡◌, ℕ, suc, suc-mul, ◌+◌, ◌*◌, ◌≤◌, ◌^◌, Bool, true, false, cond, List, [], ◌∷◌, ◌++◌, length, refl, ap, ◌∙◌, arith}
use Rattle.std.specs.List.{filter, Contains}
use Rattle.std.proofs.lemmas.List.FromFn.{length-range_with_len}
use Rattle.cluster_msgs.specs.Shape.{work_of, nbytes_of}
use Rattle.cluster_rules.specs.Sched.{Facts, IsSound, keys, holds, is_on, tasks, occupancy, bytes_held}
use Rattle.cluster_rules.specs.Functions.{total, count}
use Rattle.cluster_rules.specs.Derived.{below}
use Rattle.cluster_rules.proofs.SchedLemmas.{below-more}
use Rattle.cluster_rules.proofs.ChoiceLemmas.{contains_head, contains_tail}

pub total-append : (g : ℕ → ℕ) (xs ys : List ℕ) → total g (xs ++ ys) ≡ total g xs + total g ys
total-append g [] ys = omega arith
total-append g (x ∷ xs) ys = let rest : total g (xs ++ ys) ≡ total g xs + total g ys = total-append g xs ys in omega arith

pub total-push : (g : ℕ → ℕ) (xs : List ℕ) (x : ℕ) → total g (xs ++ x ∷ []) ≡ total g xs + g x
total-push g xs x = let e : total g (xs ++ x ∷ []) ≡ total g xs + (g x + 0) = total-append g xs (x ∷ []) in omega arith

-- one more key
pub total-below : (g : ℕ → ℕ) (n : ℕ) → total g (below (n + 1)) ≡ total g (below n) + g n
total-below g n = ap (total g) (below-more n) ∙ total-push g (below n) n

pub count-below : (p : ℕ → Bool) (n : ℕ) → count p (below (n + 1)) ≡ count p (below n) + cond (p n) 1 0
count-below p n = total-below (λ k. cond (p k) 1 0) n

-- functions that agree at each member have one sum
pub total-agree : (g h : ℕ → ℕ) (xs : List ℕ) → ((x : ℕ) → Contains xs x → g x ≡ h x) → total g xs ≡ total h xs
total-agree g h [] e = refl
total-agree g h (x ∷ xs) e =
    let first : g x ≡ h x = e x (contains_head x xs) in
    let rest : total g xs ≡ total h xs = total-agree g h xs (λ y m. e y (contains_tail x xs y m)) in
    omega arith

-- a sum of bounded numbers is bounded
pub total-bound : (g : ℕ → ℕ) (b : ℕ) (xs : List ℕ) → ((x : ℕ) → g x ≤ b) → total g xs ≤ length xs * b
total-bound g b [] h = omega arith
total-bound g b (x ∷ xs) h = let rest : total g xs ≤ length xs * b = total-bound g b xs h in let first : g x ≤ b = h x in more (length xs) (g x) (total g xs) first rest
  where
    more : (n y t : ℕ) → y ≤ b → t ≤ n * b → y + t ≤ suc n * b
    more n y t h i = rw suc-mul (omega arith)

-- as many members pass as a filter keeps
pub count-filter : (p : ℕ → Bool) (xs : List ℕ) → count p xs ≡ length (filter p xs)
count-filter p [] = refl
count-filter p (x ∷ xs) = pick (p x) (count-filter p xs)
  where
    pick : (b : Bool) → total (λ z. cond (p z) 1 0) xs ≡ length (filter p xs) → cond b 1 0 + total (λ z. cond (p z) 1 0) xs ≡ length (cond b (x ∷ filter p xs) (filter p xs))
    pick true e = omega arith
    pick false e = omega arith

cond_bound : (b : Bool) (x n : ℕ) → x ≤ n → cond b x 0 ≤ n
cond_bound true x n h = h
cond_bound false x n h = omega arith

length-below : (n : ℕ) → length (below n) ≡ n
length-below n = length-range_with_len 0 n

pub tasks_fit : (f : Facts) (w : ℕ) → IsSound f → tasks f w ≤ 32768
unfolding tasks
tasks_fit f w s =
    let most : count (is_on f w) (below (keys f)) ≤ length (below (keys f)) * 1 = total-bound (λ k. cond (is_on f w k) 1 0) 1 (below (keys f)) (λ k. cond_bound (is_on f w k) 1 1 (omega arith)) in
    omega (arith, length-below (keys f), s.shape.few)

pub occupancy_fits : (f : Facts) (w : ℕ) → IsSound f → occupancy f w ≤ 2 ^ 61
unfolding occupancy
occupancy_fits f w s = fits (length (below (keys f))) (total (λ k. cond (is_on f w k) (work_of f.setting.shape k) 0) (below (keys f)))
    (omega (arith, length-below (keys f), s.shape.few))
    (total-bound (λ k. cond (is_on f w k) (work_of f.setting.shape k) 0) (2 ^ 46) (below (keys f)) (λ k. cond_bound (is_on f w k) (work_of f.setting.shape k) (2 ^ 46) (s.shape.light k)))
  where
    fits : (n t : ℕ) → n ≤ 32768 → t ≤ n * 2 ^ 46 → t ≤ 2 ^ 61
    fits n t l h = omega arith

pub bytes_held_fit : (f : Facts) (w : ℕ) → IsSound f → bytes_held f w ≤ 2 ^ 42
unfolding bytes_held
bytes_held_fit f w s = fits (length (below (keys f))) (total (λ k. cond (holds f w k) (nbytes_of f.setting.shape k) 0) (below (keys f)))
    (omega (arith, length-below (keys f), s.shape.few))
    (total-bound (λ k. cond (holds f w k) (nbytes_of f.setting.shape k) 0) (2 ^ 27) (below (keys f)) (λ k. cond_bound (holds f w k) (nbytes_of f.setting.shape k) (2 ^ 27) (s.shape.small k)))
  where
    fits : (n t : ℕ) → n ≤ 32768 → t ≤ n * 2 ^ 27 → t ≤ 2 ^ 42
    fits n t l h = omega arith
