-- What is kept of the keys that pass, and searches over them.
use Rattle.std.proofs.Common.{◌≡◌, ℕ, zero, suc, ◌+◌, ◌-◌, ◌<◌, ◌≤◌, Bool, true, false, ◌||◌, List, [], ◌∷◌, ◌++◌, Option, Some, None, is_some, refl, ap, ◌∙◌, arith, cond, filter, subst, not, length}
use Rattle.std.specs.Prelude.{◌==◌}
use Rattle.std.specs.List.{list_any, filter_map, cons_option}
use Rattle.std.proofs.lemmas.List.Elements.{filter_map-append}
use Rattle.std.proofs.Math.Bool.{or-false}
use Rattle.std.proofs.Math.Dec.{eqb-suc-zero}
use Rattle.std.proofs.lemmas.List.{append-nil}
use Rattle.std.proofs.lemmas.List.Folds.{list_any-append}
use Rattle.small_facts.proofs.Ranges.{range_has}
use Rattle.cluster_rules.specs.Derived.{below}
use Rattle.cluster_rules.specs.Worker.{has_any}
use Rattle.cluster_rules.proofs.SchedLemmas.{below-more, filter-below}
use Rattle.cluster_rules.proofs.Members.{any_some}

pub any_below : (p : ℕ → Bool) (j n : ℕ) → j < n → p j ≡ true → list_any p (below n) ≡ true
any_below p j n l e = any_some p (below n) j (range_has 0 n j (omega arith) (omega arith)) e

pub any_push : (p : ℕ → Bool) (n : ℕ) → list_any p (below n) ≡ false → p n ≡ false → list_any p (below (n + 1)) ≡ false
any_push p n h e = ap (list_any p) (below-more n) ∙ list_any-append p (below n) (n ∷ []) ∙ ap (λ b. b || (p n || false)) h ∙ ap (λ b. b || false) e

pub picked : {A : Type 0} (h : ℕ → Option A) (q : ℕ → Bool) (n : ℕ) → filter_map h (filter q (below (n + 1))) ≡ filter_map h (filter q (below n)) ++ cons_option (cond (q n) (h n) None) []
picked h q n =
    ap (filter_map h) (filter-below q n)
    ∙ filter_map-append h (filter q (below n)) (cond (q n) (n ∷ []) [])
    ∙ ap (λ xs. filter_map h (filter q (below n)) ++ xs) (last (q n))
  where
    last : (b : Bool) → filter_map h (cond b (n ∷ []) []) ≡ cons_option (cond b (h n) None) []
    last true = refl
    last false = refl

pub any_picked : {A : Type 0} (h : ℕ → Option A) (q : ℕ → Bool) (ks : List ℕ) → has_any (filter_map h (filter q ks)) ≡ list_any (λ k. is_some (cond (q k) (h k) None)) ks
any_picked h q [] = refl
any_picked {A = A} h q (k ∷ ks) = pick (q k) (h k) (any_picked h q ks)
  where
    inner : (v : Option A) → has_any (filter_map h (filter q ks)) ≡ list_any (λ j. is_some (cond (q j) (h j) None)) ks → has_any (cons_option v (filter_map h (filter q ks))) ≡ (is_some v || list_any (λ j. is_some (cond (q j) (h j) None)) ks)
    inner None r = r
    inner (Some x) r = refl

    pick : (b : Bool) (v : Option A) → has_any (filter_map h (filter q ks)) ≡ list_any (λ j. is_some (cond (q j) (h j) None)) ks
        → has_any (filter_map h (cond b (k ∷ filter q ks) (filter q ks))) ≡ (is_some (cond b (h k) None) || list_any (λ j. is_some (cond (q j) (h j) None)) ks)
    pick true v r = inner (h k) r
    pick false v r = r

-- nothing of the keys in between
any-step : (p : ℕ → Bool) (a d : ℕ) → ((k : ℕ) → a ≤ k → k < a + d → p k ≡ false) → list_any p (below (a + d)) ≡ list_any p (below a)
any-step p a zero h = ap (λ m. list_any p (below m)) (let e : a + 0 ≡ a = omega arith in e)
any-step p a (suc d) h =
    ap (λ m. list_any p (below m)) (let e : a + suc d ≡ a + d + 1 = omega arith in e)
    ∙ ap (list_any p) (below-more (a + d)) ∙ list_any-append p (below (a + d)) ((a + d) ∷ [])
    ∙ ap (λ b. list_any p (below (a + d)) || (b || false)) (h (a + d) (omega arith) (omega arith))
    ∙ or-false (list_any p (below (a + d)))
    ∙ any-step p a d (λ k l m. h k l (omega arith))

pub any-gap : (p : ℕ → Bool) (a b : ℕ) → a ≤ b → ((k : ℕ) → a ≤ k → k < b → p k ≡ false) → list_any p (below b) ≡ list_any p (below a)
any-gap p a b l h = subst (λ m. list_any p (below m) ≡ list_any p (below a)) (let e : a + (b - a) ≡ b = omega arith in e) (any-step p a (b - a) (λ k m n. h k m (omega arith)))

picked-step : {A : Type 0} (h : ℕ → Option A) (q : ℕ → Bool) (a d : ℕ) → ((k : ℕ) → a ≤ k → k < a + d → cond (q k) (h k) None ≡ None) → filter_map h (filter q (below (a + d))) ≡ filter_map h (filter q (below a))
picked-step h q a zero n = ap (λ m. filter_map h (filter q (below m))) (let e : a + 0 ≡ a = omega arith in e)
picked-step h q a (suc d) n =
    ap (λ m. filter_map h (filter q (below m))) (let e : a + suc d ≡ a + d + 1 = omega arith in e)
    ∙ picked h q (a + d)
    ∙ ap (λ o. filter_map h (filter q (below (a + d))) ++ cons_option o []) (n (a + d) (omega arith) (omega arith))
    ∙ append-nil (filter_map h (filter q (below (a + d))))
    ∙ picked-step h q a d (λ k l m. n k l (omega arith))

pub picked-gap : {A : Type 0} (h : ℕ → Option A) (q : ℕ → Bool) (a b : ℕ) → a ≤ b → ((k : ℕ) → a ≤ k → k < b → cond (q k) (h k) None ≡ None) → filter_map h (filter q (below b)) ≡ filter_map h (filter q (below a))
picked-gap h q a b l n = subst (λ m. filter_map h (filter q (below m)) ≡ filter_map h (filter q (below a))) (let e : a + (b - a) ≡ b = omega arith in e) (picked-step h q a (b - a) (λ k m i. n k m (omega arith)))

pub any_is : {A : Type 0} (xs : List A) → not (length xs == 0) ≡ has_any xs
any_is [] = refl
any_is (x ∷ xs) = ap not (eqb-suc-zero (length xs))
