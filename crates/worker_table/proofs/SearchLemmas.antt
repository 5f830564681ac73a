-- Searches over the keys by the first of a set.
use Rattle.std.proofs.Common.{◌≡◌, ℕ, zero, suc, ◌+◌, ◌-◌, ◌<◌, ◌≤◌, Bool, true, false, ◌||◌, List, [], ◌∷◌, ◌++◌, Option, Some, None, refl, sym, ap, ◌∙◌, subst, arith, cond, filter, find, is_some, IfSome, ⊎_elim}
use Rattle.std.specs.Prelude.{◌==◌}
use Rattle.std.specs.List.{list_any, filter_map, cons_option}
use Rattle.std.specs.Option.{option_map}
use Rattle.std.proofs.lemmas.Bool.{true≢false, cases_lt}
use Rattle.std.proofs.lemmas.List.{append-nil}
use Rattle.cluster_rules.specs.Derived.{below}
use Rattle.cluster_rules.specs.Worker.{has_any, item_at}
use Rattle.cluster_rules.proofs.FunctionLemmas.{same_function}
use Rattle.cluster_rules.proofs.SchedLemmas.{filter-below}
use Rattle.key_sets.specs.Sets.{IsFirst}
use Rattle.worker_facts.proofs.FactLemmas.{find_below, find_push, any_below, any_picked}

pub first_same : (p q : ℕ → Bool) (a : ℕ) (o : Option ℕ) → ((k : ℕ) → p k ≡ q k) → IsFirst p a o → IsFirst q a o
first_same p q a o e h = subst (λ (t : ℕ → Bool). IsFirst t a o) (same_function p q e) h

none_found : (p : ℕ → Bool) (n : ℕ) → ((k : ℕ) → k < n → p k ≡ false) → find p (below n) ≡ None
none_found p zero h = refl
none_found p (suc n) h = ap (λ m. find p (below m)) (let e : suc n ≡ n + 1 = omega arith in e) ∙ find_push p n (none_found p n (λ k l. h k (omega arith))) (h n (omega arith))

pub first_found : (p : ℕ → Bool) (n : ℕ) (o : Option ℕ) → ((k : ℕ) → n ≤ k → p k ≡ false) → IsFirst p 0 o → o ≡ find p (below n)
first_found p n None out h = sym (none_found p n (λ k l. h k (omega arith)))
first_found p n (Some r) out h = sym (find_below p r n (⊎_elim (λ l. l) (λ l. absurd (true≢false (sym h.1 ∙ out r l))) (cases_lt r n)) (none_found p r (λ k l. h.2 k (omega arith) l)) h.1)

-- the keys up to the next one that passes
gap : (p : ℕ → Bool) (a d : ℕ) → ((k : ℕ) → a ≤ k → k < a + d → p k ≡ false) → filter p (below (a + d)) ≡ filter p (below a)
gap p a zero h = ap (λ m. filter p (below m)) (let e : a + 0 ≡ a = omega arith in e)
gap p a (suc d) h =
    ap (λ m. filter p (below m)) (let e : a + suc d ≡ a + d + 1 = omega arith in e)
    ∙ filter-below p (a + d)
    ∙ ap (λ b. filter p (below (a + d)) ++ cond b ((a + d) ∷ []) []) (h (a + d) (omega arith) (omega arith))
    ∙ append-nil (filter p (below (a + d)))
    ∙ gap p a d (λ k l m. h k l (omega arith))

pub filter-gap : (p : ℕ → Bool) (a b : ℕ) → a ≤ b → ((k : ℕ) → a ≤ k → k < b → p k ≡ false) → filter p (below b) ≡ filter p (below a)
filter-gap p a b l h = subst (λ m. filter p (below m) ≡ filter p (below a)) (let e : a + (b - a) ≡ b = omega arith in e) (gap p a (b - a) (λ k m n. h k m (omega arith)))

-- one more key that passes
pub filter-next : (p : ℕ → Bool) (a k : ℕ) → a ≤ k → p k ≡ true → ((j : ℕ) → a ≤ j → j < k → p j ≡ false) → filter p (below (k + 1)) ≡ filter p (below a) ++ k ∷ []
filter-next p a k l e h = filter-below p k ∙ ap (λ b. filter p (below k) ++ cond b (k ∷ []) []) e ∙ ap (λ xs. xs ++ k ∷ []) (filter-gap p a k l h)

-- one more key that is looked up
pub any-push : {A : Type 0} (h : ℕ → Option A) (xs : List ℕ) (k : ℕ) → has_any (filter_map h (xs ++ k ∷ [])) ≡ (has_any (filter_map h xs) || is_some (h k))
any-push {A = A} h [] k = pick (h k)
  where
    pick : (o : Option A) → has_any (cons_option o []) ≡ (false || is_some o)
    pick None = refl
    pick (Some x) = refl
any-push {A = A} h (x ∷ xs) k = pick (h x) (any-push h xs k)
  where
    pick : (o : Option A) → has_any (filter_map h (xs ++ k ∷ [])) ≡ (has_any (filter_map h xs) || is_some (h k)) → has_any (cons_option o (filter_map h (xs ++ k ∷ []))) ≡ (has_any (cons_option o (filter_map h xs)) || is_some (h k))
    pick None r = r
    pick (Some y) r = refl

-- a key that passes and has something
pub any_at : {A : Type 0} (h : ℕ → Option A) (q : ℕ → Bool) (k n : ℕ) → k < n → q k ≡ true → is_some (h k) ≡ true → has_any (filter_map h (filter q (below n))) ≡ true
any_at h q k n l e d = any_picked h q (below n) ∙ any_below (λ j. is_some (cond (q j) (h j) None)) k n l (ap (λ b. is_some (cond b (h k) None)) e ∙ d)

-- a peer that holds a key
pub holder : (p k : ℕ) (hs : List (ℕ × ℕ)) → list_any (λ (i : ℕ × ℕ). i.0 == p) hs ≡ is_some (item_at p k hs)
holder p k [] = refl
holder p k (h ∷ hs) = pick (h.0 == p) (holder p k hs)
  where
    pick : (b : Bool) → list_any (λ (i : ℕ × ℕ). i.0 == p) hs ≡ is_some (item_at p k hs)
        → (b || list_any (λ (i : ℕ × ℕ). i.0 == p) hs) ≡ is_some {T = ℕ × ℕ} (option_map (λ (c : ℕ). (k, c)) (option_map (λ (i : ℕ × ℕ). i.1) (cond b (Some h) (find (λ (i : ℕ × ℕ). i.0 == p) hs))))
    pick true r = refl
    pick false r = r

-- a set without greater numbers has a first below them
pub first_within : (p : ℕ → Bool) (n a : ℕ) (o : Option ℕ) → ((k : ℕ) → n ≤ k → p k ≡ false) → IsFirst p a o → IfSome o (λ r. r < n)
first_within p n a None out h = tt
first_within p n a (Some r) out h = ⊎_elim (λ l. l) (λ l. absurd (true≢false (sym h.1 ∙ out r l))) (cases_lt r n)
