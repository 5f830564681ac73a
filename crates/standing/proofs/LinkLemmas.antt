-- Lists of dependencies and of dependents.
use Rattle.std.proofs.Common.{◌≡◌, ℕ, ◌+◌, ◌<◌, ◌≤◌, Bool, true, false, cond, ◌&&◌, ◌||◌, List, [], ◌∷◌, ◌++◌, refl, sym, ap, ◌∙◌, subst, arith, length, get_or, set, take, ltb, ⊎_elim}
use Rattle.std.specs.List.{AllByRecursion}
use Rattle.std.specs.List.Sorted.{IsStrictlyIncreasing}
use Rattle.std.proofs.lemmas.List.{get_or_past, take_more, length_push}
use Rattle.std.proofs.lemmas.List.Kept.{AllPairs-from_increasing}
use Rattle.std.proofs.lemmas.Bool.{eqb-true, cases_lt, false≢true, lt-ltb}
use Rattle.std.proofs.lemmas.Bool.Decides.{nat_tests}
use Rattle.std.proofs.lemmas.Grind.{elements}
use Rattle.std.proofs.Math.Dec.{eqb}
use Rattle.std.proofs.Math.Bool.{or-true, or-false}
use Rattle.small_facts.proofs.Every.{all_below_weaker, all_push}
use Rattle.small_facts.proofs.Lists.{any_push}
use Rattle.small_facts.proofs.Numbers.{none_below_zero, eqb_turned}
use Rattle.cluster_msgs.specs.Shape.{Shape, IsShape, key_count, deps_of}
use Rattle.cluster_rules.specs.Derived.{is_in}
use Rattle.cluster_rules.proofs.DerivedLemmas.{none_in}
use Rattle.spread_flags.specs.Spread.{IsLinked}
use Rattle.spread_flags.proofs.CountLemmas.{none_before, rec_at}
use Rattle.standing.specs.Links.{IsReverse, IsReverseBelow, linked_to}

pub shape-linked : (g : Shape) → IsShape g → IsLinked g.deps
shape-linked g s = record {
  few = s.few;
  within = λ k. ⊎_elim (λ l. all_below_weaker k (length g.deps) (deps_of g k) (omega arith) (s.below k)) (λ l. subst (λ (xs : List ℕ). AllByRecursion (λ d. d < length g.deps) xs) (sym (get_or_past g.deps k [] l)) tt) (cases_lt k (length g.deps));
  rising = s.rising;
}

set_there : (xs : List (List ℕ)) (i j : ℕ) (v : List ℕ) → i < length xs → get_or (set xs i v) j [] ≡ cond (eqb j i) v (get_or xs j [])
set_there xs i j v l = grind (arith, nat_tests, elements)

-- one more list has the key
pub added_more : (before old new : List (List ℕ)) (xs : List ℕ) (i x key : ℕ) (v : List ℕ) → IsStrictlyIncreasing xs → i < length xs → x ≡ get_or xs i 0 → x < length old
    → ((j : ℕ) → linked_to old j ≡ cond (is_in j (take i xs)) (linked_to before j ++ key ∷ []) (linked_to before j)) → v ≡ linked_to old x ++ key ∷ [] → new ≡ set old x v
    → (j : ℕ) → linked_to new j ≡ cond (is_in j (take (i + 1) xs)) (linked_to before j ++ key ∷ []) (linked_to before j)
added_more before old new xs i x key v up l at low was val now j =
    ap (λ ls. linked_to ls j) now ∙ set_there old x j v low ∙ pick (eqb j x) refl ∙ ap (λ b. cond b (linked_to before j ++ key ∷ []) (linked_to before j)) (sym taken)
  where
    taken : is_in j (take (i + 1) xs) ≡ (is_in j (take i xs) || eqb j x)
    taken = ap (is_in j) (take_more xs i 0 l) ∙ any_push (λ d. eqb d j) (take i xs) (get_or xs i 0) ∙ ap (λ y. is_in j (take i xs) || eqb y j) (sym at) ∙ ap (λ b. is_in j (take i xs) || b) (eqb_turned x j)

    fresh : is_in x (take i xs) ≡ false
    fresh = ap (λ y. is_in y (take i xs)) at ∙ none_before xs (get_or xs i 0) i (λ m n. AllPairs-from_increasing xs up m i 0 n l) (omega arith)

    pick : (b : Bool) → eqb j x ≡ b → cond b v (linked_to old j) ≡ cond (is_in j (take i xs) || b) (linked_to before j ++ key ∷ []) (linked_to before j)
    pick true e = val ∙ ap (λ ls. ls ++ key ∷ []) (was x ∙ ap (λ b. cond b (linked_to before x ++ key ∷ []) (linked_to before x)) fresh) ∙ ap (λ y. linked_to before y ++ key ∷ []) (sym (eqb-true j x e)) ∙ ap (λ b. cond b (linked_to before j ++ key ∷ []) (linked_to before j)) (sym (or-true (is_in j (take i xs))))
    pick false e = was j ∙ ap (λ b. cond b (linked_to before j ++ key ∷ []) (linked_to before j)) (sym (or-false (is_in j (take i xs))))

rising_push : (xs : List ℕ) (x : ℕ) → IsStrictlyIncreasing xs → ((i d : ℕ) → i < length xs → get_or xs i d < x) → IsStrictlyIncreasing (xs ++ x ∷ [])
rising_push xs x up low k l = ⊎_elim (λ m. inner m) (λ m. outer m) (cases_lt (k + 1) (length xs))
  where
    first : (i : ℕ) → i < length xs → get_or (xs ++ x ∷ []) i 0 ≡ get_or xs i 0
    first i m = grind (arith, elements)

    last : (i : ℕ) → i ≡ length xs → ◌≡◌ {A = ℕ} (get_or (xs ++ x ∷ []) i 0) x
    last i m = grind (arith, elements)

    inner : k + 1 < length xs → get_or (xs ++ x ∷ []) k 0 < get_or (xs ++ x ∷ []) (k + 1) 0
    inner m = let u = up k m in omega (arith, u, first k (omega arith), first (k + 1) m)

    outer : length xs ≤ k + 1 → get_or (xs ++ x ∷ []) k 0 < get_or (xs ++ x ∷ []) (k + 1) 0
    outer m = let u = low k 0 (omega (arith, length_push xs x)) in omega (arith, u, first k (omega (arith, length_push xs x)), last (k + 1) (omega (arith, length_push xs x)))

-- no dependent yet
pub reverse-none : (g : Shape) (links : List (List ℕ)) → length links ≡ key_count g → ((j : ℕ) → linked_to links j ≡ []) → IsReverseBelow g links 0
reverse-none g links long empty = record {
  same = long;
  each = λ j k l m. ap (is_in k) (empty j) ∙ ap (λ b. b && is_in j (deps_of g k)) (sym (none_below_zero k));
  above = λ k. subst (λ (xs : List ℕ). AllByRecursion (λ d. k < d) xs) (sym (empty k)) tt;
  low = λ k. subst (λ (xs : List ℕ). AllByRecursion (λ d. d < 0) xs) (sym (empty k)) tt;
  rising = λ k. subst (λ (xs : List ℕ). IsStrictlyIncreasing xs) (sym (empty k)) (λ i l. absurd (omega arith));
}

-- one more key's dependencies
pub reverse-more : (g : Shape) (old new : List (List ℕ)) (n : ℕ) → IsShape g → n < key_count g → IsReverseBelow g old n → length new ≡ length old
    → ((j : ℕ) → linked_to new j ≡ cond (is_in j (deps_of g n)) (linked_to old j ++ n ∷ []) (linked_to old j)) → IsReverseBelow g new (n + 1)
reverse-more g old new n s l h long now = record {
  same = long ∙ h.same;
  each = λ j k a b. ap (is_in k) (now j) ∙ each j k (is_in j (deps_of g n)) refl (h.each j k a b) ∙ ap (λ c. c && is_in j (deps_of g k)) (sym (next k));
  above = λ k. subst (λ (xs : List ℕ). AllByRecursion (λ d. k < d) xs) (sym (now k)) (above k (is_in k (deps_of g n)) refl);
  low = λ k. subst (λ (xs : List ℕ). AllByRecursion (λ d. d < n + 1) xs) (sym (now k)) (lower (is_in k (deps_of g n)) k);
  rising = λ k. subst (λ (xs : List ℕ). IsStrictlyIncreasing xs) (sym (now k)) (rising (is_in k (deps_of g n)) k);
}
  where
    lower : (b : Bool) (k : ℕ) → AllByRecursion (λ d. d < n + 1) (cond b (linked_to old k ++ n ∷ []) (linked_to old k))
    lower true k = all_push (λ d. d < n + 1) (linked_to old k) n (all_below_weaker n (n + 1) (linked_to old k) (omega arith) (h.low k)) (omega arith)
    lower false k = all_below_weaker n (n + 1) (linked_to old k) (omega arith) (h.low k)

    rising : (b : Bool) (k : ℕ) → IsStrictlyIncreasing (cond b (linked_to old k ++ n ∷ []) (linked_to old k))
    rising true k = rising_push (linked_to old k) n (h.rising k) (λ i d m. rec_at (λ y. y < n) (linked_to old k) (h.low k) i d m)
    rising false k = h.rising k

    is_above : (k : ℕ) → is_in k (deps_of g n) ≡ true → k < n
    is_above k e = ⊎_elim (λ m. m) (λ m. absurd (false≢true (sym (none_in k n (deps_of g n) (s.below n) m) ∙ e))) (cases_lt k n)

    above : (k : ℕ) (b : Bool) → is_in k (deps_of g n) ≡ b → AllByRecursion (λ d. k < d) (cond b (linked_to old k ++ n ∷ []) (linked_to old k))
    above k true e = all_push (λ d. k < d) (linked_to old k) n (h.above k) (is_above k e)
    above k false e = h.above k

    next : (k : ℕ) → ltb k (n + 1) ≡ (ltb k n || eqb n k)
    next k = grind (arith, nat_tests)

    or_true : (a d : Bool) → d ≡ true → ((a && d) || true) ≡ ((a || true) && d)
    or_true true true e = refl
    or_true false true e = refl
    or_true a false e = absurd (false≢true e)

    or_false : (a d : Bool) → ((a && d) || false) ≡ ((a || false) && d)
    or_false true true = refl
    or_false true false = refl
    or_false false d = refl

    no_one : (a d : Bool) → d ≡ false → (a && d) ≡ ((a || true) && d)
    no_one true d e = refl
    no_one false true e = absurd (false≢true (sym e))
    no_one false false e = refl

    same_one : (a d : Bool) → (a && d) ≡ ((a || false) && d)
    same_one true d = refl
    same_one false d = refl

    with_it : (j k : ℕ) (c : Bool) → eqb n k ≡ c → is_in j (deps_of g n) ≡ true → ((ltb k n && is_in j (deps_of g k)) || c) ≡ ((ltb k n || c) && is_in j (deps_of g k))
    with_it j k true q e = or_true (ltb k n) (is_in j (deps_of g k)) (ap (λ y. is_in j (deps_of g y)) (sym (eqb-true n k q)) ∙ e)
    with_it j k false q e = or_false (ltb k n) (is_in j (deps_of g k))

    without_it : (j k : ℕ) (c : Bool) → eqb n k ≡ c → is_in j (deps_of g n) ≡ false → (ltb k n && is_in j (deps_of g k)) ≡ ((ltb k n || c) && is_in j (deps_of g k))
    without_it j k true q e = no_one (ltb k n) (is_in j (deps_of g k)) (ap (λ y. is_in j (deps_of g y)) (sym (eqb-true n k q)) ∙ e)
    without_it j k false q e = same_one (ltb k n) (is_in j (deps_of g k))

    each : (j k : ℕ) (b : Bool) → is_in j (deps_of g n) ≡ b → is_in k (linked_to old j) ≡ (ltb k n && is_in j (deps_of g k)) → is_in k (cond b (linked_to old j ++ n ∷ []) (linked_to old j)) ≡ ((ltb k n || eqb n k) && is_in j (deps_of g k))
    each j k true e was = any_push (λ d. eqb d k) (linked_to old j) n ∙ ap (λ c. c || eqb n k) was ∙ with_it j k (eqb n k) refl e
    each j k false e was = was ∙ without_it j k (eqb n k) refl e

-- all keys
pub reverse-all : (g : Shape) (links : List (List ℕ)) (n : ℕ) → IsShape g → n ≡ key_count g → IsReverseBelow g links n → IsReverse g links
reverse-all g links n s e h = record {
  same = h.same;
  each = λ j k a b. h.each j k a b ∙ ap (λ c. c && is_in j (deps_of g k)) (lt-ltb k n (omega (arith, e)));
  above = h.above;
}

pub reverse-linked : (g : Shape) (links : List (List ℕ)) (n : ℕ) → IsShape g → n ≡ key_count g → IsReverseBelow g links n → IsLinked links
reverse-linked g links n s e h = record {
  few = omega (arith, h.same, s.few);
  within = λ k. all_below_weaker n (length links) (linked_to links k) (omega (arith, e, h.same)) (h.low k);
  rising = h.rising;
}
