-- Flags that spread are determined by their seeds and gates.
use Rattle.std.proofs.Common.{◌≡◌, ℕ, zero, suc, ◌+◌, ◌<◌, ◌≤◌, Bool, true, false, not, cond, ◌&&◌, ◌||◌, List, [], ◌∷◌, refl, sym, ap, ◌∙◌, subst, arith, ltb, ⊎_elim}
use Rattle.std.specs.List.{list_any, list_all, range_with_len, AllByRecursion}
use Rattle.std.proofs.lemmas.Bool.{or_cases, eqb-true, true≢false}
use Rattle.std.proofs.lemmas.Bool.Decides.{nat_tests}
use Rattle.std.proofs.Math.Dec.{eqb}
use Rattle.std.proofs.Math.Bool.{or-false, and_comm, and-true}
use Rattle.small_facts.proofs.Numbers.{unequal_below}
use Rattle.small_facts.proofs.Truth.{and_where_true}
use Rattle.cluster_rules.specs.Functions.{count}
use Rattle.cluster_rules.specs.Derived.{IsBelow, below, is_in}
use Rattle.cluster_rules.specs.Sched.{Facts, IsSound, keys, deps, held, wanted, known, need, erred, open_key, waiters, fed, ready}
use Rattle.cluster_rules.proofs.DerivedLemmas.{list_any-agree, All_below, any_none, in_below}
use Rattle.cluster_rules.proofs.SchedLemmas.{known-is, need-is, erred-is}
use Rattle.spread_flags.specs.Spread.{IsSpread, led_to}
use Rattle.spread_flags.proofs.CountLemmas.{any-count}
use Rattle.standing.specs.Links.{IsReverse, linked_to}

in_above : (k j : ℕ) (xs : List ℕ) → AllByRecursion (λ d. j < d) xs → is_in k xs ≡ true → j < k
in_above k j [] h e = absurd (true≢false (sym e))
in_above k j (x ∷ xs) h e =
    ⊎_elim (λ c. subst (λ y. j < y) (eqb-true x k c) h.0) (λ c. in_above k j xs h.1 c) (or_cases (eqb x k) (is_in k xs) e)

-- led to by flags that agree where they lead
led-agree : (out : ℕ → List ℕ) (n : ℕ) (p q : ℕ → Bool) (k : ℕ) → ((j : ℕ) → j < n → is_in k (out j) ≡ true → p j ≡ q j) → led_to out n p k ≡ led_to out n q k
led-agree out n p q k same = list_any-agree (λ j. is_in k (out j) && p j) (λ j. is_in k (out j) && q j) (below n) (All_below 0 n (λ j l m. and_where_true (is_in k (out j)) (p j) (q j) (λ e. same j (omega arith) e)))

-- where links lead down
pub unique_down : (out : ℕ → List ℕ) (n : ℕ) (seeds gates p q : ℕ → Bool) → IsBelow out → IsSpread out n seeds gates p → IsSpread out n seeds gates q → (k : ℕ) → k < n → p k ≡ q k
unique_down out n seeds gates p q low hp hq k l = go n k l (omega arith)
  where
    go : (d k : ℕ) → k < n → n ≤ k + d → p k ≡ q k
    go zero k l m = absurd (omega arith)
    go (suc d) k l m = hp k l ∙ ap (λ b. gates k && (seeds k || b)) (led-agree out n p q k (λ j i e. let a = in_below k j (out j) (low j) e in go d j i (omega arith))) ∙ sym (hq k l)

-- where links lead up
pub unique_up : (out : ℕ → List ℕ) (n : ℕ) (seeds gates p q : ℕ → Bool) → ((k : ℕ) → AllByRecursion (λ d. k < d) (out k)) → IsSpread out n seeds gates p → IsSpread out n seeds gates q → (k : ℕ) → k < n → p k ≡ q k
unique_up out n seeds gates p q high hp hq k l = go n k l l
  where
    go : (d k : ℕ) → k < n → k < d → p k ≡ q k
    go zero k l m = absurd (omega arith)
    go (suc d) k l m = hp k l ∙ ap (λ b. gates k && (seeds k || b)) (led-agree out n p q k (λ j i e. let a = in_above k j (out j) (high j) e in go d j i (omega arith))) ∙ sym (hq k l)

-- the same of other seeds and gates that agree
pub spread-agree : (out : ℕ → List ℕ) (n : ℕ) (s t g h p : ℕ → Bool) → ((k : ℕ) → k < n → s k ≡ t k) → ((k : ℕ) → k < n → g k ≡ h k) → IsSpread out n s g p → IsSpread out n t h p
spread-agree out n s t g h p e f spread k l = spread k l ∙ ap (λ b. b && (s k || led_to out n p k)) (f k l) ∙ ap (λ b. h k && (b || led_to out n p k)) (e k l)

-- what is derived spreads
pub known-spreads : (f : Facts) → IsSound f → IsSpread (deps f) (keys f) (wanted f) (λ _. true) (known f)
known-spreads f s k l = known-is f s k

pub waiting-spreads : (f : Facts) → IsSound f → IsSpread (deps f) (keys f) (wanted f) (open_key f) (λ k. open_key f k && need f k)
waiting-spreads f s k l = ap (λ b. open_key f k && b) (need-is f s k)

-- one key of a range
any_one : (p : ℕ → Bool) (a n x : ℕ) → a ≤ x → x < a + n → list_any (λ j. eqb x j && p j) (range_with_len a n) ≡ p x
any_one p a zero x l m = absurd (omega arith)
any_one p a (suc n) x l m = pick (eqb x a) refl (λ i. any_one p (a + 1) n x i (omega arith))
  where
    next : (x a : ℕ) → a ≤ x → eqb x a ≡ false → a + 1 ≤ x
    next x a h e = grind (arith, nat_tests)

    pick : (b : Bool) → eqb x a ≡ b → (a + 1 ≤ x → list_any (λ j. eqb x j && p j) (range_with_len (a + 1) n) ≡ p x) → ((b && p a) || list_any (λ j. eqb x j && p j) (range_with_len (a + 1) n)) ≡ p x
    pick true e rest =
        let same : x ≡ a = eqb-true x a e in
        ap (λ b. p a || b) (any_none (λ j. eqb x j && p j) (range_with_len (a + 1) n) (All_below (a + 1) n (λ j i o. ap (λ b. b && p j) (unequal_below x j (omega arith))))) ∙ or-false (p a) ∙ ap p (sym same)
    pick false e rest = rest (next x a l e)

any_or : (p q : ℕ → Bool) (xs : List ℕ) → list_any (λ j. p j || q j) xs ≡ (list_any p xs || list_any q xs)
any_or p q [] = refl
any_or p q (x ∷ xs) = ap (λ b. (p x || q x) || b) (any_or p q xs) ∙ swap (p x) (q x) (list_any p xs) (list_any q xs)
  where
    swap : (a b c d : Bool) → ((a || b) || (c || d)) ≡ ((a || c) || (b || d))
    swap true b c d = refl
    swap false true true d = refl
    swap false true false d = refl
    swap false false c d = refl

-- some member passes where some key below is a member that passes
any_members : (p : ℕ → Bool) (xs : List ℕ) (n : ℕ) → AllByRecursion (λ d. d < n) xs → list_any p xs ≡ list_any (λ j. is_in j xs && p j) (below n)
any_members p [] n h = sym (any_none (λ j. false && p j) (below n) (All_below 0 n (λ j l m. refl)))
any_members p (x ∷ xs) n h =
    ap (λ b. p x || b) (any_members p xs n h.1) ∙ ap (λ b. b || list_any (λ j. is_in j xs && p j) (below n)) (sym (any_one p 0 n x (omega arith) (omega (arith, h.0))))
    ∙ sym (any_or (λ j. eqb x j && p j) (λ j. is_in j xs && p j) (below n))
    ∙ list_any-agree (λ j. (eqb x j && p j) || (is_in j xs && p j)) (λ j. (eqb x j || is_in j xs) && p j) (below n) (All_below 0 n (λ j l m. both (eqb x j) (is_in j xs) (p j)))
  where
    both : (a b c : Bool) → ((a && c) || (b && c)) ≡ ((a || b) && c)
    both true true true = refl
    both true true false = refl
    both true false true = refl
    both true false false = refl
    both false b c = refl

pub erred-spreads : (f : Facts) (links : List (List ℕ)) → IsSound f → IsReverse f.setting.shape links → IsSpread (linked_to links) (keys f) f.bad (λ k. not (held f k)) (erred f)
erred-spreads f links s r k l =
    erred-is f s k ∙ ap (λ b. not (held f k) && (f.bad k || b)) (any_members (erred f) (deps f k) (keys f) (lower (deps f k) (s.shape.below k))
    ∙ list_any-agree (λ j. is_in j (deps f k) && erred f j) (λ j. is_in k (linked_to links j) && erred f j) (below (keys f)) (All_below 0 (keys f) (λ j a b. ap (λ c. c && erred f j) (sym (r.each j k (omega arith) l)))))
  where
    lower : (xs : List ℕ) → AllByRecursion (λ d. d < k) xs → AllByRecursion (λ d. d < keys f) xs
    lower [] h = tt
    lower (x ∷ xs) h = (omega (arith, h.0), lower xs h.1)

-- how many wait, by other flags that agree
count-agree : (p q : ℕ → Bool) (xs : List ℕ) → AllByRecursion (λ x. p x ≡ q x) xs → count p xs ≡ count q xs
count-agree p q [] h = refl
count-agree p q (x ∷ xs) h =
    let rest : count p xs ≡ count q xs = count-agree p q xs h.1 in
    let first : ◌≡◌ {A = ℕ} (cond (p x) 1 0) (cond (q x) 1 0) = ap (λ b. cond b 1 0) h.0 in
    omega (arith, rest, first)

pub waiters-counted : (f : Facts) (p : ℕ → Bool) (k : ℕ) → ((j : ℕ) → j < keys f → p j ≡ (open_key f j && need f j)) → count (λ j. is_in k (deps f j) && p j) (below (keys f)) ≡ waiters f k
unfolding waiters
waiters-counted f p k same = count-agree (λ j. is_in k (deps f j) && p j) (λ j. is_in k (deps f j) && (need f j && open_key f j)) (below (keys f)) (All_below 0 (keys f) (λ j l m. ap (λ b. is_in k (deps f j) && b) (same j (omega arith) ∙ and_comm (open_key f j) (need f j))))

-- a key is needed where it is wanted or some dependent waits for it
pub need-waited : (f : Facts) → IsSound f → (k : ℕ) → (wanted f k || ltb 0 (waiters f k)) ≡ need f k
unfolding waiters
need-waited f s k =
    ap (λ b. wanted f k || b) (sym (any-count (λ j. is_in k (deps f j) && (need f j && open_key f j)) (below (keys f)))
    ∙ list_any-agree (λ j. is_in k (deps f j) && (need f j && open_key f j)) (λ j. is_in k (deps f j) && (open_key f j && need f j)) (below (keys f)) (All_below 0 (keys f) (λ j l m. ap (λ b. is_in k (deps f j) && b) (and_comm (need f j) (open_key f j)))))
    ∙ sym (need-is f s k)

-- not all are held where some are not
not_all : (p : ℕ → Bool) (xs : List ℕ) → list_any (λ d. not (p d)) xs ≡ not (list_all p xs)
not_all p [] = refl
not_all p (x ∷ xs) = ap (λ b. not (p x) || b) (not_all p xs) ∙ pick (p x) (list_all p xs)
  where
    pick : (a b : Bool) → (not a || not b) ≡ not (a && b)
    pick true b = refl
    pick false b = refl

-- what is not held, as flags that spread no further
pub missing-flags : (out : ℕ → List ℕ) (n : ℕ) (s g p h : ℕ → Bool) → ((k : ℕ) → k < n → s k ≡ true) → ((k : ℕ) → k < n → g k ≡ h k) → IsSpread out n s g p → (k : ℕ) → k < n → p k ≡ h k
missing-flags out n s g p h e f spread k l = spread k l ∙ ap (λ b. g k && (b || led_to out n p k)) (e k l) ∙ and-true (g k) ∙ f k l

pub fed-missing : (f : Facts) (links : List (List ℕ)) (p : ℕ → Bool) → IsSound f → IsReverse f.setting.shape links → ((j : ℕ) → j < keys f → p j ≡ not (held f j)) → (k : ℕ) → k < keys f
    → ltb 0 (count (λ j. is_in k (linked_to links j) && p j) (below (keys f))) ≡ not (fed f k)
fed-missing f links p s r same k l =
    sym (any-count (λ j. is_in k (linked_to links j) && p j) (below (keys f)))
    ∙ list_any-agree (λ j. is_in k (linked_to links j) && p j) (λ j. is_in j (deps f k) && not (held f j)) (below (keys f)) (All_below 0 (keys f) (λ j a b. ap (λ c. c && p j) (r.each j k (omega arith) l) ∙ ap (λ c. is_in j (deps f k) && c) (same j (omega arith))))
    ∙ sym (any_members (λ j. not (held f j)) (deps f k) (keys f) (lower (deps f k) (s.shape.below k)))
    ∙ not_all (held f) (deps f k)
  where
    lower : (xs : List ℕ) → AllByRecursion (λ d. d < k) xs → AllByRecursion (λ d. d < keys f) xs
    lower [] h = tt
    lower (x ∷ xs) h = (omega (arith, h.0), lower xs h.1)

pub ready-by : (f : Facts) (k : ℕ) (w m : Bool) → w ≡ (open_key f k && need f k) → m ≡ not (fed f k) → (w && not m) ≡ ready f k
unfolding ready
ready-by f k w m e h = ap (λ b. b && not m) e ∙ ap (λ b. (open_key f k && need f k) && not b) h ∙ turn (open_key f k) (need f k) (fed f k)
  where
    turn : (a b c : Bool) → ((a && b) && not (not c)) ≡ ((b && a) && c)
    turn true true true = refl
    turn true true false = refl
    turn true false c = refl
    turn false true c = refl
    turn false false c = refl
