-- The idle workers, as far as a loop has come, fit 64 places.
use Rattle.std.proofs.Common.{◌≡◌, ℕ, zero, suc, ◌+◌, ◌-◌, ◌<◌, ◌≤◌, Bool, true, false, cond, ◌&&◌, List, [], ◌∷◌, ◌++◌, length, refl, sym, ap, ◌∙◌, subst, arith, append-nil, length-append}
use Rattle.std.proofs.lemmas.Bool.{and_parts}
use Rattle.std.specs.List.{filter, range_with_len}
use Rattle.small_facts.proofs.Lists.{filter_fewer}
use Rattle.cluster_rules.specs.Functions.{from_one}
use Rattle.cluster_rules.specs.Sched.{Facts, IsSound, connected, workers}
use Rattle.cluster_rules.proofs.SchedLemmas.{filter-more}
use Rattle.balance_policy.specs.Offers.{is_idle}

-- the idle ones of the first workers
abbrev pub idle_of : Facts → ℕ → List ℕ
idle_of f n = filter (is_idle f) (filter (connected f) (from_one n))

more : (p : ℕ → Bool) (a n : ℕ) → length (filter p (range_with_len a (n + 1))) ≡ length (filter p (range_with_len a n)) + cond (p (a + n)) 1 0
more p a n = ap length (filter-more p a n) ∙ length-append (filter p (range_with_len a n)) (cond (p (a + n)) ((a + n) ∷ []) []) ∙ ap (λ m. length (filter p (range_with_len a n)) + m) (one (p (a + n)))
  where
    one : (b : Bool) → length (cond b ((a + n) ∷ []) []) ≡ cond b 1 0
    one true = refl
    one false = refl

-- a longer range keeps no fewer
longer : (p : ℕ → Bool) (a n m : ℕ) → length (filter p (range_with_len a n)) ≤ length (filter p (range_with_len a (n + m)))
longer p a n zero = let e : n + 0 ≡ n = omega arith in rw e (omega arith)
longer p a n (suc m) =
    let e : n + suc m ≡ (n + m) + 1 = omega arith in
    rw e (omega (arith, longer p a n m, more p a (n + m)))

pub room : (f : Facts) → IsSound f → (n : ℕ) (b : Bool) (xs : List ℕ) → n < f.last_worker → xs ≡ idle_of f n → b ≡ (connected f (n + 1) && is_idle f (n + 1)) → b ≡ true → length xs < 64
room f s n b xs l e q t =
    let d : 1 + n ≡ n + 1 = omega arith in
    let yes : connected f (1 + n) ≡ true = subst (λ w. connected f w ≡ true) (sym d) (and_parts (connected f (n + 1)) (is_idle f (n + 1)) (sym q ∙ t)).0 in
    let grown : length (filter (connected f) (from_one (n + 1))) ≡ length (filter (connected f) (from_one n)) + 1 = more (connected f) 1 n ∙ ap (λ c. length (filter (connected f) (from_one n)) + cond c 1 0) yes in
    let all : length (filter (connected f) (from_one (n + 1))) ≤ length (filter (connected f) (from_one ((n + 1) + (f.last_worker - (n + 1))))) = longer (connected f) 1 (n + 1) (f.last_worker - (n + 1)) in
    let last : (n + 1) + (f.last_worker - (n + 1)) ≡ f.last_worker = omega arith in
    let all' : length (filter (connected f) (from_one (n + 1))) ≤ length (workers f) = subst (λ m. length (filter (connected f) (from_one (n + 1))) ≤ length (filter (connected f) (from_one m))) last all in
    let here : length xs ≤ length (filter (connected f) (from_one n)) = subst (λ l. length l ≤ length (filter (connected f) (from_one n))) (sym e) (filter_fewer (is_idle f) (filter (connected f) (from_one n))) in
    omega (arith, s.few_workers)

joined : (f : Facts) (n : ℕ) → idle_of f (n + 1) ≡ idle_of f n ++ cond (connected f (n + 1) && is_idle f (n + 1)) ((n + 1) ∷ []) []
joined f n =
    let d : 1 + n ≡ n + 1 = omega arith in
    ap (filter (is_idle f)) (filter-more (connected f) 1 n)
    ∙ apart (filter (connected f) (from_one n)) (connected f (1 + n)) (1 + n)
    ∙ ap (λ w. idle_of f n ++ cond (connected f w && is_idle f w) (w ∷ []) []) d
  where
    two : (xs : List ℕ) (w : ℕ) → filter (is_idle f) (xs ++ w ∷ []) ≡ filter (is_idle f) xs ++ cond (is_idle f w) (w ∷ []) []
    two [] w = refl
    two (x ∷ xs) w = pick (is_idle f x) (two xs w)
      where
        pick : (b : Bool) → filter (is_idle f) (xs ++ w ∷ []) ≡ filter (is_idle f) xs ++ cond (is_idle f w) (w ∷ []) [] → cond b (x ∷ filter (is_idle f) (xs ++ w ∷ [])) (filter (is_idle f) (xs ++ w ∷ [])) ≡ cond b (x ∷ filter (is_idle f) xs) (filter (is_idle f) xs) ++ cond (is_idle f w) (w ∷ []) []
        pick true e = ap (λ l. x ∷ l) e
        pick false e = e

    apart : (xs : List ℕ) (b : Bool) (w : ℕ) → filter (is_idle f) (xs ++ cond b (w ∷ []) []) ≡ filter (is_idle f) xs ++ cond (b && is_idle f w) (w ∷ []) []
    apart xs true w = two xs w
    apart xs false w = ap (filter (is_idle f)) (append-nil xs) ∙ sym (append-nil (filter (is_idle f) xs))

-- one more worker, where it is idle
pub taken : (f : Facts) (n : ℕ) (b : Bool) (xs ys : List ℕ) → xs ≡ idle_of f n → b ≡ (connected f (n + 1) && is_idle f (n + 1)) → b ≡ true → ys ≡ xs ++ (n + 1) ∷ [] → ys ≡ idle_of f (n + 1)
taken f n b xs ys e q t h = h ∙ ap (λ l. l ++ (n + 1) ∷ []) e ∙ ap (λ c. idle_of f n ++ cond c ((n + 1) ∷ []) []) (sym t ∙ q) ∙ sym (joined f n)

pub passed : (f : Facts) (n : ℕ) (b : Bool) (xs : List ℕ) → xs ≡ idle_of f n → b ≡ (connected f (n + 1) && is_idle f (n + 1)) → b ≡ false → xs ≡ idle_of f (n + 1)
passed f n b xs e q t = e ∙ sym (append-nil (idle_of f n)) ∙ ap (λ c. idle_of f n ++ cond c ((n + 1) ∷ []) []) (sym t ∙ q) ∙ sym (joined f n)
