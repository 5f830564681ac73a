-- A key loses each worker once: with the workers that are connected it has lost at most as many as ever joined.
use Rattle.std.proofs.Common.{◌≡◌, ℕ, zero, suc, ◌+◌, ◌<◌, ◌≤◌, Bool, true, false, cond, List, [], ◌∷◌, ◌++◌, length, Option, None, refl, sym, ap, ◌∙◌, arith, ⊎_elim, ◌⊎◌, is_some, length-append}
use Rattle.std.specs.List.{filter, range_with_len}
use Rattle.std.proofs.lemmas.Bool.{false≢true, eqb-true, or_cases, or_left, or_right}
use Rattle.std.proofs.lemmas.List.Elements.{filter-append}
use Rattle.std.proofs.Math.Dec.{eqb}
use Rattle.small_facts.proofs.Numbers.{eqb_self}
use Rattle.small_facts.proofs.Ranges.{range_push}
use Rattle.cluster_msgs.specs.declared.cores.SchedEvent.{SchedEvent}
use Rattle.cluster_msgs.specs.declared.cores.SchedEvent.TheVariants.{Join, Leave, FromWorker, FromClient, Balance, Evict, Replicate}
use Rattle.cluster_rules.specs.Functions.{from_one}
use Rattle.cluster_rules.specs.Derived.{is_in}
use Rattle.cluster_rules.specs.Sched.{Facts, Setting, IsSound, sched_opening, is_on, connected, workers, known}
use Rattle.cluster_rules.specs.SchedTable.{change, left, sched_takes}
use Rattle.cluster_rules.specs.SchedStep.{sched_step}
use Rattle.cluster_rules.proofs.SchedFrame.{step_settles, in_range}
use Rattle.cluster_laws.specs.Losses.{AreFew}
use Rattle.cluster_laws.proofs.Framed.{IsFramed, change_framed}

no_more : (p q : ℕ → Bool) (xs : List ℕ) → ((x : ℕ) → is_in x xs ≡ true → p x ≡ true → q x ≡ true) → length (filter p xs) ≤ length (filter q xs)
no_more p q [] h = omega arith
no_more p q (x ∷ xs) h = pick (p x) (q x) refl refl (no_more p q xs (λ y i. h y (or_right (eqb x y) (is_in y xs) i)))
  where
    pick : (a b : Bool) → p x ≡ a → q x ≡ b → length (filter p xs) ≤ length (filter q xs) → length (cond a (x ∷ filter p xs) (filter p xs)) ≤ length (cond b (x ∷ filter q xs) (filter q xs))
    pick true true e g r = omega arith
    pick true false e g r = absurd (false≢true (sym g ∙ h x (or_left (eqb x x) (is_in x xs) (eqb_self x)) e))
    pick false true e g r = omega arith
    pick false false e g r = r

one_less : (p q : ℕ → Bool) (xs : List ℕ) → ((x : ℕ) → p x ≡ true → q x ≡ true) → (w : ℕ) → is_in w xs ≡ true → q w ≡ true → p w ≡ false → length (filter p xs) + 1 ≤ length (filter q xs)
one_less p q [] h w i a b = absurd (false≢true i)
one_less p q (x ∷ xs) h w i a b = ⊎_elim
    (λ e. let same = eqb-true x w e in here (p x) (q x) (ap p same ∙ b) (ap q same ∙ a) (no_more p q xs (λ y m. h y)))
    (λ m. later (p x) (q x) refl refl (one_less p q xs h w m a b))
    (or_cases (eqb x w) (is_in w xs) i)
  where
    here : (c d : Bool) → c ≡ false → d ≡ true → length (filter p xs) ≤ length (filter q xs) → length (cond c (x ∷ filter p xs) (filter p xs)) + 1 ≤ length (cond d (x ∷ filter q xs) (filter q xs))
    here true d e g r = absurd (false≢true (sym e))
    here false true e g r = omega arith
    here false false e g r = absurd (false≢true g)

    later : (c d : Bool) → p x ≡ c → q x ≡ d → length (filter p xs) + 1 ≤ length (filter q xs) → length (cond c (x ∷ filter p xs) (filter p xs)) + 1 ≤ length (cond d (x ∷ filter q xs) (filter q xs))
    later true true e g r = omega arith
    later true false e g r = absurd (false≢true (sym g ∙ h x e))
    later false true e g r = omega arith
    later false false e g r = r

listed_below : (x a n : ℕ) → is_in x (range_with_len a n) ≡ true → x < a + n
listed_below x a zero i = absurd (false≢true i)
listed_below x a (suc n) i = ⊎_elim (λ e. let same = eqb-true a x e in omega (arith, same)) (λ m. let l = listed_below x (a + 1) n m in omega (arith, l)) (or_cases (eqb a x) (is_in x (range_with_len (a + 1) n)) i)

one_at_most : (b : Bool) (x : ℕ) → length (cond b (x ∷ []) []) ≤ 1
one_at_most true x = omega arith
one_at_most false x = omega arith

-- nobody left and as many joined
few_framed : (f g : Facts) (n : ℕ) → n ≤ 1 → AreFew f → IsFramed f n (λ k. false) g → AreFew g
few_framed f g n l few h k = let a = few k in let b = h.losses k in let c = grown n l h.last_worker in omega (arith, a, b, c, h.last_worker)
  where
    old : length (filter (connected g) (from_one f.last_worker)) ≤ length (workers f)
    old = no_more (connected g) (connected f) (from_one f.last_worker) (λ x i e. let m = listed_below x 1 f.last_worker i in h.threads x e (omega (arith, m)))

    by : (m : ℕ) → g.last_worker ≡ m → length (workers g) ≡ length (filter (connected g) (from_one m))
    by m e = ap (λ x. length (filter (connected g) (from_one x))) e

    grown : (m : ℕ) → m ≤ 1 → g.last_worker ≡ f.last_worker + m → length (workers g) ≤ length (workers f) + m
    grown zero l e = let a = by f.last_worker (omega (arith, e)) in let o = old in omega (arith, a, o)
    grown (suc zero) l e =
        let a = by (f.last_worker + 1) (omega (arith, e)) in
        let s : filter (connected g) (from_one (f.last_worker + 1)) ≡ filter (connected g) (from_one f.last_worker) ++ cond (connected g (1 + f.last_worker)) ((1 + f.last_worker) ∷ []) []
        = ap (filter (connected g)) (range_push 1 f.last_worker) ∙ filter-append (connected g) (from_one f.last_worker) ((1 + f.last_worker) ∷ []) in
        let b = ap length s ∙ length-append (filter (connected g) (from_one f.last_worker)) (cond (connected g (1 + f.last_worker)) ((1 + f.last_worker) ∷ []) []) in
        let c = one_at_most (connected g (1 + f.last_worker)) (1 + f.last_worker) in
        let o = old in omega (arith, a, b, c, o)
    grown (suc (suc m)) l e = absurd (omega (arith, l))

few_left : (f : Facts) → IsSound f → (w : ℕ) → connected f w ≡ true → AreFew f → AreFew (left f w)
unfolding left
few_left f s w c few k =
    let n = s.numbers w c in
    let m = one_less (connected (left f w)) (connected f) (from_one f.last_worker) (λ x e. was x (eqb x w) e) w (in_range 1 f.last_worker w n.0 (omega (arith, n.1))) c (ap (λ b. is_some (cond b None (f.threads w))) (eqb_self w)) in
    let a = few k in
    pick (is_on f w k) m a
  where
    was : (x : ℕ) (b : Bool) → is_some (cond b None (f.threads x)) ≡ true → connected f x ≡ true
    was x true e = absurd (false≢true e)
    was x false e = e

    pick : (b : Bool) → length (workers (left f w)) + 1 ≤ length (workers f) → f.losses k + length (workers f) ≤ f.last_worker → cond b (f.losses k + 1) (f.losses k) + length (workers (left f w)) ≤ f.last_worker
    pick true m a = omega (arith, m, a)
    pick false m a = omega (arith, m, a)

few_changed : (f : Facts) → IsSound f → (e : SchedEvent) → sched_takes f e ≡ true → AreFew f → AreFew (change f e).facts
unfolding sched_takes
few_changed f s (Join n) t few = few_framed f _ 1 (omega arith) few (change_framed f (Join n))
few_changed f s (Leave w) t few = few_left f s w t few
few_changed f s (FromWorker w m) t few = few_framed f _ 0 (omega arith) few (change_framed f (FromWorker w m))
few_changed f s (FromClient c m) t few = few_framed f _ 0 (omega arith) few (change_framed f (FromClient c m))
few_changed f s Balance t few = few_framed f _ 0 (omega arith) few (change_framed f Balance)
few_changed f s Evict t few = few_framed f _ 0 (omega arith) few (change_framed f Evict)
few_changed f s (Replicate k w) t few = few

at_most : (b : Bool) (n : ℕ) → cond b n 0 ≤ n
at_most true n = omega arith
at_most false n = omega arith

pub few_step : (f : Facts) → IsSound f → (e : SchedEvent) → sched_takes f e ≡ true → AreFew f → AreFew (sched_step f e).facts
few_step f s e t few k =
    let z = step_settles f e in
    let a = few_changed f s e t few k in
    let b = z.losses k in
    let c = at_most (known (change f e).facts k) ((change f e).facts.losses k) in
    let d : length (workers (sched_step f e).facts) ≡ length (workers (change f e).facts) = ap (λ n. length (filter (connected (sched_step f e).facts) (from_one n))) z.last_worker ∙ ap (λ (h : ℕ → Option ℕ). length (filter (λ w. is_some (h w)) (from_one (change f e).facts.last_worker))) z.threads in
    omega (arith, a, b, c, d, z.last_worker)

pub few_opening : (c : Setting) → AreFew (sched_opening c)
few_opening c k = omega arith
