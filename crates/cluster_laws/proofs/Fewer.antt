-- What is derived where fewer keys are held: what was not needed goes, and nothing else changes of what is needed.
use Rattle.std.proofs.Common.{◌≡◌, ℕ, zero, suc, ◌+◌, ◌<◌, Bool, true, false, not, ◌&&◌, ◌||◌, List, refl, sym, ap, ◌∙◌, subst, arith, ⊎_elim}
use Rattle.std.proofs.lemmas.Bool.{or_cases, false≢true, eqb-true, and_from, not_from_false, or_left, or_right}
use Rattle.std.proofs.Math.Dec.{eqb}
use Rattle.std.specs.List.{list_any}
use Rattle.small_facts.proofs.Truth.{and_first, and_second, same_truth}
use Rattle.cluster_rules.specs.Derived.{IsBelow, below, is_in, err, reach, reach_in}
use Rattle.cluster_rules.proofs.DerivedLemmas.{err-is, reach-is}
use Rattle.cluster_laws.proofs.Lists.{not_back, any_weaken, any_weaken_at}

-- where fewer keys are held, more have erred
err_more : (deps : ℕ → List ℕ) (had has bad : ℕ → Bool) → IsBelow deps → ((k : ℕ) → has k ≡ true → had k ≡ true) → (n k : ℕ) → k < n → err deps had bad k ≡ true → err deps has bad k ≡ true
err_more deps had has bad low less zero k l e = absurd (omega arith)
err_more deps had has bad low less (suc n) k l e =
    let s : (not (had k) && (bad k || list_any (err deps had bad) (deps k))) ≡ true = sym (err-is deps had bad low k) ∙ e in
    err-is deps has bad low k ∙ and_from (not (has k)) (bad k || list_any (err deps has bad) (deps k))
    (not_back (had k) (has k) (less k) (and_first (not (had k)) (bad k || list_any (err deps had bad) (deps k)) s))
    (⊎_elim
    (λ b. or_left (bad k) (list_any (err deps has bad) (deps k)) b)
    (λ a. or_right (bad k) (list_any (err deps has bad) (deps k))
    (any_weaken_at (λ d. Unit {0}) (err deps had bad) (err deps has bad) (deps k) k (low k) (λ d i. tt) (λ d m c x. err_more deps had has bad low less n d (omega arith) x) a))
    (or_cases (bad k) (list_any (err deps had bad) (deps k)) (and_second (not (had k)) (bad k || list_any (err deps had bad) (deps k)) s)))

-- a needed key that has erred has erred before, where needed keys are held as before
err_back : (deps : ℕ → List ℕ) (had has bad needed : ℕ → Bool) → IsBelow deps
    → ((k : ℕ) → needed k ≡ true → had k ≡ true → has k ≡ true)
    → ((k d : ℕ) → needed k ≡ true → not (had k) ≡ true → err deps had bad k ≡ false → is_in d (deps k) ≡ true → needed d ≡ true)
    → (n k : ℕ) → k < n → needed k ≡ true → err deps has bad k ≡ true → err deps had bad k ≡ true
err_back deps had has bad needed low stays leads zero k l u e = absurd (omega arith)
err_back deps had has bad needed low stays leads (suc n) k l u e = pick (err deps had bad k) refl
    (λ d m c x. err_back deps had has bad needed low stays leads n d (omega arith) c x)
  where
    s : (not (has k) && (bad k || list_any (err deps has bad) (deps k))) ≡ true
    s = sym (err-is deps has bad low k) ∙ e

    free : not (had k) ≡ true
    free = not_back (has k) (had k) (stays k u) (and_first (not (has k)) (bad k || list_any (err deps has bad) (deps k)) s)

    again : ((d : ℕ) → d < k → needed d ≡ true → err deps has bad d ≡ true → err deps had bad d ≡ true) → err deps had bad k ≡ false → (bad k || list_any (err deps had bad) (deps k)) ≡ true
    again rest q = ⊎_elim
        (λ b. or_left (bad k) (list_any (err deps had bad) (deps k)) b)
        (λ a. or_right (bad k) (list_any (err deps had bad) (deps k))
        (any_weaken_at (λ d. needed d ≡ true) (err deps has bad) (err deps had bad) (deps k) k (low k) (λ d i. leads k d u free q i) rest a))
        (or_cases (bad k) (list_any (err deps has bad) (deps k)) (and_second (not (has k)) (bad k || list_any (err deps has bad) (deps k)) s))

    pick : (b : Bool) → err deps had bad k ≡ b → ((d : ℕ) → d < k → needed d ≡ true → err deps has bad d ≡ true → err deps had bad d ≡ true) → b ≡ true
    pick true q rest = refl
    pick false q rest = absurd (false≢true (sym q ∙ err-is deps had bad low k ∙ and_from (not (had k)) (bad k || list_any (err deps had bad) (deps k)) free (again rest q)))

-- a walk of some steps is a walk
walked : (deps : ℕ → List ℕ) (n : ℕ) (start pass : ℕ → Bool) → IsBelow deps → (f k : ℕ) → reach_in deps n start pass f k ≡ true → reach deps n start pass k ≡ true
walked deps n start pass low zero k e = absurd (false≢true e)
walked deps n start pass low (suc f) k e = reach-is deps n start pass low k ∙ ⊎_elim
    (λ a. or_left (start k) (list_any (λ j. is_in k (deps j) && (pass j && reach deps n start pass j)) (below n)) a)
    (λ a. or_right (start k) (list_any (λ j. is_in k (deps j) && (pass j && reach deps n start pass j)) (below n))
    (any_weaken (λ j. is_in k (deps j) && (pass j && reach_in deps n start pass f j)) (λ j. is_in k (deps j) && (pass j && reach deps n start pass j)) (below n) (λ j x. on j (walked deps n start pass low f j) x) a))
    (or_cases (start k) (list_any (λ j. is_in k (deps j) && (pass j && reach_in deps n start pass f j)) (below n)) e)
  where
    on : (j : ℕ) → (reach_in deps n start pass f j ≡ true → reach deps n start pass j ≡ true) → (is_in k (deps j) && (pass j && reach_in deps n start pass f j)) ≡ true → (is_in k (deps j) && (pass j && reach deps n start pass j)) ≡ true
    on j rest x =
        let r = and_second (is_in k (deps j)) (pass j && reach_in deps n start pass f j) x in
        and_from (is_in k (deps j)) (pass j && reach deps n start pass j) (and_first (is_in k (deps j)) (pass j && reach_in deps n start pass f j) x)
        (and_from (pass j) (reach deps n start pass j) (and_first (pass j) (reach_in deps n start pass f j) r) (rest (and_second (pass j) (reach_in deps n start pass f j) r)))

-- a walk through keys that pass leads as far by another test that each of its keys passes too
walked_by : (deps : ℕ → List ℕ) (n : ℕ) (start p q : ℕ → Bool) → IsBelow deps
    → ((j : ℕ) → p j ≡ true → reach deps n start p j ≡ true → reach deps n start q j ≡ true → q j ≡ true)
    → (f k : ℕ) → reach_in deps n start p f k ≡ true → reach deps n start q k ≡ true
walked_by deps n start p q low h zero k e = absurd (false≢true e)
walked_by deps n start p q low h (suc f) k e = reach-is deps n start q low k ∙ ⊎_elim
    (λ a. or_left (start k) (list_any (λ j. is_in k (deps j) && (q j && reach deps n start q j)) (below n)) a)
    (λ a. or_right (start k) (list_any (λ j. is_in k (deps j) && (q j && reach deps n start q j)) (below n))
    (any_weaken (λ j. is_in k (deps j) && (p j && reach_in deps n start p f j)) (λ j. is_in k (deps j) && (q j && reach deps n start q j)) (below n) (λ j x. on j (walked_by deps n start p q low h f j) x) a))
    (or_cases (start k) (list_any (λ j. is_in k (deps j) && (p j && reach_in deps n start p f j)) (below n)) e)
  where
    on : (j : ℕ) → (reach_in deps n start p f j ≡ true → reach deps n start q j ≡ true) → (is_in k (deps j) && (p j && reach_in deps n start p f j)) ≡ true → (is_in k (deps j) && (q j && reach deps n start q j)) ≡ true
    on j rest x =
        let r = and_second (is_in k (deps j)) (p j && reach_in deps n start p f j) x in
        let pj = and_first (p j) (reach_in deps n start p f j) r in
        let step = and_second (p j) (reach_in deps n start p f j) r in
        let there = rest step in
        and_from (is_in k (deps j)) (q j && reach deps n start q j) (and_first (is_in k (deps j)) (p j && reach_in deps n start p f j) x)
        (and_from (q j) (reach deps n start q j) (h j pj (walked deps n start p low f j step) there) there)

pub reach_by : (deps : ℕ → List ℕ) (n : ℕ) (start p q : ℕ → Bool) → IsBelow deps
    → ((j : ℕ) → p j ≡ true → reach deps n start p j ≡ true → reach deps n start q j ≡ true → q j ≡ true)
    → (k : ℕ) → reach deps n start p k ≡ true → reach deps n start q k ≡ true
unfolding reach
reach_by deps n start p q low h k e = walked_by deps n start p q low h (suc n) k e

-- what a walk leads to, through a key that passes
pub reach_next : (deps : ℕ → List ℕ) (n : ℕ) (start pass : ℕ → Bool) → IsBelow deps → (j d : ℕ) → is_in j (below n) ≡ true → reach deps n start pass j ≡ true → pass j ≡ true → is_in d (deps j) ≡ true → reach deps n start pass d ≡ true
reach_next deps n start pass low j d there e p i = reach-is deps n start pass low d
    ∙ or_right (start d) (list_any (λ x. is_in d (deps x) && (pass x && reach deps n start pass x)) (below n)) (found (below n) there)
  where
    here : (is_in d (deps j) && (pass j && reach deps n start pass j)) ≡ true
    here = and_from (is_in d (deps j)) (pass j && reach deps n start pass j) i (and_from (pass j) (reach deps n start pass j) p e)

    found : (xs : List ℕ) → is_in j xs ≡ true → list_any (λ x. is_in d (deps x) && (pass x && reach deps n start pass x)) xs ≡ true
    found xs m = any_weaken (λ x. eqb x j) (λ x. is_in d (deps x) && (pass x && reach deps n start pass x)) xs (λ x s. subst (λ y. (is_in d (deps y) && (pass y && reach deps n start pass y)) ≡ true) (sym (eqb-true x j s)) here) m

-- ## Fewer held keys

-- neither held nor erred
abbrev pub open_by : (ℕ → List ℕ) → (ℕ → Bool) → (ℕ → Bool) → ℕ → Bool
open_by deps held bad j = not (held j) && not (err deps held bad j)

pub record IsThinned (deps : ℕ → List ℕ) (n : ℕ) (start had has bad : ℕ → Bool) : Type 0 where
  pub low : IsBelow deps
  -- only held keys are held still
  pub less : (k : ℕ) → has k ≡ true → had k ≡ true
  -- and all of those that were needed
  pub stays : (k : ℕ) → reach deps n start (open_by deps had bad) k ≡ true → had k ≡ true → has k ≡ true
  -- what is needed is a key
  pub inside : (k : ℕ) → reach deps n start (open_by deps had bad) k ≡ true → is_in k (below n) ≡ true

-- a needed key has erred exactly where it had
pub thinned-err : (deps : ℕ → List ℕ) (n : ℕ) (start had has bad : ℕ → Bool) → IsThinned deps n start had has bad → (k : ℕ) → reach deps n start (open_by deps had bad) k ≡ true → err deps has bad k ≡ err deps had bad k
thinned-err deps n start had has bad t k u = same_truth (err deps has bad k) (err deps had bad k)
    (λ e. err_back deps had has bad (reach deps n start (open_by deps had bad)) t.low t.stays
    (λ j d v free q i. reach_next deps n start (open_by deps had bad) t.low j d (t.inside j v) v (and_from (not (had j)) (not (err deps had bad j)) free (not_from_false (err deps had bad j) q)) i)
    (k + 1) k (omega arith) u e)
    (λ e. err_more deps had has bad t.low t.less (k + 1) k (omega arith) e)

-- the same keys are needed
pub thinned-need : (deps : ℕ → List ℕ) (n : ℕ) (start had has bad : ℕ → Bool) → IsThinned deps n start had has bad → (k : ℕ) → reach deps n start (open_by deps has bad) k ≡ reach deps n start (open_by deps had bad) k
thinned-need deps n start had has bad t k = same_truth (reach deps n start (open_by deps has bad) k) (reach deps n start (open_by deps had bad) k)
    (λ e. reach_by deps n start (open_by deps has bad) (open_by deps had bad) t.low (λ j p r u. back j p u) k e)
    (λ e. reach_by deps n start (open_by deps had bad) (open_by deps has bad) t.low (λ j p u r. forth j p u) k e)
  where
    back : (j : ℕ) → (not (has j) && not (err deps has bad j)) ≡ true → reach deps n start (open_by deps had bad) j ≡ true → (not (had j) && not (err deps had bad j)) ≡ true
    back j p u = and_from (not (had j)) (not (err deps had bad j))
        (not_back (has j) (had j) (t.stays j u) (and_first (not (has j)) (not (err deps has bad j)) p))
        (ap not (sym (thinned-err deps n start had has bad t j u)) ∙ and_second (not (has j)) (not (err deps has bad j)) p)

    forth : (j : ℕ) → (not (had j) && not (err deps had bad j)) ≡ true → reach deps n start (open_by deps had bad) j ≡ true → (not (has j) && not (err deps has bad j)) ≡ true
    forth j p u = and_from (not (has j)) (not (err deps has bad j))
        (not_back (had j) (has j) (t.less j) (and_first (not (had j)) (not (err deps had bad j)) p))
        (ap not (thinned-err deps n start had has bad t j u) ∙ and_second (not (had j)) (not (err deps had bad j)) p)
