-- What an erred key is blamed on, step by step.
use Rattle.std.proofs.Common.{◌≡◌, ℕ, ◌<◌, ◌≤◌, Bool, true, false, ◌&&◌, not, nat_lt, cond, List, [], ◌∷◌, Some, None, find, refl, sym, ap, ◌∙◌, subst, arith, ⊎_elim}
use Rattle.std.specs.List.{AllByRecursion}
use Rattle.std.specs.Option.{option_or}
use Rattle.std.proofs.lemmas.Bool.{false≢true, cases_lt, lt-ltb, le-ltb}
use Rattle.std.proofs.lemmas.Option.{same_Some}
use Rattle.cluster_rules.specs.Sched.{Facts, IsSound, keys, deps, erred, blame, blame_from}
use Rattle.cluster_rules.proofs.DerivedLemmas.{All-weaken}
use Rattle.cluster_rules.proofs.SchedLemmas.{blame-is, erred-past}
use Rattle.task_table.specs.Tasks.{first_where, next_blamed, own_blame}
use Rattle.task_table.proofs.Near.{no_key}

find_first : (p q : ℕ → Bool) (ds : List ℕ) → AllByRecursion (λ d. p d ≡ q d) ds → find q ds ≡ first_where p ds
find_first p q [] a = refl
find_first p q (d ∷ ds) a = pick (p d) (q d) a.0 (find_first p q ds a.1)
  where
    pick : (x y : Bool) → x ≡ y → find q ds ≡ first_where p ds → cond y (Some d) (find q ds) ≡ option_or (cond x (Some d) None) (first_where p ds)
    pick true true e rest = refl
    pick true false e rest = absurd (false≢true (sym e))
    pick false true e rest = absurd (false≢true e)
    pick false false e rest = rest

first_low : (p : ℕ → Bool) (n d : ℕ) (ds : List ℕ) → AllByRecursion (λ j. j < n) ds → first_where p ds ≡ Some d → d < n
first_low p n d [] a e = no_key d e
first_low p n d (j ∷ ds) a e = pick (p j) e (first_low p n d ds a.1)
  where
    pick : (x : Bool) → option_or (cond x (Some j) None) (first_where p ds) ≡ Some d → (first_where p ds ≡ Some d → d < n) → d < n
    pick true h rest = subst (λ (m : ℕ). m < n) (same_Some j d h) a.0
    pick false h rest = rest h

agree : (f : Facts) (p : ℕ → Bool) (k : ℕ) → IsSound f → ((j : ℕ) → j < keys f → p j ≡ erred f j) → k < keys f → find (erred f) (deps f k) ≡ first_where p (deps f k)
agree f p k s h l = find_first p (erred f) (deps f k) (All-weaken (λ j m. h j (omega (arith, l, m))) (deps f k) (s.shape.below k))

through : (f : Facts) (p : ℕ → Bool) (k : ℕ) → IsSound f → ((j : ℕ) → j < keys f → p j ≡ erred f j) → k < keys f → blame f k ≡ cond (p k) (cond (f.bad k) (Some k) (blame_from (blame f) (first_where p (deps f k)))) None
through f p k s h l = blame-is f s k ∙ (λ i. cond (sym (h k l) i) (cond (f.bad k) (Some k) (blame_from (blame f) (agree f p k s h l i))) None)

low_step : (f : Facts) (p : ℕ → Bool) (k d : ℕ) → IsSound f → next_blamed f p k ≡ Some d → d < k
low_step f p k d s e = pick (p k) (f.bad k) e
  where
    pick : (a b : Bool) → cond (a && not b) (first_where p (deps f k)) None ≡ Some d → d < k
    pick false b h = no_key d h
    pick true true h = no_key d h
    pick true false h = first_low p k d (deps f k) (s.shape.below k) h

same_step : (f : Facts) (p : ℕ → Bool) (k d : ℕ) → IsSound f → ((j : ℕ) → j < keys f → p j ≡ erred f j) → k < keys f → next_blamed f p k ≡ Some d → blame f d ≡ blame f k
same_step f p k d s h l e = pick (p k) (f.bad k) e (through f p k s h l)
  where
    pick : (a b : Bool) → cond (a && not b) (first_where p (deps f k)) None ≡ Some d → blame f k ≡ cond a (cond b (Some k) (blame_from (blame f) (first_where p (deps f k)))) None → blame f d ≡ blame f k
    pick false b g w = no_key d g
    pick true true g w = no_key d g
    pick true false g w = sym (w ∙ ap (blame_from (blame f)) g)

last_step : (f : Facts) (p : ℕ → Bool) (k : ℕ) → IsSound f → ((j : ℕ) → j < keys f → p j ≡ erred f j) → k < keys f → next_blamed f p k ≡ None → blame f k ≡ own_blame f k
last_step f p k s h l e = pick (p k) (f.bad k) e (through f p k s h l) ∙ ap (λ t. cond t (cond (f.bad k) (Some k) None) None) (h k l)
  where
    pick : (a b : Bool) → cond (a && not b) (first_where p (deps f k)) None ≡ None → blame f k ≡ cond a (cond b (Some k) (blame_from (blame f) (first_where p (deps f k)))) None → blame f k ≡ cond a (cond b (Some k) None) None
    pick false b g w = w
    pick true true g w = w
    pick true false g w = w ∙ ap (blame_from (blame f)) g

-- the same of any number
pub low_any : (f : Facts) (p : ℕ → Bool) (k d : ℕ) → IsSound f → cond (nat_lt k (keys f)) (next_blamed f p k) None ≡ Some d → d < k
low_any f p k d s e = pick (nat_lt k (keys f)) e
  where
    pick : (t : Bool) → cond t (next_blamed f p k) None ≡ Some d → d < k
    pick true h = low_step f p k d s h
    pick false h = no_key d h

pub same_any : (f : Facts) (p : ℕ → Bool) (k d : ℕ) → IsSound f → ((j : ℕ) → j < keys f → p j ≡ erred f j) → cond (nat_lt k (keys f)) (next_blamed f p k) None ≡ Some d → blame f d ≡ blame f k
same_any f p k d s h e = ⊎_elim (λ l. same_step f p k d s h l (ap (λ t. cond t (next_blamed f p k) None) (sym (lt-ltb k (keys f) l)) ∙ e)) (λ m. no_key d (ap (λ t. cond t (next_blamed f p k) None) (sym (le-ltb k (keys f) m)) ∙ e)) (cases_lt k (keys f))

pub last_any : (f : Facts) (p : ℕ → Bool) (k : ℕ) → IsSound f → ((j : ℕ) → j < keys f → p j ≡ erred f j) → cond (nat_lt k (keys f)) (next_blamed f p k) None ≡ None → blame f k ≡ own_blame f k
last_any f p k s h e = ⊎_elim (λ l. last_step f p k s h l (ap (λ t. cond t (next_blamed f p k) None) (sym (lt-ltb k (keys f) l)) ∙ e)) (λ m. past m) (cases_lt k (keys f))
  where
    past : keys f ≤ k → blame f k ≡ own_blame f k
    past m = blame-is f s k ∙ ap (λ t. cond t (cond (f.bad k) (Some k) (blame_from (blame f) (find (erred f) (deps f k)))) None) (erred-past f s k m) ∙ sym (ap (λ t. cond t (cond (f.bad k) (Some k) None) None) (erred-past f s k m))
