-- The derived facts of the scheduler, one step each, and past the last key.
use Rattle.std.proofs.Common.{◌≡◌, ℕ, zero, suc, ◌<◌, ◌≤◌, Bool, true, false, not, ◌&&◌, ◌||◌, List, [], ◌∷◌, Option, Some, None, refl, sym, ap, ◌∙◌, arith, is_some, is_none, cond, ◌++◌, ◌+◌, zero-add, append-nil}
use Rattle.std.specs.List.{find, filter, filter_map, flat_map, cons_option}
use Rattle.std.proofs.lemmas.Bool.{false≢true}
use Rattle.std.proofs.lemmas.List.{get_or_past}
use Rattle.std.proofs.lemmas.List.Elements.{filter_map-append, filter-append}
use Rattle.std.specs.List.{list_any, range_with_len, AllByRecursion}
use Rattle.std.proofs.lemmas.Grind.{flat_map-append}
use Rattle.small_facts.proofs.Ranges.{range_push}
use Rattle.small_facts.proofs.Truth.{and_second, cond_same}
use Rattle.cluster_rules.specs.SchedTable.{failed, is_this}
use Rattle.cluster_rules.specs.SchedStep.{give, place_one, place_keys}
use Rattle.cluster_rules.specs.Functions.{from_one, put}
use Rattle.cluster_rules.specs.Derived.{below, is_in, err_step}
use Rattle.cluster_rules.specs.Sched.{Facts, IsSound, keys, deps, holds, held, erred, wanted, known, need, open_key, ready, fed, blame, blame_step, blame_in, blame_from}
use Rattle.cluster_rules.specs.Policies.{place}
use Rattle.cluster_rules.proofs.DerivedLemmas.{err-is, reach-is, All-weaken, err-past, reach-past, list_any-agree, any_none}

all_of : {P : ℕ → Type 0} → ((x : ℕ) → P x) → (xs : List ℕ) → AllByRecursion P xs
all_of h [] = tt
all_of h (x ∷ xs) = (h x, all_of h xs)

pub deps-past : (f : Facts) → (k : ℕ) → keys f ≤ k → deps f k ≡ []
deps-past f k h = get_or_past f.setting.shape.deps k [] h

pub held-past : (f : Facts) → IsSound f → (k : ℕ) → keys f ≤ k → held f k ≡ false
unfolding held
held-past f s k h = any_none (λ w. holds f w k) (from_one f.last_worker) (all_of (λ w. ap is_some (s.has w k h)) (from_one f.last_worker))

pub wanted-past : (f : Facts) → IsSound f → (k : ℕ) → keys f ≤ k → wanted f k ≡ false
unfolding wanted
wanted-past f s k h = any_none (λ c. f.want c k) (from_one f.setting.clients) (all_of (λ c. s.want c k h) (from_one f.setting.clients))

pub erred-is : (f : Facts) → IsSound f → (k : ℕ) → erred f k ≡ err_step (deps f) (held f) f.bad (erred f) k
unfolding erred
erred-is f s k = err-is (deps f) (held f) f.bad s.shape.below k

pub known-is : (f : Facts) → IsSound f → (k : ℕ) → known f k ≡ (wanted f k || list_any (λ j. is_in k (deps f j) && known f j) (below (keys f)))
unfolding known
known-is f s k = reach-is (deps f) (keys f) (wanted f) (λ _. true) s.shape.below k

pub need-is : (f : Facts) → IsSound f → (k : ℕ) → need f k ≡ (wanted f k || list_any (λ j. is_in k (deps f j) && (open_key f j && need f j)) (below (keys f)))
unfolding need
need-is f s k = reach-is (deps f) (keys f) (wanted f) (open_key f) s.shape.below k

-- blame: as many steps as the number of the key are enough
found_at : (p : ℕ → Bool) (x y : ℕ → Option ℕ) (ds : List ℕ) → AllByRecursion (λ d. x d ≡ y d) ds → blame_from x (find p ds) ≡ blame_from y (find p ds)
found_at p x y [] h = refl
found_at p x y (d ∷ ds) h = pick (p d) (found_at p x y ds h.1)
  where
    pick : (b : Bool) → blame_from x (find p ds) ≡ blame_from y (find p ds) → blame_from x (cond b (Some d) (find p ds)) ≡ blame_from y (cond b (Some d) (find p ds))
    pick true e = h.0
    pick false e = e

blame_step-agree : (f : Facts) (x y : ℕ → Option ℕ) (k : ℕ) → AllByRecursion (λ d. x d ≡ y d) (deps f k) → blame_step f x k ≡ blame_step f y k
blame_step-agree f x y k h = ap (λ o. cond (erred f k) (cond (f.bad k) (Some k) o) None) (found_at (erred f) x y (deps f k) h)

blame_in-enough : (f : Facts) → IsSound f → (m n k : ℕ) → k < m → k < n → blame_in f m k ≡ blame_in f n k
blame_in-enough f s zero n k h i = absurd (omega arith)
blame_in-enough f s (suc m) zero k h i = absurd (omega arith)
blame_in-enough f s (suc m) (suc n) k h i = blame_step-agree f (blame_in f m) (blame_in f n) k
    (All-weaken (λ d l. blame_in-enough f s m n d (omega arith) (omega arith)) (deps f k) (s.shape.below k))

pub blame-is : (f : Facts) → IsSound f → (k : ℕ) → blame f k ≡ blame_step f (blame f) k
unfolding blame
blame-is f s k = blame_step-agree f (blame_in f k) (λ d. blame_in f (suc d) d) k
    (All-weaken (λ d l. blame_in-enough f s k (suc d) d l (omega arith)) (deps f k) (s.shape.below k))

-- where the smaller keys have their blames, so has an erred key
blamed_first : (f : Facts) (k : ℕ) → ((d : ℕ) → d < k → is_some (blame f d) ≡ erred f d) → (ds : List ℕ) → AllByRecursion (λ d. d < k) ds → list_any (erred f) ds ≡ true → is_some (blame_from (blame f) (find (erred f) ds)) ≡ true
blamed_first f k smaller [] l e = absurd (false≢true e)
blamed_first f k smaller (d ∷ ds) l e = pick (erred f d) refl (blamed_first f k smaller ds l.1)
  where
    pick : (b : Bool) → erred f d ≡ b → (list_any (erred f) ds ≡ true → is_some (blame_from (blame f) (find (erred f) ds)) ≡ true) → is_some (blame_from (blame f) (cond b (Some d) (find (erred f) ds))) ≡ true
    pick true q rest = smaller d l.0 ∙ q
    pick false q rest = rest (ap (λ b. b || list_any (erred f) ds) (sym q) ∙ e)

blamed_at : (f : Facts) → IsSound f → (k : ℕ) → ((d : ℕ) → d < k → is_some (blame f d) ≡ erred f d) → is_some (blame f k) ≡ erred f k
blamed_at f s k smaller = ap is_some (blame-is f s k) ∙ pick (erred f k) (f.bad k) (erred-is f s k)
  where
    pick : (b c : Bool) → b ≡ (not (held f k) && (c || list_any (erred f) (deps f k))) → is_some (cond b (cond c (Some k) (blame_from (blame f) (find (erred f) (deps f k)))) None) ≡ b
    pick false c e = refl
    pick true true e = refl
    pick true false e = blamed_first f k smaller (deps f k) (s.shape.below k) (and_second (not (held f k)) (list_any (erred f) (deps f k)) (sym e))

blamed_below : (f : Facts) → IsSound f → (n k : ℕ) → k < n → is_some (blame f k) ≡ erred f k
blamed_below f s zero k h = absurd (omega arith)
blamed_below f s (suc n) k h = blamed_at f s k (λ d l. blamed_below f s n d (omega arith))

pub is_some-blame : (f : Facts) → IsSound f → (k : ℕ) → is_some (blame f k) ≡ erred f k
is_some-blame f s k = blamed_below f s (k + 1) k (omega arith)

pub erred-past : (f : Facts) → IsSound f → (k : ℕ) → keys f ≤ k → erred f k ≡ false
unfolding erred
erred-past f s k h = err-past (deps f) (held f) f.bad s.shape.below k (s.bad k h) (deps-past f k h)

pub known-past : (f : Facts) → IsSound f → (k : ℕ) → keys f ≤ k → known f k ≡ false
unfolding known
known-past f s k h = reach-past (deps f) (keys f) (wanted f) (λ _. true) s.shape.below k h (wanted-past f s k h)

pub need-past : (f : Facts) → IsSound f → (k : ℕ) → keys f ≤ k → need f k ≡ false
unfolding need
need-past f s k h = reach-past (deps f) (keys f) (wanted f) (open_key f) s.shape.below k h (wanted-past f s k h)

-- the dependencies of an erred key are read from a row that is right below the key
pub erred_from_row : (f : Facts) → IsSound f → (row : ℕ → Bool) (k : ℕ) → ((j : ℕ) → j < k → row j ≡ erred f j) → (not (held f k) && (f.bad k || list_any row (deps f k))) ≡ erred f k
erred_from_row f s row k same =
    ap (λ b. not (held f k) && (f.bad k || b)) (list_any-agree row (erred f) (deps f k) (below_all (deps f k) (s.shape.below k)))
    ∙ sym (erred-is f s k)
  where
    below_all : (xs : List ℕ) → AllByRecursion (λ d. d < k) xs → AllByRecursion (λ d. row d ≡ erred f d) xs
    below_all [] h = tt
    below_all (x ∷ xs) h = (same x h.0, below_all xs h.1)

pub ready-past : (f : Facts) → IsSound f → (k : ℕ) → keys f ≤ k → ready f k ≡ false
unfolding ready
ready-past f s k h = ap (λ b. (b && open_key f k) && fed f k) (need-past f s k h)

-- where a key is doesn't matter to what is ready
pub ready-give : (f : Facts) (k : ℕ) (to : Option ℕ) → ready (give f k to) ≡ ready f
unfolding ready need held erred wanted
ready-give f k None = refl
ready-give f k (Some w) = refl

pub ready-place_one : (f : Facts) (k : ℕ) → ready (place_one f k) ≡ ready f
unfolding place_one
ready-place_one f k = pick (ready f k && is_none (f.on k))
  where
    pick : (b : Bool) → ready (cond b (give f k (place f k)) f) ≡ ready f
    pick true = ready-give f k (place f k)
    pick false = refl

-- one more key is placed
pub place_keys-push : (f : Facts) (ks : List ℕ) (k : ℕ) → place_keys f (ks ++ k ∷ []) ≡ place_one (place_keys f ks) k
place_keys-push f [] k = refl
place_keys-push f (j ∷ ks) k = place_keys-push (place_one f j) ks k

pub below-more : (n : ℕ) → below (n + 1) ≡ below n ++ n ∷ []
below-more n = range_push 0 n ∙ ap (λ m. below n ++ m ∷ []) (zero-add n)

-- one placement draws at most one number
pub counter-place_one : (f : Facts) (k : ℕ) → (place_one f k).counter ≤ f.counter + 1
unfolding place_one
counter-place_one f k = pick (ready f k && is_none (f.on k)) (place f k)
  where
    pick : (b : Bool) (to : Option ℕ) → (cond b (give f k to) f).counter ≤ f.counter + 1
    pick true None = omega arith
    pick true (Some w) = omega arith
    pick false to = omega arith

pub keys-place_one : (f : Facts) (k : ℕ) → (place_one f k).setting ≡ f.setting
unfolding place_one
keys-place_one f k = pick (ready f k && is_none (f.on k)) (place f k)
  where
    pick : (b : Bool) (to : Option ℕ) → (cond b (give f k to) f).setting ≡ f.setting
    pick true None = refl
    pick true (Some w) = refl
    pick false to = refl

pub place_one-some : (f : Facts) (k w : ℕ) → (ready f k && is_none (f.on k)) ≡ true → place f k ≡ Some w → place_one f k ≡ give f k (Some w)
unfolding place_one
place_one-some f k w e p = rw (e, p) refl

pub place_one-none : (f : Facts) (k : ℕ) → place f k ≡ None → place_one f k ≡ f
unfolding place_one
place_one-none f k p = rw p (cond_same (ready f k && is_none (f.on k)) f)

pub place_one-no : (f : Facts) (k : ℕ) → (ready f k && is_none (f.on k)) ≡ false → place_one f k ≡ f
unfolding place_one
place_one-no f k e = rw e refl

-- an error draws no number and leaves the setting
pub counter-failed : (f : Facts) (w k a : ℕ) → (failed f w k a).counter ≡ f.counter
unfolding failed
counter-failed f w k a = pick (is_this w a (f.on k))
  where
    pick : (b : Bool) → (cond b (record f { on = put f.on k None; steal = put f.steal k None; bad = put f.bad k true }) f).counter ≡ f.counter
    pick true = refl
    pick false = refl

pub setting-failed : (f : Facts) (w k a : ℕ) → (failed f w k a).setting ≡ f.setting
unfolding failed
setting-failed f w k a = pick (is_this w a (f.on k))
  where
    pick : (b : Bool) → (cond b (record f { on = put f.on k None; steal = put f.steal k None; bad = put f.bad k true }) f).setting ≡ f.setting
    pick true = refl
    pick false = refl

-- one more member of a list that is filtered, mapped, or both
pub filter_map-more : {A : Type 0} (h : ℕ → Option A) (a n : ℕ) → filter_map h (range_with_len a (n + 1)) ≡ filter_map h (range_with_len a n) ++ cons_option (h (a + n)) []
filter_map-more h a n = ap (filter_map h) (range_push a n) ∙ filter_map-append h (range_with_len a n) ((a + n) ∷ [])

pub filter-more : (p : ℕ → Bool) (a n : ℕ) → filter p (range_with_len a (n + 1)) ≡ filter p (range_with_len a n) ++ cond (p (a + n)) ((a + n) ∷ []) []
filter-more p a n = ap (filter p) (range_push a n) ∙ filter-append p (range_with_len a n) ((a + n) ∷ [])

pub filter_map-below : {A : Type 0} (h : ℕ → Option A) (n : ℕ) → filter_map h (below (n + 1)) ≡ filter_map h (below n) ++ cons_option (h n) []
filter_map-below h n = ap (filter_map h) (below-more n) ∙ filter_map-append h (below n) (n ∷ [])

pub filter-below : (p : ℕ → Bool) (n : ℕ) → filter p (below (n + 1)) ≡ filter p (below n) ++ cond (p n) (n ∷ []) []
filter-below p n = ap (filter p) (below-more n) ∙ filter-append p (below n) (n ∷ [])

-- one more worker of a list that is filtered and joined
pub flat_map-filter-more : {A : Type 0} (g : ℕ → List A) (p : ℕ → Bool) (a n : ℕ) → flat_map g (filter p (range_with_len a (n + 1))) ≡ flat_map g (filter p (range_with_len a n)) ++ cond (p (a + n)) (g (a + n)) []
flat_map-filter-more g p a n = ap (flat_map g) (filter-more p a n) ∙ flat_map-append g (filter p (range_with_len a n)) (cond (p (a + n)) ((a + n) ∷ []) []) ∙ ap (λ l. flat_map g (filter p (range_with_len a n)) ++ l) (single (p (a + n)))
  where
    single : (b : Bool) → flat_map g (cond b ((a + n) ∷ []) []) ≡ cond b (g (a + n)) []
    single true = append-nil (g (a + n))
    single false = refl
