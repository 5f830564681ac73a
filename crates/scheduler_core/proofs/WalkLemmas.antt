-- Walks over touched keys: of the keys between there is nothing to take away, to place or to tell.
use Rattle.std.proofs.Common.{◌≡◌, ℕ, zero, suc, ◌+◌, ◌-◌, ◌<◌, ◌≤◌, Bool, true, false, not, cond, ◌&&◌, [], ◌∷◌, ◌++◌, Option, Some, None, is_some, refl, sym, ap, ◌∙◌, subst, arith, ltb, ◌⊎◌, inl, inr, ⊎_elim, append-nil, length}
use Rattle.std.specs.List.{filter, filter_map, cons_option}
use Rattle.std.proofs.lemmas.Bool.{false≢true, cases_lt, lt-ltb, ltb-true, ltb-false}
use Rattle.std.proofs.Math.Nat.{add-zero, le-add_right}
use Rattle.small_facts.proofs.Numbers.{whole_of_rest}
use Rattle.small_facts.proofs.Options.{is_some_cond}
use Rattle.small_facts.proofs.Truth.{false_before}
use Rattle.cluster_rules.specs.Derived.{below, is_in}
use Rattle.cluster_rules.specs.Functions.{from_one}
use Rattle.cluster_rules.specs.Sched.{Facts, Setting, IsSound, keys, deps, holds, held, erred, wanted, known, need, ready, is_on}
use Rattle.cluster_rules.proofs.SchedLemmas.{filter-below, filter_map-below, need-past}
use Rattle.cluster_rules.proofs.SchedFrame.{in_range}
use Rattle.cluster_laws.specs.Settled.{IsSettled}
use Rattle.cluster_laws.proofs.Lists.{any_weaken}
use Rattle.cluster_laws.proofs.Fewer.{IsThinned, thinned-need}
use Rattle.key_sets.specs.Sets.{has, IsFirst}
use Rattle.task_table.specs.Tasks.{Tasks, facts, SameAt}
use Rattle.sched_changes.specs.Follows.{Follows}
use Rattle.scheduler_core.specs.Tidy.{IsTidy}
use Rattle.scheduler_core.specs.Dropped.{bad_below, has_below, on_below}
use Rattle.cluster_laws.proofs.WorldLemmas.{key_low}
use Rattle.sched_changes.proofs.RowLemmas.{on_some}

-- what each key of a stretch leaves as it is is the same at its end
pub gap : {A : Type 0} (G : ℕ → A) (n d : ℕ) → ((k : ℕ) → n ≤ k → k < n + d → G k ≡ G n → G (k + 1) ≡ G n) → G (n + d) ≡ G n
gap G n zero h = ap G (add-zero n)
gap G n (suc d) h = ap G (next n d) ∙ h (n + d) (le-add_right n d) (high n d) (gap G n d (λ k l m e. h k l (further k n d m) e))
  where
    next : (n d : ℕ) → n + suc d ≡ (n + d) + 1
    next n d = omega arith

    high : (n d : ℕ) → n + d < n + suc d
    high n d = omega arith

    further : (k n d : ℕ) → k < n + d → k < n + suc d
    further k n d l = omega arith

pub gap_to : {A : Type 0} (G : ℕ → A) (n m : ℕ) → n ≤ m → ((k : ℕ) → n ≤ k → k < m → G k ≡ G n → G (k + 1) ≡ G n) → G n ≡ G m
gap_to G n m l h = sym (ap G (whole_of_rest n m l) ∙ gap G n (m - n) (λ k a b e. h k a (subst (λ z. k < z) (sym (whole_of_rest n m l)) b) e))

pub filter_gap : (p : ℕ → Bool) (n m : ℕ) → n ≤ m → ((k : ℕ) → n ≤ k → k < m → p k ≡ false) → filter p (below n) ≡ filter p (below m)
filter_gap p n m l h = gap_to (λ k. filter p (below k)) n m l (λ k a b e. filter-below p k ∙ ap (λ t. filter p (below k) ++ cond t (k ∷ []) []) (h k a b) ∙ append-nil (filter p (below k)) ∙ e)

pub filter_map_gap : {A : Type 0} (g : ℕ → Option A) (n m : ℕ) → n ≤ m → ((k : ℕ) → n ≤ k → k < m → g k ≡ None) → filter_map g (below n) ≡ filter_map g (below m)
filter_map_gap g n m l h = gap_to (λ k. filter_map g (below k)) n m l (λ k a b e. filter_map-below g k ∙ ap (λ o. filter_map g (below k) ++ cons_option o []) (h k a b) ∙ append-nil (filter_map g (below k)) ∙ e)

-- ## Keys that nothing touched

pub tidy_settled : (s t : Tasks) → IsSettled (facts s) → ((k : ℕ) → has s.touched k ≡ false) → Follows s t → IsTidy t
tidy_settled s t v u a = record {
  errors = λ k l e b. let h = same k l e in h.known ∙ v.errors_are_known k (sym h.bad ∙ b);
  losses = λ k l e b. let h = same k l e in h.losses ∙ v.losses_are_known k (sym h.known ∙ b);
  copies = λ w k l e b. let h = same k l e in h.need ∙ v.held_are_needed w k (sym (ap is_some (h.has w)) ∙ b);
  places = λ k l e b. let h = same k l e in h.ready ∙ v.placed_are_ready k (sym (ap is_some h.on) ∙ b);
}
  where
    same : (k : ℕ) → k < keys (facts t) → has t.touched k ≡ false → SameAt (facts s) (facts t) k
    same k l e = a.touched.kept k (subst (λ c. k < c) (ap (λ c. length c.shape.deps) a.setting) l) e

pub tidy_then : (s t : Tasks) → IsTidy s → Follows s t → IsTidy t
tidy_then s t v a = record {
  errors = λ k l e b. let h = same k l e in h.known ∙ v.errors k (there k l) (before k e) (sym h.bad ∙ b);
  losses = λ k l e b. let h = same k l e in h.losses ∙ v.losses k (there k l) (before k e) (sym h.known ∙ b);
  copies = λ w k l e b. let h = same k l e in h.need ∙ v.copies w k (there k l) (before k e) (sym (ap is_some (h.has w)) ∙ b);
  places = λ k l e b. let h = same k l e in h.ready ∙ v.places k (there k l) (before k e) (sym (ap is_some h.on) ∙ b);
}
  where
    there : (k : ℕ) → k < keys (facts t) → k < keys (facts s)
    there k l = subst (λ c. k < c) (ap (λ c. length c.shape.deps) a.setting) l

    before : (k : ℕ) → has t.touched k ≡ false → has s.touched k ≡ false
    before k e = false_before (has s.touched k) (has t.touched k) (a.touched.grows k) e

    same : (k : ℕ) → k < keys (facts t) → has t.touched k ≡ false → SameAt (facts s) (facts t) k
    same k l e = a.touched.kept k (there k l) e

-- a key that a walk passes over was not touched before it
pub passed : (s t : Tasks) (from key k : ℕ) → Follows s t → IsFirst (has t.touched) from (Some key) → from ≤ k → k < key → has s.touched k ≡ false
passed s t from key k a h l m = false_before (has s.touched k) (has t.touched k) (a.touched.grows k) (h.2 k l m)

pub passed_all : (s t : Tasks) (from k : ℕ) → Follows s t → IsFirst (has t.touched) from None → from ≤ k → has s.touched k ≡ false
passed_all s t from k a h l = false_before (has s.touched k) (has t.touched k) (a.touched.grows k) (h k l)

-- ## What settling leaves as it is

pub over : {A : Type 0} (k n m : ℕ) (p : Bool) (d x : A) → n ≤ m → (n ≤ k → k < m → (p ≡ true) ⊎ (x ≡ d)) → cond (ltb k n && not p) d x ≡ cond (ltb k m && not p) d x
over {A} k n m p d x l h = pick (ltb k n) (ltb k m) refl refl
  where
    wider : (k n m : ℕ) → n ≤ m → k < n → k < m
    wider k n m a b = omega arith

    there : (p ≡ true) ⊎ (x ≡ d) → x ≡ cond (not p) d x
    there (inl e) = sym (ap (λ b. cond (not b) d x) e)
    there (inr e) = flat (not p)
      where
        flat : (b : Bool) → x ≡ cond b d x
        flat true = e
        flat false = refl

    pick : (a b : Bool) → ltb k n ≡ a → ltb k m ≡ b → cond (a && not p) d x ≡ cond (b && not p) d x
    pick true true u v = refl
    pick true false u v = absurd (false≢true (sym v ∙ lt-ltb k m (wider k n m l (ltb-true k n u))))
    pick false true u v = there (h (ltb-false k n u) (ltb-true k m v))
    pick false false u v = refl

pub bad_over : (passes : ℕ → Bool) (f : Facts) (n m : ℕ) → n ≤ m → ((k : ℕ) → n ≤ k → k < m → f.bad k ≡ true → passes k ≡ true) → ((k : ℕ) → n ≤ k → k < m → passes k ≡ false → f.losses k ≡ 0) → bad_below passes f n ≡ bad_below passes f m
unfolding bad_below
bad_over passes f n m l h g = λ i. record f { bad = λ k. over k n m (passes k) false (f.bad k) l (λ a b. either k (f.bad k) refl a b) i; losses = λ k. over k n m (passes k) 0 (f.losses k) l (λ a b. none k (passes k) refl a b) i }
  where
    either : (k : ℕ) (b : Bool) → f.bad k ≡ b → n ≤ k → k < m → (passes k ≡ true) ⊎ (f.bad k ≡ false)
    either k true e a c = inl (h k a c e)
    either k false e a c = inr e

    none : (k : ℕ) (b : Bool) → passes k ≡ b → n ≤ k → k < m → (passes k ≡ true) ⊎ (f.losses k ≡ 0)
    none k true e a c = inl e
    none k false e a c = inr (g k a c e)

pub has_over : (passes : ℕ → Bool) (f : Facts) (n m : ℕ) → n ≤ m → ((w k : ℕ) → n ≤ k → k < m → holds f w k ≡ true → passes k ≡ true) → has_below passes f n ≡ has_below passes f m
unfolding has_below
has_over passes f n m l h = λ i. record f { has = λ w k. over k n m (passes k) None (f.has w k) l (λ a b. either w k (f.has w k) refl a b) i }
  where
    either : (w k : ℕ) (o : Option ℕ) → f.has w k ≡ o → n ≤ k → k < m → (passes k ≡ true) ⊎ (f.has w k ≡ None)
    either w k None e a c = inr e
    either w k (Some x) e a c = inl (h w k a c (ap is_some e))

pub on_over : (passes : ℕ → Bool) (f : Facts) (n m : ℕ) → IsSound f → n ≤ m → ((k : ℕ) → n ≤ k → k < m → is_some (f.on k) ≡ true → passes k ≡ true) → on_below passes f n ≡ on_below passes f m
unfolding on_below
on_over passes f n m s l h = λ i. record f {
  on = λ k. over k n m (passes k) None (f.on k) l (λ a b. either k (f.on k) refl a b) i;
  steal = λ k. over k n m (passes k) None (f.steal k) l (λ a b. stolen k (f.on k) refl a b) i;
}
  where
    either : (k : ℕ) (o : Option (ℕ × ℕ)) → f.on k ≡ o → n ≤ k → k < m → (passes k ≡ true) ⊎ (f.on k ≡ None)
    either k None e a c = inr e
    either k (Some x) e a c = inl (h k a c (ap is_some e))

    stolen : (k : ℕ) (o : Option (ℕ × ℕ)) → f.on k ≡ o → n ≤ k → k < m → (passes k ≡ true) ⊎ (f.steal k ≡ None)
    stolen k None e a c = inr (s.steal k e)
    stolen k (Some x) e a c = inl (h k a c (ap is_some e))

-- the pairs that go
pub lost_over : (o q : Bool) (k n m : ℕ) → n ≤ m → (n ≤ k → k < m → o ≡ true → q ≡ true) → (o && (ltb k n && not q)) ≡ (o && (ltb k m && not q))
lost_over o q k n m l h = pick (ltb k n) (ltb k m) refl refl
  where
    wider : (k n m : ℕ) → n ≤ m → k < n → k < m
    wider k n m a b = omega arith

    none : (a b : Bool) → (a ≡ true → b ≡ true) → (a && false) ≡ (a && not b)
    none true b g = sym (ap not (g refl))
    none false b g = refl

    pick : (a b : Bool) → ltb k n ≡ a → ltb k m ≡ b → (o && (a && not q)) ≡ (o && (b && not q))
    pick true true u v = refl
    pick true false u v = absurd (false≢true (sym v ∙ lt-ltb k m (wider k n m l (ltb-true k n u))))
    pick false true u v = none o q (h (ltb-false k n u) (ltb-true k m v))
    pick false false u v = refl

-- ## What is derived while facts go

pub known_bad : (passes : ℕ → Bool) (f : Facts) (n : ℕ) → known (bad_below passes f n) ≡ known f
unfolding known wanted bad_below
known_bad passes f n = refl

pub ready_on : (passes : ℕ → Bool) (f : Facts) (n : ℕ) → ready (on_below passes f n) ≡ ready f
unfolding ready need held erred wanted on_below
ready_on passes f n = refl

needed_stays : (t u : Bool) (o : Option ℕ) → u ≡ true → is_some o ≡ true → is_some (cond (t && not u) None o) ≡ true
needed_stays t u o e h = ap (λ b. is_some (cond (t && not b) None o)) e ∙ off t ∙ h
  where
    off : (t : Bool) → is_some (cond (t && false) None o) ≡ is_some o
    off true = refl
    off false = refl

thinned : (f : Facts) (n : ℕ) → IsSound f → IsThinned (deps f) (keys f) (wanted f) (held f) (held (has_below (need f) f n)) f.bad
unfolding need held has_below erred
thinned f n s = record {
  low = s.shape.below;
  less = λ k e. any_weaken (λ w. is_some (cond (ltb k n && not (need f k)) None (f.has w k))) (λ w. holds f w k) (from_one f.last_worker) (λ w x. is_some_cond (ltb k n && not (need f k)) (f.has w k) x) e;
  stays = λ k u h. any_weaken (λ w. holds f w k) (λ w. is_some (cond (ltb k n && not (need f k)) None (f.has w k))) (from_one f.last_worker) (λ w x. needed_stays (ltb k n) (need f k) (f.has w k) u x) h;
  inside = λ k u. there k u (ltb k (keys f)) refl;
}
  where
    inner : (k c : ℕ) → k < c → k < 0 + c
    inner k c l = omega arith

    there : (k : ℕ) → need f k ≡ true → (b : Bool) → ltb k (keys f) ≡ b → is_in k (below (keys f)) ≡ true
    there k u true e = in_range 0 (keys f) k (key_low k) (inner k (keys f) (ltb-true k (keys f) e))
    there k u false e = absurd (false≢true (sym (need-past f s k (ltb-false k (keys f) e)) ∙ u))

-- a key that is not needed lets no need through, held or not
pub need_has : (f : Facts) (n : ℕ) → IsSound f → (k : ℕ) → need (has_below (need f) f n) k ≡ need f k
unfolding need erred has_below wanted held
need_has f n s k = thinned-need (deps f) (keys f) (wanted f) (held f) (held (has_below (need f) f n)) f.bad (thinned f n s) k

-- ## Keys that are there

pub in_setting : (s t : Tasks) (k : ℕ) → Follows s t → k < keys (facts t) → k < keys (facts s)
in_setting s t k a l = subst (λ (c : Setting). k < length c.shape.deps) a.setting l

-- of keys that are not there nothing is to be said
-- a key that is not there has no losses
pub losses_there : (f : Facts) (k : ℕ) → IsSound f → (k < keys f → f.losses k ≡ 0) → f.losses k ≡ 0
losses_there f k s h = ⊎_elim h (λ l. s.losses k l) (cases_lt k (keys f))

pub bad_there : {P : Type 0} (f : Facts) (k : ℕ) → IsSound f → f.bad k ≡ true → (k < keys f → P) → P
bad_there f k s e h = ⊎_elim h (λ l. absurd (false≢true (sym (s.bad k l) ∙ e))) (cases_lt k (keys f))

pub copy_there : {P : Type 0} (f : Facts) (w k : ℕ) → IsSound f → holds f w k ≡ true → (k < keys f → P) → P
copy_there f w k s e h = ⊎_elim h (λ l. absurd (false≢true (sym (ap is_some (s.has w k l)) ∙ e))) (cases_lt k (keys f))

pub place_there : {P : Type 0} (f : Facts) (k : ℕ) → IsSound f → is_some (f.on k) ≡ true → (k < keys f → P) → P
place_there f k s e h = ⊎_elim h (λ l. absurd (false≢true (sym (ap is_some (s.on k l)) ∙ e))) (cases_lt k (keys f))

pub is_placed : (f : Facts) (w k : ℕ) → is_on f w k ≡ true → is_some (f.on k) ≡ true
is_placed f w k e = on_some w (f.on k) e
