-- Facts that go one by one.
use Rattle.std.proofs.Common.{◌≡◌, ℕ, zero, suc, ◌+◌, ◌<◌, ◌≤◌, Bool, true, false, not, cond, ◌&&◌, ◌||◌, Option, Some, None, is_some, refl, sym, ap, ◌∙◌, arith, ltb, leb, ⊎_elim, ◌⊎◌, inl, inr}
use Rattle.std.specs.List.{list_any, range_with_len}
use Rattle.std.proofs.lemmas.Bool.Decides.{nat_tests}
use Rattle.std.proofs.lemmas.Bool.{false≢true, eqb-true, cases_lt, lt-ltb}
use Rattle.std.proofs.Math.Dec.{eqb}
use Rattle.std.proofs.Math.Bool.{and-true, or-true, or-false, and-false}
use Rattle.small_facts.proofs.Numbers.{equal_below_next, below_below_next, past_next, equal_or_above, none_below_zero}
use Rattle.small_facts.proofs.Options.{none_is_it}
use Rattle.cluster_rules.specs.Functions.{put, put_pair}
use Rattle.cluster_rules.specs.Sched.{Facts, IsSound, keys, holds, held, is_on, is_for, known, need, ready}
use Rattle.cluster_rules.specs.SchedStep.{drop_bad, drop_has, drop_on}
use Rattle.scheduler_core.specs.Dropped.{forgiven, bad_below, copies_up_to, has_below, on_below, held_nowhere, placed_nowhere}

-- a copy that is not there goes
pub copy_gone : (f : Facts) (w k : ℕ) → holds f w k ≡ false → f ≡ record f { has = put_pair f.has w k None }
copy_gone f w k e = λ i. record f { has = λ v j. sym (at v j (eqb v w) (eqb j k) refl refl) i }
  where
    at : (v j : ℕ) (a b : Bool) → eqb v w ≡ a → eqb j k ≡ b → cond (a && b) None (f.has v j) ≡ f.has v j
    at v j true true p q = none_is_it (f.has w k) e ∙ ap (λ u. f.has u k) (sym (eqb-true v w p)) ∙ ap (f.has v) (sym (eqb-true j k q))
    at v j true false p q = refl
    at v j false b p q = refl

next : (j i : ℕ) → ltb j (i + 1) ≡ (ltb j i || eqb j i)
next j i = pick (ltb j i) (eqb j i) refl refl
  where
    pick : (c b : Bool) → ltb j i ≡ c → eqb j i ≡ b → ltb j (i + 1) ≡ (c || b)
    pick true b d e = below_below_next j i d
    pick false true d e = equal_below_next j i e
    pick false false d e = past_next j i e d

not_below : (j i : ℕ) → eqb j i ≡ true → ltb j i ≡ false
not_below j i e = grind (arith, nat_tests)

-- one more key that does not pass goes
gone_more : {A : Type 0} (l t p q : Bool) (d x : A) → (t ≡ true → p ≡ q) → cond (t && not p) d (cond (l && not q) d x) ≡ cond ((l || t) && not q) d x
gone_more true true true q d x h = ap (λ b. cond (true && not b) d x) (sym (h refl)) ∙ ap (λ b. cond (not b) d x) (h refl)
gone_more true true false q d x h = sym (ap (λ b. cond (not b) d x) (sym (h refl)))
gone_more true false p q d x h = refl
gone_more false true p q d x h = ap (λ b. cond (not b) d x) (h refl)
gone_more false false p q d x h = refl

pub bad_none : (passes : ℕ → Bool) (f : Facts) → f ≡ bad_below passes f 0
unfolding bad_below
bad_none passes f = λ i. record f { bad = λ k. sym (ap (λ b. cond (b && not (passes k)) false (f.bad k)) (none_below_zero k)) i; losses = λ k. sym (ap (λ b. cond (b && not (passes k)) 0 (f.losses k)) (none_below_zero k)) i }

pub bad_more : (passes : ℕ → Bool) (f : Facts) (n : ℕ) (p : Bool) → p ≡ passes n → forgiven p (bad_below passes f n) n ≡ bad_below passes f (n + 1)
unfolding bad_below
bad_more passes f n p e = λ i. record f {
  bad = λ k. (gone_more (ltb k n) (eqb k n) p (passes k) false (f.bad k) (λ t. e ∙ ap passes (sym (eqb-true k n t))) ∙ ap (λ b. cond (b && not (passes k)) false (f.bad k)) (sym (next k n))) i;
  losses = λ k. (gone_more (ltb k n) (eqb k n) p (passes k) 0 (f.losses k) (λ t. e ∙ ap passes (sym (eqb-true k n t))) ∙ ap (λ b. cond (b && not (passes k)) 0 (f.losses k)) (sym (next k n))) i;
}

-- all keys
all_gone : {A : Type 0} (passes : Bool) (d x : A) (k n m : ℕ) → m ≤ n → (m ≤ k → x ≡ d) → cond (ltb k n && not passes) d x ≡ cond passes x d
all_gone passes d x k n m l past = ⊎_elim (λ h. ap (λ b. cond (b && not passes) d x) (lt-ltb k n h) ∙ turn passes) (λ h. flat (ltb k n && not passes) (past (omega arith)) ∙ sym (flat_too passes (past (omega arith)))) (cases_lt k n)
  where
    turn : (b : Bool) → cond (not b) d x ≡ cond b x d
    turn true = refl
    turn false = refl

    flat : (b : Bool) → x ≡ d → cond b d x ≡ d
    flat true e = refl
    flat false e = e

    flat_too : (b : Bool) → x ≡ d → cond b x d ≡ d
    flat_too true e = e
    flat_too false e = refl

pub bad_all : (f : Facts) (n : ℕ) → IsSound f → keys f ≤ n → bad_below (known f) f n ≡ drop_bad f
unfolding bad_below drop_bad
bad_all f n s l = λ i. record f { bad = λ k. all_gone (known f k) false (f.bad k) k n (keys f) l (s.bad k) i; losses = λ k. all_gone (known f k) 0 (f.losses k) k n (keys f) l (s.losses k) i }

pub has_none : (passes : ℕ → Bool) (f : Facts) → f ≡ has_below passes f 0
unfolding has_below
has_none passes f = λ i. record f { has = λ w k. sym (ap (λ b. cond (b && not (passes k)) None (f.has w k)) (none_below_zero k)) i }

pub has_more : (passes : ℕ → Bool) (f : Facts) (n : ℕ) (p : Bool) → p ≡ passes n → held_nowhere p (has_below passes f n) n ≡ has_below passes f (n + 1)
unfolding has_below
has_more passes f n p e = λ i. record f { has = λ w k. (gone_more (ltb k n) (eqb k n) p (passes k) None (f.has w k) (λ t. e ∙ ap passes (sym (eqb-true k n t))) ∙ ap (λ b. cond (b && not (passes k)) None (f.has w k)) (sym (next k n))) i }

pub has_all : (f : Facts) (n : ℕ) → IsSound f → keys f ≤ n → has_below (need f) f n ≡ drop_has f
unfolding has_below drop_has
has_all f n s l = λ i. record f { has = λ w k. all_gone (need f k) None (f.has w k) k n (keys f) l (s.has w k) i }

pub on_none : (passes : ℕ → Bool) (f : Facts) → f ≡ on_below passes f 0
unfolding on_below
on_none passes f = λ i. record f { on = λ k. sym (ap (λ b. cond (b && not (passes k)) None (f.on k)) (none_below_zero k)) i; steal = λ k. sym (ap (λ b. cond (b && not (passes k)) None (f.steal k)) (none_below_zero k)) i }

pub on_more : (passes : ℕ → Bool) (f : Facts) (n : ℕ) (p : Bool) → p ≡ passes n → placed_nowhere p (on_below passes f n) n ≡ on_below passes f (n + 1)
unfolding on_below
on_more passes f n p e = λ i. record f {
  on = λ k. (gone_more (ltb k n) (eqb k n) p (passes k) None (f.on k) (λ t. e ∙ ap passes (sym (eqb-true k n t))) ∙ ap (λ b. cond (b && not (passes k)) None (f.on k)) (sym (next k n))) i;
  steal = λ k. (gone_more (ltb k n) (eqb k n) p (passes k) None (f.steal k) (λ t. e ∙ ap passes (sym (eqb-true k n t))) ∙ ap (λ b. cond (b && not (passes k)) None (f.steal k)) (sym (next k n))) i;
}

pub on_all : (f : Facts) (n : ℕ) → IsSound f → keys f ≤ n → on_below (ready f) f n ≡ drop_on f
unfolding on_below drop_on
on_all f n s l = λ i. record f { on = λ k. all_gone (ready f k) None (f.on k) k n (keys f) l (s.on k) i; steal = λ k. all_gone (ready f k) None (f.steal k) k n (keys f) l (λ h. s.steal k (s.on k h)) i }

pub setting_has : (passes : ℕ → Bool) (f : Facts) (n : ℕ) → keys (has_below passes f n) ≡ keys f
unfolding has_below
setting_has passes f n = refl

-- the setting stays, however far it has come
pub same_setting_has : (passes : ℕ → Bool) (f : Facts) (n : ℕ) → (has_below passes f n).setting ≡ f.setting
unfolding has_below
same_setting_has passes f n = refl

pub same_setting_on : (passes : ℕ → Bool) (f : Facts) (n : ℕ) → (on_below passes f n).setting ≡ f.setting
unfolding on_below
same_setting_on passes f n = refl

pub same_setting_copies : (k : ℕ) (f : Facts) (m : ℕ) → (copies_up_to k f m).setting ≡ f.setting
unfolding copies_up_to
same_setting_copies k f m = refl

pub setting_bad : (passes : ℕ → Bool) (f : Facts) (n : ℕ) → keys (bad_below passes f n) ≡ keys f
unfolding bad_below
setting_bad passes f n = refl

pub setting_on : (passes : ℕ → Bool) (f : Facts) (n : ℕ) → keys (on_below passes f n) ≡ keys f
unfolding on_below
setting_on passes f n = refl

-- the pairs that go with the keys below n
pub lost_more : (a h : Bool) (l t p q : Bool) (o : Bool) → (t ≡ true → p ≡ q) → (t ≡ true → l ≡ false) → (l ≡ false → h ≡ o) → ((a || (o && (l && not q))) || (h && (t && not p))) ≡ (a || (o && ((l || t) && not q)))
lost_more true h l t p q o e f g = refl
lost_more false h true true p q o e f g = absurd (false≢true (sym (f refl)))
lost_more false h true false p q o e f g = ap (λ b. (o && not q) || b) (and-false h) ∙ or-false (o && not q)
lost_more false h false true p q o e f g = ap (λ b. b || (h && not p)) (and-false o) ∙ ap (λ b. b && not p) (g refl) ∙ ap (λ b. o && not b) (e refl)
lost_more false h false false p q o e f g = ap (λ b. b || (h && false)) (and-false o) ∙ and-false h ∙ sym (and-false o)

-- what a key that is left of the others was
kept_at : (passes : ℕ → Bool) (f : Facts) (n w k : ℕ) → ltb k n ≡ false → holds (has_below passes f n) w k ≡ holds f w k
unfolding has_below
kept_at passes f n w k e = ap (λ b. is_some (cond (b && not (passes k)) None (f.has w k))) e

placed_at : (passes : ℕ → Bool) (f : Facts) (n w k : ℕ) → ltb k n ≡ false → is_on (on_below passes f n) w k ≡ is_on f w k
unfolding on_below
placed_at passes f n w k e = ap (λ b. is_for w (cond (b && not (passes k)) None (f.on k))) e

pub lost_copies_more : (passes : ℕ → Bool) (f : Facts) (n : ℕ) (p : Bool) (before old new : ℕ → ℕ → Bool) → p ≡ passes n
    → ((w k : ℕ) → old w k ≡ (before w k || (holds f w k && (ltb k n && not (passes k)))))
    → ((w k : ℕ) → new w k ≡ (old w k || (holds (has_below passes f n) w k && (eqb k n && not p))))
    → (w k : ℕ) → new w k ≡ (before w k || (holds f w k && (ltb k (n + 1) && not (passes k))))
lost_copies_more passes f n p before old new e was now w k =
    now w k ∙ ap (λ b. b || (holds (has_below passes f n) w k && (eqb k n && not p))) (was w k)
    ∙ lost_more (before w k) (holds (has_below passes f n) w k) (ltb k n) (eqb k n) p (passes k) (holds f w k) (λ t. e ∙ ap passes (sym (eqb-true k n t))) (λ t. not_below k n t) (λ t. kept_at passes f n w k t)
    ∙ ap (λ b. before w k || (holds f w k && (b && not (passes k)))) (sym (next k n))

pub lost_places_more : (passes : ℕ → Bool) (f : Facts) (n : ℕ) (p : Bool) (before old new : ℕ → ℕ → Bool) → p ≡ passes n
    → ((w k : ℕ) → old w k ≡ (before w k || (is_on f w k && (ltb k n && not (passes k)))))
    → ((w k : ℕ) → new w k ≡ (old w k || (is_on (on_below passes f n) w k && (eqb k n && not p))))
    → (w k : ℕ) → new w k ≡ (before w k || (is_on f w k && (ltb k (n + 1) && not (passes k))))
lost_places_more passes f n p before old new e was now w k =
    now w k ∙ ap (λ b. b || (is_on (on_below passes f n) w k && (eqb k n && not p))) (was w k)
    ∙ lost_more (before w k) (is_on (on_below passes f n) w k) (ltb k n) (eqb k n) p (passes k) (is_on f w k) (λ t. e ∙ ap passes (sym (eqb-true k n t))) (λ t. not_below k n t) (λ t. placed_at passes f n w k t)
    ∙ ap (λ b. before w k || (is_on f w k && (b && not (passes k)))) (sym (next k n))

pub lost_none : (a o q : Bool) (k : ℕ) → a ≡ (a || (o && (ltb k 0 && not q)))
lost_none a o q k = sym (ap (λ b. a || (o && (b && not q))) (none_below_zero k) ∙ ap (λ b. a || b) (and-false o) ∙ or-false a)

pub lost_all : (a o q : Bool) (k n m : ℕ) → m ≤ n → (m ≤ k → o ≡ false) → (a || (o && (ltb k n && not q))) ≡ (a || (o && not q))
lost_all a o q k n m l past = ⊎_elim (λ h. ap (λ b. a || (o && (b && not q))) (lt-ltb k n h)) (λ h. ap (λ b. a || (b && (ltb k n && not q))) (past (omega arith)) ∙ sym (ap (λ b. a || (b && not q)) (past (omega arith)))) (cases_lt k n)

-- one key, worker by worker
up_next : (w m : ℕ) → (leb 1 w && leb w (m + 1)) ≡ ((leb 1 w && leb w m) || eqb w (m + 1))
up_next w m = pick (leb 1 w) (leb w m) (eqb w (m + 1)) refl refl refl
  where
    at_least : (w m : ℕ) → eqb w (m + 1) ≡ true → (leb 1 w && leb w (m + 1)) ≡ true
    at_least w m e = grind (arith, nat_tests)

    within : (w m : ℕ) → leb w m ≡ true → leb w (m + 1) ≡ true
    within w m e = grind (arith, nat_tests)

    past : (w m : ℕ) → leb w m ≡ false → eqb w (m + 1) ≡ false → leb w (m + 1) ≡ false
    past w m e d = grind (arith, nat_tests)

    not_zero : (w m : ℕ) → leb 1 w ≡ false → eqb w (m + 1) ≡ false
    not_zero w m e = grind (arith, nat_tests)

    pick : (a b c : Bool) → leb 1 w ≡ a → leb w m ≡ b → eqb w (m + 1) ≡ c → (a && leb w (m + 1)) ≡ ((a && b) || c)
    pick true true c p q r = within w m q
    pick true false true p q r = ap (λ b. b && leb w (m + 1)) (sym p) ∙ at_least w m r
    pick true false false p q r = past w m q r
    pick false b true p q r = absurd (false≢true (sym (not_zero w m p) ∙ r))
    pick false b false p q r = refl

not_up : (w m : ℕ) → eqb w (m + 1) ≡ true → (leb 1 w && leb w m) ≡ false
not_up w m e = pick (leb 1 w) (above w m e)
  where
    above : (w m : ℕ) → eqb w (m + 1) ≡ true → leb w m ≡ false
    above w m e = grind (arith, nat_tests)

    pick : (b : Bool) → leb w m ≡ false → (b && leb w m) ≡ false
    pick true h = h
    pick false h = refl

none_up : (w : ℕ) → (leb 1 w && leb w 0) ≡ false
none_up w = grind (arith, nat_tests)

pub copies_none : (k : ℕ) (f : Facts) → f ≡ copies_up_to k f 0
unfolding copies_up_to
copies_none k f = λ i. record f { has = λ w j. sym (ap (λ b. cond (eqb j k && b) None (f.has w j)) (none_up w) ∙ ap (λ b. cond b None (f.has w j)) (and-false (eqb j k))) i }

pub copies_more : (k : ℕ) (f : Facts) (m : ℕ) → record (copies_up_to k f m) { has = put_pair (copies_up_to k f m).has (m + 1) k None } ≡ copies_up_to k f (m + 1)
unfolding copies_up_to
copies_more k f m = λ i. record f { has = λ w j. (turn (eqb w (m + 1)) (eqb j k) (leb 1 w && leb w m) (f.has w j) ∙ ap (λ b. cond (eqb j k && b) None (f.has w j)) (sym (up_next w m))) i }
  where
    turn : (x e r : Bool) (o : Option ℕ) → cond (x && e) None (cond (e && r) None o) ≡ cond (e && (r || x)) None o
    turn true true true o = refl
    turn true true false o = refl
    turn true false r o = refl
    turn false true true o = refl
    turn false true false o = refl
    turn false false r o = refl

no_holder : (f : Facts) (w j : ℕ) → IsSound f → (leb 1 w && leb w f.last_worker) ≡ false → f.has w j ≡ None
no_holder f w j s e = pick (f.has w j) refl
  where
    in_range : (w n : ℕ) → 1 ≤ w → w ≤ n → (leb 1 w && leb w n) ≡ true
    in_range w n l h = grind (arith, nat_tests)

    pick : (o : Option ℕ) → f.has w j ≡ o → o ≡ None
    pick None q = refl
    pick (Some c) q = let n = s.numbers w (s.holders w j (ap is_some q)) in absurd (false≢true (sym e ∙ in_range w f.last_worker n.0 n.1))

pub copies_all : (k : ℕ) (f : Facts) (m : ℕ) → IsSound f → m ≡ f.last_worker → copies_up_to k f m ≡ held_nowhere false f k
unfolding copies_up_to
copies_all k f m s e = λ i. record f { has = λ w j. pick w j (leb 1 w && leb w m) refl i }
  where
    both : (e_ : Bool) (o : Option ℕ) → o ≡ None → cond (e_ && false) None o ≡ cond (e_ && not false) None o
    both true o h = h
    both false o h = refl

    pick : (w j : ℕ) (b : Bool) → (leb 1 w && leb w m) ≡ b → cond (eqb j k && b) None (f.has w j) ≡ cond (eqb j k && not false) None (f.has w j)
    pick w j true h = refl
    pick w j false h = both (eqb j k) (f.has w j) (no_holder f w j s (ap (λ n. leb 1 w && leb w n) (sym e) ∙ h))

pub setting_copies : (k : ℕ) (f : Facts) (m : ℕ) → keys (copies_up_to k f m) ≡ keys f
unfolding copies_up_to
setting_copies k f m = refl

pub lost_workers_more : (k : ℕ) (f : Facts) (m : ℕ) (before old new : ℕ → ℕ → Bool)
    → ((w j : ℕ) → old w j ≡ (before w j || (holds f w j && (eqb j k && (leb 1 w && leb w m)))))
    → ((w j : ℕ) → new w j ≡ (old w j || (holds (copies_up_to k f m) w j && (eqb w (m + 1) && eqb j k))))
    → (w j : ℕ) → new w j ≡ (before w j || (holds f w j && (eqb j k && (leb 1 w && leb w (m + 1)))))
unfolding copies_up_to
lost_workers_more k f m before old new was now w j =
    now w j ∙ ap (λ b. b || (is_some (cond (eqb j k && (leb 1 w && leb w m)) None (f.has w j)) && (eqb w (m + 1) && eqb j k))) (was w j)
    ∙ turn (before w j) (eqb j k) (leb 1 w && leb w m) (eqb w (m + 1)) (f.has w j) (not_up w m)
    ∙ ap (λ b. before w j || (holds f w j && (eqb j k && b))) (sym (up_next w m))
  where
    turn : (a e r x : Bool) (o : Option ℕ) → (x ≡ true → r ≡ false) → ((a || (is_some o && (e && r))) || (is_some (cond (e && r) None o) && (x && e))) ≡ (a || (is_some o && (e && (r || x))))
    turn true e r x o h = refl
    turn false true true true o h = absurd (false≢true (sym (h refl)))
    turn false true true false None h = refl
    turn false true true false (Some c) h = refl
    turn false true false true None h = refl
    turn false true false true (Some c) h = refl
    turn false true false false None h = refl
    turn false true false false (Some c) h = refl
    turn false false r true None h = refl
    turn false false r true (Some c) h = refl
    turn false false r false None h = refl
    turn false false r false (Some c) h = refl

pub lost_workers_none : (k : ℕ) (f : Facts) (before : ℕ → ℕ → Bool) (w j : ℕ) → before w j ≡ (before w j || (holds f w j && (eqb j k && (leb 1 w && leb w 0))))
lost_workers_none k f before w j = sym (ap (λ b. before w j || (holds f w j && (eqb j k && b))) (none_up w) ∙ ap (λ b. before w j || (holds f w j && b)) (and-false (eqb j k)) ∙ ap (λ b. before w j || b) (and-false (holds f w j)) ∙ or-false (before w j))

pub lost_workers_all : (k : ℕ) (f : Facts) (m : ℕ) (before : ℕ → ℕ → Bool) → IsSound f → m ≡ f.last_worker → (w j : ℕ) → (before w j || (holds f w j && (eqb j k && (leb 1 w && leb w m)))) ≡ (before w j || (holds f w j && (eqb j k && not false)))
lost_workers_all k f m before s e w j = pick (leb 1 w && leb w m) refl
  where
    pick : (b : Bool) → (leb 1 w && leb w m) ≡ b → (before w j || (holds f w j && (eqb j k && b))) ≡ (before w j || (holds f w j && (eqb j k && true)))
    pick true h = refl
    pick false h = ap (λ o. before w j || (is_some o && (eqb j k && false))) (no_holder f w j s (ap (λ n. leb 1 w && leb w n) (sym e) ∙ h)) ∙ sym (ap (λ o. before w j || (is_some o && (eqb j k && true))) (no_holder f w j s (ap (λ n. leb 1 w && leb w n) (sym e) ∙ h)))

-- a key that has no place has none
none_at : {A : Type 0} (b : Bool) (o : Option A) → o ≡ None → o ≡ cond b None o
none_at true o e = e
none_at false o e = refl

pub place_gone : (f : Facts) (k : ℕ) → IsSound f → f.on k ≡ None → f ≡ placed_nowhere false f k
place_gone f k s e = λ i. record f { on = λ j. at f.on j (eqb j k) refl e i; steal = λ j. at f.steal j (eqb j k) refl (s.steal k e) i }
  where
    at : {A : Type 0} (t : ℕ → Option A) (j : ℕ) (b : Bool) → eqb j k ≡ b → t k ≡ None → t j ≡ cond (b && not false) None (t j)
    at t j true p h = ap t (eqb-true j k p) ∙ h
    at t j false p h = refl

pub key_gone : (f : Facts) (k : ℕ) → ((w : ℕ) → holds f w k ≡ false) → (b : Bool) → f ≡ held_nowhere b f k
key_gone f k none b = λ i. record f { has = λ w j. at w j (eqb j k) refl i }
  where
    at : (w j : ℕ) (t : Bool) → eqb j k ≡ t → f.has w j ≡ cond (t && not b) None (f.has w j)
    at w j true p = none_at (true && not b) (f.has w j) (sym (none_is_it (f.has w j) (ap (holds f w) (eqb-true j k p) ∙ none w)))
    at w j false p = refl

pub key_stays : (f : Facts) (k : ℕ) → f ≡ held_nowhere true f k
key_stays f k = λ i. record f { has = λ w j. sym (ap (λ b. cond b None (f.has w j)) (and-false (eqb j k))) i }

pub place_stays : (f : Facts) (k : ℕ) → f ≡ placed_nowhere true f k
place_stays f k = λ i. record f { on = λ j. sym (ap (λ b. cond b None (f.on j)) (and-false (eqb j k))) i; steal = λ j. sym (ap (λ b. cond b None (f.steal j)) (and-false (eqb j k))) i }

pub lost_stays : (a o e : Bool) → a ≡ (a || (o && (e && not true)))
lost_stays a o e = sym (ap (λ b. a || (o && b)) (and-false e) ∙ ap (λ b. a || b) (and-false o) ∙ or-false a)

pub lost_nothing : (a : Bool) (h : ℕ → Bool) (j k : ℕ) (b : Bool) → h k ≡ false → a ≡ (a || (h j && (eqb j k && b)))
lost_nothing a h j k b e = sym (pick (eqb j k) refl)
  where
    pick : (t : Bool) → eqb j k ≡ t → (a || (h j && (t && b))) ≡ a
    pick true p = ap (λ c. a || (c && b)) (ap h (eqb-true j k p) ∙ e) ∙ or-false a
    pick false p = ap (λ c. a || c) (and-false (h j)) ∙ or-false a

-- one key is forgiven, or has nothing to forgive
pub forgiven_one : (f : Facts) (k : ℕ) → record f { bad = put f.bad k false; losses = put f.losses k 0 } ≡ forgiven false f k
forgiven_one f k = λ i. record f { bad = λ j. ap (λ b. cond b false (f.bad j)) (sym (and-true (eqb j k))) i; losses = λ j. ap (λ b. cond b 0 (f.losses j)) (sym (and-true (eqb j k))) i }

pub forgiven_none : (f : Facts) (k : ℕ) (p : Bool) → (p ≡ true) ⊎ ((f.bad k ≡ false) × (f.losses k ≡ 0)) → f ≡ forgiven p f k
forgiven_none f k p h = λ i. record f { bad = λ j. at false f.bad j (eqb j k) refl (⊎_elim (λ e. inl e) (λ e. inr e.0) h) i; losses = λ j. at 0 f.losses j (eqb j k) refl (⊎_elim (λ e. inl e) (λ e. inr e.1) h) i }
  where
    at : {A : Type 0} (d : A) (g : ℕ → A) (j : ℕ) (t : Bool) → eqb j k ≡ t → (p ≡ true) ⊎ (g k ≡ d) → g j ≡ cond (t && not p) d (g j)
    at d g j true e (inl q) = sym (ap (λ b. cond (not b) d (g j)) q)
    at d g j true e (inr q) = flat (not p)
      where
        flat : (b : Bool) → g j ≡ cond b d (g j)
        flat true = ap g (eqb-true j k e) ∙ q
        flat false = refl
    at d g j false e h = refl

-- a key that is not held has no holder
any_here : (p : ℕ → Bool) (a n x : ℕ) → a ≤ x → x < a + n → p x ≡ true → list_any p (range_with_len a n) ≡ true
any_here p a zero x l m e = absurd (omega arith)
any_here p a (suc n) x l m e = ⊎_elim
    (λ i. ap (λ b. b || list_any p (range_with_len (a + 1) n)) (ap p i ∙ e))
    (λ i. ap (λ b. p a || b) (any_here p (a + 1) n x i (omega arith) e) ∙ or-true (p a))
    (equal_or_above a x l)

pub none_holds : (f : Facts) (k : ℕ) → IsSound f → held f k ≡ false → (w : ℕ) → holds f w k ≡ false
unfolding held
none_holds f k s e w = pick (holds f w k) refl
  where
    pick : (b : Bool) → holds f w k ≡ b → b ≡ false
    pick false h = refl
    pick true h = let n = s.numbers w (s.holders w k h) in absurd (false≢true (sym e ∙ any_here (λ v. holds f v k) 1 f.last_worker w n.0 (omega arith) h))
