-- A worker leaves key by key.
use Rattle.std.proofs.Common.{◌≡◌, ℕ, ◌+◌, ◌≤◌, Bool, true, false, cond, ◌&&◌, ◌||◌, Option, None, is_some, refl, sym, ap, ◌∙◌, arith, ltb, ⊎_elim}
use Rattle.std.proofs.lemmas.Bool.{eqb-true, cases_lt, lt-ltb}
use Rattle.std.proofs.Math.Dec.{eqb}
use Rattle.std.proofs.Math.Bool.{and-false, and-true, or-false}
use Rattle.small_facts.proofs.Numbers.{equal_below_next, below_below_next, past_next, eqb_self, not_below_self, none_below_zero}
use Rattle.small_facts.proofs.Options.{cond_none}
use Rattle.cluster_rules.specs.Functions.{put, put_pair}
use Rattle.cluster_rules.specs.Sched.{Facts, IsSound, keys, holds, is_above, is_on, is_for, connected}
use Rattle.cluster_rules.specs.SchedTable.{left}
use Rattle.sched_facts.specs.Kept.{left_key, left_below}

next : (j i : ℕ) → ltb j (i + 1) ≡ (eqb j i || ltb j i)
next j i = pick (eqb j i) (ltb j i) refl refl
  where
    pick : (b c : Bool) → eqb j i ≡ b → ltb j i ≡ c → ltb j (i + 1) ≡ (b || c)
    pick true c e d = equal_below_next j i e
    pick false true e d = below_below_next j i d
    pick false false e d = past_next j i e d

gone : {A : Type 0} (t l o : Bool) (x : Option A) → (t ≡ true → o ≡ true) → cond t None (cond (l && o) None x) ≡ cond ((t || l) && o) None x
gone true l o x h = sym (ap (λ b. cond b None x) (h refl))
gone false l o x h = refl

stays : {A : Type 0} (t l o : Bool) (x : Option A) → (t ≡ true → o ≡ false) → cond (l && o) None x ≡ cond ((t || l) && o) None x
stays true l o x h = ap (λ b. cond (l && b) None x) (h refl) ∙ ap (λ b. cond b None x) (and-false l) ∙ sym (ap (λ b. cond b None x) (h refl))
stays false l o x h = refl

copied : {A : Type 0} (v t l : Bool) (x : Option A) → cond (v && t) None (cond (v && l) None x) ≡ cond (v && (t || l)) None x
copied true true l x = refl
copied true false l x = refl
copied false t l x = refl

-- one loss more, where the worker had the key
raised : (t l o : Bool) (n m : ℕ) → (t ≡ true → (o ≡ true) × (m ≡ n + 1)) → cond t m (cond (l && o) (n + 1) n) ≡ cond ((t || l) && o) (n + 1) n
raised true l o n m h = (h refl).1 ∙ sym (ap (λ b. cond b (n + 1) n) (h refl).0)
raised false l o n m h = refl

worse : (t l o b a c : Bool) → (t ≡ true → (o ≡ true) × (c ≡ (b || a))) → cond t c (b || ((l && o) && a)) ≡ (b || (((t || l) && o) && a))
worse true l o b a c h = (h refl).1 ∙ sym (ap (λ x. b || (x && a)) (h refl).0)
worse false l o b a c h = refl

left_as : {A : Type 0} (t l o : Bool) (x y : A) → (t ≡ true → o ≡ false) → cond (l && o) x y ≡ cond ((t || l) && o) x y
left_as true l o x y h = ap (λ b. cond (l && b) x y) (h refl) ∙ ap (λ b. cond b x y) (and-false l) ∙ sym (ap (λ b. cond b x y) (h refl))
left_as false l o x y h = refl

pub left_none : (f : Facts) (w : ℕ) → f ≡ left_below w f 0
unfolding left_below
left_none f w = λ i. record f { has = λ v k. has_at v k i; on = λ k. at (f.on k) k i; steal = λ k. at (f.steal k) k i; bad = λ k. bad_at k i; losses = λ k. count_at k i }
  where
    has_at : (v k : ℕ) → f.has v k ≡ cond (eqb v w && ltb k 0) None (f.has v k)
    has_at v k = sym (ap (λ b. cond (eqb v w && b) None (f.has v k)) (none_below_zero k) ∙ ap (λ b. cond b None (f.has v k)) (and-false (eqb v w)))

    count_at : (k : ℕ) → f.losses k ≡ cond (ltb k 0 && is_on f w k) (f.losses k + 1) (f.losses k)
    count_at k = sym (ap (λ b. cond (b && is_on f w k) (f.losses k + 1) (f.losses k)) (none_below_zero k))

    bad_at : (k : ℕ) → f.bad k ≡ (f.bad k || ((ltb k 0 && is_on f w k) && is_above f.setting.allowed (f.losses k + 1)))
    bad_at k = sym (ap (λ b. f.bad k || ((b && is_on f w k) && is_above f.setting.allowed (f.losses k + 1))) (none_below_zero k) ∙ or-false (f.bad k))

    at : {A : Type 0} (x : Option A) (k : ℕ) → x ≡ cond (ltb k 0 && is_on f w k) None x
    at x k = sym (ap (λ b. cond (b && is_on f w k) None x) (none_below_zero k))

pub left_more : (f : Facts) (w i : ℕ) → left_key w (left_below w f i) i ≡ left_below w f (i + 1)
unfolding left_key left_below
left_more f w i = ap (λ b. cond b taken given) was ∙ pick (is_on f w i) refl
  where
    counted_to : ℕ → ℕ
    counted_to k = cond (ltb k i && is_on f w k) (f.losses k + 1) (f.losses k)

    bad_to : ℕ → Bool
    bad_to k = f.bad k || ((ltb k i && is_on f w k) && is_above f.setting.allowed (f.losses k + 1))

    count_here : counted_to i ≡ f.losses i
    count_here = ap (λ b. cond (b && is_on f w i) (f.losses i + 1) (f.losses i)) (not_below_self i)

    bad_here : bad_to i ≡ f.bad i
    bad_here = ap (λ b. f.bad i || ((b && is_on f w i) && is_above f.setting.allowed (f.losses i + 1))) (not_below_self i) ∙ or-false (f.bad i)

    count_then : (k : ℕ) → eqb k i ≡ true → counted_to i + 1 ≡ f.losses k + 1
    count_then k t = ap (λ n. n + 1) count_here ∙ ap (λ j. f.losses j + 1) (sym (eqb-true k i t))

    bad_then : (k : ℕ) → eqb k i ≡ true → (bad_to i || is_above f.setting.allowed (counted_to i + 1)) ≡ (f.bad k || is_above f.setting.allowed (f.losses k + 1))
    bad_then k t = ap (λ b. b || is_above f.setting.allowed (counted_to i + 1)) bad_here ∙ ap (λ n. f.bad i || is_above f.setting.allowed (n + 1)) count_here
        ∙ ap (λ j. f.bad j || is_above f.setting.allowed (f.losses j + 1)) (sym (eqb-true k i t))

    given : Facts
    given = record f {
      has = put_pair (λ v k. cond (eqb v w && ltb k i) None (f.has v k)) w i None;
      on = λ k. cond (ltb k i && is_on f w k) None (f.on k);
      steal = λ k. cond (ltb k i && is_on f w k) None (f.steal k);
      bad = bad_to;
      losses = counted_to;
    }

    taken : Facts
    taken = record f {
      has = put_pair (λ v k. cond (eqb v w && ltb k i) None (f.has v k)) w i None;
      on = put (λ k. cond (ltb k i && is_on f w k) None (f.on k)) i None;
      steal = put (λ k. cond (ltb k i && is_on f w k) None (f.steal k)) i None;
      bad = put bad_to i (bad_to i || is_above f.setting.allowed (counted_to i + 1));
      losses = put counted_to i (counted_to i + 1);
    }

    was : is_for w (cond (ltb i i && is_on f w i) None (f.on i)) ≡ is_on f w i
    was = ap (λ b. is_for w (cond (b && is_on f w i) None (f.on i))) (not_below_self i)

    has_at : (v k : ℕ) → cond (eqb v w && eqb k i) None (cond (eqb v w && ltb k i) None (f.has v k)) ≡ cond (eqb v w && ltb k (i + 1)) None (f.has v k)
    has_at v k = copied (eqb v w) (eqb k i) (ltb k i) (f.has v k) ∙ ap (λ b. cond (eqb v w && b) None (f.has v k)) (sym (next k i))

    same : (k : ℕ) (b : Bool) → is_on f w i ≡ b → eqb k i ≡ true → is_on f w k ≡ b
    same k b e t = ap (is_on f w) (eqb-true k i t) ∙ e

    pick : (b : Bool) → is_on f w i ≡ b → cond b taken given ≡ left_below w f (i + 1)
    pick true e = λ j. record f {
      has = λ v k. has_at v k j;
      on = λ k. (gone (eqb k i) (ltb k i) (is_on f w k) (f.on k) (same k true e) ∙ ap (λ b. cond (b && is_on f w k) None (f.on k)) (sym (next k i))) j;
      steal = λ k. (gone (eqb k i) (ltb k i) (is_on f w k) (f.steal k) (same k true e) ∙ ap (λ b. cond (b && is_on f w k) None (f.steal k)) (sym (next k i))) j;
      bad = λ k. (worse (eqb k i) (ltb k i) (is_on f w k) (f.bad k) (is_above f.setting.allowed (f.losses k + 1)) (bad_to i || is_above f.setting.allowed (counted_to i + 1)) (λ t. (same k true e t, bad_then k t)) ∙ ap (λ b. f.bad k || ((b && is_on f w k) && is_above f.setting.allowed (f.losses k + 1))) (sym (next k i))) j;
      losses = λ k. (raised (eqb k i) (ltb k i) (is_on f w k) (f.losses k) (counted_to i + 1) (λ t. (same k true e t, count_then k t)) ∙ ap (λ b. cond (b && is_on f w k) (f.losses k + 1) (f.losses k)) (sym (next k i))) j;
    }
    pick false e = λ j. record f {
      has = λ v k. has_at v k j;
      on = λ k. (stays (eqb k i) (ltb k i) (is_on f w k) (f.on k) (same k false e) ∙ ap (λ b. cond (b && is_on f w k) None (f.on k)) (sym (next k i))) j;
      steal = λ k. (stays (eqb k i) (ltb k i) (is_on f w k) (f.steal k) (same k false e) ∙ ap (λ b. cond (b && is_on f w k) None (f.steal k)) (sym (next k i))) j;
      bad = λ k. (ap (λ b. f.bad k || (b && is_above f.setting.allowed (f.losses k + 1))) (on_as k)) j;
      losses = λ k. (ap (λ b. cond b (f.losses k + 1) (f.losses k)) (on_as k)) j;
    }
      where
        on_as : (k : ℕ) → (ltb k i && is_on f w k) ≡ (ltb k (i + 1) && is_on f w k)
        on_as k = same_as (ltb k i && is_on f w k) ((eqb k i || ltb k i) && is_on f w k) (left_as (eqb k i) (ltb k i) (is_on f w k) true false (same k false e)) ∙ ap (λ b. b && is_on f w k) (sym (next k i))
          where
            same_as : (x y : Bool) → cond x true false ≡ cond y true false → x ≡ y
            same_as true true h = refl
            same_as true false h = h
            same_as false true h = h
            same_as false false h = refl

-- all keys are gone
pub left_all : (f : Facts) (w n : ℕ) → IsSound f → keys f ≤ n → record (left_below w f n) { threads = put (left_below w f n).threads w None } ≡ left f w
unfolding left left_below
left_all f w n s m = λ i. record f { threads = put f.threads w None; has = λ v k. has_at v k i; on = λ k. at (f.on k) k (s.on k) i; steal = λ k. at (f.steal k) k (λ h. s.steal k (s.on k h)) i; bad = λ k. ap (λ b. f.bad k || (b && is_above f.setting.allowed (f.losses k + 1))) (mask k) i; losses = λ k. ap (λ b. cond b (f.losses k + 1) (f.losses k)) (mask k) i }
  where
    has_at : (v k : ℕ) → cond (eqb v w && ltb k n) None (f.has v k) ≡ cond (eqb v w) None (f.has v k)
    has_at v k = ⊎_elim
        (λ l. ap (λ b. cond (eqb v w && b) None (f.has v k)) (lt-ltb k n l) ∙ ap (λ b. cond b None (f.has v k)) (and-true (eqb v w)))
        (λ l. cond_none (eqb v w && ltb k n) (f.has v k) (s.has v k (omega arith)) ∙ sym (cond_none (eqb v w) (f.has v k) (s.has v k (omega arith))))
        (cases_lt k n)

    mask : (k : ℕ) → (ltb k n && is_on f w k) ≡ is_on f w k
    mask k = ⊎_elim
        (λ l. ap (λ b. b && is_on f w k) (lt-ltb k n l))
        (λ l. let past : is_on f w k ≡ false = ap (is_for w) (s.on k (omega arith)) in ap (λ b. ltb k n && b) past ∙ and-false (ltb k n) ∙ sym past)
        (cases_lt k n)

    at : {A : Type 0} (x : Option A) (k : ℕ) → (keys f ≤ k → x ≡ None) → cond (ltb k n && is_on f w k) None x ≡ cond (is_on f w k) None x
    at x k past = ⊎_elim
        (λ l. ap (λ b. cond (b && is_on f w k) None x) (lt-ltb k n l))
        (λ l. cond_none (ltb k n && is_on f w k) x (past (omega arith)) ∙ sym (cond_none (is_on f w k) x (past (omega arith))))
        (cases_lt k n)

-- then the worker holds nothing and was given nothing
pub left_holds : (f : Facts) (w n k : ℕ) → IsSound f → keys f ≤ n → holds (left_below w f n) w k ≡ false
unfolding left_below
left_holds f w n k s m = ⊎_elim
    (λ l. ap (λ b. is_some (cond (eqb w w && b) None (f.has w k))) (lt-ltb k n l) ∙ ap (λ b. is_some (cond (b && true) None (f.has w k))) (eqb_self w))
    (λ l. ap is_some (cond_none (eqb w w && ltb k n) (f.has w k) (s.has w k (omega arith))))
    (cases_lt k n)

pub left_places : (f : Facts) (w n k : ℕ) → IsSound f → keys f ≤ n → is_on (left_below w f n) w k ≡ false
unfolding left_below
left_places f w n k s m = ⊎_elim
    (λ l. ap (λ b. is_for w (cond (b && is_on f w k) None (f.on k))) (lt-ltb k n l) ∙ pick (is_on f w k) refl)
    (λ l. ap (is_for w) (cond_none (ltb k n && is_on f w k) (f.on k) (s.on k (omega arith))))
    (cases_lt k n)
  where
    pick : (b : Bool) → is_on f w k ≡ b → is_for w (cond b None (f.on k)) ≡ false
    pick true e = refl
    pick false e = e

pub left_setting : (f : Facts) (w n : ℕ) → keys (left_below w f n) ≡ keys f
unfolding left_below
left_setting f w n = refl

pub left_connected : (f : Facts) (w n v : ℕ) → connected (left_below w f n) v ≡ connected f v
unfolding left_below
left_connected f w n v = refl
