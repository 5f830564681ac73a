-- Keys that a worker that leaves neither holds nor has are passed over.
use Rattle.std.proofs.Common.{◌≡◌, ℕ, ◌+◌, ◌<◌, ◌≤◌, Bool, true, false, ◌&&◌, ◌||◌, eqb, ltb, cond, Option, Some, None, is_some, IfSome, refl, sym, ap, ◌∙◌, arith, ⊎_elim}
use Rattle.std.proofs.lemmas.Bool.{false≢true, cases_lt, eqb-true, ltb-false, ltb-true, or_parts, le-ltb}
use Rattle.std.proofs.lemmas.Bool.Decides.{nat_tests}
use Rattle.std.proofs.Math.Bool.{and-false}
use Rattle.small_facts.proofs.Options.{none_from_is_some}
use Rattle.cluster_rules.specs.Sched.{Facts, IsSound, keys, holds, is_above, is_on, is_for}
use Rattle.key_sets.specs.Sets.{IsFirst}
use Rattle.sched_facts.specs.Kept.{left_below}
use Rattle.task_table.specs.Lists.{is_at}

-- the keys from n on are at the worker as they were
pub left_at : (f : Facts) (w n k : ℕ) → n ≤ k → is_at (left_below w f n) w k ≡ is_at f w k
unfolding left_below
left_at f w n k l = λ i. is_some (has i) || place i
  where
    has : cond (eqb w w && ltb k n) None (f.has w k) ≡ f.has w k
    has = ap (λ t. cond (eqb w w && t) None (f.has w k)) (le-ltb k n l) ∙ ap (λ t. cond t None (f.has w k)) (and-false (eqb w w))

    place : is_on (record f { on = λ j. cond (ltb j n && is_on f w j) None (f.on j) }) w k ≡ is_on f w k
    place = ap (λ t. is_on (record f { on = λ j. cond (t && is_on f w k) None (f.on k) }) w k) (le-ltb k n l)

-- and so are their losses
pub left_losses : (f : Facts) (w n k : ℕ) → n ≤ k → (left_below w f n).losses k ≡ f.losses k
unfolding left_below
left_losses f w n k l = ap (λ t. cond (t && is_on f w k) (f.losses k + 1) (f.losses k)) (le-ltb k n l)

pub left_over : (f : Facts) (w n m : ℕ) → n ≤ m → ((k : ℕ) → n ≤ k → k < m → is_at f w k ≡ false) → left_below w f n ≡ left_below w f m
unfolding left_below
left_over f w n m l none = λ i. record f { has = λ v k. has v k i; on = λ k. gone (f.on k) k i; steal = λ k. gone (f.steal k) k i; bad = λ k. ap (λ b. f.bad k || (b && is_above f.setting.allowed (f.losses k + 1))) (mask k) i; losses = λ k. ap (λ b. cond b (f.losses k + 1) (f.losses k)) (mask k) i }
  where
    within : (k : ℕ) → ltb k n ≡ false → ltb k m ≡ true → is_at f w k ≡ false
    within k a b = none k (ltb-false k n a) (ltb-true k m b)

    never : (k : ℕ) → ltb k n ≡ true → ltb k m ≡ false → ⊥
    never k a b = both k n m l a b
      where
        both : (k n m : ℕ) → n ≤ m → ltb k n ≡ true → ltb k m ≡ false → ⊥
        both k n m l a b = grind (arith, nat_tests)

    has : (v k : ℕ) → cond (eqb v w && ltb k n) None (f.has v k) ≡ cond (eqb v w && ltb k m) None (f.has v k)
    has v k = pick (eqb v w) (ltb k n) (ltb k m) refl refl refl
      where
        pick : (t a b : Bool) → eqb v w ≡ t → ltb k n ≡ a → ltb k m ≡ b → cond (t && a) None (f.has v k) ≡ cond (t && b) None (f.has v k)
        pick false a b p q r = refl
        pick true true true p q r = refl
        pick true false false p q r = refl
        pick true true false p q r = absurd (never k q r)
        pick true false true p q r = ap (λ u. f.has u k) (eqb-true v w p) ∙ none_from_is_some (f.has w k) (or_parts (holds f w k) (is_on f w k) (within k q r)).0

    mask : (k : ℕ) → (ltb k n && is_on f w k) ≡ (ltb k m && is_on f w k)
    mask k = pick (ltb k n) (ltb k m) refl refl
      where
        pick : (a b : Bool) → ltb k n ≡ a → ltb k m ≡ b → (a && is_on f w k) ≡ (b && is_on f w k)
        pick true true q r = refl
        pick false false q r = refl
        pick true false q r = absurd (never k q r)
        pick false true q r = sym (or_parts (holds f w k) (is_on f w k) (within k q r)).1

    gone : {A : Type 0} (o : Option A) (k : ℕ) → cond (ltb k n && is_on f w k) None o ≡ cond (ltb k m && is_on f w k) None o
    gone o k = pick (ltb k n) (ltb k m) refl refl
      where
        pick : (a b : Bool) → ltb k n ≡ a → ltb k m ≡ b → cond (a && is_on f w k) None o ≡ cond (b && is_on f w k) None o
        pick true true q r = refl
        pick false false q r = refl
        pick true false q r = absurd (never k q r)
        pick false true q r = sym (ap (λ t. cond t None o) (or_parts (holds f w k) (is_on f w k) (within k q r)).1)

at_low : (f : Facts) (w k : ℕ) → IsSound f → is_at f w k ≡ true → k < keys f
at_low f w k s e = ⊎_elim (λ a. a) (λ a. absurd (false≢true (sym (λ i. is_some (s.has w k a i) || is_for w (s.on k a i)) ∙ e))) (cases_lt k (keys f))

-- the first key at the worker is a key
pub first_low : (f : Facts) (w from : ℕ) (r : Option ℕ) → IsSound f → IsFirst (is_at f w) from r → IfSome r (λ k. k < keys f)
first_low f w from None s h = tt
first_low f w from (Some k) s h = at_low f w k s h.1
