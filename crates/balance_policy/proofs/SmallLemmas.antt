-- The tests' facts, question by question.
use Rattle.std.proofs.Common.{◌≡◌, ℕ, zero, suc, ◌+◌, ◌*◌, ◌^◌, ◌<◌, ◌≤◌, nat_le, ◌==◌, Bool, true, false, cond, ◌&&◌, ◌||◌, Option, Some, None, is_some, unwrap_or, refl, sym, ap, ◌∙◌, arith}
use Rattle.std.proofs.lemmas.Bool.{false≢true, true≢false}
use Rattle.std.proofs.lemmas.Bool.Decides.{nat_tests}
use Rattle.std.specs.List.{AllByRecursion}
use Rattle.std.specs.List.Sorted.{IsStrictlyIncreasing}
use Rattle.std.specs.Option.{option_map}
use Rattle.small_facts.proofs.Numbers.{eqb_turned, unequal_over}
use Rattle.small_facts.proofs.Options.{some_not_none}
use Rattle.cluster_msgs.specs.Shape.{IsShape, deps_of, nbytes_of, work_of}
use Rattle.cluster_rules.specs.Sched.{IsSound, keys, need, held, erred, holds, connected, threads_of, tasks, occupancy, bytes_held, holder_count, waiters, is_for, is_stealing, full}
use Rattle.cluster_rules.proofs.NothingLemmas.{need-nowhere, erred-nowhere, waiters-nowhere}
use Rattle.balance_policy.specs.Small.{small_shape, small_facts}

pub keys-small : (g a c : Bool) → 5 ≡ keys (small_facts g a c)
unfolding small_facts
keys-small g a c = refl

pub last-small : (g a c : Bool) → 3 ≡ (small_facts g a c).last_worker
unfolding small_facts
last-small g a c = refl

pub shape-small : (g a c : Bool) → small_shape ≡ (small_facts g a c).setting.shape
unfolding small_facts
shape-small g a c = refl

pub need-small : (g a c : Bool) (k : ℕ) → false ≡ need (small_facts g a c) k
unfolding small_facts
need-small g a c k = sym (need-nowhere _ (λ d j. refl) k)

pub erred-small : (g a c : Bool) (k : ℕ) → false ≡ erred (small_facts g a c) k
unfolding small_facts
erred-small g a c k = sym (erred-nowhere _ (λ j. refl) k)

pub waiters-small : (g a c : Bool) (k : ℕ) → 0 ≡ waiters (small_facts g a c) k
unfolding small_facts
waiters-small g a c k = sym (waiters-nowhere _ (λ d j. refl) k)

some_cond : {A : Type 0} (x : A) (b : Bool) → b ≡ is_some (cond {A = Option A} b (Some x) None)
some_cond x true = refl
some_cond x false = refl

pub asked-small : (g a c : Bool) (k : ℕ) → (g && (a && (k == 1))) ≡ is_stealing (small_facts g a c) k
unfolding small_facts
asked-small g a c k = some_cond (2, false) (g && (a && (k == 1)))

pub connected-small : (g a c : Bool) (w : ℕ) → (nat_le 1 w && nat_le w 3) ≡ connected (small_facts g a c) w
unfolding small_facts
connected-small g a c w = some_cond 1 (nat_le 1 w && nat_le w 3)

pub threads-small : (g a c : Bool) (w : ℕ) → connected (small_facts g a c) w ≡ true → 1 ≡ threads_of (small_facts g a c) w
unfolding small_facts
threads-small g a c w h = one (nat_le 1 w && nat_le w 3) h
  where
    one : (b : Bool) → is_some {T = ℕ} (cond {A = Option ℕ} b (Some 1) None) ≡ true → 1 ≡ unwrap_or {T = ℕ} (cond {A = Option ℕ} b (Some 1) None) 0
    one true h = refl
    one false h = absurd (false≢true h)

pub on-small : (g a c : Bool) (k : ℕ) (r : Option ℕ) → r ≡ cond (g && (nat_le 1 k && nat_le k 3)) (Some 1) None → r ≡ option_map (λ p. p.0) ((small_facts g a c).on k)
unfolding small_facts
on-small g a c k r h = h ∙ one (g && (nat_le 1 k && nat_le k 3))
  where
    one : (b : Bool) → cond {A = Option ℕ} b (Some 1) None ≡ option_map {T = ℕ × ℕ} {U = ℕ} (λ p. p.0) (cond {A = Option (ℕ × ℕ)} b (Some (1, k)) None)
    one true = refl
    one false = refl

-- key 0 or key 4
two_some : (x y : ℕ) (p q : Bool) → (p || q) ≡ is_some {T = ℕ} (cond {A = Option ℕ} p (Some x) (cond {A = Option ℕ} q (Some y) None))
two_some x y true q = refl
two_some x y false true = refl
two_some x y false false = refl

pub holds-small : (g a c : Bool) (w k : ℕ) → (((k == 0) && ((w == 1) || (c && (w == 3)))) || ((k == 4) && (w == 3))) ≡ holds (small_facts g a c) w k
unfolding small_facts
holds-small g a c w k = two_some 1 2 ((k == 0) && ((w == 1) || (c && (w == 3)))) ((k == 4) && (w == 3))

pub held-small : (g a c : Bool) (k : ℕ) (p q r : Bool) → p ≡ holds (small_facts g a c) 1 k → q ≡ holds (small_facts g a c) 2 k → r ≡ holds (small_facts g a c) 3 k → ((p || q) || r) ≡ held (small_facts g a c) k
unfolding held small_facts
held-small g a c k p q r d e h = turn p q r ∙ ap (λ b. b || (q || (r || false))) d ∙ ap (λ b. holds (small_facts g a c) 1 k || (b || (r || false))) e ∙ ap (λ b. holds (small_facts g a c) 1 k || (holds (small_facts g a c) 2 k || (b || false))) h
  where
    turn : (p q r : Bool) → ((p || q) || r) ≡ (p || (q || (r || false)))
    turn true q r = refl
    turn false true r = refl
    turn false false true = refl
    turn false false false = refl

pub holders-small : (g a c : Bool) (k x y z : ℕ) → x ≡ cond (holds (small_facts g a c) 1 k) 1 0 → y ≡ cond (holds (small_facts g a c) 2 k) 1 0 → z ≡ cond (holds (small_facts g a c) 3 k) 1 0 → x + y + z ≡ holder_count (small_facts g a c) k
unfolding holder_count small_facts
holders-small g a c k x y z d e h = omega arith

pub bytes-small : (g a c : Bool) (w x y : ℕ) → x ≡ cond (holds (small_facts g a c) w 0) 110 0 → y ≡ cond (holds (small_facts g a c) w 4) 8 0 → x + y ≡ bytes_held (small_facts g a c) w
unfolding bytes_held small_facts
bytes-small g a c w x y d e = omega arith

three : (b : Bool) → cond b 3 0 ≡ 0 + (cond b 1 0 + (cond b 1 0 + (cond b 1 0 + (0 + 0))))
three true = refl
three false = refl

pub tasks-small : (g a c : Bool) (w r : ℕ) → r ≡ cond (g && (w == 1)) 3 0 → r ≡ tasks (small_facts g a c) w
unfolding tasks small_facts
tasks-small true a c w r h = h ∙ ap (λ b. cond b 3 0) (eqb_turned w 1) ∙ three (1 == w)
tasks-small false a c w r h = h

work_sum : (b : Bool) → cond b 500 0 ≡ 0 + (cond b 100 0 + (cond b 100 0 + (cond b 300 0 + (0 + 0))))
work_sum true = refl
work_sum false = refl

pub occupancy-small : (g a c : Bool) (w r : ℕ) → r ≡ cond (g && (w == 1)) 500 0 → r ≡ occupancy (small_facts g a c) w
unfolding occupancy small_facts
occupancy-small true a c w r h = h ∙ ap (λ b. cond b 500 0) (eqb_turned w 1) ∙ work_sum (1 == w)
occupancy-small false a c w r h = h

saturated : ℕ → ℕ → Bool
saturated n t = nat_le (n * 11) (10 * t)

pub full-small : (g a c : Bool) (w : ℕ) → connected (small_facts g a c) w ≡ true → (g && (w == 1)) ≡ full (small_facts g a c) w
unfolding full saturated small_facts
full-small g a c w h =
    one (g && (w == 1))
    ∙ ap (λ n. saturated n (cond (g && (w == 1)) 3 0)) (threads-small g a c w h)
    ∙ ap (λ t. saturated (threads_of (small_facts g a c) w) t) (tasks-small g a c w (cond (g && (w == 1)) 3 0) refl)
  where
    one : (b : Bool) → b ≡ saturated 1 (cond b 3 0)
    one true = refl
    one false = refl

shape_below : (k : ℕ) → AllByRecursion (λ d. d < k) (deps_of small_shape k)
shape_below zero = tt
shape_below (suc zero) = (omega arith, tt)
shape_below (suc (suc zero)) = tt
shape_below (suc (suc (suc zero))) = tt
shape_below (suc (suc (suc (suc zero)))) = tt
shape_below (suc (suc (suc (suc (suc k))))) = tt

shape_rising : (k : ℕ) → IsStrictlyIncreasing (deps_of small_shape k)
shape_rising zero = λ i l. absurd (omega arith)
shape_rising (suc zero) = λ i l. absurd (omega arith)
shape_rising (suc (suc zero)) = λ i l. absurd (omega arith)
shape_rising (suc (suc (suc zero))) = λ i l. absurd (omega arith)
shape_rising (suc (suc (suc (suc zero)))) = λ i l. absurd (omega arith)
shape_rising (suc (suc (suc (suc (suc k))))) = λ i l. absurd (omega arith)

shape_light : (k : ℕ) → work_of small_shape k ≤ 2 ^ 46
shape_light zero = omega arith
shape_light (suc zero) = omega arith
shape_light (suc (suc zero)) = omega arith
shape_light (suc (suc (suc zero))) = omega arith
shape_light (suc (suc (suc (suc zero)))) = omega arith
shape_light (suc (suc (suc (suc (suc k))))) = omega arith

shape_small : (k : ℕ) → nbytes_of small_shape k ≤ 2 ^ 27
shape_small zero = omega arith
shape_small (suc zero) = omega arith
shape_small (suc (suc zero)) = omega arith
shape_small (suc (suc (suc zero))) = omega arith
shape_small (suc (suc (suc (suc zero)))) = omega arith
shape_small (suc (suc (suc (suc (suc k))))) = omega arith

is_shape : IsShape small_shape
is_shape = record {
  work_each = refl;
  nbytes_each = refl;
  few = omega arith;
  few_edges = omega arith;
  below = shape_below;
  rising = shape_rising;
  light = shape_light;
  small = shape_small;
}

has_none : (p q x y : Bool) → p ≡ false → q ≡ false → cond {A = Option ℕ} (p && x) (Some 1) (cond {A = Option ℕ} (q && y) (Some 2) None) ≡ None
has_none true q x y h i = absurd (true≢false h)
has_none false true x y h i = absurd (true≢false i)
has_none false false x y h i = refl

beyond : (k : ℕ) → 5 ≤ k → (nat_le 1 k && nat_le k 3) ≡ false
beyond k h = grind (arith, nat_tests)

on_none : (k : ℕ) (g b : Bool) → b ≡ false → cond {A = Option (ℕ × ℕ)} (g && b) (Some (1, k)) None ≡ None
on_none k true true h = absurd (true≢false h)
on_none k true false h = refl
on_none k false b h = refl

steal_none : (k : ℕ) (g a : Bool) → cond {A = Option (ℕ × ℕ)} (g && (nat_le 1 k && nat_le k 3)) (Some (1, k)) None ≡ None → cond {A = Option (ℕ × Bool)} (g && (a && (k == 1))) (Some (2, false)) None ≡ None
steal_none k false a h = refl
steal_none k true false h = refl
steal_none k true true h = pick (k == 1) (nat_le 1 k && nat_le k 3) one h
  where
    one : (k == 1) ≡ true → (nat_le 1 k && nat_le k 3) ≡ true
    one e = grind (arith, nat_tests)

    pick : (b d : Bool) → (b ≡ true → d ≡ true) → cond {A = Option (ℕ × ℕ)} d (Some (1, k)) None ≡ None → cond {A = Option (ℕ × Bool)} b (Some (2, false)) None ≡ None
    pick false d i j = refl
    pick true true i j = absurd (some_not_none (1, k) j)
    pick true false i j = absurd (false≢true (i refl))

is_some_cond : {A : Type 0} (x : A) (b : Bool) → is_some (cond {A = Option A} b (Some x) None) ≡ true → b ≡ true
is_some_cond x b h = some_cond x b ∙ h

near : (w : ℕ) → (nat_le 1 w && nat_le w 3) ≡ true → (1 ≤ w) × (w ≤ 3)
near w h = (low w h, high w h)
  where
    low : (w : ℕ) → (nat_le 1 w && nat_le w 3) ≡ true → 1 ≤ w
    low w h = grind (arith, nat_tests)

    high : (w : ℕ) → (nat_le 1 w && nat_le w 3) ≡ true → w ≤ 3
    high w h = grind (arith, nat_tests)

one_thread : (b : Bool) (n : ℕ) → cond {A = Option ℕ} b (Some 1) None ≡ Some n → (1 ≤ n) × (n ≤ 16)
one_thread true n h = let e : 1 ≡ n = same n h in (omega arith, omega arith)
  where
    same : (n : ℕ) → Some 1 ≡ Some n → 1 ≡ n
    same n h = cc
one_thread false n h = absurd (some_not_none n (sym h))

who_holds : (w k : ℕ) (c : Bool) → (((k == 0) && ((w == 1) || (c && (w == 3)))) || ((k == 4) && (w == 3))) ≡ true → (nat_le 1 w && nat_le w 3) ≡ true
who_holds w k true h = grind (arith, nat_tests)
who_holds w k false h = grind (arith, nat_tests)

who_runs : (w k : ℕ) (b : Bool) → is_for w (cond {A = Option (ℕ × ℕ)} b (Some (1, k)) None) ≡ true → (nat_le 1 w && nat_le w 3) ≡ true
who_runs w k true h = first w h
  where
    first : (w : ℕ) → (1 == w) ≡ true → (nat_le 1 w && nat_le w 3) ≡ true
    first w h = grind (arith, nat_tests)
who_runs w k false h = absurd (false≢true h)

pub sound-small : (g a c : Bool) → IsSound (small_facts g a c)
unfolding small_facts
sound-small g a c = record {
  shape = is_shape;
  few_clients = omega arith;
  saturation = (omega arith, omega arith);
  want = λ i k l. refl;
  has = λ w k l. has_none (k == 0) (k == 4) ((w == 1) || (c && (w == 3))) (w == 3) (unequal_over k 0 (omega arith)) (unequal_over k 4 (omega arith));
  bad = λ k l. refl;
  losses = λ k l. refl;
  on = λ k l. on_none k g (nat_le 1 k && nat_le k 3) (beyond k l);
  steal = λ k. steal_none k g a;
  numbers = λ w h. near w (is_some_cond 1 (nat_le 1 w && nat_le w 3) h);
  threads = λ w n. one_thread (nat_le 1 w && nat_le w 3) n;
  few_workers = omega arith;
  few_numbers = omega arith;
  holders = λ w k h. sym (connected-small g a c w) ∙ who_holds w k c (holds-small g a c w k ∙ h);
  places = λ w k h. sym (connected-small g a c w) ∙ who_runs w k (g && (nat_le 1 k && nat_le k 3)) h;
}
