-- Lists along which a number rises.
use Rattle.std.proofs.Common.{◌≡◌, ℕ, zero, suc, ◌+◌, ◌<◌, ◌≤◌, List, [], ◌∷◌, ◌++◌, length, map, get_or, refl, sym, subst, arith, inl, inr, eq-eqb, ne_eqb}
use Rattle.std.specs.Prelude.{nat_eq}
use Rattle.std.specs.List.{AllByRecursion, range_with_len}
use Rattle.std.specs.List.Sorted.{IsStrictlyIncreasing}
use Rattle.std.proofs.lemmas.Bool.{cases_lt, cases_eq}
use Rattle.std.proofs.lemmas.List.Sums.{position_or_len_is}
use Rattle.small_facts.proofs.Every.{all_join}
use Rattle.cluster_msgs.proofs.Dags.{all-weaker}
use Rattle.task_graph.specs.Orders.{with_key, ascending, position}
use Rattle.task_graph.proofs.Renumbered.{with-less, with-same, with-more}

pub all-mapped : {A B : Type 0} (P : A → Type 0) (Q : B → Type 0) (f : A → B) (xs : List A) → ((x : A) → P x → Q (f x)) → AllByRecursion P xs → AllByRecursion Q (map f xs)
all-mapped P Q f [] h a = tt
all-mapped P Q f (x ∷ xs) h a = (h x a.0, all-mapped P Q f xs h a.1)

-- f rises along the list
abbrev pub Rises : {A : Type 0} → (A → ℕ) → List A → Type 0
Rises f [] = Unit {0}
Rises f (x ∷ xs) = AllByRecursion (λ y. f x < f y) xs × Rises f xs

abbrev pub Rising : List ℕ → Type 0
Rising ks = Rises (λ k. k) ks

pub all-member : (P : ℕ → Type 0) (ks : List ℕ) (p d : ℕ) → AllByRecursion P ks → p < length ks → P (get_or ks p d)
all-member P [] p d a h = absurd (omega arith)
all-member P (k ∷ ks) zero d a h = a.0
all-member P (k ∷ ks) (suc p) d a h = all-member P ks p d a.1 (omega arith)

pub rising-at : (ks : List ℕ) (i j : ℕ) → Rising ks → i < j → j < length ks → get_or ks i 0 < get_or ks j 0
rising-at [] i j r h lt = absurd (omega arith)
rising-at (k ∷ ks) i zero r h lt = absurd (omega arith)
rising-at (k ∷ ks) zero (suc j) r h lt = all-member (λ y. k < y) ks j 0 r.0 (omega arith)
rising-at (k ∷ ks) (suc i) (suc j) r h lt = rising-at ks i j r.1 (omega arith) (omega arith)

-- each number stands once
pub rising-once : (ks : List ℕ) (p : ℕ) → Rising ks → p < length ks → position ks (get_or ks p 0) ≡ p
rising-once ks p r h =
    position_or_len_is (nat_eq (get_or ks p 0)) ks p 0 (omega arith) (λ i lt. ne_eqb (get_or ks p 0) (get_or ks i 0) (λ z. let l : get_or ks i 0 < get_or ks p 0 = rising-at ks i p r lt h in absurd (omega arith)))
    (λ lt. eq-eqb (get_or ks p 0) (get_or ks p 0) refl)

pub rises-mapped : {A B : Type 0} (f : B → ℕ) (g : A → B) (xs : List A) → Rises (λ x. f (g x)) xs → Rises f (map g xs)
rises-mapped f g [] r = tt
rises-mapped f g (x ∷ xs) r = (all-mapped (λ y. f (g x) < f (g y)) (λ y. f (g x) < f y) g xs (λ y h. h) r.0, rises-mapped f g xs r.1)

pub rises-join : {A : Type 0} (f : A → ℕ) (bound : ℕ) (xs ys : List A) → Rises f xs → Rises f ys → AllByRecursion (λ x. f x < bound) xs → AllByRecursion (λ y. bound ≤ f y) ys → Rises f (xs ++ ys)
rises-join f bound [] ys a b c d = b
rises-join f bound (x ∷ xs) ys a b c d =
    (all_join (λ y. f x < f y) xs ys a.0 (all-weaker (λ y. bound ≤ f y) (λ y. f x < f y) ys (λ y h. let q : f x < bound = c.0 in omega arith) d), rises-join f bound xs ys a.1 b c.1 d)

-- ---- keys in ascending order

with-all : (P : ℕ → Type 0) (k : ℕ) (js : List ℕ) → P k → AllByRecursion P js → AllByRecursion P (with_key k js)
with-all P k [] p a = (p, tt)
with-all P k (j ∷ js) p a = elim (cases_lt k j) [
  | inl lt ↦ subst (AllByRecursion P) (sym (with-less k j js lt)) (p, a)
  | inr ge ↦ elim (cases_eq k j) [
    | inl e ↦ subst (AllByRecursion P) (sym (with-same k j js e)) a
    | inr d ↦ subst (AllByRecursion P) (sym (with-more k j js ge d)) (a.0, with-all P k js p a.1)
  ]
]

with-rising : (k : ℕ) (js : List ℕ) → Rising js → Rising (with_key k js)
with-rising k [] r = (tt, tt)
with-rising k (j ∷ js) r = elim (cases_lt k j) [
  | inl lt ↦ subst Rising (sym (with-less k j js lt)) ((lt, all-weaker (λ y. j < y) (λ y. k < y) js (λ y h. omega arith) r.0), r)
  | inr ge ↦ elim (cases_eq k j) [
    | inl e ↦ subst Rising (sym (with-same k j js e)) r
    | inr d ↦ subst Rising (sym (with-more k j js ge d)) (with-all (λ y. j < y) k js (omega arith) r.0, with-rising k js r.1)
  ]
]

pub ascending-rises : (ks : List ℕ) → Rising (ascending ks)
ascending-rises [] = tt
ascending-rises (k ∷ ks) = with-rising k (ascending ks) (ascending-rises ks)

pub ascending-all : (P : ℕ → Type 0) (ks : List ℕ) → AllByRecursion P ks → AllByRecursion P (ascending ks)
ascending-all P [] a = tt
ascending-all P (k ∷ ks) a = with-all P k (ascending ks) a.0 (ascending-all P ks a.1)

-- ---- ranges

range-from : (a b n : ℕ) → a ≤ b → AllByRecursion (λ k. a ≤ k) (range_with_len b n)
range-from a b zero h = tt
range-from a b (suc n) h = (h, range-from a (b + 1) n (omega arith))

pub range-rises : (a n : ℕ) → Rising (range_with_len a n)
range-rises a zero = tt
range-rises a (suc n) = (all-weaker (λ k. a + 1 ≤ k) (λ k. a < k) (range_with_len (a + 1) n) (λ k h. omega arith) (range-from (a + 1) (a + 1) n (omega arith)), range-rises (a + 1) n)

-- ---- in the form of shapes

pub rising-increasing : (ks : List ℕ) → Rising ks → IsStrictlyIncreasing ks
rising-increasing ks r = λ k h. rising-at ks k (k + 1) r (omega arith) h
