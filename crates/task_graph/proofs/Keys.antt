-- Keys in ascending order: none is lost.
use Rattle.std.proofs.Common.{◌≡◌, ◌≢◌, ℕ, zero, suc, ◌<◌, ◌≤◌, List, [], ◌∷◌, length, get_or, refl, sym, subst, arith, inl, inr}
use Rattle.std.specs.Prelude.{Contains}
use Rattle.std.proofs.lemmas.Bool.{cases_lt, cases_eq}
use Rattle.task_graph.specs.Orders.{with_key, ascending}

pub contains-here : (x : ℕ) (xs : List ℕ) → Contains (x ∷ xs) x
contains-here x xs = (0, omega arith, refl)

pub contains-later : (x y : ℕ) (xs : List ℕ) → Contains xs x → Contains (y ∷ xs) x
contains-later x y xs c = (suc c.0, omega (arith, c.1), c.2)

contains-or : (k y : ℕ) (ys : List ℕ) → Contains (y ∷ ys) k → (k ≢ y) → Contains ys k
contains-or k y ys c d = tail c.0 c.1 c.2
  where
    tail : (i : ℕ) → i < length (y ∷ ys) → get_or (y ∷ ys) i k ≡ k → Contains ys k
    tail zero h e = absurd (d (sym e))
    tail (suc i) h e = (i, omega arith, e)

with-here : (k : ℕ) (js : List ℕ) → Contains (with_key k js) k
with-here k [] = contains-here k []
with-here k (j ∷ js) = elim (cases_lt k j) [
  | inl lt ↦ subst (λ xs. Contains xs k) (sym (less k j js lt)) (contains-here k (j ∷ js))
  | inr ge ↦ elim (cases_eq k j) [
    | inl e ↦ subst (λ xs. Contains xs k) (sym (same k j js e)) (subst (λ x. Contains (x ∷ js) k) e (contains-here k js))
    | inr d ↦ subst (λ xs. Contains xs k) (sym (more k j js ge d)) (contains-later k j (with_key k js) (with-here k js))
  ]
]
  where
    less : (k j : ℕ) (js : List ℕ) → k < j → with_key k (j ∷ js) ≡ k ∷ j ∷ js
    less k j js h = grind arith

    same : (k j : ℕ) (js : List ℕ) → k ≡ j → with_key k (j ∷ js) ≡ j ∷ js
    same k j js h = grind arith

    more : (k j : ℕ) (js : List ℕ) → j ≤ k → k ≢ j → with_key k (j ∷ js) ≡ j ∷ with_key k js
    more k j js h d = grind arith

with-kept : (k x : ℕ) (js : List ℕ) → Contains js x → Contains (with_key k js) x
with-kept k x [] c = absurd (omega (arith, c.1))
with-kept k x (j ∷ js) c = elim (cases_lt k j) [
  | inl lt ↦ subst (λ xs. Contains xs x) (sym (less k j js lt)) (contains-later x k (j ∷ js) c)
  | inr ge ↦ elim (cases_eq k j) [
    | inl e ↦ subst (λ xs. Contains xs x) (sym (same k j js e)) c
    | inr d ↦ subst (λ xs. Contains xs x) (sym (more k j js ge d))
        (elim (cases_eq x j) [
          | inl e ↦ subst (λ y. Contains (y ∷ with_key k js) x) e (contains-here x (with_key k js))
          | inr n ↦ contains-later x j (with_key k js) (with-kept k x js (contains-or x j js c n))
        ])
  ]
]
  where
    less : (k j : ℕ) (js : List ℕ) → k < j → with_key k (j ∷ js) ≡ k ∷ j ∷ js
    less k j js h = grind arith

    same : (k j : ℕ) (js : List ℕ) → k ≡ j → with_key k (j ∷ js) ≡ j ∷ js
    same k j js h = grind arith

    more : (k j : ℕ) (js : List ℕ) → j ≤ k → k ≢ j → with_key k (j ∷ js) ≡ j ∷ with_key k js
    more k j js h d = grind arith

-- no key is lost
pub ascending-has : (ks : List ℕ) (k : ℕ) → Contains ks k → Contains (ascending ks) k
ascending-has [] k c = absurd (omega (arith, c.1))
ascending-has (x ∷ xs) k c = elim (cases_eq k x) [
  | inl e ↦ subst (λ y. Contains (with_key y (ascending xs)) k) e (with-here k (ascending xs))
  | inr d ↦ with-kept x k (ascending xs) (ascending-has xs k (contains-or k x xs c d))
]
