-- The equations of values and cones, and what follows from them.
use Rattle.std.proofs.Common.{◌≡◌, ℕ, zero, suc, ◌<◌, ◌≤◌, Bool, true, false, ◌&&◌, ◌||◌, List, [], ◌∷◌, length, map, refl, ap, sym, ◌∙◌, subst, inl, inr, ◌⊎◌, arith}
use Rattle.std.specs.Prelude.{◌==◌, Option, Some, None, is_some, is_none, option_and_then, slice_index_or, Contains}
use Rattle.std.specs.List.{AllByRecursion, list_any, list_all}
use Rattle.std.proofs.lemmas.Bool.Decides.{Decides-eqb}
use Rattle.std.proofs.lemmas.Bool.{and_from, or_left, or_right, or_cases}
use Rattle.small_facts.proofs.Options.{none_from_is_none}
use Rattle.small_facts.proofs.Truth.{and_first, and_second}
use Rattle.cluster_msgs.specs.Dags.{IsEarlier}
use Rattle.cluster_msgs.specs.Values.{with_first, all_of, val_step, val, is_true, cone_step, cone, faulty}
use Rattle.cluster_msgs.proofs.Dags.{dag-step, dag-induction, all-weaker, pair-all}

-- ## Lists

any-map : {A : Type 0} (f : A → Bool) (xs : List A) → list_any is_true (map f xs) ≡ list_any f xs
any-map f [] = refl
any-map f (x ∷ xs) = ap (λ b. f x || b) (any-map f xs)

-- where each element that passes has a consequence, a passing list has it
any-gives : {A : Type 0} (f : A → Bool) (P : Type 0) (xs : List A) → AllByRecursion (λ x. f x ≡ true → P) xs → list_any f xs ≡ true → P
any-gives f P [] h t = let no : ⊥ = cc in absurd no
any-gives f P (x ∷ xs) h t = elim (or_cases (f x) (list_any f xs) t) [ inl a ↦ h.0 a | inr b ↦ any-gives f P xs h.1 b ]

any-more : {A : Type 0} (f g : A → Bool) (xs : List A) → AllByRecursion (λ x. f x ≡ true → g x ≡ true) xs → list_any f xs ≡ true → list_any g xs ≡ true
any-more f g [] h t = t
any-more f g (x ∷ xs) h t =
    elim (or_cases (f x) (list_any f xs) t) [
      | inl a ↦ or_left (g x) (list_any g xs) (h.0 a)
      | inr b ↦ or_right (g x) (list_any g xs) (any-more f g xs h.1 b)
    ]

any-at : {A : Type 0} (f : A → Bool) (xs : List A) (x : A) (i : ℕ) → i < length xs → slice_index_or xs i x ≡ x → f x ≡ true → list_any f xs ≡ true
any-at f [] x i lt e h = absurd (omega arith)
any-at f (y ∷ ys) x zero lt e h = or_left (f y) (list_any f ys) (ap f e ∙ h)
any-at f (y ∷ ys) x (suc i) lt e h = or_right (f y) (list_any f ys) (any-at f ys x i (omega arith) e h)

all-at : {A : Type 0} (P : A → Type 0) (xs : List A) (x : A) (i : ℕ) → i < length xs → slice_index_or xs i x ≡ x → AllByRecursion P xs → P x
all-at P [] x i lt e h = absurd (omega arith)
all-at P (y ∷ ys) x zero lt e h = subst P e h.0
all-at P (y ∷ ys) x (suc i) lt e h = all-at P ys x i (omega arith) e h.1

longer : {A : Type 0} (y x : A) (ys : List A) → Contains ys x → Contains (y ∷ ys) x
longer y x ys m = (suc m.0, omega arith, m.2)

all-members : {A : Type 0} (xs : List A) → AllByRecursion (Contains xs) xs
all-members [] = tt
all-members (x ∷ xs) = ((0, omega arith, refl), all-weaker (Contains xs) (Contains (x ∷ xs)) xs (λ y m. longer x y xs m) (all-members xs))

-- ## All of the values

first-none : {A : Type 0} (o : Option A) → with_first o None ≡ None
first-none None = refl
first-none (Some x) = refl

all_of-missing : {X A : Type 0} (f : X → Option A) (xs : List X) (x : X) (i : ℕ) → i < length xs → slice_index_or xs i x ≡ x → f x ≡ None → all_of (map f xs) ≡ None
all_of-missing f [] x i lt e n = absurd (omega arith)
all_of-missing f (y ∷ ys) x zero lt e n = ap (λ o. with_first o (all_of (map f ys))) (ap f e ∙ n)
all_of-missing f (y ∷ ys) x (suc i) lt e n = ap (with_first (f y)) (all_of-missing f ys x i (omega arith) e n) ∙ first-none (f y)

first-there : {A : Type 0} (o : Option A) (os : Option (List A)) → is_some o ≡ true → (vs : List A) × (os ≡ Some vs) → (vs : List A) × (with_first o os ≡ Some vs)
first-there None os h r = let no : ⊥ = cc in absurd no
first-there (Some x) os h r = (x ∷ r.0, ap (with_first (Some x)) r.1)

all-there : {X A : Type 0} (f : X → Option A) (xs : List X) → list_all (λ x. is_some (f x)) xs ≡ true → (vs : List A) × (all_of (map f xs) ≡ Some vs)
all-there f [] h = ([], refl)
all-there f (x ∷ xs) h = first-there (f x) (all_of (map f xs)) (and_first _ _ h) (all-there f xs (and_second _ _ h))

first-some : {A : Type 0} (o : Option A) (os : Option (List A)) (vs : List A) → with_first o os ≡ Some vs → (is_some o ≡ true) × ((ws : List A) × (os ≡ Some ws))
first-some None os vs h = let no : ⊥ = cc in absurd no
first-some (Some x) None vs h = let no : ⊥ = cc in absurd no
first-some (Some x) (Some ws) vs h = (refl, (ws, refl))

all-some : {X A : Type 0} (f : X → Option A) (xs : List X) (vs : List A) → all_of (map f xs) ≡ Some vs → list_all (λ x. is_some (f x)) xs ≡ true
all-some f [] vs h = refl
all-some f (x ∷ xs) vs h =
    let r = first-some (f x) (all_of (map f xs)) vs h in
    and_from _ _ r.0 (all-some f xs r.1.0 r.1.1)

-- ## Values

pub val-step : {V : Type 0} (deps : ℕ → List ℕ) (op : ℕ → List V → Option V) → IsEarlier deps → (k : ℕ) → val deps op k ≡ option_and_then (op k) (all_of (map (val deps op) (deps k)))
unfolding val
val-step deps op e k = dag-step deps (val_step op) None e k

pub val-bad : {V : Type 0} (deps : ℕ → List ℕ) (op : ℕ → List V → Option V) → IsEarlier deps → (k d : ℕ) → Contains (deps k) d → val deps op d ≡ None → val deps op k ≡ None
val-bad deps op e k d m n = val-step deps op e k ∙ ap (option_and_then (op k)) (all_of-missing (val deps op) (deps k) d m.0 m.1 m.2 n)

pub val-values : {V : Type 0} (deps : ℕ → List ℕ) (op : ℕ → List V → Option V) → IsEarlier deps → (k : ℕ) (vs : List V) → all_of (map (val deps op) (deps k)) ≡ Some vs → val deps op k ≡ op k vs
val-values deps op e k vs h = val-step deps op e k ∙ ap (option_and_then (op k)) h

pub faulty-values : {V : Type 0} (deps : ℕ → List ℕ) (op : ℕ → List V → Option V) → IsEarlier deps → (k : ℕ) (vs : List V) → all_of (map (val deps op) (deps k)) ≡ Some vs → op k vs ≡ None → faulty deps (val deps op) k ≡ true
faulty-values deps op e k vs h n = and_from _ _ (all-some (val deps op) (deps k) vs h) (ap is_none (val-values deps op e k vs h ∙ n))

pub faulty-none : {V : Type 0} (deps : ℕ → List ℕ) (value : ℕ → Option V) (k : ℕ) → faulty deps value k ≡ true → value k ≡ None
faulty-none deps value k f = none_from_is_none (value k) (and_second _ _ f)

pub faulty-operation : {V : Type 0} (deps : ℕ → List ℕ) (op : ℕ → List V → Option V) → IsEarlier deps → (k : ℕ) → faulty deps (val deps op) k ≡ true
    → (vs : List V) × (all_of (map (val deps op) (deps k)) ≡ Some vs) × (op k vs ≡ None)
faulty-operation deps op e k f =
    let r = all-there (val deps op) (deps k) (and_first _ _ f) in
    (r.0, r.1, sym (val-values deps op e k r.0 r.1) ∙ faulty-none deps (val deps op) k f)

-- ## Cones

pub cone-step : (deps : ℕ → List ℕ) → IsEarlier deps → (k j : ℕ) → cone deps k j ≡ ((k == j) || list_any (λ d. cone deps d j) (deps k))
unfolding cone
cone-step deps e k j = dag-step deps (cone_step j) false e k ∙ ap (λ b. (k == j) || b) (any-map (λ d. cone deps d j) (deps k))

pub cone-itself : (deps : ℕ → List ℕ) → IsEarlier deps → (k : ℕ) → cone deps k k ≡ true
cone-itself deps e k = cone-step deps e k k ∙ or_left (k == k) _ ((Decides-eqb k k).1 refl)

pub cone-above : (deps : ℕ → List ℕ) → IsEarlier deps → (k j : ℕ) → list_any (λ d. cone deps d j) (deps k) ≡ true → cone deps k j ≡ true
cone-above deps e k j h = cone-step deps e k j ∙ or_right (k == j) _ h

-- a key of a cone is its key, or in the cone of a dependency
pub cone-cases : (deps : ℕ → List ℕ) → IsEarlier deps → (k j : ℕ) → cone deps k j ≡ true → (k ≡ j) ⊎ (list_any (λ d. cone deps d j) (deps k) ≡ true)
cone-cases deps e k j h = elim (or_cases (k == j) _ (sym (cone-step deps e k j) ∙ h)) [ inl a ↦ inl ((Decides-eqb k j).0 a) | inr b ↦ inr b ]

-- what a key has by itself, and takes from each dependency in whose cone j is, all keys have in whose cone j is
cone-induction : (deps : ℕ → List ℕ) → IsEarlier deps → (j : ℕ) (P : ℕ → Type 0) → P j
    → ((k d : ℕ) → Contains (deps k) d → cone deps d j ≡ true → P d → P k) → (k : ℕ) → cone deps k j ≡ true → P k
cone-induction deps e j P here above = dag-induction deps (λ k. cone deps k j ≡ true → P k) e (λ k ih h.
    elim (cone-cases deps e k j h) [
      | inl a ↦ subst P (sym a) here
      | inr b ↦ any-gives (λ d. cone deps d j) (P k) (deps k)
          (all-weaker _ _ (deps k) (λ d p c. above k d p.0 c (p.1 c)) (pair-all _ _ (deps k) (all-members (deps k)) ih)) b
    ])

pub cone-closed : (deps : ℕ → List ℕ) → IsEarlier deps → (k j d : ℕ) → cone deps k j ≡ true → Contains (deps j) d → cone deps k d ≡ true
cone-closed deps e k j d h m =
    cone-induction deps e j (λ i. cone deps i d ≡ true)
    (cone-above deps e j d (any-at (λ x. cone deps x d) (deps j) d m.0 m.1 m.2 (cone-itself deps e d)))
    (λ i x n c p. cone-above deps e i d (any-at (λ y. cone deps y d) (deps i) x n.0 n.1 n.2 p))
    k h

pub cone-least : (deps : ℕ → List ℕ) → IsEarlier deps → (set : ℕ → Bool) (k : ℕ) → set k ≡ true
    → ((j d : ℕ) → set j ≡ true → Contains (deps j) d → set d ≡ true) → (j : ℕ) → cone deps k j ≡ true → set j ≡ true
cone-least deps e set k s closed j h =
    cone-induction deps e j (λ i. set i ≡ true → set j ≡ true) (λ p. p) (λ i d m c p q. p (closed i d q m)) k h s

pub cone-below : (deps : ℕ → List ℕ) → IsEarlier deps → (k j : ℕ) → cone deps k j ≡ true → j ≤ k
cone-below deps e k j h =
    cone-induction deps e j (λ i. j ≤ i) (omega arith)
    (λ i d m c p. let lt : d < i = all-at (λ x. x < i) (deps i) d m.0 m.1 m.2 (e.below i) in omega arith) k h

pub bad-above : {V : Type 0} (deps : ℕ → List ℕ) (op : ℕ → List V → Option V) → IsEarlier deps → (k j : ℕ) → cone deps k j ≡ true → faulty deps (val deps op) j ≡ true → val deps op k ≡ None
bad-above deps op e k j h f =
    cone-induction deps e j (λ i. val deps op i ≡ None) (faulty-none deps (val deps op) j f) (λ i d m c p. val-bad deps op e i d m p) k h

-- a faulty key in the cone of one of these keys
AnyFault : {V : Type 0} → (ℕ → List ℕ) → (ℕ → List V → Option V) → List ℕ → Type 0
AnyFault deps op xs = (j : ℕ) × (list_any (λ d. cone deps d j) xs ≡ true) × (faulty deps (val deps op) j ≡ true)

Fault : {V : Type 0} → (ℕ → List ℕ) → (ℕ → List V → Option V) → ℕ → Type 0
Fault deps op k = (j : ℕ) × (cone deps k j ≡ true) × (faulty deps (val deps op) j ≡ true)

and-rest : (a b : Bool) → a ≡ true → (a && b) ≡ false → b ≡ false
and-rest true b h k = k
and-rest false b h k = cc

one-missing : {V : Type 0} (deps : ℕ → List ℕ) (op : ℕ → List V → Option V) (x : ℕ) (xs : List ℕ) (o : Option V) → val deps op x ≡ o
    → (val deps op x ≡ None → Fault deps op x) → (list_all (λ d. is_some (val deps op d)) xs ≡ false → AnyFault deps op xs)
    → (is_some (val deps op x) && list_all (λ d. is_some (val deps op d)) xs) ≡ false → AnyFault deps op (x ∷ xs)
unfolding AnyFault Fault
one-missing deps op x xs None e here later h = let r = here e in (r.0, or_left (cone deps x r.0) _ r.1, r.2)
one-missing deps op x xs (Some v) e here later h =
    let r = later (and-rest (is_some (val deps op x)) _ (ap is_some e) h) in
    (r.0, or_right (cone deps x r.0) _ r.1, r.2)

missing-fault : {V : Type 0} (deps : ℕ → List ℕ) (op : ℕ → List V → Option V) (xs : List ℕ) → AllByRecursion (λ x. val deps op x ≡ None → Fault deps op x) xs
    → list_all (λ d. is_some (val deps op d)) xs ≡ false → AnyFault deps op xs
missing-fault deps op [] q h = let no : ⊥ = cc in absurd no
missing-fault deps op (x ∷ xs) q h = one-missing deps op x xs (val deps op x) refl q.0 (missing-fault deps op xs q.1) h

fault-at : {V : Type 0} (deps : ℕ → List ℕ) (op : ℕ → List V → Option V) → IsEarlier deps → (k : ℕ) (b : Bool) → list_all (λ d. is_some (val deps op d)) (deps k) ≡ b
    → AllByRecursion (λ x. val deps op x ≡ None → Fault deps op x) (deps k) → val deps op k ≡ None → Fault deps op k
unfolding AnyFault Fault
fault-at deps op e k true h ih n = (k, cone-itself deps e k, and_from _ _ h (ap is_none n))
fault-at deps op e k false h ih n = let r = missing-fault deps op (deps k) ih h in (r.0, cone-above deps e k r.0 r.1, r.2)

pub bad-fault : {V : Type 0} (deps : ℕ → List ℕ) (op : ℕ → List V → Option V) → IsEarlier deps → (k : ℕ) → val deps op k ≡ None
    → (j : ℕ) × (cone deps k j ≡ true) × (faulty deps (val deps op) j ≡ true)
unfolding Fault
bad-fault deps op e = dag-induction deps (λ k. val deps op k ≡ None → Fault deps op k) e (λ k ih n. fault-at deps op e k _ refl ih n)
