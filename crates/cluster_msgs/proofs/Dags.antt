-- The equation of `dag`, its induction, and what follows where two graphs agree.
use Rattle.std.proofs.Common.{◌≡◌, ℕ, zero, suc, ◌<◌, List, [], ◌∷◌, map, refl, ap, sym, ◌∙◌, arith}
use Rattle.std.specs.List.{AllByRecursion}
use Rattle.std.proofs.lemmas.Simd.{map-map}
use Rattle.cluster_msgs.specs.Dags.{IsEarlier, dag_within, dag}

-- two functions that agree on the elements of a list map it alike
pub map-same : {A B : Type 0} (f g : A → B) (xs : List A) → AllByRecursion (λ x. f x ≡ g x) xs → map f xs ≡ map g xs
map-same f g [] h = refl
map-same f g (x ∷ xs) h = ap (λ y. y ∷ map f xs) h.0 ∙ ap (λ ys. g x ∷ ys) (map-same f g xs h.1)

pub all-weaker : {A : Type 0} (P Q : A → Type 0) (xs : List A) → ((x : A) → P x → Q x) → AllByRecursion P xs → AllByRecursion Q xs
all-weaker P Q [] h a = tt
all-weaker P Q (x ∷ xs) h a = (h x a.0, all-weaker P Q xs h a.1)

dag_enough : {A : Type 0} (deps : ℕ → List ℕ) (step : ℕ → List A → A) (none : A) → IsEarlier deps → (f g k : ℕ) → k < f → k < g → dag_within deps step none f k ≡ dag_within deps step none g k
unfolding dag_within
dag_enough deps step none e zero g k p q = absurd (omega arith)
dag_enough deps step none e (suc f) zero k p q = absurd (omega arith)
dag_enough deps step none e (suc f) (suc g) k p q =
    ap (step k) (map-same _ _ (deps k) (all-weaker _ _ (deps k) (λ d h. dag_enough deps step none e f g d (omega arith) (omega arith)) (e.below k)))

-- the value of a node is its step over the values of its dependencies
pub dag-step : {A : Type 0} (deps : ℕ → List ℕ) (step : ℕ → List A → A) (none : A) → IsEarlier deps → (k : ℕ) → dag deps step none k ≡ step k (map (dag deps step none) (deps k))
unfolding dag dag_within
dag-step deps step none e k =
    ap (step k) (map-same _ _ (deps k) (all-weaker _ _ (deps k) (λ d h. dag_enough deps step none e k (suc d) d h (omega arith)) (e.below k)))

within_induction : (deps : ℕ → List ℕ) (Q : ℕ → Type 0) → IsEarlier deps → ((k : ℕ) → AllByRecursion Q (deps k) → Q k) → (f k : ℕ) → k < f → Q k
within_induction deps Q e h zero k p = absurd (omega arith)
within_induction deps Q e h (suc f) k p = h k (all-weaker _ _ (deps k) (λ d b. within_induction deps Q e h f d (omega arith)) (e.below k))

-- what each node inherits from its dependencies, every node has
pub dag-induction : (deps : ℕ → List ℕ) (Q : ℕ → Type 0) → IsEarlier deps → ((k : ℕ) → AllByRecursion Q (deps k) → Q k) → (k : ℕ) → Q k
dag-induction deps Q e h k = within_induction deps Q e h (suc k) k (omega arith)

-- A graph that holds another one's kept nodes under new numbers gives them the same values.
pub record Embeds {A : Type 0} (deps deps' : ℕ → List ℕ) (step step' : ℕ → List A → A) (Kept : ℕ → Type 0) (r : ℕ → ℕ) : Type 0 where
  pub deps_is : (k : ℕ) → Kept k → deps' (r k) ≡ map r (deps k)
  pub kept : (k : ℕ) → Kept k → AllByRecursion Kept (deps k)
  pub step_is : (k : ℕ) (xs : List A) → Kept k → step' (r k) xs ≡ step k xs

pub pair-all : {A : Type 0} (P Q : A → Type 0) (xs : List A) → AllByRecursion P xs → AllByRecursion Q xs → AllByRecursion (λ x. P x × Q x) xs
pair-all P Q [] a b = tt
pair-all P Q (x ∷ xs) a b = ((a.0, b.0), pair-all P Q xs a.1 b.1)

pub dag-embedded : {A : Type 0} (deps deps' : ℕ → List ℕ) (step step' : ℕ → List A → A) (none : A) (Kept : ℕ → Type 0) (r : ℕ → ℕ) → IsEarlier deps → IsEarlier deps' → Embeds deps deps' step step' Kept r
    → (k : ℕ) → Kept k → dag deps' step' none (r k) ≡ dag deps step none k
dag-embedded deps deps' step step' none Kept r e e' m =
    dag-induction deps (λ k. Kept k → dag deps' step' none (r k) ≡ dag deps step none k) e (λ k ih kept.
    dag-step deps' step' none e' (r k)
    ∙ ap (λ ds. step' (r k) (map (dag deps' step' none) ds)) (m.deps_is k kept)
    ∙ m.step_is k _ kept
    ∙ ap (step k) (map-map (dag deps' step' none) r (deps k) ∙ map-same _ _ (deps k) (all-weaker _ _ (deps k) (λ d b. b.0 b.1) (pair-all _ _ (deps k) ih (m.kept k kept))))
    ∙ sym (dag-step deps step none e k))

-- what is seen of the values is made of what is seen of the dependencies' values
pub dag-mapped : {A B : Type 0} (deps : ℕ → List ℕ) (step : ℕ → List A → A) (step' : ℕ → List B → B) (none : A) (none' : B) (f : A → B) → IsEarlier deps → ((k : ℕ) (xs : List A) → f (step k xs) ≡ step' k (map f xs))
    → (k : ℕ) → f (dag deps step none k) ≡ dag deps step' none' k
dag-mapped deps step step' none none' f e h =
    dag-induction deps (λ k. f (dag deps step none k) ≡ dag deps step' none' k) e (λ k ih.
    ap f (dag-step deps step none e k)
    ∙ h k (map (dag deps step none) (deps k))
    ∙ ap (step' k) (map-map f (dag deps step none) (deps k) ∙ map-same _ _ (deps k) ih)
    ∙ sym (dag-step deps step' none' e k))
