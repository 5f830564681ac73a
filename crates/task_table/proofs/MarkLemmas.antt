-- Sets that grow along a walk over the members of another.
use Rattle.std.proofs.Common.{◌≡◌, ℕ, ◌+◌, ◌<◌, ◌≤◌, Bool, true, false, ◌||◌, List, Some, sym, ◌∙◌, arith, ⊎_elim, subst}
use Rattle.std.proofs.lemmas.Bool.{false≢true, cases_lt, or_right, or_left}
use Rattle.cluster_rules.specs.Derived.{is_in}
use Rattle.key_sets.specs.Sets.{IsFirst}

-- a member below the next after the first is below it or is it
pub led_next : (p : ℕ → Bool) (t : ℕ → List ℕ) (old new : ℕ → Bool) (from key : ℕ) → IsFirst p from (Some key) → ((j k : ℕ) → j < from → p j ≡ true → is_in k (t j) ≡ true → old k ≡ true) → ((k : ℕ) → new k ≡ (old k || is_in k (t key))) → (j k : ℕ) → j < key + 1 → p j ≡ true → is_in k (t j) ≡ true → new k ≡ true
led_next p t old new from key f led marked j k l e i = marked k ∙ ⊎_elim (λ m. or_left (old k) (is_in k (t key)) (led j k m e i)) (λ m. or_right (old k) (is_in k (t key)) (subst (λ (x : ℕ). is_in k (t x) ≡ true) (its m) i)) (cases_lt j from)
  where
    its : from ≤ j → j ≡ key
    its m = ⊎_elim (λ a. absurd (false≢true (sym (f.2 j m a) ∙ e))) (λ a. omega arith) (cases_lt j key)

pub led_all : (p : ℕ → Bool) (from : ℕ) → ((k : ℕ) → from ≤ k → p k ≡ false) → (j : ℕ) → p j ≡ true → j < from
led_all p from h j e = ⊎_elim (λ a. a) (λ a. absurd (false≢true (sym (h j a) ∙ e))) (cases_lt j from)
