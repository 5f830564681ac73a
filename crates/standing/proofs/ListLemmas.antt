-- The members of a set, ascending.
use Rattle.std.proofs.Common.{◌≡◌, ℕ, zero, suc, ◌+◌, ◌-◌, ◌<◌, ◌≤◌, Bool, true, false, cond, [], ◌∷◌, ◌++◌, Option, Some, None, refl, sym, ap, ◌∙◌, arith, filter, ⊎_elim}
use Rattle.std.specs.List.{range_with_len}
use Rattle.std.proofs.lemmas.Bool.{false≢true, cases_lt}
use Rattle.std.proofs.Math.Nat.{add-sub_of_le}
use Rattle.std.proofs.lemmas.List.{append-nil}
use Rattle.std.proofs.lemmas.List.Elements.{filter-append}
use Rattle.small_facts.proofs.Numbers.{whole_of_rest}
use Rattle.small_facts.proofs.Ranges.{range_push}
use Rattle.cluster_rules.specs.Derived.{below}
use Rattle.cluster_rules.proofs.DerivedLemmas.{below_split}
use Rattle.key_sets.specs.Sets.{IsFirst}

filter_none : (p : ℕ → Bool) (a n : ℕ) → ((k : ℕ) → a ≤ k → k < a + n → p k ≡ false) → filter p (range_with_len a n) ≡ []
filter_none p a zero h = refl
filter_none p a (suc n) h = ap (λ b. cond b (a ∷ filter p (range_with_len (a + 1) n)) (filter p (range_with_len (a + 1) n))) (h a (omega arith) (omega arith)) ∙ filter_none p (a + 1) n (λ k l m. h k (omega arith) (omega arith))

-- up to the next member
pub filter_next : (p : ℕ → Bool) (from key : ℕ) → IsFirst p from (Some key) → filter p (below (key + 1)) ≡ filter p (below from) ++ key ∷ []
filter_next p from key h =
    ap (λ n. filter p (below n)) (apart from key h.0) ∙ ap (filter p) (below_split from ((key - from) + 1)) ∙ filter-append p (below from) (range_with_len from ((key - from) + 1))
    ∙ ap (λ xs. filter p (below from) ++ xs) (ap (filter p) (range_push from (key - from)) ∙ filter-append p (range_with_len from (key - from)) ((from + (key - from)) ∷ [])
    ∙ ap (λ xs. xs ++ filter p ((from + (key - from)) ∷ [])) (filter_none p from (key - from) (λ k l m. h.2 k l (omega (arith, h.0))))
    ∙ ap (λ n. filter p (n ∷ [])) (add-sub_of_le h.0) ∙ ap (λ b. cond b (key ∷ []) []) h.1)
  where
    apart : (from key : ℕ) → from ≤ key → key + 1 ≡ from + ((key - from) + 1)
    apart from key l = omega arith

-- and where there is none
pub filter_last : (p : ℕ → Bool) (from n : ℕ) (o : Option ℕ) → from ≤ n → IsFirst p from o → ((x : ℕ) → o ≡ Some x → ⊥) → filter p (below n) ≡ filter p (below from)
filter_last p from n None l h never =
    ap (λ m. filter p (below m)) (whole_of_rest from n l) ∙ ap (filter p) (below_split from (n - from)) ∙ filter-append p (below from) (range_with_len from (n - from))
    ∙ ap (λ xs. filter p (below from) ++ xs) (filter_none p from (n - from) (λ k a b. h k a)) ∙ append-nil (filter p (below from))
filter_last p from n (Some x) l h never = absurd (never x refl)

pub only_there : (p : ℕ → Bool) (n key : ℕ) → ((k : ℕ) → n ≤ k → p k ≡ false) → p key ≡ true → key < n
only_there p n key h e = ⊎_elim (λ l. l) (λ l. absurd (false≢true (sym (h key l) ∙ e))) (cases_lt key n)
