-- New numbers when one more key is kept.
use Rattle.std.proofs.Common.{◌≡◌, ◌≢◌, ℕ, ◌+◌, ◌<◌, ◌≤◌, Bool, true, false, ◌||◌, cond, List, [], ◌∷◌, ◌++◌, length, get_or, refl, ap, sym, subst, ◌∙◌, arith, inl, inr, Some, None, eq-eqb, ne_eqb, length-append}
use Rattle.std.specs.Prelude.{nat_eq, eqb, Option, slice_index_or, replicate}
use Rattle.std.specs.List.{AllByRecursion, IsDistinct, list_any}
use Rattle.std.proofs.lemmas.List.{get_or_append_left, get_or_push, length-replicate, get_or-replicate}
use Rattle.std.proofs.lemmas.List.Sums.{position_or_len_is}
use Rattle.std.proofs.lemmas.Bool.{cases_eq, eqb-true}
use Rattle.std.proofs.Math.ListN.{set}
use Rattle.std.proofs.lemmas.List.{get_or-set_same, get_or-set_other, length-set}
use Rattle.std.proofs.lemmas.List.Folds.{list_any-append, position_or_len_push}
use Rattle.std.proofs.lemmas.Map.Keys.{IsDistinct-push}
use Rattle.std.proofs.lemmas.Map.Steps.{length-le_from_distinct_below}
use Rattle.std.proofs.lemmas.Cmp.{nat_eq_equiv}
use Rattle.small_facts.proofs.Every.{all_join}
use Rattle.task_graph.specs.Orders.{is_in, position}
use Rattle.task_graph.specs.Numbers.{number_of, AreNumbered}
use Rattle.nd_grid.proofs.Turning.{position-below}
use Rattle.task_graph.proofs.Visits.{in-from, not-in}

pub in-more : (xs : List ℕ) (k j : ℕ) → is_in (xs ++ k ∷ []) j ≡ (is_in xs j || (nat_eq j k || false))
in-more xs k j = list_any-append (nat_eq j) xs (k ∷ [])

pub below-count : (order : List ℕ) (n : ℕ) → AllByRecursion (λ k. k < n) order → IsDistinct eqb order → length order ≤ n
below-count order n b d = length-le_from_distinct_below order n d (λ q h. member order q b h)
  where
    member : (xs : List ℕ) (q : ℕ) → AllByRecursion (λ k. k < n) xs → list_any (eqb q) xs ≡ true → q < n
    member [] q a h = absurd cc
    member (x ∷ xs) q a h = by_case x q (list_any (eqb q) xs) (eqb q x) refl a.0 h (member xs q a.1)
      where
        by_case : (x q : ℕ) (more b : Bool) → eqb q x ≡ b → x < n → (b || more) ≡ true → (more ≡ true → q < n) → q < n
        by_case x q more true e l h f = let s : q ≡ x = eqb-true q x e in omega arith
        by_case x q more false e l h f = f h

-- the key that was added last
pub number-new : (order : List ℕ) (old : ℕ) → is_in order old ≡ false → number_of (order ++ old ∷ []) old ≡ Some (length order)
number-new order old h =
    let there : is_in (order ++ old ∷ []) old ≡ true = in-more order old old ∙ ap (λ b. b || (nat_eq old old || false)) h ∙ ap (λ b. b || false) (eq-eqb old old refl) in
    let at : position (order ++ old ∷ []) old ≡ length order = position_or_len_is (nat_eq old) (order ++ old ∷ []) (length order) 0 (omega (arith, length-append order (old ∷ [])))
    (λ i lt. ne_eqb old (get_or (order ++ old ∷ []) i 0) (λ e. not-in order old h i lt (sym (get_or_append_left order (old ∷ []) 0 i lt) ∙ sym e)))
    (λ lt. eq-eqb old (get_or (order ++ old ∷ []) (length order) 0) (sym (get_or_push order old 0 (length order) refl))) in
    ap (λ b. cond b (Some (position (order ++ old ∷ []) old)) None) there ∙ ap Some at

-- the keys that were there
pub number-other : (order : List ℕ) (old k : ℕ) → old ≢ k → number_of (order ++ old ∷ []) k ≡ number_of order k
number-other order old k d =
    ap (λ b. cond b (Some (position (order ++ old ∷ []) k)) None) (in-more order old k ∙ ap (λ b. is_in order k || (b || false)) (ne_eqb k old (λ e. d (sym e))) ∙ plain (is_in order k))
    ∙ by_case (is_in order k) refl
  where
    plain : (b : Bool) → (b || (false || false)) ≡ b
    plain true = refl
    plain false = refl

    by_case : (b : Bool) → is_in order k ≡ b → cond b (Some (position (order ++ old ∷ []) k)) None ≡ cond b (Some (position order k)) None
    by_case false e = refl
    by_case true e =
        let lt : position order k < length order = position-below order k (in-from order k e) in
        ap Some (position_or_len_push (nat_eq k) order old ∙ ap (λ b. cond b (length order + cond (nat_eq k old) 0 1) (position order k)) (ne_eqb (position order k) (length order) (λ z. absurd (omega arith))))

pub more-numbered : (order : List ℕ) (places : List (Option ℕ)) (old : ℕ) → AreNumbered order places → old < length places → is_in order old ≡ false → AreNumbered (order ++ old ∷ []) (set places old (Some (length order)))
more-numbered order places old a lt fresh =
    let count : length (set places old (Some (length order))) ≡ length places = length-set places old (Some (length order)) in
    record {
      few = let f = a.few in omega arith;
      each = λ k h. elim (cases_eq old k) [
        | inl e ↦ subst (λ j. slice_index_or (set places old (Some (length order))) j None ≡ number_of (order ++ old ∷ []) j) e (get_or-set_same places old (Some (length order)) None lt ∙ sym (number-new order old fresh))
        | inr d ↦ get_or-set_other places old k (Some (length order)) None (λ z. d (sym z)) ∙ a.each k (omega arith) ∙ sym (number-other order old k d)
      ];
      below = subst (λ n. AllByRecursion (λ k. k < n) (order ++ old ∷ [])) (sym count) (all_join (λ k. k < length places) order (old ∷ []) a.below (lt, tt));
      once = IsDistinct-push nat_eq_equiv order old a.once fresh;
    }

none-once : IsDistinct eqb []
unfolding IsDistinct
none-once = tt

pub none-numbered : (n : ℕ) (places : List (Option ℕ)) → n ≤ 32768 → length places ≡ n → ((k : ℕ) → k < n → slice_index_or places k None ≡ None) → AreNumbered [] places
none-numbered n places few e h = record { few = omega arith; each = λ k lt. h k (omega arith); below = tt; once = none-once }

pub empty-numbered : (n : ℕ) → n ≤ 32768 → AreNumbered [] (replicate n None)
empty-numbered n few = none-numbered n (replicate n None) few (length-replicate n None) (λ k lt. get_or-replicate n k None None lt)
