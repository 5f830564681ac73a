-- The best of two lists is the better of their bests, so a loop may keep the best so far.
use Rattle.std.proofs.Common.{◌≡◌, ℕ, Bool, true, false, not, cond, ◌||◌, List, [], ◌∷◌, ◌++◌, Option, Some, None, refl, sym, ap, ◌∙◌, subst, append-nil}
use Rattle.std.proofs.lemmas.Bool.{false≢true, true≢false, true_from_ne_false, or_from}
use Rattle.std.proofs.lemmas.List.Folds.{find-append, list_any-append}
use Rattle.std.specs.List.{find, list_any, Contains}
use Rattle.std.specs.Option.{option_or}
use Rattle.std.proofs.lemmas.Option.{same_Some, none-some}
use Rattle.cluster_rules.specs.Choice.{is_before, unbeaten, least_by, better, IsBest, IsBestOf}
use Rattle.cluster_rules.proofs.ChoiceLemmas.{IsPreference, unbeaten_best, rank_prefers, any_false, contains_head, contains_tail}
use Rattle.cluster_rules.proofs.Members.{any_some}

-- a stricter test finds the same, where that passes
find_stricter : {A : Type 0} (p q : A → Bool) (xs : List A) (y : A) → ((x : A) → q x ≡ true → p x ≡ true) → find p xs ≡ Some y → q y ≡ true → find q xs ≡ Some y
find_stricter p q [] y s h e = absurd (none-some y h)
find_stricter {A = A} p q (x ∷ xs) y s h e = pick (p x) (q x) refl refl h (λ g. find_stricter p q xs y s g e)
  where
    pick : (a b : Bool) → p x ≡ a → q x ≡ b → cond a (Some x) (find p xs) ≡ Some y → (find p xs ≡ Some y → find q xs ≡ Some y) → cond b (Some x) (find q xs) ≡ Some y
    pick true true i j g rest = g
    pick true false i j g rest = absurd (false≢true (sym j ∙ ap q (same_Some x y g) ∙ e))
    pick false true i j g rest = absurd (false≢true (sym i ∙ s x j))
    pick false false i j g rest = rest g

find_none : {A : Type 0} (q : A → Bool) (xs : List A) → ((x : A) → Contains xs x → q x ≡ false) → find q xs ≡ None
find_none q [] h = refl
find_none q (x ∷ xs) h = ap (λ b. cond b (Some x) (find q xs)) (h x (contains_head x xs)) ∙ find_none q xs (λ y m. h y (contains_tail x xs y m))

not_first : (a b : Bool) → not (a || b) ≡ true → not a ≡ true
not_first true b h = h
not_first false b h = refl

not_second : (a b : Bool) → not (a || b) ≡ true → not b ≡ true
not_second true b h = absurd (false≢true h)
not_second false b h = h

or_second : (a b : Bool) → b ≡ true → not (a || b) ≡ false
or_second true b h = refl
or_second false b h = ap not h

pub unbeaten-append : {A : Type 0} (beats : A → A → Bool) → IsPreference beats → (xs ys : List A) → unbeaten beats (xs ++ ys) ≡ better beats (unbeaten beats xs) (unbeaten beats ys)
unbeaten-append {A = A} beats o xs ys = pick (unbeaten beats xs) (unbeaten beats ys) refl refl (unbeaten_best beats o xs) (unbeaten_best beats o ys)
  where
    beaten : List A → A → Bool
    beaten l z = list_any (λ w. beats w z) l

    both : A → Bool
    both z = not (list_any (λ w. beats w z) (xs ++ ys))

    parts : (z : A) → both z ≡ not (beaten xs z || beaten ys z)
    parts z = ap not (list_any-append (λ w. beats w z) xs ys)

    -- where the second list's best beats the first's, it beats each member of the first
    above : (y z : A) → IsBest beats xs y → beats z y ≡ true → (w : A) → Contains xs w → beats z w ≡ true
    above y z b h w m = true_from_ne_false (beats z w) (λ f. false≢true (sym (o.apart z w y f (b.best w m)) ∙ h))

    second : (y z : A) → unbeaten beats ys ≡ Some z → IsBest beats xs y → IsBest beats ys z → beats z y ≡ true → unbeaten beats (xs ++ ys) ≡ Some z
    second y z g b c h =
        find-append both xs ys
        ∙ ap (λ r. option_or r (find both ys)) (find_none both xs (λ w m. parts w ∙ or_second (beaten xs w) (beaten ys w) (any_some (λ v. beats v w) ys z c.member (above y z b h w m))))
        ∙ find_stricter (λ u. not (beaten ys u)) both ys z (λ u e. not_second (beaten xs u) (beaten ys u) (sym (parts u) ∙ e)) g
        (parts z ∙ ap not (or_from (beaten xs z) (beaten ys z) (any_false (λ w. beats w z) xs (λ w m. o.asym z w (above y z b h w m))) (any_false (λ w. beats w z) ys c.best)))

    first : (y z : A) → unbeaten beats xs ≡ Some y → IsBest beats xs y → IsBest beats ys z → beats z y ≡ false → unbeaten beats (xs ++ ys) ≡ Some y
    first y z e b c h =
        find-append both xs ys
        ∙ ap (λ r. option_or r (find both ys)) (find_stricter (λ u. not (beaten xs u)) both xs y (λ u i. not_first (beaten xs u) (beaten ys u) (sym (parts u) ∙ i)) e
        (parts y ∙ ap not (or_from (beaten xs y) (beaten ys y) (any_false (λ w. beats w y) xs b.best) (any_false (λ w. beats w y) ys (λ w m. o.apart w z y (c.best w m) h)))))

    pick : (p q : Option A) → unbeaten beats xs ≡ p → unbeaten beats ys ≡ q → IsBestOf beats xs p → IsBestOf beats ys q → unbeaten beats (xs ++ ys) ≡ better beats p q
    pick None q e g b c = subst (λ l. unbeaten beats (l ++ ys) ≡ q) (sym b) g
    pick (Some y) None e g b c = subst (λ l. unbeaten beats (xs ++ l) ≡ Some y) (sym c) (ap (unbeaten beats) (append-nil xs) ∙ e)
    pick (Some y) (Some z) e g b c = at (beats z y) refl
      where
        at : (t : Bool) → beats z y ≡ t → unbeaten beats (xs ++ ys) ≡ cond t (Some z) (Some y)
        at true h = second y z g b c h
        at false h = first y z e b c h

-- one more member
pub unbeaten-push : {A : Type 0} (beats : A → A → Bool) → IsPreference beats → (xs : List A) (x : A) → unbeaten beats (xs ++ x ∷ []) ≡ better beats (unbeaten beats xs) (Some x)
unbeaten-push beats o xs x = unbeaten-append beats o xs (x ∷ []) ∙ ap (better beats (unbeaten beats xs)) (alone (beats x x) (false_of (beats x x) (λ e. o.asym x x e)))
  where
    false_of : (b : Bool) → (b ≡ true → b ≡ false) → b ≡ false
    false_of true h = absurd (true≢false (h refl))
    false_of false h = refl

    alone : (b : Bool) → b ≡ false → cond (not (b || false)) (Some x) None ≡ Some x
    alone true h = absurd (true≢false h)
    alone false h = refl

pub least_by-append : {A : Type 0} (rank : A → List ℕ) (xs ys : List A) → least_by rank (xs ++ ys) ≡ better (λ y x. is_before (rank y) (rank x)) (least_by rank xs) (least_by rank ys)
least_by-append rank xs ys = unbeaten-append (λ y x. is_before (rank y) (rank x)) (rank_prefers rank) xs ys

pub least_by-push : {A : Type 0} (rank : A → List ℕ) (xs : List A) (x : A) → least_by rank (xs ++ x ∷ []) ≡ better (λ y z. is_before (rank y) (rank z)) (least_by rank xs) (Some x)
least_by-push rank xs x = unbeaten-push (λ y z. is_before (rank y) (rank z)) (rank_prefers rank) xs x
