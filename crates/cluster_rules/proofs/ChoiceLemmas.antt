-- The first member that none beats is a best one, and the dictionary order has one in each list.
use Rattle.std.proofs.Common.{◌≡◌, ℕ, ◌<◌, Bool, true, false, not, cond, ◌&&◌, ◌||◌, List, [], ◌∷◌, Option, Some, None, refl, sym, ap, ◌∙◌, subst, arith, inl, inr, ◌⊎◌, ⊎_elim}
use Rattle.std.proofs.lemmas.Bool.{false≢true, true≢false, not-true, or_parts, or_from, false_from_ne_true, not-false}
use Rattle.std.proofs.lemmas.Bool.Decides.{nat_tests}
use Rattle.std.proofs.lemmas.List.Elements.{Contains-append_cases, Contains-append_right}
use Rattle.std.proofs.Math.Dec.{eqb, ltb}
use Rattle.std.specs.List.{find, list_any, Contains, slice_index_or}
use Rattle.cluster_rules.specs.Choice.{is_before, unbeaten, least_by, IsBest, IsBestOf, IsLeastOf}

pub contains_head : {A : Type 0} (x : A) (xs : List A) → Contains (x ∷ xs) x
contains_head x xs = (0, omega arith, refl)

pub contains_tail : {A : Type 0} (x : A) (xs : List A) (y : A) → Contains xs y → Contains (x ∷ xs) y
contains_tail x xs y h = Contains-append_right (x ∷ []) xs y h

contains_one : {A : Type 0} (x y : A) → Contains (x ∷ []) y → x ≡ y
contains_one x y (k, l, e) = let z : k ≡ 0 = omega arith in subst (λ i. slice_index_or (x ∷ []) i y ≡ y) z e

pub contains_cases : {A : Type 0} (x : A) (xs : List A) (y : A) → Contains (x ∷ xs) y → (x ≡ y) ⊎ Contains xs y
contains_cases x xs y h = ⊎_elim (λ o. inl (contains_one x y o)) (λ t. inr t) (Contains-append_cases (x ∷ []) xs y h)

pub contains_none : {A : Type 0} (y : A) → Contains [] y → ⊥
contains_none y (k, l, e) = omega arith

-- a test that no member passes
pub none_passes : {A : Type 0} (p : A → Bool) (xs : List A) → list_any p xs ≡ false → (y : A) → Contains xs y → p y ≡ false
none_passes p [] e y h = absurd (contains_none y h)
none_passes p (x ∷ xs) e y h =
    let parts = or_parts (p x) (list_any p xs) e in
    ⊎_elim (λ s. ap p (sym s) ∙ parts.0) (λ t. none_passes p xs parts.1 y t) (contains_cases x xs y h)

pub any_false : {A : Type 0} (p : A → Bool) (xs : List A) → ((y : A) → Contains xs y → p y ≡ false) → list_any p xs ≡ false
any_false p [] h = refl
any_false p (x ∷ xs) h = or_from (p x) (list_any p xs) (h x (contains_head x xs)) (any_false p xs (λ y m. h y (contains_tail x xs y m)))

-- what is found is a member that passes, and where nothing is found none passes
abbrev pub FoundOf : {A : Type 0} → (A → Bool) → List A → Option A → Type 0
FoundOf {A = A} p xs None = (y : A) → Contains xs y → p y ≡ false
FoundOf p xs (Some x) = Contains xs x × (p x ≡ true)

pub find_found : {A : Type 0} (p : A → Bool) (xs : List A) → FoundOf p xs (find p xs)
find_found {A = A} p [] = λ y h. absurd (contains_none y h)
find_found {A = A} p (x ∷ xs) = pick (p x) refl (find_found p xs)
  where
    widen : p x ≡ false → (o : Option A) → FoundOf p xs o → FoundOf p (x ∷ xs) o
    widen e None r = λ y h. ⊎_elim (λ s. ap p (sym s) ∙ e) (λ t. r y t) (contains_cases x xs y h)
    widen e (Some z) r = (contains_tail x xs z r.0, r.1)

    pick : (b : Bool) → p x ≡ b → FoundOf p xs (find p xs) → FoundOf p (x ∷ xs) (cond b (Some x) (find p xs))
    pick true e r = (contains_head x xs, e)
    pick false e r = widen e (find p xs) r

-- a test by which lists have best members
pub record IsPreference {A : Type 0} (beats : A → A → Bool) : Type 0 where
  pub asym : (x y : A) → beats x y ≡ true → beats y x ≡ false
  pub apart : (x y z : A) → beats x y ≡ false → beats y z ≡ false → beats x z ≡ false

never_itself : {A : Type 0} (beats : A → A → Bool) → IsPreference beats → (x : A) → beats x x ≡ false
never_itself beats o x = false_from_ne_true (beats x x) (λ e. false≢true (sym (o.asym x x e) ∙ e))

-- who beats the one that beats all others is beaten by none
transitive : {A : Type 0} (beats : A → A → Bool) → IsPreference beats → (w x y : A) → beats x y ≡ true → beats w y ≡ false → beats w x ≡ false
transitive beats o w x y e h = o.apart w y x h (o.asym x y e)

pub some_best : {A : Type 0} (beats : A → A → Bool) → IsPreference beats → (x : A) (xs : List A) → (y : A) × IsBest beats (x ∷ xs) y
some_best {A = A} beats o x [] = (x, record { member = contains_head x []; best = λ y h. ⊎_elim (λ s. subst (λ z. beats z x ≡ false) s (never_itself beats o x)) (λ t. absurd (contains_none y t)) (contains_cases x [] y h) })
some_best {A = A} beats o x (z ∷ zs) = pick (some_best beats o z zs)
  where
    pick : (y : A) × IsBest beats (z ∷ zs) y → (y : A) × IsBest beats (x ∷ z ∷ zs) y
    pick (y, b) = at (beats x y) refl
      where
        at : (c : Bool) → beats x y ≡ c → (y : A) × IsBest beats (x ∷ z ∷ zs) y
        at true e = (
          x,
          record {
            member = contains_head x (z ∷ zs);
            best = λ w h. ⊎_elim (λ s. subst (λ v. beats v x ≡ false) s (never_itself beats o x)) (λ t. transitive beats o w x y e (b.best w t)) (contains_cases x (z ∷ zs) w h);
          },
        )
        at false e = (
          y,
          record {
            member = contains_tail x (z ∷ zs) y b.member;
            best = λ w h. ⊎_elim (λ s. subst (λ v. beats v y ≡ false) s e) (λ t. b.best w t) (contains_cases x (z ∷ zs) w h);
          },
        )

-- the first member that none beats is a best one, where the list has a member
pub unbeaten_best : {A : Type 0} (beats : A → A → Bool) → IsPreference beats → (xs : List A) → IsBestOf beats xs (unbeaten beats xs)
unbeaten_best {A = A} beats o [] = refl
unbeaten_best {A = A} beats o (x ∷ xs) = pick (unbeaten beats (x ∷ xs)) (find_found (λ y. not (list_any (λ z. beats z y) (x ∷ xs))) (x ∷ xs))
  where
    pick : (r : Option A) → FoundOf (λ y. not (list_any (λ z. beats z y) (x ∷ xs))) (x ∷ xs) r → IsBestOf beats (x ∷ xs) r
    pick None none = none_there (some_best beats o x xs)
      where
        none_there : (y : A) × IsBest beats (x ∷ xs) y → (x ∷ xs) ≡ []
        none_there (y, b) = absurd (false≢true (sym (any_false (λ z. beats z y) (x ∷ xs) b.best) ∙ not-false (list_any (λ z. beats z y) (x ∷ xs)) (none y b.member)))
    pick (Some y) found = record { member = found.0; best = none_passes (λ z. beats z y) (x ∷ xs) (not-true (list_any (λ z. beats z y) (x ∷ xs)) found.1) }

-- a best member that beats each other member is the one that is found
pub unbeaten-is : {A : Type 0} (beats : A → A → Bool) → IsPreference beats → (xs : List A) (x : A) → IsBest beats xs x → ((y : A) → Contains xs y → (y ≡ x) ⊎ (beats x y ≡ true)) → unbeaten beats xs ≡ Some x
unbeaten-is {A = A} beats o xs x b sole = pick (unbeaten beats xs) (unbeaten_best beats o xs)
  where
    pick : (r : Option A) → IsBestOf beats xs r → r ≡ Some x
    pick None e = absurd (contains_none x (subst (λ l. Contains l x) e b.member))
    pick (Some y) r = ⊎_elim (λ e. ap (λ z. Some z) e) (λ h. absurd (false≢true (sym (r.best x b.member) ∙ h))) (sole y r.member)

-- the dictionary order
test_first : (x y : ℕ) (b : Bool) → (ltb x y || (eqb x y && b)) ≡ true → (x < y) ⊎ ((x ≡ y) × (b ≡ true))
test_first x y true h = grind (arith, nat_tests)
test_first x y false h = grind (arith, nat_tests)

not_after : (x y : ℕ) (b : Bool) → (x < y → ⊥) → (x ≡ y → b ≡ false) → (ltb x y || (eqb x y && b)) ≡ false
not_after x y true h e = grind (arith, nat_tests)
not_after x y false h e = grind (arith, nat_tests)

test_not : (x y : ℕ) (b : Bool) → (ltb x y || (eqb x y && b)) ≡ false → (y < x) ⊎ ((x ≡ y) × (b ≡ false))
test_not x y true h = grind (arith, nat_tests)
test_not x y false h = grind (arith, nat_tests)

before_asym : (xs ys : List ℕ) → is_before xs ys ≡ true → is_before ys xs ≡ false
before_asym [] [] h = refl
before_asym [] (y ∷ ys) h = refl
before_asym (x ∷ xs) [] h = absurd (false≢true h)
before_asym (x ∷ xs) (y ∷ ys) h = ⊎_elim
    (λ l. not_after y x (is_before ys xs) (λ g. omega arith) (λ e. absurd (omega arith)))
    (λ p. not_after y x (is_before ys xs) (λ g. let e : x ≡ y = p.0 in omega arith) (λ e. before_asym xs ys p.1))
    (test_first x y (is_before xs ys) h)

before_apart : (xs ys zs : List ℕ) → is_before xs ys ≡ false → is_before ys zs ≡ false → is_before xs zs ≡ false
before_apart [] [] zs h i = i
before_apart [] (y ∷ ys) zs h i = absurd (true≢false h)
before_apart (x ∷ xs) ys [] h i = refl
before_apart (x ∷ xs) [] (z ∷ zs) h i = absurd (true≢false i)
before_apart (x ∷ xs) (y ∷ ys) (z ∷ zs) h i = ⊎_elim
    (λ l. ⊎_elim
    (λ m. not_after x z (is_before xs zs) (λ g. omega arith) (λ e. absurd (omega arith)))
    (λ q. let e : y ≡ z = q.0 in not_after x z (is_before xs zs) (λ g. omega arith) (λ e. absurd (omega arith)))
    (test_not y z (is_before ys zs) i))
    (λ p. let e : x ≡ y = p.0 in ⊎_elim
    (λ m. not_after x z (is_before xs zs) (λ g. omega arith) (λ e. absurd (omega arith)))
    (λ q. let d : y ≡ z = q.0 in not_after x z (is_before xs zs) (λ g. omega arith) (λ e. before_apart xs ys zs p.1 q.1))
    (test_not y z (is_before ys zs) i))
    (test_not x y (is_before xs ys) h)

pub rank_prefers : {A : Type 0} (rank : A → List ℕ) → IsPreference (λ y x. is_before (rank y) (rank x))
rank_prefers rank = record { asym = λ x y. before_asym (rank x) (rank y); apart = λ x y z. before_apart (rank x) (rank y) (rank z) }

pub least_by_least : {A : Type 0} (rank : A → List ℕ) (xs : List A) → IsLeastOf rank xs (least_by rank xs)
least_by_least rank xs = unbeaten_best (λ y x. is_before (rank y) (rank x)) (rank_prefers rank) xs
