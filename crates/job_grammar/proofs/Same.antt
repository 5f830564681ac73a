-- Phrases that pass the test `same` are the same, and so are sets of lists of them.
use Rattle.std.proofs.Common.{◌≡◌, ◌+◌, Bool, true, false, cond, List, [], ◌∷◌, ◌++◌, ◌⊎◌, inl, inr, map, Some, None, refl, ap, sym, subst, ◌∙◌}
use Rattle.std.specs.Prelude.{Option}
use Rattle.std.proofs.lemmas.Bool.{and_parts, eqb-true}
use Rattle.job_grammar.specs.Phrases.{Phrase, token, action, named, nothing, then, or, many}
use Rattle.job_grammar.specs.Heads.{same, same_all, is_among, are_among, same_ways, joined, each_behind}

pub same-is : (x y : Phrase) → same x y ≡ true → x ≡ y
same-is (token j) (token k) h = ap token (eqb-true j k h)
same-is (action a) (action b) h = ap action (eqb-true a b h)
same-is (named p) (named q) h = ap named (eqb-true p q h)
same-is nothing nothing h = refl
same-is (then a b) (then c d) h =
    let e = and_parts (same a c) (same b d) h in
    ap (λ x. then x b) (same-is a c e.0) ∙ ap (λ x. then c x) (same-is b d e.1)
same-is (or a b) (or c d) h =
    let e = and_parts (same a c) (same b d) h in
    ap (λ x. or x b) (same-is a c e.0) ∙ ap (λ x. or c x) (same-is b d e.1)
same-is (many a) (many b) h = ap many (same-is a b h)
same-is _ _ h = cc

pub same_all-is : (xs ys : List Phrase) → same_all xs ys ≡ true → xs ≡ ys
same_all-is [] [] h = refl
same_all-is [] (y ∷ ys) h = cc
same_all-is (x ∷ xs) [] h = cc
same_all-is (x ∷ xs) (y ∷ ys) h =
    let e = and_parts (same x y) (same_all xs ys) h in
    ap (λ z. z ∷ xs) (same-is x y e.0) ∙ ap (λ zs. y ∷ zs) (same_all-is xs ys e.1)

-- x is one of these
abbrev pub In : {X : Type 0} → X → List X → Type 0
In x [] = ⊥
In x (y ∷ ys) = (x ≡ y) ⊎ In x ys

pub in-left : {X : Type 0} (x : X) (xs ys : List X) → In x xs → In x (xs ++ ys)
in-left x [] ys h = absurd h
in-left x (z ∷ xs) ys h = elim h [ inl e ↦ inl e | inr m ↦ inr (in-left x xs ys m) ]

pub in-right : {X : Type 0} (x : X) (xs ys : List X) → In x ys → In x (xs ++ ys)
in-right x [] ys h = h
in-right x (z ∷ xs) ys h = inr (in-right x xs ys h)

pub in-either : {X : Type 0} (x : X) (xs ys : List X) → In x (xs ++ ys) → In x xs ⊎ In x ys
in-either x [] ys h = inr h
in-either x (z ∷ xs) ys h = elim h [ inl e ↦ inl (inl e) | inr m ↦ elim (in-either x xs ys m) [ inl a ↦ inl (inr a) | inr b ↦ inr b ] ]

pub in-map : {X Y : Type 0} (f : X → Y) (x : X) (xs : List X) → In x xs → In (f x) (map f xs)
in-map f x [] h = absurd h
in-map f x (z ∷ xs) h = elim h [ inl e ↦ inl (ap f e) | inr m ↦ inr (in-map f x xs m) ]

pub in-map-back : {X Y : Type 0} (f : X → Y) (y : Y) (xs : List X) → In y (map f xs) → (x : X) × In x xs × (y ≡ f x)
in-map-back f y [] h = absurd h
in-map-back f y (z ∷ xs) h = elim h [ inl e ↦ (z, inl refl, e) | inr m ↦ let r = in-map-back f y xs m in (r.0, inr r.1, r.2) ]

pub among : (x : List Phrase) (ys : List (List Phrase)) → is_among x ys ≡ true → In x ys
among x [] h = cc
among x (y ∷ ys) h = by-test (same_all x y) refl (among x ys) h
  where
    by-test : (b : Bool) → same_all x y ≡ b → (is_among x ys ≡ true → In x ys) → cond b true (is_among x ys) ≡ true → In x (y ∷ ys)
    by-test true e more h = inl (same_all-is x y e)
    by-test false e more h = inr (more h)

pub all-among : (xs ys : List (List Phrase)) → are_among xs ys ≡ true → (x : List Phrase) → In x xs → In x ys
all-among [] ys h x m = absurd m
all-among (z ∷ xs) ys h x m =
    let e = and_parts (is_among z ys) (are_among xs ys) h in
    elim m [ inl q ↦ subst (λ w. In w ys) (sym q) (among z ys e.0) | inr n ↦ all-among xs ys e.1 x n ]

-- two lists of ways, with the same elements
pub record AreSame (a b : Option (List (List Phrase))) : Type 0 where
  pub left : List (List Phrase)
  pub right : List (List Phrase)
  pub left_is : a ≡ Some left
  pub right_is : b ≡ Some right
  pub onward : (x : List Phrase) → In x left → In x right
  pub back : (x : List Phrase) → In x right → In x left

pub are-same : (a b : Option (List (List Phrase))) → same_ways a b ≡ true → AreSame a b
are-same None b h = cc
are-same (Some xs) None h = cc
are-same (Some xs) (Some ys) h =
    let e = and_parts (are_among xs ys) (are_among ys xs) h in
    record { left = xs; right = ys; left_is = refl; right_is = refl; onward = all-among xs ys e.0; back = all-among ys xs e.1 }

pub record AreJoined (a b : Option (List (List Phrase))) (all : List (List Phrase)) : Type 0 where
  pub left : List (List Phrase)
  pub right : List (List Phrase)
  pub left_is : a ≡ Some left
  pub right_is : b ≡ Some right
  pub all_is : all ≡ left ++ right

pub are-joined : (a b : Option (List (List Phrase))) (all : List (List Phrase)) → joined a b ≡ Some all → AreJoined a b all
are-joined None b all h = cc
are-joined (Some xs) None all h = cc
are-joined (Some xs) (Some ys) all h = record { left = xs; right = ys; left_is = refl; right_is = refl; all_is = cc }

pub behind-each : (x : Phrase) (a : Option (List (List Phrase))) (all : List (List Phrase)) → each_behind x a ≡ Some all → (ys : List (List Phrase)) × (a ≡ Some ys) × (all ≡ map (λ y. x ∷ y) ys)
behind-each x None all h = cc
behind-each x (Some ys) all h = let e : all ≡ map (λ y. x ∷ y) ys = cc in (ys, refl, e)
