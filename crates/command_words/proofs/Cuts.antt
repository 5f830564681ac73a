-- A text is cut at the first of a byte in one way.
use Rattle.std.proofs.Common.{◌≡◌, ℕ, zero, suc, ◌<◌, ◌==◌, true, not, List, [], ◌∷◌, ◌++◌, length, get_or, refl, ap, sym, subst, ◌∙◌, arith, Option, Some, None, MatchOption, Bor}
use Rattle.std.specs.List.{list_all}
use Rattle.std.proofs.lemmas.Bool.{and_parts, eq-eqb, not-true, both_ways}
use Rattle.std.proofs.lemmas.List.{length-append}
use Rattle.std.proofs.Math.Seq.{get_or-append_seam}
use Rattle.std.proofs.lemmas.Str.Pattern.{split_parts, IsSplitOnceResult}
use Rattle.small_facts.proofs.Lists.{same_tail}
use Rattle.command_words.specs.Scripts.{IsClear, IsCut}

heads : (x y : ℕ) (xs ys : List ℕ) → x ∷ xs ≡ y ∷ ys → x ≡ y
heads x y xs ys e = ap (λ l. get_or l 0 x) e

behind : (b x : ℕ) (xs : List ℕ) → IsClear b (x ∷ xs) → IsClear b xs
behind b x xs h = λ i small. h (suc i) (omega (arith, small))

pub same_parts : (b : ℕ) (xs us ys vs : List ℕ) → IsClear b xs → IsClear b us → xs ++ b ∷ ys ≡ us ++ b ∷ vs → (xs ≡ us) × (ys ≡ vs)
same_parts b [] [] ys vs p q e = (refl, same_tail b b ys vs e)
same_parts b [] (u ∷ us) ys vs p q e = absurd (q 0 (omega arith) (sym (heads b u ys (us ++ b ∷ vs) e)))
same_parts b (x ∷ xs) [] ys vs p q e = absurd (p 0 (omega arith) (heads x b (xs ++ b ∷ ys) vs e))
same_parts b (x ∷ xs) (u ∷ us) ys vs p q e =
    let rest = same_parts b xs us ys vs (behind b x xs p) (behind b u us q) (same_tail x u (xs ++ b ∷ ys) (us ++ b ∷ vs) e) in
    ((λ j. heads x u (xs ++ b ∷ ys) (us ++ b ∷ vs) e j ∷ rest.0 j), rest.1)

pub same_cut : (b : ℕ) (text f k g l : List ℕ) → IsCut b text f k → IsCut b text g l → (f ≡ g) × (k ≡ l)
same_cut b text f k g l p q = same_parts b f g k l p.first q.first (sym p.whole ∙ q.whole)

-- where there is none, nothing is cut
pub not_cut : (b : ℕ) (text f k : List ℕ) → IsClear b text → IsCut b text f k → ⊥
not_cut b text f k clear cut =
    let small : length f < length text = subst (λ t. length f < length t) (sym cut.whole) (let e = length-append f (b ∷ k) in omega (arith, e)) in
    clear (length f) small (ap (λ t. get_or t (length f) 0) cut.whole ∙ get_or-append_seam f b k 0)

pub clear_by : (b : ℕ) (xs : List ℕ) → list_all (λ x. not (x == b)) xs ≡ true → IsClear b xs
clear_by b [] e i small = absurd (omega (arith, small))
clear_by b (x ∷ xs) e zero small = λ same. both_ways (x == b) (not-true (x == b) (and_parts (not (x == b)) (list_all (λ y. not (y == b)) xs) e).0) (eq-eqb x b same)
clear_by b (x ∷ xs) e (suc i) small = clear_by b xs (and_parts (not (x == b)) (list_all (λ y. not (y == b)) xs) e).1 i (omega (arith, small))

-- what `split_once` gives
pub cut_at : (b : ℕ) (text : List ℕ) (x : Bor (List ℕ) × Bor (List ℕ)) → b < 128 → IsSplitOnceResult b text (Some x) → IsCut b text x.0.now x.1.now
cut_at b text x small h = let p = split_parts b text (Some x) h small in record { whole = p.0; first = p.1 }

pub clear_at : (b : ℕ) (text : List ℕ) → b < 128 → IsSplitOnceResult b text None → IsClear b text
clear_at b text small h = split_parts b text None h small

pub none_case : {A : Type 0} (r : Option A) (P : Type 0) (Q : A → Type 0) → r ≡ None → P → MatchOption r P Q
none_case r P Q e p = subst (λ o. MatchOption o P Q) (sym e) p
