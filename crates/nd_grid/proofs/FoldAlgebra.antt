-- The algebra of folds: their operation is associative and commutative, so folds of lists can be taken apart and exchanged.
use Rattle.std.proofs.Common.{◌≡◌, ℕ, zero, suc, List, [], ◌∷◌, ◌++◌, map, refl, ap, sym, ◌∙◌, arith, Some, None, ℤ, pos, negsuc, ◌+ℤ◌, ◌*ℤ◌, w64, rules}
use Rattle.std.specs.Prelude.{Option}
use Rattle.std.specs.Int.{int_min, int_max}
use Rattle.std.proofs.lemmas.Int.{ints, int_wrap_fits, int_wrap-add_left, int_wrap-add_right, int_wrap-mul_left, int_wrap-mul_right}
use Rattle.std.proofs.Math.IntN.{*ℤ_comm, +ℤ_comm, neg_ℤ, *ℤ-zero, *ℤ-negsuc, neg_ℤ-neg_ℤ}
use Rattle.nd_grid.specs.Int64.{wrap, IsInt64}
use Rattle.nd_grid.specs.declared.operation.Fold.{Fold}
use Rattle.nd_grid.specs.declared.operation.Fold.TheVariants.{Sum, Prod, Min, Max}
use Rattle.nd_grid.specs.Operation.{neutral, fold_two, combine_two, folded_from, folded}

-- ---- the operation of a fold

neg_right : (a b : ℤ) → a *ℤ neg_ℤ b ≡ neg_ℤ (a *ℤ b)
neg_right a (pos zero) = *ℤ-zero a ∙ ap neg_ℤ (sym (*ℤ-zero a))
neg_right a (pos (suc n)) = *ℤ-negsuc a n
neg_right a (negsuc n) = sym (ap neg_ℤ (*ℤ-negsuc a n) ∙ neg_ℤ-neg_ℤ (a *ℤ pos (suc n)))

neg_left : (a b : ℤ) → neg_ℤ a *ℤ b ≡ neg_ℤ (a *ℤ b)
neg_left a b = *ℤ_comm (neg_ℤ a) b ∙ neg_right b a ∙ ap neg_ℤ (*ℤ_comm b a)

assoc_nat : (a b c : ℕ) → (pos a *ℤ pos b) *ℤ pos c ≡ pos a *ℤ (pos b *ℤ pos c)
assoc_nat a b c = ap pos (omega arith)

assoc_third : (a b : ℕ) (c : ℤ) → (pos a *ℤ pos b) *ℤ c ≡ pos a *ℤ (pos b *ℤ c)
assoc_third a b (pos c) = assoc_nat a b c
assoc_third a b (negsuc c) =
    neg_right (pos a *ℤ pos b) (pos (suc c)) ∙ ap neg_ℤ (assoc_nat a b (suc c)) ∙ sym (neg_right (pos a) (pos b *ℤ pos (suc c))) ∙ ap (λ x. pos a *ℤ x) (sym (neg_right (pos b) (pos (suc c))))

assoc_second : (a : ℕ) (b c : ℤ) → (pos a *ℤ b) *ℤ c ≡ pos a *ℤ (b *ℤ c)
assoc_second a (pos b) c = assoc_third a b c
assoc_second a (negsuc b) c =
    ap (λ x. x *ℤ c) (neg_right (pos a) (pos (suc b))) ∙ neg_left (pos a *ℤ pos (suc b)) c ∙ ap neg_ℤ (assoc_third a (suc b) c) ∙ sym (neg_right (pos a) (pos (suc b) *ℤ c)) ∙ ap (λ x. pos a *ℤ x) (sym (neg_left (pos (suc b)) c))

mul_assoc : (a b c : ℤ) → (a *ℤ b) *ℤ c ≡ a *ℤ (b *ℤ c)
mul_assoc (pos a) b c = assoc_second a b c
mul_assoc (negsuc a) b c =
    ap (λ x. x *ℤ c) (neg_left (pos (suc a)) b) ∙ neg_left (pos (suc a) *ℤ b) c ∙ ap neg_ℤ (assoc_second (suc a) b c) ∙ sym (neg_left (pos (suc a)) (b *ℤ c))

add_assoc : (a b c : ℤ) → (a +ℤ b) +ℤ c ≡ a +ℤ (b +ℤ c)
add_assoc a b c = omega (arith, ints)

min_assoc : (a b c : ℤ) → int_min (int_min a b) c ≡ int_min a (int_min b c)
min_assoc a b c = grind (arith, ints)

max_assoc : (a b c : ℤ) → int_max (int_max a b) c ≡ int_max a (int_max b c)
max_assoc a b c = grind (arith, ints)

min_comm : (a b : ℤ) → int_min a b ≡ int_min b a
min_comm a b = grind (arith, ints)

max_comm : (a b : ℤ) → int_max a b ≡ int_max b a
max_comm a b = grind (arith, ints)

two_assoc : (fold : Fold) (a b c : ℤ) → fold_two fold (fold_two fold a b) c ≡ fold_two fold a (fold_two fold b c)
two_assoc Sum a b c = int_wrap-add_left w64 (a +ℤ b) c ∙ ap wrap (add_assoc a b c) ∙ sym (int_wrap-add_right w64 a (b +ℤ c))
two_assoc Prod a b c = int_wrap-mul_left w64 (a *ℤ b) c ∙ ap wrap (mul_assoc a b c) ∙ sym (int_wrap-mul_right w64 a (b *ℤ c))
two_assoc Min a b c = min_assoc a b c
two_assoc Max a b c = max_assoc a b c

two_comm : (fold : Fold) (a b : ℤ) → fold_two fold a b ≡ fold_two fold b a
two_comm Sum a b = ap wrap (+ℤ_comm a b)
two_comm Prod a b = ap wrap (*ℤ_comm a b)
two_comm Min a b = min_comm a b
two_comm Max a b = max_comm a b

two_neutral : (fold : Fold) → fold_two fold (neutral fold) (neutral fold) ≡ neutral fold
two_neutral Sum = let fits : IsInt64 (pos 0) = search rules in int_wrap_fits w64 (pos 0) fits
two_neutral Prod = let fits : IsInt64 (pos 1) = search rules in int_wrap_fits w64 (pos 1) fits
two_neutral Min = refl
two_neutral Max = refl

pub combine-assoc : (fold : Fold) (x y z : Option ℤ) → combine_two fold (combine_two fold x y) z ≡ combine_two fold x (combine_two fold y z)
combine-assoc fold None y z = refl
combine-assoc fold (Some a) None z = refl
combine-assoc fold (Some a) (Some b) None = refl
combine-assoc fold (Some a) (Some b) (Some c) = ap Some (two_assoc fold a b c)

pub combine-comm : (fold : Fold) (x y : Option ℤ) → combine_two fold x y ≡ combine_two fold y x
combine-comm fold None None = refl
combine-comm fold None (Some b) = refl
combine-comm fold (Some a) None = refl
combine-comm fold (Some a) (Some b) = ap Some (two_comm fold a b)

abbrev pub start : Fold → Option ℤ
start fold = Some (neutral fold)

pub start-twice : (fold : Fold) → combine_two fold (start fold) (start fold) ≡ start fold
start-twice fold = ap Some (two_neutral fold)

-- ---- folds of lists

pub from-combined : (fold : Fold) (ys : List (Option ℤ)) (x y : Option ℤ) → folded_from fold (combine_two fold x y) ys ≡ combine_two fold x (folded_from fold y ys)
from-combined fold [] x y = refl
from-combined fold (z ∷ ys) x y = ap (λ u. folded_from fold u ys) (combine-assoc fold x y z) ∙ from-combined fold ys x (combine_two fold y z)

pub folded-cons : (fold : Fold) (y : Option ℤ) (ys : List (Option ℤ)) → folded fold (y ∷ ys) ≡ combine_two fold y (folded fold ys)
folded-cons fold y ys = ap (λ u. folded_from fold u ys) (combine-comm fold (start fold) y) ∙ from-combined fold ys y (start fold)

pub start-folded : (fold : Fold) (ys : List (Option ℤ)) → combine_two fold (start fold) (folded fold ys) ≡ folded fold ys
start-folded fold ys = sym (from-combined fold ys (start fold) (start fold)) ∙ ap (λ u. folded_from fold u ys) (start-twice fold)

pub folded-append : (fold : Fold) (xs ys : List (Option ℤ)) → folded fold (xs ++ ys) ≡ combine_two fold (folded fold xs) (folded fold ys)
folded-append fold [] ys = sym (start-folded fold ys)
folded-append fold (x ∷ xs) ys =
    folded-cons fold x (xs ++ ys) ∙ ap (combine_two fold x) (folded-append fold xs ys) ∙ sym (combine-assoc fold x (folded fold xs) (folded fold ys)) ∙ ap (λ u. combine_two fold u (folded fold ys)) (sym (folded-cons fold x xs))

-- a fold of one folded value
pub folded-one : (fold : Fold) (ys : List (Option ℤ)) → folded fold (folded fold ys ∷ []) ≡ folded fold ys
folded-one fold ys = start-folded fold ys

-- two folds over the same numbers
pub merged-folds : (fold : Fold) (f g : ℕ → Option ℤ) (xs : List ℕ) → combine_two fold (folded fold (map f xs)) (folded fold (map g xs)) ≡ folded fold (map (λ k. combine_two fold (f k) (g k)) xs)
merged-folds fold f g [] = start-twice fold
merged-folds fold f g (x ∷ xs) =
    let a = f x in
    let b = g x in
    let s = folded fold (map f xs) in
    let t = folded fold (map g xs) in
    ap (λ u. combine_two fold u (folded fold (g x ∷ map g xs))) (folded-cons fold (f x) (map f xs))
    ∙ ap (combine_two fold (combine_two fold (f x) (folded fold (map f xs)))) (folded-cons fold (g x) (map g xs))
    ∙ crossed (f x) (folded fold (map f xs)) (g x) (folded fold (map g xs))
    ∙ ap (combine_two fold (combine_two fold (f x) (g x))) (merged-folds fold f g xs)
    ∙ sym (folded-cons fold (combine_two fold (f x) (g x)) (map (λ k. combine_two fold (f k) (g k)) xs))
  where
    crossed : (a s b t : Option ℤ) → combine_two fold (combine_two fold a s) (combine_two fold b t) ≡ combine_two fold (combine_two fold a b) (combine_two fold s t)
    crossed a s b t =
        combine-assoc fold a s (combine_two fold b t)
        ∙ ap (combine_two fold a) (sym (combine-assoc fold s b t) ∙ ap (λ u. combine_two fold u t) (combine-comm fold s b) ∙ combine-assoc fold b s t)
        ∙ sym (combine-assoc fold a b (combine_two fold s t))

starts-folded : (fold : Fold) (xs : List ℕ) → folded fold (map (λ k. start fold) xs) ≡ start fold
starts-folded fold [] = refl
starts-folded fold (x ∷ xs) = folded-cons fold (start fold) (map (λ k. start fold) xs) ∙ ap (combine_two fold (start fold)) (starts-folded fold xs) ∙ start-twice fold

pub map-all : {A : Type 0} (f g : ℕ → A) (xs : List ℕ) → ((k : ℕ) → f k ≡ g k) → map f xs ≡ map g xs
map-all f g [] h = refl
map-all f g (x ∷ xs) h = ap (λ y. y ∷ map f xs) (h x) ∙ ap (λ ys. g x ∷ ys) (map-all f g xs h)

-- the folds of rows and of columns
pub exchanged : (fold : Fold) (h : ℕ → ℕ → Option ℤ) (xs ys : List ℕ) → folded fold (map (λ r. folded fold (map (h r) ys)) xs) ≡ folded fold (map (λ s. folded fold (map (λ r. h r s) xs)) ys)
exchanged fold h [] ys = sym (starts-folded fold ys)
exchanged fold h (x ∷ xs) ys =
    folded-cons fold (folded fold (map (h x) ys)) (map (λ r. folded fold (map (h r) ys)) xs)
    ∙ ap (combine_two fold (folded fold (map (h x) ys))) (exchanged fold h xs ys)
    ∙ merged-folds fold (h x) (λ s. folded fold (map (λ r. h r s) xs)) ys
    ∙ ap (folded fold) (map-all (λ s. combine_two fold (h x s) (folded fold (map (λ r. h r s) xs))) (λ s. folded fold (map (λ r. h r s) (x ∷ xs))) ys (λ s. sym (folded-cons fold (h x s) (map (λ r. h r s) xs))))
