-- Facts about lists that std lacks.
use Rattle.std.proofs.Common.{not, ltb, [], ◌≡◌, ℕ, ◌+◌, List, drop, get_or, ap, ◌∙◌, arith, refl, ◌∷◌, take, zero, suc, ◌≤◌, ◌++◌, map, ◌<◌, length, ◌≢◌, cond, eqb, Bool, true, false, filter, ◌&&◌, ◌||◌}
use Rattle.std.proofs.Math.Bool.{or-false}
use Rattle.std.proofs.lemmas.Bool.{false≢true}
use Rattle.std.proofs.lemmas.Bool.Decides.{nat_tests}
use Rattle.std.proofs.lemmas.Grind.{common_steps, elements}
use Rattle.std.proofs.lemmas.List.{get_or-drop, get_or-map}
use Rattle.std.proofs.lemmas.List.Elements.{All-cons}
use Rattle.std.proofs.lemmas.List.Sums.{prefix_len-le-length}
use Rattle.std.proofs.lemmas.Slice.Eq.{bytes_eq-Decides}
use Rattle.std.specs.List.{list_all, list_any, fold, position_or_len}
use Rattle.std.specs.Prelude.{All, sum}
use Rattle.small_facts.proofs.Numbers.{ends_at}
use Rattle.small_facts.proofs.Truth.{or_regroup}
use Rattle.std.specs.Str.{bytes_eq}

pub first_of_drop : (xs : List ℕ) (k : ℕ) → get_or (drop k xs) 0 0 ≡ get_or xs k 0
first_of_drop xs k = let z : k + 0 ≡ k = omega arith in get_or-drop k xs 0 0 ∙ ap (λ j. get_or xs j 0) z

pub take_zero : {A : Type 0} (xs : List A) → take 0 xs ≡ []
take_zero [] = refl
take_zero (x ∷ xs) = refl

pub same_tail : {A : Type 0} (x y : A) (xs ys : List A) → x ∷ xs ≡ y ∷ ys → xs ≡ ys
same_tail x y xs ys e = ap (drop 1) e

pub cons_not_nil : {A : Type 0} (x : A) (xs : List A) → x ∷ xs ≡ [] → ⊥
cons_not_nil x xs h = cc

pub map_get_at : (ls axes : List ℕ) (p : ℕ) → p < length axes → get_or (map (λ a. get_or ls a 0) axes) p 0 ≡ get_or ls (get_or axes p 0) 0
map_get_at ls axes p h = get_or-map (λ a. get_or ls a 0) axes p 0 0 h

pub rest_listed : (r : ℕ) → r ≢ 0 → ◌≡◌ {A = List ℕ} (cond (eqb r 0) [] (r ∷ [])) (r ∷ [])
rest_listed r d = grind arith

pub length_cond_cons : {A : Type 0} (x : A) (n : ℕ) (xs : List A) (b : Bool) → length xs ≤ n → length (cond b (x ∷ xs) xs) ≤ suc n
length_cond_cons x n xs true h = omega arith
length_cond_cons x n xs false h = omega arith

pub cond_cons_append : {A : Type 0} (b : Bool) (x : A) (xs ys : List A) → cond b (x ∷ (xs ++ ys)) (xs ++ ys) ≡ cond b (x ∷ xs) xs ++ ys
cond_cons_append true x xs ys = refl
cond_cons_append false x xs ys = refl

pub filter_fewer : {A : Type 0} (p : A → Bool) (xs : List A) → length (filter p xs) ≤ length xs
filter_fewer p [] = omega arith
filter_fewer p (x ∷ xs) = pick (p x) (filter_fewer p xs)
  where
    pick : (b : Bool) → length (filter p xs) ≤ length xs → length (cond b (x ∷ filter p xs) (filter p xs)) ≤ suc (length xs)
    pick true h = omega arith
    pick false h = omega arith

pub filter_nothing : {A : Type 0} (p : A → Bool) (xs : List A) → ((x : A) → p x ≡ false) → filter p xs ≡ []
filter_nothing p [] h = refl
filter_nothing p (x ∷ xs) h = ap (λ b. cond b (x ∷ filter p xs) (filter p xs)) (h x) ∙ filter_nothing p xs h

pub filter_passes_all : {A : Type 0} (p : A → Bool) (xs : List A) → list_all p (filter p xs) ≡ true
filter_passes_all p [] = refl
filter_passes_all p (x ∷ xs) = pick (p x) refl (filter_passes_all p xs)
  where
    pick : (b : Bool) → p x ≡ b → list_all p (filter p xs) ≡ true → list_all p (cond b (x ∷ filter p xs) (filter p xs)) ≡ true
    pick true e r = ap (λ c. c && list_all p (filter p xs)) e ∙ r
    pick false e r = r

pub any_of_take : {A : Type 0} (p : A → Bool) (n : ℕ) (xs : List A) → list_any p (take n xs) ≡ true → list_any p xs ≡ true
any_of_take p zero [] h = h
any_of_take p zero (x ∷ xs) h = absurd (false≢true h)
any_of_take p (suc n) [] h = h
any_of_take p (suc n) (x ∷ xs) h = pick (p x) (any_of_take p n xs) h
  where
    pick : (b : Bool) → (list_any p (take n xs) ≡ true → list_any p xs ≡ true) → (b || list_any p (take n xs)) ≡ true → (b || list_any p xs) ≡ true
    pick true r h = refl
    pick false r h = r h

pub get_or_push : {A : Type 0} (xs : List A) (x d : A) (i : ℕ) → get_or (xs ++ x ∷ []) i d ≡ cond (eqb i (length xs)) x (get_or xs i d)
get_or_push xs x d i = grind (arith, nat_tests, elements, common_steps)

pub fold_is_sum : (a : ℕ) (xs : List ℕ) → fold ◌+◌ a xs ≡ a + sum xs
fold_is_sum a [] = omega arith
fold_is_sum a (x ∷ xs) = omega (arith, fold_is_sum (a + x) xs, fold_is_sum (0 + x) xs)

pub same_bytes : (xs ys : List ℕ) → bytes_eq xs ys ≡ true → xs ≡ ys
same_bytes xs ys h = (bytes_eq-Decides xs ys).0 h

pub any_push : {A : Type 0} (p : A → Bool) (xs : List A) (x : A) → list_any p (xs ++ x ∷ []) ≡ (list_any p xs || p x)
any_push p [] x = or-false (p x)
any_push p (y ∷ xs) x = ap (λ b. p y || b) (any_push p xs x) ∙ or_regroup (p y) (list_any p xs) (p x)

pub place_at_end : {A : Type 0} (p : A → Bool) (xs : List A) → ltb (position_or_len p xs) (length xs) ≡ false → length xs ≡ position_or_len p xs
place_at_end p xs h = ends_at (position_or_len p xs) (length xs) (prefix_len-le-length (λ x. not (p x)) xs) h

pub all_cond_cons : {A : Type 0} (P : A → Type 0) (x : A) (xs : List A) (b : Bool) → P x → All P xs → All P (cond b (x ∷ xs) xs)
all_cond_cons P x xs true p a = All-cons P x xs p a
all_cond_cons P x xs false p a = a
