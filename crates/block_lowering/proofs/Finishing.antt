-- Lists of keys under new numbers.
use Rattle.std.proofs.Common.{◌≡◌, refl, ℕ, zero, suc, ◌+◌, ◌<◌, Bool, true, false, cond, List, [], ◌∷◌, ◌++◌, length, map, take, get_or, ap, sym, ◌∙◌, arith, Some, None, ne_eqb}
use Rattle.std.specs.Prelude.{nat_eq}
use Rattle.std.specs.List.{AllByRecursion, flat_map}
use Rattle.std.proofs.lemmas.List.{map_more}
use Rattle.std.proofs.lemmas.List.Sums.{position_or_len_is}
use Rattle.small_facts.proofs.Every.{all_join}
use Rattle.task_graph.specs.Orders.{is_in, position}
use Rattle.task_graph.specs.Numbers.{number_of}
use Rattle.task_graph.proofs.Visits.{not-in}

none-there : (b : Bool) (x : ℕ) → cond b (Some x) None ≡ None → b ≡ false
none-there true x h = absurd cc
none-there false x h = refl

-- a key that isn't kept
pub not-kept : (order : List ℕ) (k : ℕ) → None ≡ number_of order k → position order k ≡ length order
not-kept order k h =
    let out : is_in order k ≡ false = none-there (is_in order k) (position order k) (sym h) in
    position_or_len_is (nat_eq k) order (length order) 0 (omega arith) (λ i lt. ne_eqb k (get_or order i 0) (λ e. not-in order k out i lt (sym e))) (λ lt. absurd (omega arith))

pub all-at : {A : Type 0} (P : A → Type 0) (xs : List A) (i : ℕ) (d : A) → AllByRecursion P xs → i < length xs → P (get_or xs i d)
all-at P [] i d a h = absurd (omega arith)
all-at P (x ∷ xs) zero d a h = a.0
all-at P (x ∷ xs) (suc i) d a h = all-at P xs i d a.1 (omega arith)

pub all-flat : {A : Type 0} (P : A → Type 0) (xss : List (List A)) → AllByRecursion (AllByRecursion P) xss → AllByRecursion P (flat_map (λ xs. xs) xss)
all-flat P [] a = tt
all-flat P (xs ∷ xss) a = all_join P xs (flat_map (λ xs. xs) xss) a.0 (all-flat P xss a.1)

-- one more of a list that is mapped
pub map-push : {A B : Type 0} (f : A → B) (xs : List A) (i : ℕ) (d : A) (old new : List B) (y : B) → i < length xs → old ≡ map f (take i xs) → new ≡ old ++ y ∷ [] → y ≡ f (get_or xs i d) → new ≡ map f (take (i + 1) xs)
map-push f xs i d old new y lt o n e = n ∙ ap (λ ys. ys ++ y ∷ []) o ∙ ap (λ z. map f (take i xs) ++ z ∷ []) e ∙ sym (map_more f xs i d lt)
