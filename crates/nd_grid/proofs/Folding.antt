-- A fold that goes on by one more element.
use Rattle.std.proofs.Common.{◌≡◌, ℕ, ◌+◌, List, [], ◌∷◌, ◌++◌, map, refl, ap, sym, ◌∙◌, arith, ℤ, Some}
use Rattle.std.specs.Prelude.{Option}
use Rattle.std.specs.List.{range_with_len}
use Rattle.std.proofs.lemmas.List.FromFn.{map-range_with_len_more}
use Rattle.nd_grid.specs.declared.operation.Fold.{Fold}
use Rattle.nd_grid.specs.Operation.{combine_two, folded_from, folded, fold_two, neutral}

pub folded_from-push : (fold : Fold) (x : Option ℤ) (ys : List (Option ℤ)) (y : Option ℤ) → folded_from fold x (ys ++ y ∷ []) ≡ combine_two fold (folded_from fold x ys) y
folded_from-push fold x [] y = refl
folded_from-push fold x (z ∷ ys) y = folded_from-push fold (combine_two fold x z) ys y

pub folded-more : (fold : Fold) (f : ℕ → Option ℤ) (k : ℕ) (total next : ℤ) → folded fold (map f (range_with_len 0 k)) ≡ Some total → Some next ≡ f k → folded fold (map f (range_with_len 0 (k + 1))) ≡ Some (fold_two fold total next)
folded-more fold f k total next h e =
    ap (folded fold) (map-range_with_len_more f 0 k k (omega arith)) ∙ folded_from-push fold (Some (neutral fold)) (map f (range_with_len 0 k)) (f k)
    ∙ ap (λ x. combine_two fold x (f k)) h ∙ ap (combine_two fold (Some total)) (sym e)
