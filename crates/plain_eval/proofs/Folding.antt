-- A fold that goes on by one more element, or by nothing.
use Rattle.std.proofs.Common.{◌≡◌, ℕ, ◌+◌, map, ap, sym, ◌∙◌, arith, ℤ, Some}
use Rattle.std.specs.Prelude.{Option}
use Rattle.std.specs.List.{range_with_len}
use Rattle.std.proofs.lemmas.List.FromFn.{map-range_with_len_more}
use Rattle.nd_grid.specs.declared.operation.Fold.{Fold}
use Rattle.nd_grid.specs.Operation.{combine_two, folded, neutral}
use Rattle.nd_grid.proofs.Folding.{folded_from-push}

pub folded-next : (fold : Fold) (f : ℕ → Option ℤ) (k : ℕ) (total next : Option ℤ) → folded fold (map f (range_with_len 0 k)) ≡ total → next ≡ f k → folded fold (map f (range_with_len 0 (k + 1))) ≡ combine_two fold total next
folded-next fold f k total next h e =
    ap (folded fold) (map-range_with_len_more f 0 k k (omega arith)) ∙ folded_from-push fold (Some (neutral fold)) (map f (range_with_len 0 k)) (f k)
    ∙ ap (λ x. combine_two fold x (f k)) h ∙ ap (combine_two fold total) (sym e)
