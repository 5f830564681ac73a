-- The text of a list of numbers, from its first on.
use Rattle.std.proofs.Common.{◌≡◌, ℕ, List, [], ◌∷◌, ◌++◌, codes, ap, sym, ◌∙◌, append_assoc, append-nil}
use Rattle.std.specs.Prelude.{decimal}
use Rattle.nd_shape.specs.Shape.{comma_list}
use Rattle.dask_top.specs.Telling.{rest_of}

first_rest : (n : ℕ) (xs : List ℕ) → comma_list (n ∷ xs) ≡ decimal n ++ rest_of xs
first_rest n [] = sym (append-nil (decimal n))
first_rest n (x ∷ xs) =
    ap (λ l. (decimal n ++ codes ", ") ++ l) (first_rest x xs)
    ∙ (append_assoc (decimal n) (codes ", ") (decimal x ++ rest_of xs)
    ∙ ap (λ l. decimal n ++ l) (sym (append_assoc (codes ", ") (decimal x) (rest_of xs))))

pub list_whole : (before : List ℕ) (n : ℕ) (xs : List ℕ) → (before ++ decimal n) ++ rest_of xs ≡ before ++ comma_list (n ∷ xs)
list_whole before n xs = append_assoc before (decimal n) (rest_of xs) ∙ ap (λ l. before ++ l) (sym (first_rest n xs))
