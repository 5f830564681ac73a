-- Steps of the loops over counts of chunks: their product, and the index at a place.
use Rattle.std.proofs.Common.{◌≡◌, ℕ, ◌+◌, ◌-◌, ◌*◌, ◌/◌, ◌%◌, ◌<◌, ◌≤◌, min, List, [], ◌∷◌, ◌++◌, length, map, replicate, get_or, set, take, drop, refl, ap, sym, subst, ◌∙◌, arith}
use Rattle.std.proofs.lemmas.List.{take-map, get_or-map, length-map, length-replicate}
use Rattle.nd_shape.specs.Shape.{elements}
use Rattle.nd_shape.specs.Index.{index_at}
use Rattle.chunk_layout.specs.Layouts.{counts, blocks}
use Rattle.chunk_layout.proofs.Numbering.{product-more, digit-more}

-- a layout of so many chunks: what is known of layouts holds of counts
abbrev row : ℕ → List ℕ
row n = replicate n 0

abbrev rows : List ℕ → List (List ℕ)
rows ns = map row ns

counts-rows : (ns : List ℕ) → counts (rows ns) ≡ ns
counts-rows [] = refl
counts-rows (n ∷ ns) = ap (λ k. k ∷ counts (rows ns)) (length-replicate n 0) ∙ ap (λ ks. n ∷ ks) (counts-rows ns)

counts-front : (k : ℕ) (ns : List ℕ) → counts (take k (rows ns)) ≡ take k ns
counts-front k ns = ap counts (take-map row k ns) ∙ counts-rows (take k ns)

count-at : (ns : List ℕ) (k : ℕ) → k < length ns → length (get_or (rows ns) k []) ≡ get_or ns k 0
count-at ns k h = ap (λ (xs : List ℕ). length xs) (get_or-map row ns k 0 [] h) ∙ length-replicate (get_or ns k 0) 0

-- a product that is held to a limit, one factor on
pub product-step : (m : ℕ) (ns : List ℕ) (k product n sat : ℕ) → k < length ns → n ≡ get_or ns k 0
    → product ≡ min (elements (take k ns)) m → sat ≡ min (product * n) m → sat ≡ min (elements (take (k + 1) ns)) m
product-step m ns k product n sat h en ep es =
    let there : k < length (rows ns) = omega (arith, length-map ns row) in
    product-more m (rows ns) k product n sat there (en ∙ sym (count-at ns k h)) (ep ∙ ap (λ ks. min (elements ks) m) (sym (counts-front k ns))) es
    ∙ ap (λ ks. min (elements ks) m) (counts-front (k + 1) ns)

-- the last digit of a place, and the place of the others
pub record DigitStep (ns numbers res : List ℕ) (k left : ℕ) : Type 0 where
  pub some : 0 < get_or ns k 0
  pub inside : left / get_or ns k 0 < elements (take k ns)
  pub value : index_at (take k ns) (left / get_or ns k 0) ++ drop k (set numbers k (left % get_or ns k 0)) ≡ res

digit-step : (ns numbers res : List ℕ) (k left : ℕ) → k < length ns → k < length numbers → left < elements (take (k + 1) ns)
    → index_at (take (k + 1) ns) left ++ drop (k + 1) numbers ≡ res → DigitStep ns numbers res k left
digit-step ns numbers res k left h g b e =
    let there : k < length (rows ns) = omega (arith, length-map ns row) in
    let d = digit-more (rows ns) numbers res k left there g
    (subst (λ ks. left < elements ks) (sym (counts-front (k + 1) ns)) b)
    (subst (λ ks. index_at ks left ++ drop (k + 1) numbers ≡ res) (sym (counts-front (k + 1) ns)) e) in
    let n = count-at ns k h in
    record {
      some = subst (λ x. 0 < x) n d.some;
      inside = subst (λ ks. left / get_or ns k 0 < elements ks) (counts-front k ns) (subst (λ x. left / x < blocks (take k (rows ns))) n d.inside);
      value = subst (λ ks. index_at ks (left / get_or ns k 0) ++ drop k (set numbers k (left % get_or ns k 0)) ≡ res) (counts-front k ns)
          (subst (λ x. index_at (counts (take k (rows ns))) (left / x) ++ drop k (set numbers k (left % x)) ≡ res) n d.value);
    }

-- one axis back
pub digit-back : (ns numbers res : List ℕ) (axis left : ℕ) → 0 < axis → axis ≤ length ns → length numbers ≡ length ns → left < elements (take axis ns)
    → index_at (take axis ns) left ++ drop axis numbers ≡ res → DigitStep ns numbers res (axis - 1) left
digit-back ns numbers res axis left some h len b e =
    let s : axis ≡ axis - 1 + 1 = omega arith in
    digit-step ns numbers res (axis - 1) left (omega arith) (omega arith) (subst (λ (j : ℕ). left < elements (take j ns)) s b) (subst (λ (j : ℕ). index_at (take j ns) left ++ drop j numbers ≡ res) s e)
