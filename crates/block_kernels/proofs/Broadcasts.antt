-- Rows of broadcast arrays: along the last axes of the result an operand has a whole row, where its last axes are the
-- same, or one element, where they are all 1.
use Rattle.std.proofs.Common.{◌≡◌, ℕ, zero, suc, ◌+◌, ◌-◌, ◌*◌, ◌/◌, ◌%◌, ◌<◌, ◌≤◌, cond, List, [], ◌∷◌, ◌++◌, length, take, drop, refl, ap, sym, ◌∙◌, arith, length-append, inl, inr}
use Rattle.std.specs.Prelude.{nat_eq}
use Rattle.std.proofs.lemmas.Nat.{mul-add-lt, div-mul-add, mod-mul-add, div-add-mod', mod_below}
use Rattle.std.proofs.lemmas.List.{drop-append-le, length-drop, length-take-le, take-append-drop}
use Rattle.std.proofs.lemmas.Bool.{cases_lt}
use Rattle.small_facts.proofs.Numbers.{below_product_right, product_regroup, place_under_one}
use Rattle.nd_shape.specs.Shape.{elements}
use Rattle.nd_shape.specs.Index.{place, index_at}
use Rattle.nd_shape.proofs.Places.{index_at-in, place-index_at}
use Rattle.nd_grid.specs.Grid.{under, under_along}
use Rattle.block_kernels.specs.Rows.{tail}
use Rattle.block_kernels.proofs.Filled.{own-along}
use Rattle.nd_grid.proofs.Under.{length-under}

pub elements-append : (xs ys : List ℕ) → elements (xs ++ ys) ≡ elements xs * elements ys
elements-append [] ys = omega arith
elements-append (x ∷ xs) ys = ap (λ k. x * k) (elements-append xs ys) ∙ omega arith

-- ---- places of lists put together

pub index_at-append : (xs ys : List ℕ) (q r : ℕ) → q < elements xs → r < elements ys → index_at (xs ++ ys) (q * elements ys + r) ≡ index_at xs q ++ index_at ys r
index_at-append [] ys q r b h =
    let z : q ≡ 0 = omega arith in
    let e : 0 * elements ys + r ≡ r = omega arith in
    ap (λ k. index_at ys (k * elements ys + r)) z ∙ ap (index_at ys) e
index_at-append (x ∷ xs) ys q r b h =
    let p : 0 < elements xs = below_product_right x (elements xs) q b in
    let m : q % elements xs < elements xs = mod_below q (elements xs) p in
    let low : q % elements xs * elements ys + r < elements ys * elements xs = mul-add-lt (q % elements xs) (elements ys) r (elements xs) m h in
    let low' : q % elements xs * elements ys + r < elements xs * elements ys = omega (arith, low) in
    let s : q * elements ys + r ≡ q / elements xs * (elements xs * elements ys) + (q % elements xs * elements ys + r) =
    ap (λ k. k * elements ys + r) (sym (div-add-mod' q (elements xs))) ∙ product_regroup (q / elements xs) (elements xs) (q % elements xs) (elements ys) r in
    let d : (q * elements ys + r) / elements (xs ++ ys) ≡ q / elements xs =
    ap (λ k. (q * elements ys + r) / k) (elements-append xs ys) ∙ ap (λ k. k / (elements xs * elements ys)) s ∙ div-mul-add (q / elements xs) (elements xs * elements ys) (q % elements xs * elements ys + r) low' in
    let l : (q * elements ys + r) % elements (xs ++ ys) ≡ q % elements xs * elements ys + r =
    ap (λ k. (q * elements ys + r) % k) (elements-append xs ys) ∙ ap (λ k. k % (elements xs * elements ys)) s ∙ mod-mul-add (q / elements xs) (elements xs * elements ys) (q % elements xs * elements ys + r) low' in
    ap (λ k. k ∷ index_at (xs ++ ys) ((q * elements ys + r) % elements (xs ++ ys))) d
    ∙ ap (λ k. q / elements xs ∷ index_at (xs ++ ys) k) l
    ∙ ap (λ is. q / elements xs ∷ is) (index_at-append xs ys (q % elements xs) r m h)

pub place-append : (xs ys is js : List ℕ) → length is ≡ length xs → place (xs ++ ys) (is ++ js) ≡ place xs is * elements ys + place ys js
place-append [] ys [] js e = omega arith
place-append [] ys (i ∷ is) js e = absurd (omega arith)
place-append (x ∷ xs) ys [] js e = absurd (omega arith)
place-append (x ∷ xs) ys (i ∷ is) js e =
    ap (λ k. i * k + place (xs ++ ys) (is ++ js)) (elements-append xs ys)
    ∙ ap (λ k. i * (elements xs * elements ys) + k) (place-append xs ys is js (omega arith))
    ∙ sym (product_regroup i (elements xs) (place xs is) (elements ys) (place ys js))

under_along-append : (xs ys is js : List ℕ) → length is ≡ length xs → under_along (xs ++ ys) (is ++ js) ≡ under_along xs is ++ under_along ys js
under_along-append [] ys [] js e = refl
under_along-append [] ys (i ∷ is) js e = absurd (omega arith)
under_along-append (x ∷ xs) ys [] js e = absurd (omega arith)
under_along-append (x ∷ xs) ys (i ∷ is) js e = ap (λ us. cond (nat_eq x 1) 0 i ∷ us) (under_along-append xs ys is js (omega arith))

under-append : (xs ys is js : List ℕ) → length js ≡ length ys → length xs ≤ length is → under (xs ++ ys) (is ++ js) ≡ under xs is ++ under_along ys js
under-append xs ys is js e h =
    let k : length (is ++ js) - length (xs ++ ys) ≡ length is - length xs = omega (arith, length-append is js, length-append xs ys) in
    let low : length is - length xs ≤ length is = omega arith in
    let same : length (drop (length is - length xs) is) ≡ length xs = omega (arith, length-drop (length is - length xs) is) in
    ap (λ n. under_along (xs ++ ys) (drop n (is ++ js))) k
    ∙ ap (under_along (xs ++ ys)) (drop-append-le (length is - length xs) is js low)
    ∙ under_along-append xs ys (drop (length is - length xs) is) js same

pub length-index_at : (ns : List ℕ) (p : ℕ) → length (index_at ns p) ≡ length ns
length-index_at [] p = refl
length-index_at (n ∷ ns) p = ap suc (length-index_at ns (p % elements ns))

-- ---- axes of length 1

factor-one : (a b : ℕ) → a * b ≡ 1 → a ≡ 1
factor-one zero b e = absurd (omega arith)
factor-one (suc zero) b e = refl
factor-one (suc (suc a)) zero e = absurd (omega arith)
factor-one (suc (suc a)) (suc b) e = absurd (omega arith)

ones-under : (ts js : List ℕ) → elements ts ≡ 1 → place ts (under_along ts js) ≡ 0
ones-under [] js e = refl
ones-under (t ∷ ts) [] e = refl
ones-under (t ∷ ts) (j ∷ js) e =
    let one : t ≡ 1 = factor-one t (elements ts) e in
    let rest : elements ts ≡ 1 = omega (arith, ap (λ k. k * elements ts) (sym one), e) in
    ap (λ k. k * elements ts + place ts (under_along ts js)) (place_under_one t j one) ∙ ap (λ k. 0 * elements ts + k) (ones-under ts js rest) ∙ omega arith

-- ---- an operand whose axes are split as those of the result

flat-at : (xs ts os ys : List ℕ) (q r : ℕ) → q < elements os → r < elements ys → length xs ≤ length os → length ts ≡ length ys → elements ts ≡ 1
    → place (xs ++ ts) (under (xs ++ ts) (index_at (os ++ ys) (q * elements ys + r))) ≡ place xs (under xs (index_at os q)) * 1
flat-at xs ts os ys q r bq br h e one =
    let lo : length (index_at os q) ≡ length os = length-index_at os q in
    let ly : length (index_at ys r) ≡ length ts = length-index_at ys r ∙ sym e in
    ap (λ i. place (xs ++ ts) (under (xs ++ ts) i)) (index_at-append os ys q r bq br)
    ∙ ap (place (xs ++ ts)) (under-append xs ts (index_at os q) (index_at ys r) ly (omega arith))
    ∙ place-append xs ts (under xs (index_at os q)) (under_along ts (index_at ys r)) (length-under xs (index_at os q) (omega arith))
    ∙ ap (λ k. place xs (under xs (index_at os q)) * elements ts + k) (ones-under ts (index_at ys r) one)
    ∙ ap (λ k. place xs (under xs (index_at os q)) * k + 0) one
    ∙ omega arith

full-at : (xs os ys : List ℕ) (q r : ℕ) → q < elements os → r < elements ys → length xs ≤ length os
    → place (xs ++ ys) (under (xs ++ ys) (index_at (os ++ ys) (q * elements ys + r))) ≡ place xs (under xs (index_at os q)) * elements ys + r
full-at xs os ys q r bq br h =
    let lo : length (index_at os q) ≡ length os = length-index_at os q in
    ap (λ i. place (xs ++ ys) (under (xs ++ ys) i)) (index_at-append os ys q r bq br)
    ∙ ap (place (xs ++ ys)) (under-append xs ys (index_at os q) (index_at ys r) (length-index_at ys r) (omega arith))
    ∙ place-append xs ys (under xs (index_at os q)) (under_along ys (index_at ys r)) (length-under xs (index_at os q) (omega arith))
    ∙ ap (λ is. place xs (under xs (index_at os q)) * elements ys + place ys is) (own-along ys (index_at ys r) (index_at-in ys r br))
    ∙ ap (λ k. place xs (under xs (index_at os q)) * elements ys + k) (place-index_at ys r br)

-- ---- an operand below a shape of which the first k axes are the rows

-- a row's element r in the result is the operand's r after the row's first
pub full-place : (ns bs : List ℕ) (k q r : ℕ) → k ≤ length bs → length ns ≤ length bs → tail (length bs - k) ns ≡ drop k bs → q < elements (take k bs) → r < elements (drop k bs)
    → place ns (under ns (index_at bs (q * elements (drop k bs) + r))) ≡ place ns (under ns (index_at bs (q * elements (drop k bs) + 0))) + r
full-place ns bs k q r hk hn e bq br =
    let t = length ns - (length bs - k) in
    let ld : length (drop t ns) ≡ length ns - t = length-drop t ns in
    let lb : length (drop k bs) ≡ length bs - k = length-drop k bs in
    let le : length (drop t ns) ≡ length (drop k bs) = ap length e in
    let lt : length (take t ns) ≡ t = length-take-le t ns (omega arith) in
    let lk : length (take k bs) ≡ k = length-take-le k bs hk in
    let few : length (take t ns) ≤ length (take k bs) = omega arith in
    let sn : take t ns ++ drop k bs ≡ ns = ap (λ ys. take t ns ++ ys) (sym e) ∙ take-append-drop t ns in
    let sb : take k bs ++ drop k bs ≡ bs = take-append-drop k bs in
    let b0 : 0 < elements (drop k bs) = omega arith in
    let at : (j : ℕ) → j < elements (drop k bs) → place ns (under ns (index_at bs (q * elements (drop k bs) + j))) ≡ place (take t ns) (under (take t ns) (index_at (take k bs) q)) * elements (drop k bs) + j = λ j h.
    ap (λ ms. place ms (under ms (index_at bs (q * elements (drop k bs) + j)))) (sym sn)
    ∙ ap (λ ms. place (take t ns ++ drop k bs) (under (take t ns ++ drop k bs) (index_at ms (q * elements (drop k bs) + j)))) (sym sb)
    ∙ full-at (take t ns) (take k bs) (drop k bs) q j bq h few in
    omega (arith, at r br, at 0 b0)

-- or always the same
pub flat-place : (ns bs : List ℕ) (k q r : ℕ) → k ≤ length bs → length ns ≤ length bs → elements (tail (length bs - k) ns) ≡ 1 → q < elements (take k bs) → r < elements (drop k bs)
    → place ns (under ns (index_at bs (q * elements (drop k bs) + r))) ≡ place ns (under ns (index_at bs (q * elements (drop k bs) + 0)))
flat-place ns bs k q r hk hn one bq br = elim (cases_lt (length ns) (length bs - k)) [
  | inl short ↦ let t : length ns - (length bs - k) ≡ 0 = omega arith in
      let all : elements ns ≡ 1 = ap (λ n. elements (drop n ns)) (sym t) ∙ one in
      ones-under ns _ all ∙ sym (ones-under ns _ all)
  | inr long ↦ let t = length ns - (length bs - k) in
      let ld : length (drop t ns) ≡ length ns - t = length-drop t ns in
      let lb : length (drop k bs) ≡ length bs - k = length-drop k bs in
      let lt : length (take t ns) ≡ t = length-take-le t ns (omega arith) in
      let lk : length (take k bs) ≡ k = length-take-le k bs hk in
      let few : length (take t ns) ≤ length (take k bs) = omega arith in
      let le : length (drop t ns) ≡ length (drop k bs) = omega arith in
      let b0 : 0 < elements (drop k bs) = omega arith in
      let sn : take t ns ++ drop t ns ≡ ns = take-append-drop t ns in
      let sb : take k bs ++ drop k bs ≡ bs = take-append-drop k bs in
      let at : (j : ℕ) → j < elements (drop k bs) → place ns (under ns (index_at bs (q * elements (drop k bs) + j))) ≡ place (take t ns) (under (take t ns) (index_at (take k bs) q)) * 1 = λ j h.
      ap (λ ms. place ms (under ms (index_at bs (q * elements (drop k bs) + j)))) (sym sn)
      ∙ ap (λ ms. place (take t ns ++ drop t ns) (under (take t ns ++ drop t ns) (index_at ms (q * elements (drop k bs) + j)))) (sym sb)
      ∙ flat-at (take t ns) (drop t ns) (take k bs) (drop k bs) q j bq h few le one in
      at r br ∙ sym (at 0 b0)
]
