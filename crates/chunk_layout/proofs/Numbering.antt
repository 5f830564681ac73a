-- Steps of the loops over the axes of a layout: its number of blocks, the numbers of a block's chunks, the number of a block.
use Rattle.std.proofs.Common.{◌≡◌, ℕ, zero, suc, ◌+◌, ◌-◌, ◌*◌, ◌/◌, ◌%◌, ◌<◌, ◌≤◌, ◌^◌, min, List, [], ◌∷◌, ◌++◌, append_assoc, length, get_or, set, take, drop, refl, ap, sym, ◌∙◌, arith, inl, inr}
use Rattle.std.proofs.Math.Nat.{mul_comm}
use Rattle.std.proofs.lemmas.List.{drop_more, take_more, drop-set, drop_all, length-map, map_push}
use Rattle.std.proofs.lemmas.Nat.{mul-add-lt, div-mul-add, mod-mul-add, div-add-mod', div_below, mod_below}
use Rattle.std.proofs.lemmas.Bool.{cases_lt}
use Rattle.small_facts.proofs.Numbers.{product_regroup, below_product_right}
use Rattle.nd_shape.specs.Shape.{elements}
use Rattle.nd_shape.specs.Index.{IsIn, index_at}
use Rattle.nd_shape.specs.Chunk.{total}
use Rattle.nd_shape.proofs.Places.{along-bound, elements-pos_in, IsIn-length}
use Rattle.nd_shape.proofs.Totals.{total-more}
use Rattle.chunk_layout.specs.Layouts.{counts, lengths, blocks, chunk_of, block_of}
use Rattle.chunk_layout.specs.Cuts.{AreStarts, IsLayout}
use Rattle.chunk_layout.proofs.Parting.{in-region, chunk_of-at}
use Rattle.chunk_layout.proofs.Cutting.{blocks-cut}
use Rattle.nd_shape.proofs.Elements.{both_held, elements-push}

-- ---- products

pub blocks-push : (layout : List (List ℕ)) (sizes : List ℕ) → blocks (layout ++ sizes ∷ []) ≡ blocks layout * length sizes
blocks-push layout sizes = ap elements (map_push (λ (ss : List ℕ). length ss) layout sizes) ∙ elements-push (counts layout) (length sizes)

-- a product whose left factor is held to a limit, held to it
pub held : (m a n : ℕ) → min (min a m * n) m ≡ min (a * n) m
held m a zero = omega arith
held m a (suc n) = elim (cases_lt a m) [
  | inl b ↦ let e : min a m ≡ a = omega arith in rw e refl
  | inr b ↦ let e : min a m ≡ m = omega arith in rw e (both_held m (m * suc n) (a * suc n) (more m m n (omega arith)) (more m a n b))
]
  where
    more : (m a n : ℕ) → m ≤ a → m ≤ a * suc n
    more m a n b = omega arith

pub product-more : (m : ℕ) (layout : List (List ℕ)) (k count n sat : ℕ) → k < length layout → n ≡ length (get_or layout k [])
    → count ≡ min (blocks (take k layout)) m → sat ≡ min (count * n) m → sat ≡ min (blocks (take (k + 1) layout)) m
product-more m layout k count n sat h en ec es =
    es ∙ ap (λ c. min (c * n) m) ec ∙ held m (blocks (take k layout)) n ∙ ap (λ x. min (blocks (take k layout) * x) m) en
    ∙ ap (λ x. min x m) (sym (ap blocks (take_more layout k [] h) ∙ blocks-push (take k layout) (get_or layout k [])))

-- ---- digits, from the last one

-- the last digit
digit : (ns : List ℕ) (n q r : ℕ) → r < n → q < elements ns → index_at (ns ++ n ∷ []) (q * n + r) ≡ index_at ns q ++ r ∷ []
digit [] n q r h b =
    let z : q ≡ 0 = omega arith in
    let e : (q * n + r) / 1 ≡ r = ap (λ x. (x * n + r) / 1) z ∙ over-one n r in
    ap (λ x. x ∷ []) e
  where
    over-one : (n r : ℕ) → (0 * n + r) / 1 ≡ r
    over-one n r = let w : (r * 1 + 0) / 1 ≡ r = div-mul-add r 1 0 (omega arith) in let e : 0 * n + r ≡ r * 1 + 0 = omega arith in ap (λ x. x / 1) e ∙ w
digit (m ∷ ns) n q r h b =
    let s = elements ns in
    let sp : 0 < s = below_product_right m s q b in
    let ew : elements (ns ++ n ∷ []) ≡ s * n = elements-push ns n in
    let qs : q / s * s + q % s ≡ q = div-add-mod' q s in
    let split : q * n + r ≡ q / s * (s * n) + (q % s * n + r) = ap (λ x. x * n + r) (sym qs) ∙ product_regroup (q / s) s (q % s) n r in
    let lt : q % s * n + r < s * n = rw (mul_comm s n) (mul-add-lt (q % s) n r s (mod_below q s sp) h) in
    let d : (q * n + r) / (s * n) ≡ q / s = ap (λ x. x / (s * n)) split ∙ div-mul-add (q / s) (s * n) (q % s * n + r) lt in
    let e : (q * n + r) % (s * n) ≡ q % s * n + r = ap (λ x. x % (s * n)) split ∙ mod-mul-add (q / s) (s * n) (q % s * n + r) lt in
    ap (λ (x : ℕ). (q * n + r) / x ∷ index_at (ns ++ n ∷ []) ((q * n + r) % x)) ew
    ∙ ap (λ (x : ℕ). x ∷ index_at (ns ++ n ∷ []) ((q * n + r) % (s * n))) d
    ∙ ap (λ (x : ℕ). q / s ∷ index_at (ns ++ n ∷ []) x) e
    ∙ ap (λ (xs : List ℕ). q / s ∷ xs) (digit ns n (q % s) r h (mod_below q s sp))

pub record DigitMore (layout : List (List ℕ)) (numbers res : List ℕ) (k left : ℕ) : Type 0 where
  pub some : 0 < length (get_or layout k [])
  pub inside : left / length (get_or layout k []) < blocks (take k layout)
  pub value : index_at (counts (take k layout)) (left / length (get_or layout k [])) ++ drop k (set numbers k (left % length (get_or layout k []))) ≡ res

pub digit-more : (layout : List (List ℕ)) (numbers res : List ℕ) (k left : ℕ) → k < length layout → k < length numbers → left < blocks (take (k + 1) layout)
    → index_at (counts (take (k + 1) layout)) left ++ drop (k + 1) numbers ≡ res → DigitMore layout numbers res k left
digit-more layout numbers res k left h g b e =
    let n = length (get_or layout k []) in
    let t : take (k + 1) layout ≡ take k layout ++ get_or layout k [] ∷ [] = take_more layout k [] h in
    let p : blocks (take (k + 1) layout) ≡ blocks (take k layout) * n = ap blocks t ∙ blocks-push (take k layout) (get_or layout k []) in
    let b1 : left < blocks (take k layout) * n = omega arith in
    let s : 0 < n = below_product_right (blocks (take k layout)) n left b1 in
    let c : counts (take (k + 1) layout) ≡ counts (take k layout) ++ n ∷ [] = ap counts t ∙ map_push (λ (ss : List ℕ). length ss) (take k layout) (get_or layout k []) in
    let d : index_at (counts (take (k + 1) layout)) left ≡ index_at (counts (take k layout)) (left / n) ++ left % n ∷ [] =
    ap (λ ns. index_at ns left) c ∙ ap (index_at (counts (take k layout) ++ n ∷ [])) (sym (div-add-mod' left n)) ∙ digit (counts (take k layout)) n (left / n) (left % n) (mod_below left n s) (div_below left n (blocks (take k layout)) s b1) in
    record {
      some = s;
      inside = div_below left n (blocks (take k layout)) s b1;
      value = ap (λ xs. index_at (counts (take k layout)) (left / n) ++ xs) (drop-set numbers k (left % n) g)
          ∙ sym (append_assoc (index_at (counts (take k layout)) (left / n)) (left % n ∷ []) (drop (k + 1) numbers))
          ∙ ap (λ xs. xs ++ drop (k + 1) numbers) (sym d) ∙ e;
    }

-- ---- the number of a block, one axis on

pub number-small : (layout : List (List ℕ)) (is : List ℕ) → IsLayout layout → IsIn (lengths layout) is → (block_of layout is < blocks layout) × (blocks layout ≤ 2 ^ 31)
number-small layout is s h =
    let r : block_of layout is < blocks layout = (in-region layout is h).0 in
    let p : 0 < elements (lengths layout) = elements-pos_in (lengths layout) is h in
    let b : blocks layout ≤ elements (lengths layout) = blocks-cut layout s.cuts p in
    let t : elements (lengths layout) ≤ 2 ^ 31 = s.shape.product in
    (r, omega arith)

pub number-fits : (layout : List (List ℕ)) (is : List ℕ) (k at : ℕ) → IsLayout layout → IsIn (lengths layout) is → k < length layout → IsIn (lengths (drop k layout)) (drop k is)
    → at * blocks (drop k layout) + block_of (drop k layout) (drop k is) ≡ block_of layout is
    → at * length (get_or layout k []) + chunk_of (get_or layout k []) (get_or is k 0) < 2 ^ 31
number-fits layout is k at s h lt rest e =
    let len : length is ≡ length layout = IsIn-length (lengths layout) is h ∙ length-map layout (λ (ss : List ℕ). total ss) in
    let lt' : k < length is = omega arith in
    let ss = get_or layout k [] in
    let i = get_or is k 0 in
    let dl : drop k layout ≡ ss ∷ drop (k + 1) layout = drop_more layout k [] lt in
    let di : drop k is ≡ i ∷ drop (k + 1) is = drop_more is k 0 lt' in
    let r1 : IsIn (lengths (ss ∷ drop (k + 1) layout)) (i ∷ drop (k + 1) is) = rw (dl, di) at rest in
    let e1 : at * blocks (ss ∷ drop (k + 1) layout) + block_of (ss ∷ drop (k + 1) layout) (i ∷ drop (k + 1) is) ≡ block_of layout is = rw (dl, di) at e in
    let e2 : at * (length ss * blocks (drop (k + 1) layout)) + (chunk_of ss i * blocks (drop (k + 1) layout) + block_of (drop (k + 1) layout) (drop (k + 1) is)) ≡ block_of layout is = e1 in
    let e3 : (at * length ss + chunk_of ss i) * blocks (drop (k + 1) layout) + block_of (drop (k + 1) layout) (drop (k + 1) is) ≡ block_of layout is = omega (arith, e2) in
    let p : block_of (drop (k + 1) layout) (drop (k + 1) is) < blocks (drop (k + 1) layout) = (in-region (drop (k + 1) layout) (drop (k + 1) is) r1.1).0 in
    let le : at * length ss + chunk_of ss i ≤ block_of layout is = along-bound _ (blocks (drop (k + 1) layout)) _ _ (omega arith) e3 in
    let small = number-small layout is s h in
    let s0 : block_of layout is < blocks layout = small.0 in
    let s1 : blocks layout ≤ 2 ^ 31 = small.1 in
    omega arith

pub number-end : (layout : List (List ℕ)) (is : List ℕ) (k at : ℕ) → length layout ≤ k → IsIn (lengths layout) is
    → at * blocks (drop k layout) + block_of (drop k layout) (drop k is) ≡ block_of layout is → at < blocks layout
number-end layout is k at h i e =
    let n : drop k layout ≡ [] = drop_all k layout h in
    let e1 : at * blocks [] + block_of [] (drop k is) ≡ block_of layout is = rw n at e in
    let e2 : at * 1 + 0 ≡ block_of layout is = e1 in
    let r : block_of layout is < blocks layout = (in-region layout is i).0 in
    omega arith

-- ---- the chunk of an index, by the running sums

pub found : (sizes starts : List ℕ) (b i : ℕ) → AreStarts sizes starts → b < length sizes → get_or starts b 0 ≤ i → i < get_or starts (b + 1) 0 → b ≡ chunk_of sizes i
found sizes starts b i s h low high =
    let a : get_or starts b 0 ≡ total (take b sizes) = s.at b (omega arith) in
    let z : get_or starts (b + 1) 0 ≡ total (take (b + 1) sizes) = s.at (b + 1) (omega arith) in
    let m : total (take (b + 1) sizes) ≡ total (take b sizes) + get_or sizes b 0 = total-more sizes b h in
    let e : total (take b sizes) + (i - total (take b sizes)) ≡ i = omega arith in
    sym (chunk_of-at sizes b (i - total (take b sizes)) h (omega arith)) ∙ ap (chunk_of sizes) e
