-- Products over paired axes as products of matrices.
use Rattle.std.proofs.Common.{◌≡◌, ◌≢◌, ℕ, suc, ◌+◌, ◌*◌, ◌/◌, ◌%◌, ◌<◌, ◌≤◌, cond, Bool, true, false, List, [], ◌∷◌, ◌++◌, length, set, map, drop, get_or, refl, ap, sym, subst, ◌∙◌, arith, ℤ, pos, ◌*ℤ◌, Some, Ok, inl, inr, below_more}
use Rattle.std.specs.Prelude.{Option, nat_eq}
use Rattle.std.specs.List.{range_with_len, position_or_len}
use Rattle.std.proofs.Math.Nat.{mul_comm}
use Rattle.std.proofs.lemmas.Nat.{mul-add-lt, div-mul-add, mod-mul-add, div-add-mod', div_below, mod_below}
use Rattle.std.proofs.lemmas.Bool.{cases_lt}
use Rattle.std.proofs.lemmas.List.{get_or-set_same, get_or-set_other, get_or_append_left, get_or_push, get_or_past, drop_at, length-map}
use Rattle.std.proofs.lemmas.List.FromFn.{map-range_with_len_more}
use Rattle.std.proofs.Math.Arith.{digits_lt}
use Rattle.small_facts.proofs.Lists.{map_get_at}
use Rattle.small_facts.proofs.Numbers.{below_product_right}
use Rattle.small_facts.proofs.Ranges.{map_range_same}
use Rattle.nd_shape.specs.Block.{Array}
use Rattle.nd_shape.specs.Shape.{elements}
use Rattle.nd_shape.specs.Index.{IsIn, index_at}
use Rattle.nd_shape.proofs.Places.{index_at-in, IsIn-length}
use Rattle.nd_shape.proofs.Axes.{IsIn-at}
use Rattle.nd_grid.proofs.Turning.{position-at}
use Rattle.nd_grid.proofs.Woven.{woven-in, begins-all, among-contains, among-place}
use Rattle.nd_grid.specs.Int64.{wrap}
use Rattle.nd_grid.specs.declared.operation.Fold.TheVariants.{Sum}
use Rattle.nd_grid.specs.declared.operation.Binary.TheVariants.{Mul}
use Rattle.nd_grid.specs.Operation.{combine, fold_two, combine_two, folded_from, folded}
use Rattle.nd_grid.specs.Grid.{Grid, grid_of, block_of, is_among, kept_shape, woven, contracted}
use Rattle.block_kernels.specs.Contracting.{woven_at, product_of, AddsRow, AddsProducts, IsProduct}
use Rattle.block_kernels.proofs.Filled.{block-filled}
use Rattle.block_kernels.proofs.Totals.{next-part}
use Rattle.block_kernels.proofs.Broadcasts.{elements-append, index_at-append}
use Rattle.nd_grid.proofs.Folding.{folded_from-push}

-- ---- sums of products

pub add-none : (place : ℕ) (factor : ℤ) (cells : List ℤ) (from : ℕ) (old : List ℤ) → AddsRow place factor cells from 0 old old
add-none place factor cells from old = record { at = λ i h. absurd (omega arith); before = λ j h. refl; after = λ j h. refl }

pub add-more : (place : ℕ) (factor : ℤ) (cells : List ℤ) (from i : ℕ) (old now : List ℤ) (x : ℤ) → place + i < length now → AddsRow place factor cells from i old now
    → x ≡ fold_two Sum (get_or now (place + i) (pos 0)) (wrap (factor *ℤ get_or cells (from + i) (pos 0))) → AddsRow place factor cells from (i + 1) old (set now (place + i) x)
add-more place factor cells from i old now x h t e = record {
  at = below_more (λ j. fold_two Sum (get_or old (place + j) (pos 0)) (wrap (factor *ℤ get_or cells (from + j) (pos 0))) ≡ get_or (set now (place + i) x) (place + j) (pos 0)) i
      (λ j b. let ne : place + j ≢ place + i = omega arith in t.at j b ∙ sym (get_or-set_other now (place + i) (place + j) x (pos 0) ne))
      (ap (λ y. fold_two Sum y (wrap (factor *ℤ get_or cells (from + i) (pos 0)))) (sym (t.after (place + i) (omega arith))) ∙ sym e ∙ sym (get_or-set_same now (place + i) x (pos 0) h));
  before = λ j b. let ne : j ≢ place + i = omega arith in get_or-set_other now (place + i) j x (pos 0) ne ∙ t.before j b;
  after = λ j b. let ne : j ≢ place + i = omega arith in get_or-set_other now (place + i) j x (pos 0) ne ∙ t.after j (omega arith);
}

pub products-none : (place : ℕ) (left : List ℤ) (first : ℕ) (right : List ℤ) (count : ℕ) (old : List ℤ) → AddsProducts place left first right 0 count old old
products-none place left first right count old = record { at = λ j h. refl; before = λ j h. refl; after = λ j h. refl }

pub products-more : (place : ℕ) (left : List ℤ) (first : ℕ) (right : List ℤ) (p count : ℕ) (old now new : List ℤ) → AddsProducts place left first right p count old now → AddsRow place (get_or left (first + p) (pos 0)) right (p * count) count now new
    → AddsProducts place left first right (p + 1) count old new
products-more place left first right p count old now new t r = record {
  at = λ j h.
      let f : ℕ → Option ℤ = λ q. Some (product_of left first right count q j) in
      ap (folded_from Sum (Some (get_or old (place + j) (pos 0)))) (map-range_with_len_more f 0 p p (omega arith))
      ∙ folded_from-push Sum (Some (get_or old (place + j) (pos 0))) (map f (range_with_len 0 p)) (f p)
      ∙ ap (λ x. combine_two Sum x (f p)) (t.at j h)
      ∙ ap Some (r.at j h);
  before = λ j h. r.before j h ∙ t.before j h;
  after = λ j h. r.after j h ∙ t.after j h;
}

-- a list of elements with one more
pub elements-more : (xs : List ℤ) (v : ℤ) (x : ℕ) (f : ℕ → Option ℤ) → length xs ≡ x → ((y : ℕ) → y < x → Some (get_or xs y (pos 0)) ≡ f y) → Some v ≡ f x → (y : ℕ) → y < x + 1 → Some (get_or (xs ++ v ∷ []) y (pos 0)) ≡ f y
elements-more xs v x f n were is =
    below_more (λ y. Some (get_or (xs ++ v ∷ []) y (pos 0)) ≡ f y) x
    (λ y h. let hl : y < length xs = omega arith in ap Some (get_or_append_left xs (v ∷ []) (pos 0) y hl) ∙ were y h)
    (ap Some (get_or_push xs v (pos 0) x n) ∙ is)

pub all-zeros : (xs : List ℤ) (n : ℕ) → length xs ≡ n → ((j : ℕ) → j < n → get_or xs j (pos 0) ≡ pos 0) → (j : ℕ) → get_or xs j (pos 0) ≡ pos 0
all-zeros xs n e z j = elim (cases_lt j n) [ inl b ↦ z j b | inr b ↦ get_or_past xs j (pos 0) (omega arith) ]

pub quotient-below : (m w x : ℕ) → x < m * w → x / w < m
quotient-below m w x h = div_below x w m (below_product_right m w x h) h

pub rest-below-divisor : (m w x : ℕ) → x < m * w → x % w < w
rest-below-divisor m w x h = mod_below x w (below_product_right m w x h)

-- so many rows are done, and the others are as they were
pub record Multiplied (left right : List ℤ) (height depth count : ℕ) (cells : List ℤ) : Type 0 where
  pub done : IsProduct left right height depth count cells
  pub later : (j : ℕ) → height * count ≤ j → get_or cells j (pos 0) ≡ pos 0

pub multiplied-none : (left right : List ℤ) (depth count : ℕ) (cells : List ℤ) → ((j : ℕ) → get_or cells j (pos 0) ≡ pos 0) → Multiplied left right 0 depth count cells
multiplied-none left right depth count cells z = record { done = record { at = λ i j hi hj. absurd (omega arith) }; later = λ j h. z j }

pub multiplied-more : (left right : List ℤ) (i depth count : ℕ) (now new : List ℤ) → Multiplied left right i depth count now → AddsProducts (i * count) left (i * depth) right depth count now new → Multiplied left right (i + 1) depth count new
multiplied-more left right i depth count now new m r = record {
  done = record {
    at = λ k j hk hj. elim (cases_lt k i) [
      | inl b ↦ m.done.at k j b hj ∙ ap Some (sym (r.before (k * count + j) (digits_lt b hj)))
      | inr b ↦ let same : i ≡ k = omega arith in
          subst (λ x. folded_from Sum (Some (pos 0)) (map (λ p. Some (product_of left (x * depth) right count p j)) (range_with_len 0 depth)) ≡ Some (get_or new (x * count + j) (pos 0))) same
          (ap (λ x. folded_from Sum (Some x) (map (λ p. Some (product_of left (i * depth) right count p j)) (range_with_len 0 depth))) (sym (m.later (i * count + j) (omega arith))) ∙ r.at j hj)
    ];
  };
  later = λ j h. let n : (i + 1) * count ≡ i * count + count = next-part i count in r.after j (omega arith) ∙ m.later j (omega arith);
}

-- ---- indexes of two parts

-- coordinates past the kept ones aren't looked at
first-of : (is : List ℕ) (m : ℕ) → length is ≡ suc m → (x : ℕ) × (ys : List ℕ) × (is ≡ x ∷ ys) × (length ys ≡ m)
first-of [] m h = absurd (omega arith)
first-of (x ∷ ys) m h = (x, ys, refl, omega arith)

pub woven-front : (k : ℕ) (ns axes is js rs : List ℕ) → length is ≡ length (kept_shape k ns axes) → woven k ns axes (is ++ js) rs ≡ woven k ns axes is rs
woven-front k [] axes is js rs e = refl
woven-front k (n ∷ ns) axes is js rs e = by_case (is_among k axes) (λ xs h. woven-front (suc k) ns axes xs js rs h) e
  where
    by_case : (b : Bool) → ((xs : List ℕ) → length xs ≡ length (kept_shape (suc k) ns axes) → woven (suc k) ns axes (xs ++ js) rs ≡ woven (suc k) ns axes xs rs)
        → length is ≡ length (cond b (kept_shape (suc k) ns axes) (n ∷ kept_shape (suc k) ns axes))
        → cond b (get_or rs (position_or_len (nat_eq k) axes) 0 ∷ woven (suc k) ns axes (is ++ js) rs) (get_or (is ++ js) 0 0 ∷ woven (suc k) ns axes (drop 1 (is ++ js)) rs)
        ≡ cond b (get_or rs (position_or_len (nat_eq k) axes) 0 ∷ woven (suc k) ns axes is rs) (get_or is 0 0 ∷ woven (suc k) ns axes (drop 1 is) rs)
    by_case true rest h = ap (λ xs. get_or rs (position_or_len (nat_eq k) axes) 0 ∷ xs) (rest is h)
    by_case false rest h =
        let f = first-of is (length (kept_shape (suc k) ns axes)) h in
        subst (λ xs. ◌≡◌ {A = List ℕ} (get_or (xs ++ js) 0 0 ∷ woven (suc k) ns axes (drop 1 (xs ++ js)) rs) (get_or xs 0 0 ∷ woven (suc k) ns axes (drop 1 xs) rs)) (sym f.2)
        (ap (λ xs. f.0 ∷ xs) (rest f.1 f.3))

-- ---- the index of an operand lies in it

rest-below : (ls axes rs : List ℕ) (p : ℕ) → p < length axes → IsIn (map (λ a. get_or ls a 0) axes) rs → get_or rs p 0 < get_or ls (get_or axes p 0) 0
rest-below ls axes rs p h i = subst (λ n. get_or rs p 0 < n) (map_get_at ls axes p h) (IsIn-at (map (λ a. get_or ls a 0) axes) rs p i (omega (arith, length-map axes (λ a. get_or ls a 0))))

rest-in : (ls axes rs : List ℕ) → IsIn (map (λ a. get_or ls a 0) axes) rs → (j : ℕ) → is_among j axes ≡ true → get_or rs (position_or_len (nat_eq j) axes) 0 < get_or ls j 0
rest-in ls axes rs i j m =
    subst (λ a. get_or rs (position_or_len (nat_eq j) axes) 0 < get_or ls a 0) (position-at axes j (among-contains axes j m)) (rest-below ls axes rs (position_or_len (nat_eq j) axes) (among-place axes j m) i)

pub woven-inside : (ls axes is rs : List ℕ) → IsIn (kept_shape 0 ls axes) is → IsIn (map (λ a. get_or ls a 0) axes) rs → IsIn ls (woven 0 ls axes is rs)
woven-inside ls axes is rs h i =
    woven-in 0 ls axes is rs (begins-all (kept_shape 0 ls axes) is h) (λ j b m.
    let z : 0 + j ≡ j = omega arith in
    subst (λ k. get_or rs (position_or_len (nat_eq k) axes) 0 < get_or ls j 0) (sym z) (rest-in ls axes rs i j (ap (λ k. is_among k axes) (sym z) ∙ m)))

-- ---- the product of two blocks

-- the matrices that the blocks are read as
pub record IsKeptRows (axes : List ℕ) (a : Array) (kept paired : List ℕ) (cells : List ℤ) : Type 0 where
  pub at : (x : ℕ) → x < elements kept * elements paired → Some (get_or cells x (pos 0)) ≡ woven_at axes a kept paired (x / elements paired) (x % elements paired)

pub record IsPairedRows (axes : List ℕ) (a : Array) (kept paired : List ℕ) (cells : List ℤ) : Type 0 where
  pub at : (x : ℕ) → x < elements paired * elements kept → Some (get_or cells x (pos 0)) ≡ woven_at axes a kept paired (x % elements kept) (x / elements kept)

place-below-product : (a w b h : ℕ) → a < h → b < w → a * w + b < h * w
place-below-product a w b h ha hb = subst (λ x. a * w + b < x) (mul_comm w h) (mul-add-lt a w b h ha hb)

pub contracted-filled : (left_axes right_axes : List ℕ) (a b : Array) (kl kr paired : List ℕ) (left right cells : List ℤ) → kl ≡ kept_shape 0 a.shape left_axes → kr ≡ kept_shape 0 b.shape right_axes → paired ≡ map (λ x. get_or a.shape x 0) left_axes
    → IsKeptRows left_axes a kl paired left → IsPairedRows right_axes b kr paired right → length cells ≡ elements kl * elements kr → IsProduct left right (elements kl) (elements paired) (elements kr) cells
    → block_of (contracted left_axes right_axes (grid_of a) (grid_of b)) ≡ Ok (record { shape = kl ++ kr; cells = cells })
contracted-filled left_axes right_axes a b kl kr paired left right cells el er ep lr rr len prod =
    let g = contracted left_axes right_axes (grid_of a) (grid_of b) in
    let shape : g.shape ≡ kl ++ kr = ap (λ xs. xs ++ kept_shape 0 b.shape right_axes) (sym el) ∙ ap (λ xs. kl ++ xs) (sym er) in
    ap (λ ns. block_of (record { shape = ns; at = (contracted left_axes right_axes (grid_of a) (grid_of b)).at })) shape
    ∙ block-filled (record { shape = kl ++ kr; at = (contracted left_axes right_axes (grid_of a) (grid_of b)).at }) cells (len ∙ sym (elements-append kl kr)) (λ x h.
    let hx : x < elements kl * elements kr = subst (λ e. x < e) (elements-append kl kr) h in
    let pr : 0 < elements kr = below_product_right (elements kl) (elements kr) x hx in
    let i : ℕ = x / elements kr in
    let j : ℕ = x % elements kr in
    let hi : x / elements kr < elements kl = div_below x (elements kr) (elements kl) pr hx in
    let hj : x % elements kr < elements kr = mod_below x (elements kr) pr in
    let split : x / elements kr * elements kr + x % elements kr ≡ x = div-add-mod' x (elements kr) in
    element x (x / elements kr) (x % elements kr) hi hj split)
  where
    element : (x i j : ℕ) → i < elements kl → j < elements kr → i * elements kr + j ≡ x → (contracted left_axes right_axes (grid_of a) (grid_of b)).at (index_at (kl ++ kr) x) ≡ Some (get_or cells x (pos 0))
    element x i j hi hj split =
        let is = index_at kl i in
        let js = index_at kr j in
        let idx : index_at (kl ++ kr) x ≡ index_at kl i ++ index_at kr j = ap (index_at (kl ++ kr)) (sym split) ∙ index_at-append kl kr i j hi hj in
        let li : length (index_at kl i) ≡ length (kept_shape 0 a.shape left_axes) = IsIn-length kl (index_at kl i) (index_at-in kl i hi) ∙ ap length el in
        let rest : drop (length (kept_shape 0 a.shape left_axes)) (index_at kl i ++ index_at kr j) ≡ index_at kr j = drop_at (index_at kl i) (index_at kr j) (length (kept_shape 0 a.shape left_axes)) li in
        let term : (p : ℕ) → p < elements paired → combine Mul ((grid_of a).at (woven 0 a.shape left_axes (index_at kl i ++ index_at kr j) (index_at paired p))) ((grid_of b).at (woven 0 b.shape right_axes (drop (length (kept_shape 0 a.shape left_axes)) (index_at kl i ++ index_at kr j)) (index_at paired p)))
        ≡ Some (product_of left (i * elements paired) right (elements kr) p j) =
        λ p hp.
        let lx : i * elements paired + p < elements kl * elements paired = place-below-product i (elements paired) p (elements kl) hi hp in
        let rx : p * elements kr + j < elements paired * elements kr = place-below-product p (elements kr) j (elements paired) hp hj in
        let l : (grid_of a).at (woven 0 a.shape left_axes (index_at kl i ++ index_at kr j) (index_at paired p)) ≡ Some (get_or left (i * elements paired + p) (pos 0)) =
        ap (grid_of a).at (woven-front 0 a.shape left_axes (index_at kl i) (index_at kr j) (index_at paired p) li)
        ∙ ap (λ u. woven_at left_axes a kl paired u p) (sym (div-mul-add i (elements paired) p hp))
        ∙ ap (λ u. woven_at left_axes a kl paired ((i * elements paired + p) / elements paired) u) (sym (mod-mul-add i (elements paired) p hp))
        ∙ sym (lr.at (i * elements paired + p) lx) in
        let r : (grid_of b).at (woven 0 b.shape right_axes (drop (length (kept_shape 0 a.shape left_axes)) (index_at kl i ++ index_at kr j)) (index_at paired p)) ≡ Some (get_or right (p * elements kr + j) (pos 0)) =
        ap (λ xs. (grid_of b).at (woven 0 b.shape right_axes xs (index_at paired p))) rest
        ∙ ap (λ u. woven_at right_axes b kr paired j u) (sym (div-mul-add p (elements kr) j hj))
        ∙ ap (λ u. woven_at right_axes b kr paired u ((p * elements kr + j) / elements kr)) (sym (mod-mul-add p (elements kr) j hj))
        ∙ sym (rr.at (p * elements kr + j) rx) in
        ap (λ u. combine Mul u ((grid_of b).at (woven 0 b.shape right_axes (drop (length (kept_shape 0 a.shape left_axes)) (index_at kl i ++ index_at kr j)) (index_at paired p)))) l
        ∙ ap (combine Mul (Some (get_or left (i * elements paired + p) (pos 0)))) r in
        ap (contracted left_axes right_axes (grid_of a) (grid_of b)).at idx
        ∙ ap (λ box. folded Sum (map (λ p. combine Mul ((grid_of a).at (woven 0 a.shape left_axes (index_at kl i ++ index_at kr j) (index_at box p))) ((grid_of b).at (woven 0 b.shape right_axes (drop (length (kept_shape 0 a.shape left_axes)) (index_at kl i ++ index_at kr j)) (index_at box p)))) (range_with_len 0 (elements box)))) (sym ep)
        ∙ ap (folded Sum) (map_range_same (λ p. combine Mul ((grid_of a).at (woven 0 a.shape left_axes (index_at kl i ++ index_at kr j) (index_at paired p))) ((grid_of b).at (woven 0 b.shape right_axes (drop (length (kept_shape 0 a.shape left_axes)) (index_at kl i ++ index_at kr j)) (index_at paired p)))) (λ p. Some (product_of left (i * elements paired) right (elements kr) p j)) (elements paired) term)
        ∙ prod.at i j hi hj
        ∙ ap (λ u. Some (get_or cells u (pos 0))) split

-- a result without elements
pub empty-block : (g : Grid) (ns : List ℕ) (xs : List ℤ) → g.shape ≡ ns → elements ns ≡ 0 → length xs ≡ elements ns → block_of g ≡ Ok (record { shape = ns; cells = xs })
empty-block g ns xs e z n =
    ap (λ ms. block_of (record { shape = ms; at = g.at })) e ∙ block-filled (record { shape = ns; at = g.at }) xs n (λ p h. absurd (omega arith))
