-- A block seen as so many parts of so many rows: the folded axes lie side by side.
use Rattle.std.proofs.Common.{◌≡◌, ℕ, zero, suc, ◌+◌, ◌*◌, ◌/◌, ◌%◌, ◌<◌, ◌≤◌, ◌^◌, cond, Bool, true, false, List, [], ◌∷◌, length, map, drop, get_or, refl, ap, sym, subst, ◌∙◌, arith, ℤ, pos, Some}
use Rattle.std.specs.Prelude.{Option}
use Rattle.std.specs.List.{range_with_len}
use Rattle.std.proofs.Math.Nat.{mul_comm, mul_assoc, mul-pos}
use Rattle.std.proofs.lemmas.Nat.{mul-add-lt, div-mul-add, mod-mul-add, div-add-mod', div_below, mod_below}
use Rattle.std.proofs.lemmas.List.{drop_more, drop_all}
use Rattle.small_facts.proofs.Numbers.{below_product_right, product_left, product_regroup}
use Rattle.small_facts.proofs.Ranges.{map_range_same}
use Rattle.nd_shape.specs.Block.{Array}
use Rattle.nd_shape.specs.Shape.{elements}
use Rattle.nd_shape.specs.Index.{place, index_at}
use Rattle.nd_grid.specs.declared.operation.Fold.{Fold}
use Rattle.nd_grid.specs.Operation.{neutral, combine_two, folded_from, folded}
use Rattle.nd_grid.specs.Grid.{grid_of, is_among, kept_shape, folded_shape, merged, reduced}
use Rattle.block_kernels.specs.Viewing.{IsView, TakesView, Extends, folds, lengthens, surrounds}
use Rattle.block_kernels.specs.Reducing.{TakesBlock}
use Rattle.block_kernels.proofs.Reducing.{elements-parts}
use Rattle.nd_grid.proofs.FoldAlgebra.{from-combined}

pub view-none : (k : ℕ) (axes : List ℕ) → IsView k [] axes 1 1 1
view-none k axes = record { kept = refl; folded_is = refl; place_is = λ o i q ho hi hq. omega arith }

-- the elements of all axes from k on
all-elements : (k : ℕ) (ns axes : List ℕ) (o f i : ℕ) → IsView k ns axes o f i → elements ns ≡ (o * i) * f
all-elements k ns axes o f i v = sym (elements-parts k ns axes) ∙ ap (λ x. x * elements (folded_shape k ns axes)) v.kept ∙ ap (λ x. (o * i) * x) v.folded_is

-- ---- one axis more, which is folded

folded-sum : (a f r i j e : ℕ) → e ≡ (1 * i) * f → a * e + ((0 * f + r) * i + j) ≡ (a * f + r) * i + j
folded-sum a f r i j e h = ap (λ x. a * x + ((0 * f + r) * i + j)) h ∙ omega arith

first-part : (o q i j m : ℕ) → o < 1 → q * i + j ≡ (o * m + q) * i + j
first-part zero q i j m h = omega arith
first-part (suc o) q i j m h = absurd (omega arith)

drop-part : (o n j : ℕ) → o < 1 → o * n + j ≡ 0 * n + j
drop-part zero n j h = refl
drop-part (suc o) n j h = absurd (omega arith)

pub view-folded : (k n : ℕ) (ns axes : List ℕ) (f i : ℕ) → is_among k axes ≡ true → IsView (suc k) ns axes 1 f i → IsView k (n ∷ ns) axes 1 (n * f) i
view-folded k n ns axes f i e v =
    let ks = kept_shape (suc k) ns axes in
    let fs = folded_shape (suc k) ns axes in
    record {
      kept = ap (λ b. elements (cond b (kept_shape (suc k) ns axes) (n ∷ kept_shape (suc k) ns axes))) e ∙ v.kept;
      folded_is = ap (λ b. elements (cond b (n ∷ folded_shape (suc k) ns axes) (folded_shape (suc k) ns axes))) e ∙ ap (λ x. n * x) v.folded_is;
      place_is = λ o j q ho hj hq.
          let pf : 0 < f = below_product_right n f q hq in
          let r : q % f < f = mod_below q f pf in
          let z : o * i + j ≡ 0 * i + j = drop-part o i j ho in
          ap (λ b. place (n ∷ ns) (cond b
          (get_or (index_at (cond b (n ∷ fs) fs) q) 0 0 ∷ merged (suc k) ns axes (index_at (cond b ks (n ∷ ks)) (o * i + j)) (drop 1 (index_at (cond b (n ∷ fs) fs) q)))
          (get_or (index_at (cond b ks (n ∷ ks)) (o * i + j)) 0 0 ∷ merged (suc k) ns axes (drop 1 (index_at (cond b ks (n ∷ ks)) (o * i + j))) (index_at (cond b (n ∷ fs) fs) q)))) e
          ∙ ap (λ p. q / elements fs * elements ns + place ns (merged (suc k) ns axes (index_at ks p) (index_at fs (q % elements fs)))) z
          ∙ ap (λ x. q / x * elements ns + place ns (merged (suc k) ns axes (index_at ks (0 * i + j)) (index_at fs (q % x)))) v.folded_is
          ∙ ap (λ x. q / f * elements ns + x) (v.place_is 0 j (q % f) (omega arith) hj r)
          ∙ folded-sum (q / f) f (q % f) i j (elements ns) (all-elements (suc k) ns axes 1 f i v)
          ∙ ap (λ x. x * i + j) (div-add-mod' q f)
          ∙ first-part o q i j (n * f) ho;
    }

-- ---- one axis more, which stays

outer-sum : (a b o f q i j e : ℕ) → e ≡ (o * i) * f → a * e + ((b * f + q) * i + j) ≡ ((a * o + b) * f + q) * i + j
outer-sum a b o f q i j e h = ap (λ x. a * x + ((b * f + q) * i + j)) h ∙ omega arith

pub view-outer : (k n : ℕ) (ns axes : List ℕ) (o f i : ℕ) → is_among k axes ≡ false → IsView (suc k) ns axes o f i → IsView k (n ∷ ns) axes (n * o) f i
view-outer k n ns axes o f i e v =
    let ks = kept_shape (suc k) ns axes in
    let fs = folded_shape (suc k) ns axes in
    record {
      kept = ap (λ b. elements (cond b (kept_shape (suc k) ns axes) (n ∷ kept_shape (suc k) ns axes))) e ∙ ap (λ x. n * x) v.kept ∙ sym (mul_assoc n o i);
      folded_is = ap (λ b. elements (cond b (n ∷ folded_shape (suc k) ns axes) (folded_shape (suc k) ns axes))) e ∙ v.folded_is;
      place_is = λ o' j q ho hj hq.
          let po : 0 < o = below_product_right n o o' ho in
          let a : ℕ = o' / o in
          let b : ℕ = o' % o in
          let hb : o' % o < o = mod_below o' o po in
          let split : o' / o * o + o' % o ≡ o' = div-add-mod' o' o in
          let low : (o' % o) * i + j < o * i = subst (λ x. (o' % o) * i + j < x) (mul_comm i o) (mul-add-lt (o' % o) i j o hb hj) in
          let at : o' * i + j ≡ o' / o * (o * i) + ((o' % o) * i + j) = ap (λ x. x * i + j) (sym split) ∙ product_regroup (o' / o) o (o' % o) i j in
          let p1 : (o' * i + j) / elements ks ≡ o' / o = ap (λ x. (o' * i + j) / x) v.kept ∙ ap (λ x. x / (o * i)) at ∙ div-mul-add (o' / o) (o * i) ((o' % o) * i + j) low in
          let p2 : (o' * i + j) % elements ks ≡ (o' % o) * i + j = ap (λ x. (o' * i + j) % x) v.kept ∙ ap (λ x. x % (o * i)) at ∙ mod-mul-add (o' / o) (o * i) ((o' % o) * i + j) low in
          ap (λ b. place (n ∷ ns) (cond b
          (get_or (index_at (cond b (n ∷ fs) fs) q) 0 0 ∷ merged (suc k) ns axes (index_at (cond b ks (n ∷ ks)) (o' * i + j)) (drop 1 (index_at (cond b (n ∷ fs) fs) q)))
          (get_or (index_at (cond b ks (n ∷ ks)) (o' * i + j)) 0 0 ∷ merged (suc k) ns axes (drop 1 (index_at (cond b ks (n ∷ ks)) (o' * i + j))) (index_at (cond b (n ∷ fs) fs) q)))) e
          ∙ ap (λ x. x * elements ns + place ns (merged (suc k) ns axes (index_at ks ((o' * i + j) % elements ks)) (index_at fs q))) p1
          ∙ ap (λ x. o' / o * elements ns + place ns (merged (suc k) ns axes (index_at ks x) (index_at fs q))) p2
          ∙ ap (λ x. o' / o * elements ns + x) (v.place_is (o' % o) j q hb hj hq)
          ∙ outer-sum (o' / o) (o' % o) o f q i j (elements ns) (all-elements (suc k) ns axes o f i v)
          ∙ ap (λ x. (x * f + q) * i + j) split;
    }

inner-sum : (a b i e : ℕ) → e ≡ (1 * i) * 1 → a * e + ((0 * 1 + 0) * i + b) ≡ a * i + b
inner-sum a b i e h = ap (λ x. a * x + ((0 * 1 + 0) * i + b)) h ∙ omega arith

inner-first : (o q m j : ℕ) → o < 1 → q < 1 → j ≡ (o * 1 + q) * m + j
inner-first zero zero m j ho hq = omega arith
inner-first zero (suc q) m j ho hq = absurd (omega arith)
inner-first (suc o) q m j ho hq = absurd (omega arith)

pub first-place : (o m j : ℕ) → o < 1 → o * m + j ≡ j
first-place zero m j h = omega arith
first-place (suc o) m j h = absurd (omega arith)

pub view-inner : (k n : ℕ) (ns axes : List ℕ) (i : ℕ) → is_among k axes ≡ false → IsView (suc k) ns axes 1 1 i → IsView k (n ∷ ns) axes 1 1 (n * i)
view-inner k n ns axes i e v =
    let ks = kept_shape (suc k) ns axes in
    let fs = folded_shape (suc k) ns axes in
    let size : elements ks ≡ i = v.kept ∙ omega arith in
    record {
      kept = ap (λ b. elements (cond b (kept_shape (suc k) ns axes) (n ∷ kept_shape (suc k) ns axes))) e ∙ ap (λ x. n * x) size ∙ omega arith;
      folded_is = ap (λ b. elements (cond b (n ∷ folded_shape (suc k) ns axes) (folded_shape (suc k) ns axes))) e ∙ v.folded_is;
      place_is = λ o j q ho hj hq.
          let pi : 0 < i = below_product_right n i j hj in
          let q0 : q ≡ 0 = omega arith in
          let z : o * (n * i) + j ≡ j = first-place o (n * i) j ho in
          let low : j % i < i = mod_below j i pi in
          let w : j % i ≡ 0 * i + j % i = omega arith in
          ap (λ b. place (n ∷ ns) (cond b
          (get_or (index_at (cond b (n ∷ fs) fs) q) 0 0 ∷ merged (suc k) ns axes (index_at (cond b ks (n ∷ ks)) (o * (n * i) + j)) (drop 1 (index_at (cond b (n ∷ fs) fs) q)))
          (get_or (index_at (cond b ks (n ∷ ks)) (o * (n * i) + j)) 0 0 ∷ merged (suc k) ns axes (drop 1 (index_at (cond b ks (n ∷ ks)) (o * (n * i) + j))) (index_at (cond b (n ∷ fs) fs) q)))) e
          ∙ ap (λ p. p / elements ks * elements ns + place ns (merged (suc k) ns axes (index_at ks (p % elements ks)) (index_at fs q))) z
          ∙ ap (λ x. j / x * elements ns + place ns (merged (suc k) ns axes (index_at ks (j % x)) (index_at fs q))) size
          ∙ ap (λ x. j / i * elements ns + place ns (merged (suc k) ns axes (index_at ks x) (index_at fs q))) w
          ∙ ap (λ x. j / i * elements ns + place ns (merged (suc k) ns axes (index_at ks (0 * i + j % i)) (index_at fs x))) q0
          ∙ ap (λ x. j / i * elements ns + x) (v.place_is 0 (j % i) 0 (omega arith) low (omega arith))
          ∙ inner-sum (j / i) (j % i) i (elements ns) (all-elements (suc k) ns axes 1 1 i v)
          ∙ div-add-mod' j i
          ∙ inner-first o q (n * i) j ho hq;
    }

-- ---- along the axes, from the last on

pub suffix-le : (ns : List ℕ) (k : ℕ) → 0 < elements ns → elements (drop k ns) ≤ elements ns
suffix-le ns zero h = omega arith
suffix-le [] (suc k) h = omega arith
suffix-le (n ∷ ns) (suc k) h = below n (elements ns) (elements (drop k ns)) h (λ p. suffix-le ns k p)
  where
    below : (n e d : ℕ) → 0 < n * e → (0 < e → d ≤ e) → d ≤ n * e
    below zero e d h f = absurd (omega arith)
    below (suc n) zero d h f = absurd (omega arith)
    below (suc n) (suc e) d h f = let b : d ≤ suc e = f (omega arith) in omega arith

pub suffix-some : (ns : List ℕ) (k : ℕ) → 0 < elements ns → 0 < elements (drop k ns)
suffix-some ns zero h = h
suffix-some [] (suc k) h = omega arith
suffix-some (n ∷ ns) (suc k) h = some n (elements ns) (elements (drop k ns)) h (λ p. suffix-some ns k p)
  where
    some : (n e d : ℕ) → 0 < n * e → (0 < e → 0 < d) → 0 < d
    some n zero d h f = absurd (omega arith)
    some n (suc e) d h f = f (omega arith)

pub record Bounds (len size : ℕ) : Type 0 where
  pub small : len * size ≤ 2 ^ 31
  pub some : 0 < size

pub axis-bounds : (ns : List ℕ) (j k size : ℕ) → k ≡ j + 1 → k ≤ length ns → elements ns ≤ 2 ^ 31 → 0 < elements ns → elements (drop k ns) ≡ size → Bounds (get_or ns j 0) size
axis-bounds ns j k size e h small some size_is =
    let dn : drop j ns ≡ get_or ns j 0 ∷ drop (j + 1) ns = drop_more ns j 0 (omega arith) in
    let whole : elements (drop j ns) ≡ get_or ns j 0 * size = ap elements dn ∙ ap (λ x. get_or ns j 0 * elements (drop x ns)) (sym e) ∙ ap (λ x. get_or ns j 0 * x) size_is in
    record {
      small = subst (λ x. x ≤ 2 ^ 31) whole (omega (arith, suffix-le ns j some));
      some = subst (λ x. 0 < x) size_is (suffix-some ns k some);
    }

turned-size : (o f i : ℕ) → (o * i) * f ≡ (o * f) * i
turned-size o f i = omega arith

pub view-bounds : (ns axes : List ℕ) (j k o f i : ℕ) → k ≡ j + 1 → k ≤ length ns → elements ns ≤ 2 ^ 31 → 0 < elements ns → IsView k (drop k ns) axes o f i → Bounds (get_or ns j 0) ((o * f) * i)
view-bounds ns axes j k o f i e h small some v = axis-bounds ns j k ((o * f) * i) e h small some (all-elements k (drop k ns) axes o f i v ∙ turned-size o f i)

extends-view : (k n : ℕ) (ns axes : List ℕ) (gone : Bool) (o f i o' f' i' : ℕ) → is_among k axes ≡ gone → Extends gone n o f i o' f' i' → IsView (suc k) ns axes o f i → IsView k (n ∷ ns) axes o' f' i'
extends-view k n ns axes gone o f i o' f' i' a (folds g e e1 e2 e3) v =
    let w : IsView k (n ∷ ns) axes 1 (n * f) i = view-folded k n ns axes f i (a ∙ g) (subst (λ x. IsView (suc k) ns axes x f i) e v) in
    subst (λ x. IsView k (n ∷ ns) axes o' f' x) (sym e3) (subst (λ x. IsView k (n ∷ ns) axes o' x i) (sym e2) (subst (λ x. IsView k (n ∷ ns) axes x (n * f) i) (sym e1) w))
extends-view k n ns axes gone o f i o' f' i' a (lengthens g e d e1 e2 e3) v =
    let w : IsView k (n ∷ ns) axes 1 1 (n * i) = view-inner k n ns axes i (a ∙ g) (subst (λ x. IsView (suc k) ns axes 1 x i) d (subst (λ x. IsView (suc k) ns axes x f i) e v)) in
    subst (λ x. IsView k (n ∷ ns) axes o' f' x) (sym e3) (subst (λ x. IsView k (n ∷ ns) axes o' x (n * i)) (sym e2) (subst (λ x. IsView k (n ∷ ns) axes x 1 (n * i)) (sym e1) w))
extends-view k n ns axes gone o f i o' f' i' a (surrounds g e1 e2 e3) v =
    let w : IsView k (n ∷ ns) axes (n * o) f i = view-outer k n ns axes o f i (a ∙ g) v in
    subst (λ x. IsView k (n ∷ ns) axes o' f' x) (sym e3) (subst (λ x. IsView k (n ∷ ns) axes o' x i) (sym e2) (subst (λ x. IsView k (n ∷ ns) axes x f i) (sym e1) w))

pub view-step : (ns axes : List ℕ) (j k : ℕ) (gone : Bool) (o f i o' f' i' : ℕ) → k ≡ j + 1 → k ≤ length ns → gone ≡ is_among j axes → Extends gone (get_or ns j 0) o f i o' f' i' → IsView k (drop k ns) axes o f i → IsView j (drop j ns) axes o' f' i'
view-step ns axes j k gone o f i o' f' i' e h g x v =
    let dn : drop j ns ≡ get_or ns j 0 ∷ drop (j + 1) ns = drop_more ns j 0 (omega arith) in
    let s : k ≡ suc j = omega arith in
    let v1 : IsView (suc j) (drop k ns) axes o f i = subst (λ m. IsView m (drop k ns) axes o f i) s v in
    let v2 : IsView (suc j) (drop (j + 1) ns) axes o f i = subst (λ m. IsView (suc j) (drop m ns) axes o f i) e v1 in
    subst (λ ms. IsView j ms axes o' f' i') (sym dn) (extends-view j (get_or ns j 0) (drop (j + 1) ns) axes gone o f i o' f' i' (sym g) x v2)

-- no axis has been looked at
pub view-start : (ns axes : List ℕ) → IsView (length ns) (drop (length ns) ns) axes 1 1 1
view-start ns axes = subst (λ ms. IsView (length ns) ms axes 1 1 1) (sym (drop_all (length ns) ns (omega arith))) (view-none (length ns) axes)

-- ---- the totals of a block

pub view-taken : (fold : Fold) (axes shape : List ℕ) (block : Array) (o f i : ℕ) (cells old new : List ℤ) → IsView 0 block.shape axes o f i → kept_shape 0 block.shape axes ≡ shape → cells ≡ block.cells
    → TakesView fold cells o f i old new → TakesBlock fold axes shape block old new
view-taken fold axes shape block o f i cells old new v e same t = record {
  at = λ p h unit.
      let size : elements shape ≡ o * i = ap elements (sym e) ∙ v.kept in
      let hp : p < o * i = subst (λ x. p < x) size h in
      let pi : 0 < i = below_product_right o i p hp in
      let hj : p % i < i = mod_below p i pi in
      let ho : p / i < o = div_below p i o pi hp in
      let split : p / i * i + p % i ≡ p = div-add-mod' p i in
      let fs = folded_shape 0 block.shape axes in
      let behind : (q : ℕ) → q < f → ◌≡◌ {A = Option ℤ} (Some (get_or block.cells (place block.shape (merged 0 block.shape axes (index_at shape p) (index_at fs q))) (pos 0))) (Some (get_or cells ((p / i * f + q) * i + p % i) (pos 0))) =
      λ q hq.
      ap (λ ns. Some (get_or block.cells (place block.shape (merged 0 block.shape axes (index_at ns p) (index_at fs q))) (pos 0))) (sym e)
      ∙ ap (λ x. Some (get_or block.cells (place block.shape (merged 0 block.shape axes (index_at (kept_shape 0 block.shape axes) x) (index_at fs q))) (pos 0))) (sym split)
      ∙ ap (λ x. Some (get_or block.cells x (pos 0))) (v.place_is (p / i) (p % i) q ho hj hq)
      ∙ ap (λ (xs : List ℤ). Some (get_or xs ((p / i * f + q) * i + p % i) (pos 0))) (sym same) in
      let left : (reduced fold axes (grid_of block)).at (index_at shape p) ≡ folded fold (map (λ q. Some (get_or cells ((p / i * f + q) * i + p % i) (pos 0))) (range_with_len 0 f)) =
      ap (λ n. folded fold (map (λ q. (grid_of block).at (merged 0 block.shape axes (index_at shape p) (index_at fs q))) (range_with_len 0 n))) v.folded_is
      ∙ ap (folded fold) (map_range_same (λ q. Some (get_or block.cells (place block.shape (merged 0 block.shape axes (index_at shape p) (index_at fs q))) (pos 0))) (λ q. Some (get_or cells ((p / i * f + q) * i + p % i) (pos 0))) f behind) in
      ap (combine_two fold (Some (get_or old p (pos 0)))) left
      ∙ sym (from-combined fold (map (λ q. Some (get_or cells ((p / i * f + q) * i + p % i) (pos 0))) (range_with_len 0 f)) (Some (get_or old p (pos 0))) (Some (neutral fold)))
      ∙ ap (λ x. folded_from fold x (map (λ q. Some (get_or cells ((p / i * f + q) * i + p % i) (pos 0))) (range_with_len 0 f))) unit
      ∙ subst (λ x. folded_from fold (Some (get_or old x (pos 0))) (map (λ q. Some (get_or cells ((p / i * f + q) * i + p % i) (pos 0))) (range_with_len 0 f)) ≡ Some (get_or new x (pos 0))) split (t.at (p / i) (p % i) ho hj);
}

-- each factor is small
factor-le : (a b m : ℕ) → 0 < b → a * b ≤ m → a ≤ m
factor-le a zero m h e = absurd (omega arith)
factor-le a (suc b) m h e = omega arith

pub factors-small : (n o f i : ℕ) → n * ((o * f) * i) ≤ 2 ^ 31 → 0 < (o * f) * i → (n * o ≤ 2 ^ 31) × (n * f ≤ 2 ^ 31) × (n * i ≤ 2 ^ 31)
factors-small n o f i h p =
    let pi : 0 < i = below_product_right (o * f) i 0 p in
    let pof : 0 < o * f = product_left (o * f) i p in
    let po : 0 < o = product_left o f pof in
    let pf : 0 < f = below_product_right o f 0 pof in
    let e1 : (n * o) * (f * i) ≤ 2 ^ 31 = omega (arith, h) in
    let e2 : (n * f) * (o * i) ≤ 2 ^ 31 = omega (arith, h) in
    let e3 : (n * i) * (o * f) ≤ 2 ^ 31 = omega (arith, h) in
    (factor-le (n * o) (f * i) (2 ^ 31) (mul-pos pf pi) e1, factor-le (n * f) (o * i) (2 ^ 31) (mul-pos po pi) e2, factor-le (n * i) (o * f) (2 ^ 31) pof e3)

-- ---- the sizes of a view

pub view-cells : (ns axes : List ℕ) (o f i : ℕ) → IsView 0 ns axes o f i → (o * f) * i ≡ elements ns
view-cells ns axes o f i v = sym (all-elements 0 ns axes o f i v ∙ turned-size o f i)

pub view-room : (ns axes shape : List ℕ) (o f i : ℕ) → IsView 0 ns axes o f i → kept_shape 0 ns axes ≡ shape → o * i ≡ elements shape
view-room ns axes shape o f i v e = sym v.kept ∙ ap elements e
