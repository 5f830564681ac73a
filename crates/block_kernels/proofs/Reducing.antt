-- Folds over one block after another, and over one row of cells after another.
use Rattle.std.proofs.Common.{◌≡◌, ℕ, zero, suc, ◌+◌, ◌*◌, ◌^◌, ◌<◌, ◌≤◌, cond, Bool, true, false, List, [], ◌∷◌, ◌++◌, length, map, take, get_or, refl, ap, sym, subst, ◌∙◌, arith, ℤ, pos, Some, Ok, Err}
use Rattle.std.specs.Prelude.{Option, All}
use Rattle.std.specs.List.{range_with_len}
use Rattle.std.specs.Arc.{arc_value}
use Rattle.std.specs.declared.sync.Arc.{Arc}
use Rattle.std.specs.declared.alloc.Global.{Global}
use Rattle.std.proofs.lemmas.List.{map_more, map_push}
use Rattle.std.proofs.lemmas.List.FromFn.{get_or-map-range_with_len, length-map-range_with_len}
use Rattle.std.proofs.lemmas.List.Elements.{All-tail}
use Rattle.small_facts.proofs.Lists.{length_cond_cons, all_cond_cons}
use Rattle.small_facts.proofs.Numbers.{product_with_first, product_with_last}
use Rattle.nd_shape.specs.Block.{Array}
use Rattle.nd_shape.specs.Shape.{elements, IsShape}
use Rattle.nd_shape.specs.Index.{IsIn, place, index_at}
use Rattle.nd_shape.proofs.Places.{index_at-in, place-index_at}
use Rattle.nd_grid.specs.declared.operation.Fold.{Fold}
use Rattle.nd_grid.specs.Operation.{neutral, fold_two, combine_two, folded_from, folded}
use Rattle.nd_grid.specs.Grid.{Grid, grid_of, block_of, is_among, kept_shape, folded_shape, merged, reduced}
use Rattle.nd_grid.proofs.Cells.{block-shape, block-at}
use Rattle.nd_grid.proofs.FoldAlgebra.{combine-comm, start-folded}
use Rattle.block_kernels.specs.Kernels.{elements_at, reduced_all}
use Rattle.block_kernels.specs.Inputs.{blocks_of}
use Rattle.block_kernels.specs.Reducing.{TakesBlock, TakesRow}
use Rattle.block_kernels.proofs.Filled.{block-filled}
use Rattle.nd_grid.proofs.Folding.{folded_from-push}

-- ---- one more element

pub fold-push : (fold : Fold) (ys : List (Option ℤ)) (y : Option ℤ) → folded fold (ys ++ y ∷ []) ≡ combine_two fold (folded fold ys) y
fold-push fold ys y = folded_from-push fold (Some (neutral fold)) ys y

-- ---- one more block

-- what the blocks leave at an index
abbrev pub left_by : Fold → List ℕ → List ℕ → List Array → Option ℤ
left_by fold axes i arrays = folded fold (elements_at (map (reduced fold axes) (map grid_of arrays)) i)

left-push : (fold : Fold) (axes i : List ℕ) (arrays : List Array) (a : Array) → left_by fold axes i (arrays ++ a ∷ []) ≡ combine_two fold (left_by fold axes i arrays) ((reduced fold axes (grid_of a)).at i)
left-push fold axes i arrays a =
    ap (λ gs. folded fold (elements_at (map (reduced fold axes) gs) i)) (map_push grid_of arrays a)
    ∙ ap (λ gs. folded fold (elements_at gs i)) (map_push (reduced fold axes) (map grid_of arrays) (grid_of a))
    ∙ ap (folded fold) (map_push (λ (g : Grid). g.at i) (map (reduced fold axes) (map grid_of arrays)) (reduced fold axes (grid_of a)))
    ∙ fold-push fold (elements_at (map (reduced fold axes) (map grid_of arrays)) i) ((reduced fold axes (grid_of a)).at i)

pub left-more : (fold : Fold) (axes i : List ℕ) (bs : List (Arc Array Global)) (k : ℕ) (b : Arc Array Global) → k < length bs → b ≡ get_or bs k b
    → left_by fold axes i (blocks_of (take (k + 1) bs)) ≡ combine_two fold (left_by fold axes i (blocks_of (take k bs))) ((reduced fold axes (grid_of (arc_value b))).at i)
left-more fold axes i bs k b h e =
    ap (left_by fold axes i) (map_more arc_value bs k b h ∙ ap (λ x. blocks_of (take k bs) ++ arc_value x ∷ []) (sym e))
    ∙ left-push fold axes i (blocks_of (take k bs)) (arc_value b)

-- the totals after one more block
pub totals-more : (fold : Fold) (axes shape : List ℕ) (bs : List (Arc Array Global)) (k : ℕ) (b : Arc Array Global) (old new : List ℤ) → k < length bs → b ≡ get_or bs k b
    → ((p : ℕ) → p < elements shape → left_by fold axes (index_at shape p) (blocks_of (take k bs)) ≡ Some (get_or old p (pos 0))) → TakesBlock fold axes shape (arc_value b) old new
    → (p : ℕ) → p < elements shape → left_by fold axes (index_at shape p) (blocks_of (take (k + 1) bs)) ≡ Some (get_or new p (pos 0))
totals-more fold axes shape bs k b old new h e were takes p hp =
    left-more fold axes (index_at shape p) bs k b h e
    ∙ ap (λ x. combine_two fold x ((reduced fold axes (grid_of (arc_value b))).at (index_at shape p))) (were p hp)
    ∙ takes.at p hp (
    ap (λ x. combine_two fold x (Some (neutral fold))) (sym (were p hp))
    ∙ combine-comm fold (left_by fold axes (index_at shape p) (blocks_of (take k bs))) (Some (neutral fold))
    ∙ start-folded fold (elements_at (map (reduced fold axes) (map grid_of (blocks_of (take k bs)))) (index_at shape p))
    ∙ were p hp)

-- all blocks are done
pub reduced-filled : (fold : Fold) (axes dims shape : List ℕ) (arrays : List Array) (xs : List ℤ) → shape ≡ kept_shape 0 dims axes → length xs ≡ elements shape
    → ((p : ℕ) → p < elements shape → left_by fold axes (index_at shape p) arrays ≡ Some (get_or xs p (pos 0)))
    → block_of (reduced_all fold axes dims (map grid_of arrays)) ≡ Ok (record { shape = shape; cells = xs })
reduced-filled fold axes dims shape arrays xs e n f =
    ap (λ ns. block_of (record { shape = ns; at = λ i. left_by fold axes i arrays })) (sym e)
    ∙ block-filled (record { shape = shape; at = λ i. left_by fold axes i arrays }) xs n f

-- ---- the folded axes make a shape

parts-cons : (n e : ℕ) (kept folded : List ℕ) (b : Bool) → elements kept * elements folded ≡ e → elements (cond b kept (n ∷ kept)) * elements (cond b (n ∷ folded) folded) ≡ n * e
parts-cons n e kept folded true h = product_with_first (elements kept) (elements folded) n e h
parts-cons n e kept folded false h = product_with_last (elements kept) (elements folded) n e h

pub elements-parts : (k : ℕ) (ns axes : List ℕ) → elements (kept_shape k ns axes) * elements (folded_shape k ns axes) ≡ elements ns
elements-parts k [] axes = refl
elements-parts k (n ∷ ns) axes = parts-cons n (elements ns) (kept_shape (suc k) ns axes) (folded_shape (suc k) ns axes) (is_among k axes) (elements-parts (suc k) ns axes)

length-folded : (k : ℕ) (ns axes : List ℕ) → length (folded_shape k ns axes) ≤ length ns
length-folded k [] axes = omega arith
length-folded k (n ∷ ns) axes = length_cond_cons n (length ns) (folded_shape (suc k) ns axes) (is_among k axes) (length-folded (suc k) ns axes)

all-folded : (P : ℕ → Type 0) (k : ℕ) (ns axes : List ℕ) → All P ns → All P (folded_shape k ns axes)
all-folded P k [] axes a = a
all-folded P k (n ∷ ns) axes a = all_cond_cons P n (folded_shape (suc k) ns axes) (is_among k axes) (a 0 0 (omega arith)) (all-folded P (suc k) ns axes (All-tail P n ns a))

pub factor-small : (k f m : ℕ) → 0 < k → k * f ≤ m → f ≤ m
factor-small zero f m p h = absurd (omega arith)
factor-small (suc k) f m p h = omega arith

pub folded-is-shape : (ns axes shape : List ℕ) → IsShape ns → kept_shape 0 ns axes ≡ shape → 0 < elements shape → IsShape (folded_shape 0 ns axes)
folded-is-shape ns axes shape s e some = record {
  axes = omega (arith, s.axes, length-folded 0 ns axes);
  lengths = all-folded (λ n. n ≤ 2 ^ 31) 0 ns axes s.lengths;
  product = factor-small (elements (kept_shape 0 ns axes)) (elements (folded_shape 0 ns axes)) (2 ^ 31) (subst (λ ms. 0 < elements ms) (sym e) some)
      (subst (λ x. x ≤ 2 ^ 31) (sym (elements-parts 0 ns axes)) s.product);
}

-- ---- a reduction of a block has all its elements

abbrev pub total_of : Fold → ℤ → (ℕ → ℤ) → List ℕ → ℤ
total_of fold x h [] = x
total_of fold x h (p ∷ ps) = total_of fold (fold_two fold x (h p)) h ps

some-folded : (fold : Fold) (x : ℤ) (h : ℕ → ℤ) (ps : List ℕ) → folded_from fold (Some x) (map (λ p. Some (h p)) ps) ≡ Some (total_of fold x h ps)
some-folded fold x h [] = refl
some-folded fold x h (p ∷ ps) = some-folded fold (fold_two fold x (h p)) h ps

-- the cell behind an index of the result and a place of the folded axes
abbrev pub cell_behind : List ℕ → Array → List ℕ → ℕ → ℤ
cell_behind axes a i q = get_or a.cells (place a.shape (merged 0 a.shape axes i (index_at (folded_shape 0 a.shape axes) q))) (pos 0)

abbrev pub total_at : Fold → List ℕ → Array → List ℕ → ℤ
total_at fold axes a i = total_of fold (neutral fold) (cell_behind axes a i) (range_with_len 0 (elements (folded_shape 0 a.shape axes)))

reduced-block : (fold : Fold) (axes : List ℕ) (a : Array)
    → block_of (reduced fold axes (grid_of a)) ≡ Ok (record { shape = kept_shape 0 a.shape axes; cells = map (λ p. total_at fold axes a (index_at (kept_shape 0 a.shape axes) p)) (range_with_len 0 (elements (kept_shape 0 a.shape axes))) })
reduced-block fold axes a =
    let ns = kept_shape 0 a.shape axes in
    let f : ℕ → ℤ = λ p. total_at fold axes a (index_at (kept_shape 0 a.shape axes) p) in
    block-filled (reduced fold axes (grid_of a)) (map f (range_with_len 0 (elements ns))) (length-map-range_with_len f 0 (elements ns)) (λ p h.
    some-folded fold (neutral fold) (cell_behind axes a (index_at ns p)) (range_with_len 0 (elements (folded_shape 0 a.shape axes)))
    ∙ ap Some (sym (get_or-map-range_with_len f 0 (elements ns) p p (pos 0) h (omega arith))))

pub reduced-there : (fold : Fold) (axes : List ℕ) (a : Array) (q : ℕ) → block_of (reduced fold axes (grid_of a)) ≡ Err q → ⊥
reduced-there fold axes a q e = let f = sym e ∙ reduced-block fold axes a in cc

-- ---- a block's reduction into the totals

pub takes-reduced : (fold : Fold) (axes shape : List ℕ) (block made : Array) (cells old new : List ℤ) → kept_shape 0 block.shape axes ≡ shape → block_of (reduced fold axes (grid_of block)) ≡ Ok made
    → cells ≡ made.cells → length cells ≡ elements shape → TakesRow fold 0 cells 0 (length cells) old new → TakesBlock fold axes shape block old new
takes-reduced fold axes shape block made cells old new e ok same n row = record {
  at = λ p h unit.
      let z : 0 + p ≡ p = omega arith in
      let inside : IsIn shape (index_at shape p) = index_at-in shape p h in
      let ms : made.shape ≡ shape = block-shape (reduced fold axes (grid_of block)) made ok ∙ e in
      let at : (reduced fold axes (grid_of block)).at (index_at shape p) ≡ Some (get_or cells p (pos 0)) =
      sym (block-at (reduced fold axes (grid_of block)) made (index_at shape p) ok (subst (λ ns. IsIn ns (index_at shape p)) (sym e) inside))
      ∙ ap (λ ns. Some (get_or made.cells (place ns (index_at shape p)) (pos 0))) ms
      ∙ ap (λ k. Some (get_or made.cells k (pos 0))) (place-index_at shape p h)
      ∙ ap (λ (xs : List ℤ). Some (get_or xs p (pos 0))) (sym same) in
      ap (combine_two fold (Some (get_or old p (pos 0)))) at
      ∙ ap Some (subst (λ j. fold_two fold (get_or old j (pos 0)) (get_or cells j (pos 0)) ≡ get_or new j (pos 0)) z (row.at p (omega arith)));
}
