-- Folds in another order: axis by axis, and block by block.
use Rattle.std.proofs.Common.{◌≡◌, ℕ, zero, suc, ◌+◌, ◌*◌, ◌/◌, ◌%◌, ◌<◌, List, [], ◌∷◌, ◌++◌, length, map, take, get_or, refl, ap, sym, ◌∙◌, arith, ℤ}
use Rattle.std.specs.Prelude.{Option}
use Rattle.std.specs.List.{range_with_len}
use Rattle.std.proofs.lemmas.Nat.{div-mul-add, mod-mul-add}
use Rattle.std.proofs.lemmas.List.FromFn.{map-range_with_len_more}
use Rattle.nd_shape.specs.Shape.{elements}
use Rattle.nd_shape.specs.Index.{index_at}
use Rattle.nd_shape.specs.Region.{moved}
use Rattle.nd_shape.specs.Chunk.{total}
use Rattle.nd_grid.specs.declared.operation.Fold.{Fold}
use Rattle.nd_grid.specs.Operation.{combine_two, folded}
use Rattle.nd_grid.proofs.FoldAlgebra.{start, start-folded, folded-cons, folded-append, folded-one, map-all, exchanged}
use Rattle.chunk_layout.specs.Layouts.{counts, lengths, starts_at, lengths_at}
use Rattle.lowering_laws.specs.Boxes.{fold_below, fold_box}

-- ---- folds over numbers

range-shift : {A : Type 0} (f : ℕ → A) (a b n : ℕ) → map f (range_with_len (a + b) n) ≡ map (λ r. f (a + r)) (range_with_len b n)
range-shift f a b zero = refl
range-shift f a b (suc n) = ap (λ xs. f (a + b) ∷ xs) (let z : a + b + 1 ≡ a + (b + 1) = omega arith in ap (λ k. map f (range_with_len k n)) z ∙ range-shift f a (b + 1) n)

range-append : {A : Type 0} (f : ℕ → A) (a m n : ℕ) → map f (range_with_len a (m + n)) ≡ map f (range_with_len a m) ++ map f (range_with_len (a + m) n)
range-append f a zero n =
    let z : 0 + n ≡ n = omega arith in
    let y : a + 0 ≡ a = omega arith in
    ap (λ k. map f (range_with_len a k)) z ∙ ap (λ k. map f (range_with_len k n)) (sym y)
range-append f a (suc m) n =
    let z : suc m + n ≡ suc (m + n) = omega arith in
    let y : a + 1 + m ≡ a + suc m = omega arith in
    ap (λ k. map f (range_with_len a k)) z ∙ ap (λ xs. f a ∷ xs) (range-append f (a + 1) m n ∙ ap (λ k. map f (range_with_len (a + 1) m) ++ map f (range_with_len k n)) y)

pub below-append : (fold : Fold) (f : ℕ → Option ℤ) (m n : ℕ) → fold_below fold (m + n) f ≡ combine_two fold (fold_below fold m f) (fold_below fold n (λ r. f (m + r)))
below-append fold f m n =
    let z : 0 + m ≡ m = omega arith in
    let y : m + 0 ≡ m = omega arith in
    ap (folded fold) (range-append f 0 m n ∙ ap (λ xs. map f (range_with_len 0 m) ++ xs) (ap (λ k. map f (range_with_len k n)) (z ∙ sym y) ∙ range-shift f m 0 n))
    ∙ folded-append fold (map f (range_with_len 0 m)) (map (λ r. f (m + r)) (range_with_len 0 n))

map-same : {A : Type 0} (f g : ℕ → A) (a n : ℕ) → ((k : ℕ) → k < a + n → f k ≡ g k) → map f (range_with_len a n) ≡ map g (range_with_len a n)
map-same f g a zero h = refl
map-same f g a (suc n) h = ap (λ x. x ∷ map f (range_with_len (a + 1) n)) (h a (omega arith)) ∙ ap (λ xs. g a ∷ xs) (map-same f g (a + 1) n (λ k lt. h k (omega arith)))

pub below-same : (fold : Fold) (f g : ℕ → Option ℤ) (n : ℕ) → ((k : ℕ) → k < n → f k ≡ g k) → fold_below fold n f ≡ fold_below fold n g
below-same fold f g n h = ap (folded fold) (map-same f g 0 n (λ k lt. h k (omega arith)))

pub below-exchanged : (fold : Fold) (h : ℕ → ℕ → Option ℤ) (m n : ℕ) → fold_below fold m (λ r. fold_below fold n (h r)) ≡ fold_below fold n (λ s. fold_below fold m (λ r. h r s))
below-exchanged fold h m n = exchanged fold h (range_with_len 0 m) (range_with_len 0 n)

-- ---- axis by axis

pub box-cons : (fold : Fold) (ns : List ℕ) (f : List ℕ → Option ℤ) (n : ℕ) → fold_box fold (n ∷ ns) f ≡ fold_below fold n (λ r. fold_box fold ns (λ rs. f (r ∷ rs)))
box-cons fold ns f zero = let z : 0 * elements ns ≡ 0 = omega arith in ap (λ k. fold_below fold k (λ p. f (index_at (0 ∷ ns) p))) z
box-cons fold ns f (suc n) =
    let e = elements ns in
    let z : suc n * elements ns ≡ n * elements ns + elements ns = omega arith in
    let one : n + 1 ≡ suc n = omega arith in
    let last : fold_below fold (elements ns) (λ r. f ((n * elements ns + r) / elements ns ∷ index_at ns ((n * elements ns + r) % elements ns))) ≡ fold_box fold ns (λ rs. f (n ∷ rs)) =
    below-same fold (λ r. f ((n * elements ns + r) / elements ns ∷ index_at ns ((n * elements ns + r) % elements ns))) (λ p. f (n ∷ index_at ns p)) (elements ns) (λ r h.
    ap (λ q. f (q ∷ index_at ns ((n * elements ns + r) % elements ns))) (div-mul-add n (elements ns) r h) ∙ ap (λ q. f (n ∷ index_at ns q)) (mod-mul-add n (elements ns) r h)) in
    ap (λ k. fold_below fold k (λ p. f (p / elements ns ∷ index_at ns (p % elements ns)))) z
    ∙ below-append fold (λ p. f (p / elements ns ∷ index_at ns (p % elements ns))) (n * elements ns) (elements ns)
    ∙ ap (λ u. combine_two fold u (fold_below fold (elements ns) (λ r. f ((n * elements ns + r) / elements ns ∷ index_at ns ((n * elements ns + r) % elements ns))))) (box-cons fold ns f n)
    ∙ ap (combine_two fold (fold_below fold n (λ r. fold_box fold ns (λ rs. f (r ∷ rs))))) (last ∙ sym (folded-one fold (map (λ p. f (n ∷ index_at ns p)) (range_with_len 0 (elements ns)))))
    ∙ sym (folded-append fold (map (λ r. fold_box fold ns (λ rs. f (r ∷ rs))) (range_with_len 0 n)) (fold_box fold ns (λ rs. f (n ∷ rs)) ∷ []))
    ∙ ap (folded fold) (sym (map-range_with_len_more (λ r. fold_box fold ns (λ rs. f (r ∷ rs))) 0 n n (omega arith)) ∙ ap (λ k. map (λ r. fold_box fold ns (λ rs. f (r ∷ rs))) (range_with_len 0 k)) one)

pub start-box : (fold : Fold) (ns : List ℕ) (f : List ℕ → Option ℤ) → combine_two fold (start fold) (fold_box fold ns f) ≡ fold_box fold ns f
start-box fold ns f = start-folded fold (map (λ p. f (index_at ns p)) (range_with_len 0 (elements ns)))

-- ---- chunk by chunk

pub below-chunks : (fold : Fold) (sizes : List ℕ) (f : ℕ → Option ℤ) → fold_below fold (total sizes) f ≡ fold_below fold (length sizes) (λ b. fold_below fold (get_or sizes b 0) (λ r. f (total (take b sizes) + r)))
below-chunks fold [] f = refl
below-chunks fold (s ∷ ss) f =
    let inner = λ (b : ℕ). fold_below fold (get_or (s ∷ ss) b 0) (λ r. f (total (take b (s ∷ ss)) + r)) in
    let first : fold_below fold s f ≡ fold_below fold s (λ r. f (0 + r)) = below-same fold f (λ r. f (0 + r)) s (λ r h. let z : 0 + r ≡ r = omega arith in ap f (sym z)) in
    let shifted : map (λ b. fold_below fold (get_or ss b 0) (λ r. f (s + (total (take b ss) + r)))) (range_with_len 0 (length ss)) ≡ map inner (range_with_len 1 (length ss)) =
    map-all (λ b. fold_below fold (get_or ss b 0) (λ r. f (s + (total (take b ss) + r)))) (λ b. inner (1 + b)) (range_with_len 0 (length ss)) (λ b.
    let z : suc b ≡ 1 + b = omega arith in
    ap (folded fold) (map-all (λ r. f (s + (total (take b ss) + r))) (λ r. f (s + total (take b ss) + r)) (range_with_len 0 (get_or ss b 0)) (λ r. let y : s + (total (take b ss) + r) ≡ s + total (take b ss) + r = omega arith in ap f y)) ∙ ap inner z)
    ∙ sym (range-shift inner 1 0 (length ss)) in
    below-append fold f s (total ss)
    ∙ ap (λ u. combine_two fold u (fold_below fold (total ss) (λ r. f (s + r)))) first
    ∙ ap (combine_two fold (fold_below fold s (λ r. f (0 + r)))) (below-chunks fold ss (λ r. f (s + r)) ∙ ap (folded fold) shifted)
    ∙ sym (folded-cons fold (fold_below fold s (λ r. f (0 + r))) (map inner (range_with_len 1 (length ss))))

-- a fold over all indexes is one over blocks of folds over the indexes of a block
pub box-blocks : (fold : Fold) (layout : List (List ℕ)) (f : List ℕ → Option ℤ)
    → fold_box fold (lengths layout) f ≡ fold_box fold (counts layout) (λ bs. fold_box fold (lengths_at layout bs) (λ rs. f (moved (starts_at layout bs) rs)))
box-blocks fold [] f = sym (folded-one fold (f [] ∷ []))
box-blocks fold (sizes ∷ layout) f =
    let cs = counts layout in
    box-cons fold (lengths layout) f (total sizes)
    ∙ below-chunks fold sizes (λ r. fold_box fold (lengths layout) (λ rs. f (r ∷ rs)))
    ∙ below-same fold _ (λ b. fold_box fold cs (λ bs. fold_box fold (lengths_at (sizes ∷ layout) (b ∷ bs)) (λ rs. f (moved (starts_at (sizes ∷ layout) (b ∷ bs)) rs)))) (length sizes) (λ b h.
    below-same fold _ (λ r. fold_box fold cs (λ bs. fold_box fold (lengths_at layout bs) (λ rs. f ((total (take b sizes) + r) ∷ moved (starts_at layout bs) rs)))) (get_or sizes b 0) (λ r g.
    box-blocks fold layout (λ rs. f ((total (take b sizes) + r) ∷ rs)))
    ∙ below-exchanged fold (λ r q. fold_box fold (lengths_at layout (index_at cs q)) (λ rs. f ((total (take b sizes) + r) ∷ moved (starts_at layout (index_at cs q)) rs))) (get_or sizes b 0) (elements cs)
    ∙ below-same fold _ (λ q. fold_box fold (lengths_at (sizes ∷ layout) (b ∷ index_at cs q)) (λ rs. f (moved (starts_at (sizes ∷ layout) (b ∷ index_at cs q)) rs))) (elements cs) (λ q g.
    sym (box-cons fold (lengths_at layout (index_at cs q)) (λ rs. f (moved (starts_at (sizes ∷ layout) (b ∷ index_at cs q)) rs)) (get_or sizes b 0))))
    ∙ sym (box-cons fold cs (λ bs. fold_box fold (lengths_at (sizes ∷ layout) bs) (λ rs. f (moved (starts_at (sizes ∷ layout) bs) rs))) (length sizes))
