-- The block of a grid, from a list of cells.
use Rattle.std.proofs.Common.{◌≡◌, ℕ, zero, suc, ◌-◌, ◌<◌, ◌≤◌, cond, List, [], ◌∷◌, length, map, take, drop, get_or, refl, ap, sym, ◌∙◌, arith, ℤ, pos, ◌+ℤ◌, Some, Ok, add-one}
use Rattle.std.specs.Prelude.{nat_lt, Option}
use Rattle.std.specs.List.{zip}
use Rattle.std.proofs.lemmas.Slice.Zip.{length-zip, get_or-zip}
use Rattle.std.proofs.lemmas.List.{take_more, take_all, length-map, get_or-map}
use Rattle.nd_grid.specs.Int64.{wrap}
use Rattle.nd_grid.specs.declared.operation.Binary.TheVariants.{Add}
use Rattle.std.proofs.lemmas.List.FromFn.{fill_by_all}
use Rattle.std.proofs.lemmas.Grind.{get_or_default_zero}
use Rattle.small_facts.proofs.Numbers.{place_under, cond_below_zero}
use Rattle.nd_shape.specs.Block.{Array}
use Rattle.nd_shape.specs.Shape.{elements}
use Rattle.nd_shape.specs.Index.{IsIn, place, index_at}
use Rattle.nd_shape.specs.Broadcast.{broadcast, axes_of, common, lengths_on, length_on}
use Rattle.nd_shape.proofs.Places.{index_at-in, place-index_at, IsIn-length}
use Rattle.nd_grid.specs.declared.operation.Binary.{Binary}
use Rattle.nd_grid.specs.Operation.{combine, apply}
use Rattle.nd_grid.specs.Grid.{Grid, grid_of, block_of, cells_up_to, as_array, elementwise, under, under_along}
use Rattle.nd_grid.proofs.Cells.{cells-none, cells-more}

up-to : (f : ℕ → Option ℤ) (xs : List ℤ) (n : ℕ) → n ≤ length xs → ((p : ℕ) → p < length xs → f p ≡ Some (get_or xs p (pos 0))) → cells_up_to f n ≡ Ok (take n xs)
up-to f xs zero h e = cells-none f
up-to f xs (suc n) h e =
    ap (cells_up_to f) (sym (add-one n))
    ∙ cells-more f n (take n xs) (get_or xs n (pos 0)) (up-to f xs n (omega arith) e) (e n (omega arith))
    ∙ ap (λ (ys : List ℤ). Ok ys) (sym (take_more xs n (pos 0) (omega arith)) ∙ ap (λ (k : ℕ). take k xs) (add-one n))

-- a list that has what the grid has at each place is its block
pub block-filled : (g : Grid) (xs : List ℤ) → length xs ≡ elements g.shape → ((p : ℕ) → p < elements g.shape → g.at (index_at g.shape p) ≡ Some (get_or xs p (pos 0))) → block_of g ≡ Ok (record { shape = g.shape; cells = xs })
block-filled g xs n e =
    ap (as_array g.shape) (
    ap (cells_up_to (λ p. g.at (index_at g.shape p))) (sym n)
    ∙ up-to (λ p. g.at (index_at g.shape p)) xs (length xs) (omega arith) (λ p h. e p (omega arith))
    ∙ ap (λ (ys : List ℤ). Ok ys) (take_all (length xs) xs (omega arith))
    )

-- ---- two blocks of one shape

pub own-along : (ns is : List ℕ) → IsIn ns is → under_along ns is ≡ is
own-along [] [] h = refl
own-along [] (i ∷ is) h = absurd h
own-along (n ∷ ns) [] h = absurd h
own-along (n ∷ ns) (i ∷ is) h = ap (λ x. x ∷ under_along ns is) (place_under n i h.0) ∙ ap (λ xs. i ∷ xs) (own-along ns is h.1)

pub own-under : (ns is : List ℕ) → IsIn ns is → under ns is ≡ is
own-under ns is h =
    let z : length is - length ns ≡ 0 = omega (arith, IsIn-length ns is h) in
    ap (λ k. under_along ns (drop k is)) z ∙ own-along ns is h

pub length_on-all : (ns : List ℕ) (k : ℕ) → length_on (length ns) k ns ≡ get_or ns k 1
length_on-all ns k =
    let z : length ns - length ns ≡ 0 = omega arith in
    let y : k - 0 ≡ k = omega arith in
    ap (λ o. cond (nat_lt k o) 1 (get_or ns (k - o) 1)) z ∙ cond_below_zero k (get_or ns (k - 0) 1) ∙ ap (λ j. get_or ns j 1) y

same-common : (n : ℕ) → common (n ∷ n ∷ []) ≡ n
same-common n = grind arith

pub same-broadcast : (ns : List ℕ) → broadcast (ns ∷ ns ∷ []) ≡ ns
same-broadcast ns =
    let axes : axes_of (ns ∷ ns ∷ []) ≡ length ns = omega arith in
    sym (fill_by_all (λ k. common (lengths_on (ns ∷ ns ∷ []) k)) ns (axes_of (ns ∷ ns ∷ [])) 0 (sym axes) (λ k h.
    sym (same-common (length_on (axes_of (ns ∷ ns ∷ [])) k ns) ∙ ap (λ a. length_on a k ns) axes ∙ length_on-all ns k ∙ get_or_default_zero ns k 1 (omega arith))))

-- an operation on two blocks of one shape, cell by cell
pub pair-filled : (op : Binary) (a b : Array) (xs : List ℤ) → a.shape ≡ b.shape → length xs ≡ elements a.shape → ((p : ℕ) → p < elements a.shape → apply op (get_or a.cells p (pos 0)) (get_or b.cells p (pos 0)) ≡ Some (get_or xs p (pos 0)))
    → block_of (elementwise op (grid_of a) (grid_of b)) ≡ Ok (record { shape = a.shape; cells = xs })
pair-filled op a b xs same n e =
    let shape : broadcast (a.shape ∷ b.shape ∷ []) ≡ a.shape = ap (λ ns. broadcast (a.shape ∷ ns ∷ [])) (sym same) ∙ same-broadcast a.shape in
    let g = elementwise op (grid_of a) (grid_of b) in
    ap (λ ns. block_of (record { shape = ns; at = g.at })) shape
    ∙ block-filled (record { shape = a.shape; at = g.at }) xs n (λ p h.
    let i = index_at a.shape p in
    let inside : IsIn a.shape (index_at a.shape p) = index_at-in a.shape p h in
    let at : place a.shape (index_at a.shape p) ≡ p = place-index_at a.shape p h in
    let left : (grid_of a).at (under a.shape (index_at a.shape p)) ≡ Some (get_or a.cells p (pos 0)) =
    ap (λ j. Some (get_or a.cells (place a.shape j) (pos 0))) (own-under a.shape (index_at a.shape p) inside) ∙ ap (λ k. Some (get_or a.cells k (pos 0))) at in
    let right : (grid_of b).at (under b.shape (index_at a.shape p)) ≡ Some (get_or b.cells p (pos 0)) =
    ap (λ ns. Some (get_or b.cells (place ns (under ns (index_at a.shape p))) (pos 0))) (sym same)
    ∙ ap (λ j. Some (get_or b.cells (place a.shape j) (pos 0))) (own-under a.shape (index_at a.shape p) inside) ∙ ap (λ k. Some (get_or b.cells k (pos 0))) at in
    ap (λ x. combine op x ((grid_of b).at (under b.shape (index_at a.shape p)))) left ∙ ap (combine op (Some (get_or a.cells p (pos 0)))) right ∙ e p h)

-- ---- sums

length-sums : (xs ys : List ℤ) → length xs ≡ length ys → length (map (λ p. wrap (p.0 +ℤ p.1)) (zip xs ys)) ≡ length xs
length-sums xs ys e = length-map (zip xs ys) (λ p. wrap (p.0 +ℤ p.1)) ∙ length-zip xs ys ∙ omega arith

pub sums-length : (a b : Array) → a.shape ≡ b.shape → length a.cells ≡ elements a.shape → length b.cells ≡ elements b.shape → length (map (λ p. wrap (p.0 +ℤ p.1)) (zip a.cells b.cells)) ≡ elements a.shape
sums-length a b same m n = length-sums a.cells b.cells (m ∙ ap elements same ∙ sym n) ∙ m

pub add-filled : (a b : Array) → a.shape ≡ b.shape → length a.cells ≡ elements a.shape → length b.cells ≡ elements b.shape
    → block_of (elementwise Add (grid_of a) (grid_of b)) ≡ Ok (record { shape = a.shape; cells = map (λ p. wrap (p.0 +ℤ p.1)) (zip a.cells b.cells) })
add-filled a b same m n =
    pair-filled Add a b (map (λ p. wrap (p.0 +ℤ p.1)) (zip a.cells b.cells)) same (sums-length a b same m n) (λ p h.
    let lb : length b.cells ≡ elements a.shape = n ∙ ap elements (sym same) in
    let lz : p < length (zip a.cells b.cells) = omega (arith, length-zip a.cells b.cells) in
    ap Some (sym (get_or-map (λ (q : ℤ × ℤ). wrap (q.0 +ℤ q.1)) (zip a.cells b.cells) p (pos 0, pos 0) (pos 0) lz
    ∙ ap (λ (q : ℤ × ℤ). wrap (q.0 +ℤ q.1)) (get_or-zip a.cells b.cells p (pos 0, pos 0) (omega arith) (omega arith)))))

pub record AreSums (a b : Array) (zs : List ℤ) (ns : List ℕ) : Type 0 where
  pub number : length zs ≡ elements ns
  pub block : block_of (elementwise Add (grid_of a) (grid_of b)) ≡ Ok (record { shape = ns; cells = zs })

pub are-sums : (a b : Array) (xs ys zs : List ℤ) (ns : List ℕ) → a.shape ≡ b.shape → length a.cells ≡ elements a.shape → length b.cells ≡ elements b.shape → xs ≡ a.cells → ys ≡ b.cells → zs ≡ map (λ p. wrap (p.0 +ℤ p.1)) (zip xs ys) → ns ≡ a.shape → AreSums a b zs ns
are-sums a b xs ys zs ns same m n ex ey ez en =
    let e : zs ≡ map (λ p. wrap (p.0 +ℤ p.1)) (zip a.cells b.cells) = ez ∙ ap (λ (us : List ℤ). map (λ p. wrap (p.0 +ℤ p.1)) (zip us ys)) ex ∙ ap (λ (us : List ℤ). map (λ p. wrap (p.0 +ℤ p.1)) (zip a.cells us)) ey in
    record {
      number = ap length e ∙ sums-length a b same m n ∙ ap elements (sym en);
      block = add-filled a b same m n ∙ ap (λ (us : List ℤ). Ok (record { shape = a.shape; cells = us })) (sym e) ∙ ap (λ (ms : List ℕ). Ok (record { shape = ms; cells = zs })) (sym en);
    }
