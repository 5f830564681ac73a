-- Rows of slices and transposes, as their kernels make them.
use Rattle.std.proofs.Common.{◌≡◌, ℕ, ◌+◌, ◌-◌, ◌*◌, ◌<◌, min, List, length, map, get_or, ap, sym, subst, ◌∙◌, arith, ℤ, pos, Some}
use Rattle.nd_shape.specs.Block.{Array}
use Rattle.nd_shape.specs.Shape.{elements}
use Rattle.nd_shape.specs.Index.{IsIn, place, index_at}
use Rattle.nd_shape.specs.declared.slice.Steps.{Steps}
use Rattle.nd_shape.proofs.Places.{index_at-in, place-below}
use Rattle.nd_grid.specs.Grid.{Grid, grid_of, sliced, sliced_shape, sliced_from, transposed, turned}
use Rattle.nd_grid.proofs.Slicing.{sliced-in}
use Rattle.nd_grid.proofs.Turning.{turned-in}
use Rattle.block_kernels.specs.Rows.{at_place, row_count, row_length}
use Rattle.block_kernels.specs.Gathers.{IsSpot, IsRow, IsLine, IsEven, CanTake, CanTurn}
use Rattle.block_kernels.proofs.RunLemmas.{in-row}
use Rattle.block_kernels.proofs.Filling.{row-in}
use Rattle.block_kernels.proofs.Spots.{same-spot}
use Rattle.block_kernels.proofs.Evens.{taken-row, turned-row, even-place, even-row}

-- the second place of a row, or the first of a row of one
pub row-next : (g bs : List ℕ) (k q n : ℕ) → g ≡ bs → q < row_count g k → n ≡ row_length g k → 0 < n → q * n + min (n - 1) 1 < elements bs
row-next g bs k q n e hq hn some =
    let r = row-in g bs k q n e hq hn in
    let b : min (n - 1) 1 < row_length bs k = omega (arith, r.1) in
    subst (λ m. q * m + min (n - 1) 1 < elements bs) (sym r.1) (in-row bs k q (min (n - 1) 1) r.0 b)

-- a row by any function of places
pub record IsTaken (cells : List ℤ) (f : ℕ → ℕ) (first second n : ℕ) : Type 0 where
  pub row : IsRow (length cells) first second n
  pub spots : (r : ℕ) → r < n → IsSpot first second r (f r)

lined : (g : Grid) (cells : List ℤ) (f : ℕ → ℕ) (start n first second : ℕ) → ((r : ℕ) → r < n → at_place g (start + r) ≡ Some (get_or cells (f r) (pos 0))) → IsTaken cells f first second n → IsLine g cells start n first second
lined g cells f start n first second at t = record {
  row = t.row;
  each = λ r p h s. at r h ∙ ap (λ q. Some (get_or cells q (pos 0))) (same-spot first second r (f r) p (t.spots r h) s);
}

is-taken : (cells : List ℤ) (h : ℕ → ℕ) (q n first second : ℕ) → IsEven n (λ r. h (q * n + r)) → first ≡ h (q * n) → second ≡ h (q * n + min (n - 1) 1) → ((r : ℕ) → r < n → h (q * n + r) < length cells) → IsTaken cells (λ r. h (q * n + r)) first second n
is-taken cells h q n first second even ef es below =
    let a : first ≡ h (q * n + 0) = ef ∙ ap h (omega arith) in
    let b : 1 < n → second ≡ h (q * n + 1) = λ two. let m : min (n - 1) 1 ≡ 1 = omega arith in es ∙ ap (λ j. h (q * n + j)) m in
    record {
      row = even-row n (length cells) (λ r. h (q * n + r)) first second even a b below;
      spots = λ r b'. even-place n (λ r. h (q * n + r)) first second r even b' a b;
    }

pub taken : (a : Array) (ss : List Steps) (d bs : List ℕ) (k q n first second : ℕ) → CanTake ss d a.shape bs k → q < row_count (sliced_shape 0 ss d) k → n ≡ row_length (sliced_shape 0 ss d) k → length a.cells ≡ elements a.shape
    → first ≡ place a.shape (sliced_from 0 ss d (index_at bs (q * n))) → second ≡ place a.shape (sliced_from 0 ss d (index_at bs (q * n + min (n - 1) 1)))
    → IsTaken a.cells (λ r. place a.shape (sliced_from 0 ss d (index_at bs (q * n + r)))) first second n
taken a ss d bs k q n first second v hq hn len ef es =
    let r = row-in (sliced_shape 0 ss d) bs k q n v.shape_is hq hn in
    is-taken a.cells (λ p. place a.shape (sliced_from 0 ss d (index_at bs p))) q n first second
    (subst (λ m. IsEven m (λ r. place a.shape (sliced_from 0 ss d (index_at bs (q * m + r))))) (sym r.1) (taken-row ss a.shape d bs k q v.fits v.shape_is v.outer_is r.0)) ef es
    (λ j b.
    let inside : q * n + j < elements bs = subst (λ m. q * m + j < elements bs) (sym r.1) (in-row bs k q j r.0 (omega (arith, r.1))) in
    omega (arith, len, place-below a.shape _ (sliced-in 0 ss a.shape d (index_at bs (q * n + j)) v.fits (subst (λ ms. IsIn ms (index_at bs (q * n + j))) (sym v.shape_is) (index_at-in bs (q * n + j) inside)))))

pub taken-line : (a : Array) (ss : List Steps) (d bs : List ℕ) (k q n first second : ℕ) → CanTake ss d a.shape bs k → IsTaken a.cells (λ r. place a.shape (sliced_from 0 ss d (index_at bs (q * n + r)))) first second n → IsLine (sliced ss d (grid_of a)) a.cells (q * n) n first second
taken-line a ss d bs k q n first second v t =
    lined (sliced ss d (grid_of a)) a.cells (λ r. place a.shape (sliced_from 0 ss d (index_at bs (q * n + r)))) (q * n) n first second
    (λ r h. ap (λ ms. Some (get_or a.cells (place a.shape (sliced_from 0 ss d (index_at ms (q * n + r)))) (pos 0))) v.shape_is) t

pub turned-taken : (a : Array) (axes bs : List ℕ) (k q n first second : ℕ) → CanTurn axes a.shape bs k → q < row_count (map (λ a'. get_or a.shape a' 0) axes) k → n ≡ row_length (map (λ a'. get_or a.shape a' 0) axes) k → length a.cells ≡ elements a.shape
    → first ≡ place a.shape (turned axes (index_at bs (q * n))) → second ≡ place a.shape (turned axes (index_at bs (q * n + min (n - 1) 1)))
    → IsTaken a.cells (λ r. place a.shape (turned axes (index_at bs (q * n + r)))) first second n
turned-taken a axes bs k q n first second v hq hn len ef es =
    let r = row-in (map (λ a'. get_or a.shape a' 0) axes) bs k q n v.shape_is hq hn in
    is-taken a.cells (λ p. place a.shape (turned axes (index_at bs p))) q n first second
    (subst (λ m. IsEven m (λ r. place a.shape (turned axes (index_at bs (q * m + r))))) (sym r.1) (turned-row axes a.shape bs k q v.fits.number v.outer_is r.0)) ef es
    (λ j b.
    let inside : q * n + j < elements bs = subst (λ m. q * m + j < elements bs) (sym r.1) (in-row bs k q j r.0 (omega (arith, r.1))) in
    omega (arith, len, place-below a.shape _ (turned-in axes a.shape (index_at bs (q * n + j)) v.fits (subst (λ ms. IsIn ms (index_at bs (q * n + j))) (sym v.shape_is) (index_at-in bs (q * n + j) inside)))))

pub turned-line : (a : Array) (axes bs : List ℕ) (k q n first second : ℕ) → CanTurn axes a.shape bs k → IsTaken a.cells (λ r. place a.shape (turned axes (index_at bs (q * n + r)))) first second n → IsLine (transposed axes (grid_of a)) a.cells (q * n) n first second
turned-line a axes bs k q n first second v t =
    lined (transposed axes (grid_of a)) a.cells (λ r. place a.shape (turned axes (index_at bs (q * n + r)))) (q * n) n first second
    (λ r h. ap (λ ms. Some (get_or a.cells (place a.shape (turned axes (index_at ms (q * n + r)))) (pos 0))) v.shape_is) t
