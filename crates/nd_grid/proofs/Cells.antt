-- `cells_up_to` from its first cells, and at the first place that has none.
use Rattle.std.proofs.Common.{◌≡◌, ℕ, zero, suc, ◌+◌, ◌<◌, ◌++◌, List, [], ◌∷◌, length, get_or, refl, ap, sym, ◌∙◌, arith, add-one, ℤ, Some, None, Ok, Err, pos, inl, inr}
use Rattle.std.specs.Prelude.{Option, Result}
use Rattle.std.proofs.lemmas.Bool.{cases_lt}
use Rattle.std.proofs.lemmas.List.{get_or_append_left, get_or_push, length_push}
use Rattle.nd_shape.proofs.Places.{place-below, index_at-place}
use Rattle.nd_shape.specs.Block.{Array}
use Rattle.nd_grid.specs.Grid.{Grid, grid_of, cells_up_to, then_cell, with_cell, as_array, block_of}
use Rattle.nd_grid.specs.declared.formula.Fail.{Fail}
use Rattle.nd_grid.specs.declared.formula.Fail.TheVariants.{ZeroDivide, OutOfMemory}
use Rattle.nd_grid.specs.Computed.{FailsAs}
use Rattle.nd_shape.specs.Index.{IsIn, place, index_at}
use Rattle.nd_shape.specs.Shape.{elements}

-- no cell yet
pub cells-none : (f : ℕ → Option ℤ) → cells_up_to f 0 ≡ Ok []
unfolding cells_up_to
cells-none f = refl

-- one more cell
pub cells-more : (f : ℕ → Option ℤ) (p : ℕ) (xs : List ℤ) (x : ℤ) → cells_up_to f p ≡ Ok xs → f p ≡ Some x → cells_up_to f (p + 1) ≡ Ok (xs ++ x ∷ [])
unfolding cells_up_to
cells-more f p xs x h e = rw add-one (ap (λ r. then_cell p r (f p)) h ∙ ap (with_cell p xs) e)

-- from a place with none on it stays so
pub cells-missing : (f : ℕ → Option ℤ) (p : ℕ) (xs : List ℤ) (n : ℕ) → cells_up_to f p ≡ Ok xs → f p ≡ None → p < n → cells_up_to f n ≡ Err p
unfolding cells_up_to
cells-missing f p xs zero h e b = absurd (omega arith)
cells-missing f p xs (suc n) h e b =
    elim (cases_lt p n) [
      | inl b' ↦ ap (λ r. then_cell n r (f n)) (cells-missing f p xs n h e b')
      | inr b' ↦ let same : p ≡ n = omega arith in
          ap (λ k. cells_up_to f (suc k)) (sym same) ∙ ap (λ r. then_cell p r (f p)) h ∙ ap (with_cell p xs) e
    ]

pub block-missing : (g : Grid) (p : ℕ) (xs : List ℤ) → cells_up_to (λ p. g.at (index_at g.shape p)) p ≡ Ok xs → g.at (index_at g.shape p) ≡ None → p < elements g.shape → block_of g ≡ Err p
block-missing g p xs h e b = ap (as_array g.shape) (cells-missing (λ p. g.at (index_at g.shape p)) p xs (elements g.shape) h e b)

-- one way to have all cells
length-more : (n : ℕ) (ys : List ℤ) (c : Option ℤ) (xs : List ℤ) → length ys ≡ n → with_cell n ys c ≡ Ok xs → length xs ≡ suc n
length-more n ys None xs h e = cc
length-more n ys (Some x) xs h e =
    let q : ys ++ x ∷ [] ≡ xs = cc in
    sym (ap length q) ∙ length_push ys x ∙ rw (h, add-one) refl

ok-before : (n : ℕ) (r : Result (List ℤ) ℕ) (c : Option ℤ) (xs : List ℤ) → then_cell n r c ≡ Ok xs → (ys : List ℤ) × (r ≡ Ok ys) × (with_cell n ys c ≡ Ok xs)
ok-before n (Ok ys) c xs e = (ys, refl, e)
ok-before n (Err q) c xs e = cc

pub length-cells : (f : ℕ → Option ℤ) (n : ℕ) (xs : List ℤ) → cells_up_to f n ≡ Ok xs → length xs ≡ n
unfolding cells_up_to
length-cells f zero xs e = let q : [] ≡ xs = cc in sym (ap length q)
length-cells f (suc n) xs e = let b = ok-before n (cells_up_to f n) (f n) xs e in length-more n b.0 (f n) xs (length-cells f n b.0 b.1) b.2

-- a block by its cells
pub block_of-cells : (g : Grid) (ns : List ℕ) → g.shape ≡ ns → block_of g ≡ as_array ns (cells_up_to (λ p. g.at (index_at ns p)) (elements ns))
block_of-cells g ns e = ap (λ ms. as_array ms (cells_up_to (λ p. g.at (index_at ms p)) (elements ms))) e

pub FailsAs-array : (ns : List ℕ) (e : Fail) (r : Result (List ℤ) ℕ) → FailsAs e r → FailsAs e (as_array ns r)
FailsAs-array ns OutOfMemory r h = tt
FailsAs-array ns (ZeroDivide q) r h = ap (as_array ns) h

-- ---- what the cells are

last-cell : (n : ℕ) (ys : List ℤ) (c : Option ℤ) (xs : List ℤ) → with_cell n ys c ≡ Ok xs → (x : ℤ) × (c ≡ Some x) × (xs ≡ ys ++ x ∷ [])
last-cell n ys None xs e = cc
last-cell n ys (Some x) xs e = let q : ys ++ x ∷ [] ≡ xs = cc in (x, refl, sym q)

-- the cell at each place
pub cells-at : (f : ℕ → Option ℤ) (n : ℕ) (xs : List ℤ) (p : ℕ) (d : ℤ) → cells_up_to f n ≡ Ok xs → p < n → f p ≡ Some (get_or xs p d)
unfolding cells_up_to
cells-at f zero xs p d e h = absurd (omega arith)
cells-at f (suc n) xs p d e h =
    let b = ok-before n (cells_up_to f n) (f n) xs e in
    let l = last-cell n b.0 (f n) xs b.2 in
    let len : length b.0 ≡ n = length-cells f n b.0 b.1 in
    elim (cases_lt p n) [
      | inl h' ↦ let hl : p < length b.0 = omega arith in
          cells-at f n b.0 p d b.1 h' ∙ ap Some (sym (ap (λ ys. get_or ys p d) l.2 ∙ get_or_append_left b.0 (l.0 ∷ []) d p hl))
      | inr h' ↦ let same : p ≡ n = omega arith in
          ap f same ∙ l.1 ∙ ap Some (sym (ap (λ ys. get_or ys p d) l.2 ∙ get_or_push b.0 l.0 d p (len ∙ sym same)))
    ]

array-ok : (ns : List ℕ) (r : Result (List ℤ) ℕ) (a : Array) → as_array ns r ≡ Ok a → (xs : List ℤ) × (r ≡ Ok xs) × (a ≡ record { shape = ns; cells = xs })
array-ok ns (Ok xs) a e = (xs, refl, cc)
array-ok ns (Err p) a e = cc

-- a block holds the grid that it was made of
pub block-shape : (g : Grid) (a : Array) → block_of g ≡ Ok a → a.shape ≡ g.shape
block-shape g a e = let r = array-ok g.shape _ a e in ap (λ (x : Array). x.shape) r.2

pub block-at : (g : Grid) (a : Array) (i : List ℕ) → block_of g ≡ Ok a → IsIn g.shape i → (grid_of a).at i ≡ g.at i
block-at g a i e h =
    let r = array-ok g.shape _ a e in
    ap (λ (x : Array). (grid_of x).at i) r.2
    ∙ sym (cells-at (λ p. g.at (index_at g.shape p)) (elements g.shape) r.0 (place g.shape i) (pos 0) r.1 (place-below g.shape i h))
    ∙ ap g.at (index_at-place g.shape i h)
