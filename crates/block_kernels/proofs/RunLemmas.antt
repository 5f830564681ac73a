-- Rows of operands under rows of the shape that they are broadcast to.
use Rattle.std.proofs.Common.{◌≡◌, ℕ, ◌+◌, ◌-◌, ◌*◌, ◌<◌, ◌≤◌, cond, Bool, true, false, List, [], ◌∷◌, length, drop, get_or, refl, ap, sym, subst, ◌∙◌, arith, pos, Some, inl, inr}
use Rattle.std.specs.Prelude.{IsTrue, ◌↔◌}
use Rattle.std.proofs.lemmas.Nat.{mul-add-lt}
use Rattle.nd_shape.specs.Block.{Array}
use Rattle.nd_shape.specs.Shape.{elements}
use Rattle.nd_shape.specs.Index.{IsIn, place, index_at}
use Rattle.nd_shape.proofs.Places.{index_at-in, place-below}
use Rattle.nd_grid.specs.Grid.{grid_of, under}
use Rattle.nd_grid.proofs.Under.{under-axes}
use Rattle.nd_shape.specs.Broadcast.{broadcast, Agree}
use Rattle.block_kernels.specs.Pairing.{CanPair, CanChoose}
use Rattle.block_kernels.specs.Rows.{tail, FitsRun, row_count, row_length}
use Rattle.block_kernels.proofs.Broadcasts.{full-place, flat-place, length-index_at}
use Rattle.block_kernels.proofs.RowLemmas.{rows-all}

-- a place of a row lies in the shape
pub in-row : (bs : List ℕ) (k q r : ℕ) → q < row_count bs k → r < row_length bs k → q * row_length bs k + r < elements bs
in-row bs k q r hq hr = omega (arith, mul-add-lt q (row_length bs k) r (row_count bs k) hq hr, rows-all bs k)

pub run-place : (ns bs : List ℕ) (k q r len at : ℕ) (single : Bool) → k ≤ length bs → length ns ≤ length bs → FitsRun ns bs k → (IsTrue single ↔ (elements (tail (length bs - k) ns) ≡ 1)) → q < row_count bs k → len ≡ row_length bs k → r < len
    → at ≡ place ns (under ns (index_at bs (q * len))) → place ns (under ns (index_at bs (q * len + r))) ≡ at + cond single 0 r
run-place ns bs k q r len at true hk hn fits test hq hl hr e =
    let hr' : r < row_length bs k = omega arith in
    let z : q * row_length bs k + 0 ≡ q * len = ap (λ n. q * n + 0) (sym hl) ∙ omega arith in
    ap (λ n. place ns (under ns (index_at bs (q * n + r)))) hl
    ∙ flat-place ns bs k q r hk hn (test.0 refl) hq hr'
    ∙ ap (λ p. place ns (under ns (index_at bs p))) z ∙ sym e ∙ omega arith
run-place ns bs k q r len at false hk hn fits test hq hl hr e =
    let hr' : r < row_length bs k = omega arith in
    let z : q * row_length bs k + 0 ≡ q * len = ap (λ n. q * n + 0) (sym hl) ∙ omega arith in
    let same : tail (length bs - k) ns ≡ drop k bs = elim fits [ inl one ↦ absurd (let h : false ≡ true = test.1 one in cc) | inr s ↦ s ] in
    ap (λ n. place ns (under ns (index_at bs (q * n + r)))) hl
    ∙ full-place ns bs k q r hk hn same hq hr'
    ∙ ap (λ p. place ns (under ns (index_at bs p)) + r) z ∙ ap (λ p. p + r) (sym e)

pub few-axes : (ns bs : List ℕ) (p : ℕ) → p < elements bs → ((i : List ℕ) → IsIn bs i → IsIn ns (under ns i)) → length ns ≤ length bs
few-axes ns bs p h f = omega (arith, under-axes ns (index_at bs p) (f (index_at bs p) (index_at-in bs p h)), length-index_at bs p)

-- the row lies in the operand
pub run-inside : (ns bs : List ℕ) (k q len at : ℕ) (single : Bool) → k ≤ length bs → FitsRun ns bs k → (IsTrue single ↔ (elements (tail (length bs - k) ns) ≡ 1)) → q < row_count bs k → len ≡ row_length bs k → 0 < len
    → ((i : List ℕ) → IsIn bs i → IsIn ns (under ns i)) → at ≡ place ns (under ns (index_at bs (q * len))) → at + cond single 1 len ≤ elements ns
run-inside ns bs k q len at single hk fits test hq hl some f e =
    let b : q * len + (len - 1) < elements bs = subst (λ n. q * n + (len - 1) < elements bs) (sym hl) (in-row bs k q (len - 1) hq (omega arith)) in
    let few : length ns ≤ length bs = few-axes ns bs (q * len + (len - 1)) b f in
    let last : place ns (under ns (index_at bs (q * len + (len - 1)))) ≡ at + cond single 0 (len - 1) = run-place ns bs k q (len - 1) len at single hk few fits test hq hl (omega arith) e in
    let low : place ns (under ns (index_at bs (q * len + (len - 1)))) < elements ns = place-below ns _ (f _ (index_at-in bs _ b)) in
    ends single (omega (arith, last, low))
  where
    ends : (s : Bool) → at + cond s 0 (len - 1) < elements ns → at + cond s 1 len ≤ elements ns
    ends true h = omega arith
    ends false h = omega arith

pub run-item : (a : Array) (bs : List ℕ) (k q r len at : ℕ) (single : Bool) → k ≤ length bs → length a.shape ≤ length bs → FitsRun a.shape bs k → (IsTrue single ↔ (elements (tail (length bs - k) a.shape) ≡ 1)) → q < row_count bs k → len ≡ row_length bs k
    → r < len → at ≡ place a.shape (under a.shape (index_at bs (q * len))) → (grid_of a).at (under a.shape (index_at bs (q * len + r))) ≡ Some (get_or a.cells (at + cond single 0 r) (pos 0))
run-item a bs k q r len at single hk hn fits test hq hl hr e =
    ap (λ p. Some (get_or a.cells p (pos 0))) (run-place a.shape bs k q r len at single hk hn fits test hq hl hr e)

pub first-in : (bs : List ℕ) (k q len : ℕ) → q < row_count bs k → len ≡ row_length bs k → 0 < len → q * len < elements bs
first-in bs k q len hq hl some = let b : q * len + 0 < elements bs = subst (λ n. q * n + 0 < elements bs) (sym hl) (in-row bs k q 0 hq (omega arith)) in omega arith

-- the row of an operand, from the place of its first element
pub record HasRun (a : Array) (bs : List ℕ) (q len at : ℕ) (single : Bool) : Type 0 where
  pub inside : at + cond single 1 len ≤ elements a.shape
  pub each : (r : ℕ) → r < len → (grid_of a).at (under a.shape (index_at bs (q * len + r))) ≡ Some (get_or a.cells (at + cond single 0 r) (pos 0))

pub has-run : (a : Array) (bs ns own : List ℕ) (k q len at : ℕ) (single : Bool) → k ≤ length bs → FitsRun a.shape bs k → (IsTrue single ↔ (elements (tail (length bs - k) ns) ≡ 1)) → q < row_count bs k → len ≡ row_length bs k → 0 < len
    → ((i : List ℕ) → IsIn bs i → IsIn a.shape (under a.shape i)) → ns ≡ a.shape → own ≡ under a.shape (index_at bs (q * len)) → at ≡ place a.shape own → HasRun a bs q len at single
has-run a bs ns own k q len at single hk fits test hq hl some f en eo ea =
    let test' : IsTrue single ↔ (elements (tail (length bs - k) a.shape) ≡ 1) = subst (λ ms. IsTrue single ↔ (elements (tail (length bs - k) ms) ≡ 1)) en test in
    let e : at ≡ place a.shape (under a.shape (index_at bs (q * len))) = ea ∙ ap (place a.shape) eo in
    record {
      inside = run-inside a.shape bs k q len at single hk fits test' hq hl some f e;
      each = λ r h. run-item a bs k q r len at single hk (few-axes a.shape bs (q * len) (first-in bs k q len hq hl some) f) fits test' hq hl h e;
    }

pub can-pair : (l r s ld rd sd : List ℕ) (k : ℕ) → Agree (l ∷ r ∷ []) → broadcast (l ∷ r ∷ []) ≡ s → ld ≡ l → rd ≡ r → sd ≡ s → k ≤ length sd → FitsRun ld sd k → FitsRun rd sd k → CanPair l r s k
can-pair l r s ld rd sd k a e el er es h fl fr = record {
  agree = a;
  shape_is = e;
  inside = subst (λ ms. k ≤ length ms) es h;
  left_fits = subst (λ ms. FitsRun l ms k) es (subst (λ ms. FitsRun ms sd k) el fl);
  right_fits = subst (λ ms. FitsRun r ms k) es (subst (λ ms. FitsRun ms sd k) er fr);
}

pub can-choose : (c a b s cd ad bd sd : List ℕ) (k : ℕ) → Agree (c ∷ a ∷ b ∷ []) → broadcast (c ∷ a ∷ b ∷ []) ≡ s → cd ≡ c → ad ≡ a → bd ≡ b → sd ≡ s → k ≤ length sd → FitsRun cd sd k → FitsRun ad sd k → FitsRun bd sd k → CanChoose c a b s k
can-choose c a b s cd ad bd sd k g e ec ea eb es h fc fa fb = record {
  agree = g;
  shape_is = e;
  inside = subst (λ ms. k ≤ length ms) es h;
  condition_fits = subst (λ ms. FitsRun c ms k) es (subst (λ ms. FitsRun ms sd k) ec fc);
  first_fits = subst (λ ms. FitsRun a ms k) es (subst (λ ms. FitsRun ms sd k) ea fa);
  second_fits = subst (λ ms. FitsRun b ms k) es (subst (λ ms. FitsRun ms sd k) eb fb);
}
