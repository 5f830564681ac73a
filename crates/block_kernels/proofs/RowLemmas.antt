-- Rows of a grid, put together to its block.
use Rattle.std.proofs.Common.{◌≡◌, ◌≢◌, ℕ, zero, suc, ◌+◌, ◌-◌, ◌*◌, ◌<◌, ◌≤◌, ◌^◌, min, List, [], ◌∷◌, ◌++◌, length, get_or, take, drop, refl, ap, sym, subst, ◌∙◌, arith, add-one, ℤ, pos, Some, None, Ok, Err, inl, inr}
use Rattle.std.specs.Prelude.{Option}
use Rattle.std.proofs.lemmas.Bool.{cases_lt}
use Rattle.std.proofs.lemmas.List.{take-append-drop}
use Rattle.std.proofs.Math.Nat.{mul-le-mul_right}
use Rattle.small_facts.proofs.Numbers.{factor_within, below_product_right}
use Rattle.small_facts.proofs.Options.{some_not_none}
use Rattle.nd_shape.specs.Shape.{elements}
use Rattle.nd_grid.specs.Grid.{Grid, block_of, cells_up_to}
use Rattle.nd_grid.specs.Computed.{FailsAs}
use Rattle.nd_grid.specs.declared.formula.Fail.{Fail}
use Rattle.nd_grid.specs.declared.formula.Fail.TheVariants.{ZeroDivide, OutOfMemory}
use Rattle.nd_grid.proofs.Cells.{cells-none, cells-more, block-missing}
use Rattle.block_kernels.specs.Rows.{at_place, Misses, FillsAll, MissesFirst, row_count, row_length, AreRows, FailsFirst}
use Rattle.block_kernels.proofs.Filled.{block-filled}
use Rattle.block_kernels.proofs.Broadcasts.{elements-append}

-- ---- more rows

pub fills-on : (g : Grid) (a b : ℕ) (old new : List ℤ) → FillsAll g a old → ((p : ℕ) → p < a → get_or new p (pos 0) ≡ get_or old p (pos 0))
    → ((r : ℕ) → r < b → at_place g (a + r) ≡ Some (get_or new (a + r) (pos 0))) → FillsAll g (a + b) new
fills-on g a b old new f kept last = record {
  each = λ r h. elim (cases_lt r a) [
    | inl low ↦ f.each r low ∙ ap Some (sym (kept r low))
    | inr high ↦ let e : a + (r - a) ≡ r = omega arith in
        subst (λ p. at_place g p ≡ Some (get_or new p (pos 0))) e (last (r - a) (omega (arith, h)))
  ];
}

pub fills-more : (g : Grid) (row many run : ℕ) (old new : List ℤ) → FillsAll g (row * run) old → ((p : ℕ) → p < row * run → get_or new p (pos 0) ≡ get_or old p (pos 0))
    → ((r : ℕ) → r < many * run → at_place g (row * run + r) ≡ Some (get_or new (row * run + r) (pos 0))) → FillsAll g ((row + many) * run) new
fills-more g row many run old new f kept last = let e : row * run + many * run ≡ (row + many) * run = omega arith in subst (λ n. FillsAll g n new) e (fills-on g (row * run) (many * run) old new f kept last)

pub misses-more : (g : Grid) (row rows run z : ℕ) (old : List ℤ) → row < rows → FillsAll g (row * run) old → Misses g (row * run) run z → MissesFirst g (rows * run) (row * run + z)
misses-more g row rows run z old h f m = record {
  inside = let b : z < run = m.inside in let w : (row + 1) * run ≤ rows * run = mul-le-mul_right run (omega arith) in omega (arith, w);
  here = m.here;
  before = λ r b. elim (cases_lt r (row * run)) [
    | inl low ↦ λ n. some_not_none (get_or old r (pos 0)) (sym (f.each r low) ∙ n)
    | inr high ↦ let e : row * run + (r - row * run) ≡ r = omega arith in
        subst (λ p. at_place g p ≢ None) e (m.before (r - row * run) (omega arith))
  ];
}

-- ---- the block

pub filled-block : (g : Grid) (ns : List ℕ) (xs : List ℤ) → g.shape ≡ ns → length xs ≡ elements ns → FillsAll g (elements ns) xs → block_of g ≡ Ok (record { shape = ns; cells = xs })
filled-block g ns xs e n f =
    block-filled g xs (n ∙ ap elements (sym e)) (λ p h. f.each p (subst (λ ms. p < elements ms) e h))
    ∙ ap (λ ms. Ok (record { shape = ms; cells = xs })) e

-- the first cells, where something stands at each
some-cell : (x : Option ℤ) → x ≢ None → (v : ℤ) × (x ≡ Some v)
some-cell None h = absurd (h refl)
some-cell (Some v) h = (v, refl)

first-cells : (f : ℕ → Option ℤ) (n : ℕ) → ((p : ℕ) → p < n → f p ≢ None) → (xs : List ℤ) × (cells_up_to f n ≡ Ok xs)
first-cells f zero h = ([], cells-none f)
first-cells f (suc n) h =
    let before = first-cells f n (λ p b. h p (omega arith)) in
    let last = some-cell (f n) (h n (omega arith)) in
    (before.0 ++ last.0 ∷ [], ap (cells_up_to f) (sym (add-one n)) ∙ cells-more f n before.0 last.0 before.1 last.1)

pub missed-block : (g : Grid) (z : ℕ) → MissesFirst g (elements g.shape) z → block_of g ≡ Err z
missed-block g z m =
    let before = first-cells (λ p. at_place g p) z m.before in
    block-missing g z before.0 before.1 m.here m.inside

pub failed-block : (g : Grid) (e : Fail) → FailsFirst g e → FailsAs e (block_of g)
failed-block g OutOfMemory h = tt
failed-block g (ZeroDivide z) h = missed-block g z h

-- ---- the number of rows and their length

pub rows-all : (ns : List ℕ) (k : ℕ) → row_count ns k * row_length ns k ≡ elements ns
rows-all ns k = sym (elements-append (take k ns) (drop k ns)) ∙ ap elements (take-append-drop k ns)

factor-le : (a b : ℕ) → 0 < a * b → a ≤ a * b
factor-le a zero h = absurd (omega arith)
factor-le a (suc b) h = omega arith

pub are-rows : (ns : List ℕ) (k rows run : ℕ) → 0 < elements ns → elements ns ≤ 2 ^ 31 → rows ≡ min (elements (take k ns)) (2 ^ 31 + 1) → run ≡ min (elements (drop k ns)) (2 ^ 31 + 1) → AreRows ns k rows run
are-rows ns k rows run h small er eb =
    let all : elements (take k ns) * elements (drop k ns) ≡ elements ns = rows-all ns k in
    let some : 0 < elements (take k ns) * elements (drop k ns) = omega (arith, all) in
    let low : elements (take k ns) ≤ elements (take k ns) * elements (drop k ns) = factor-le (elements (take k ns)) (elements (drop k ns)) some in
    let low' : elements (drop k ns) ≤ elements (take k ns) * elements (drop k ns) = factor_within (elements (take k ns)) (elements (drop k ns)) some in
    let e1 : rows ≡ elements (take k ns) = omega (arith, all, low, er) in
    let e2 : run ≡ elements (drop k ns) = omega (arith, all, low', eb) in
    record { rows_is = e1; run_is = e2; some = omega (arith, below_product_right (elements (take k ns)) (elements (drop k ns)) 0 some); all = rw (e1, e2) all; small = rw (e1, e2) (omega (arith, all)) }
