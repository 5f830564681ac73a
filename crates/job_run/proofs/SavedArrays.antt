-- The arrays of saved nodes: their lengths, and the blocks that hold boxes of them.
use Rattle.std.proofs.Common.{◌≡◌, ℕ, ℤ, zero, suc, pos, ◌<◌, List, [], ◌∷◌, ◌++◌, length, map, get_or, ap, sym, subst, refl, ◌∙◌, arith, inl, inr}
use Rattle.std.specs.Prelude.{Option, Some, None, unwrap_or}
use Rattle.std.specs.List.{range_with_len}
use Rattle.std.proofs.Math.ListN.{get_or-map}
use Rattle.std.proofs.lemmas.Bool.{cases_lt}
use Rattle.std.proofs.lemmas.List.{length-map, length_push, get_or_push, get_or_append_left}
use Rattle.std.proofs.lemmas.List.FromFn.{length-range_with_len}
use Rattle.nd_shape.specs.Block.{Array}
use Rattle.nd_shape.specs.Shape.{elements}
use Rattle.nd_shape.specs.Index.{IsIn, place, index_at}
use Rattle.nd_shape.specs.Region.{Box, moved}
use Rattle.nd_shape.specs.Region.{IsPart as LiesIn}
use Rattle.nd_shape.proofs.Places.{index_at-in}
use Rattle.nd_grid.specs.Grid.{Grid, Holds, grid_of}
use Rattle.array_expr.specs.declared.expr.Node.{Node}
use Rattle.array_expr.specs.Elem.{Cells, array_at as grid_at, cells_of, formula, next_input, arrays_after, arrays}
use Rattle.array_expr.specs.Node.{shape_at, IsExpression}
use Rattle.expr_laws.specs.Formulas.{whole}
use Rattle.expr_laws.proofs.Elements.{shapes-all, shape-known}
use Rattle.plain_eval.proofs.Agreeing.{length-arrays}
use Rattle.chunk_layout.specs.Layouts.{counts, lengths, blocks, region}
use Rattle.lowering_laws.specs.Named.{layout_of, box_of}
use Rattle.lowering_laws.proofs.Formed.{box-part}
use Rattle.lowering_laws.proofs.Order.{lowering-order}
use Rattle.saved_files.specs.Filling.{HoldsBox}
use Rattle.saved_files.specs.Saving.{IsOf}
use Rattle.job_run.specs.Evaluating.{node_at, array_at}
use Rattle.job_run.specs.Plan.{Plan, Saved, IsRunnable}
use Rattle.job_run.specs.Values.{Named, array_of, cells_at, values_of}

-- ## The arrays of all nodes

-- an element, or nothing, for each place of the shape
abbrev AreFull : List Cells → Type 0
AreFull known = (k : ℕ) → k < length known → length (cells_at known k).cells ≡ elements (cells_at known k).shape

full-cells : (g : Grid) → length (cells_of g).cells ≡ elements (cells_of g).shape
full-cells g = length-map (range_with_len 0 (elements g.shape)) (λ p. g.at (index_at g.shape p)) ∙ length-range_with_len 0 (elements g.shape)

full-push : (known : List Cells) (g : Grid) → AreFull known → AreFull (known ++ cells_of g ∷ [])
full-push known g h k lt =
    let none : Cells = record { shape = []; cells = [] } in
    elim (cases_lt k (length known)) [
      | inl a ↦ subst (λ (c : Cells). length c.cells ≡ elements c.shape) (sym (get_or_append_left known (cells_of g ∷ []) none k a)) (h k a)
      | inr b ↦ let e : length known ≡ k = omega (arith, b, lt, length_push known (cells_of g)) in
          subst (λ (c : Cells). length c.cells ≡ elements c.shape) (sym (get_or_push known (cells_of g) none k e)) (full-cells g)
    ]

full-after : (named : Named) (j : ℕ) (known : List Cells) (nodes : List Node) → AreFull known → AreFull (arrays_after named j known nodes)
unfolding arrays_after
full-after named j known [] h = h
full-after named j known (x ∷ nodes) h =
    full-after named (next_input x.op j) (known ++ cells_of (formula x.op x.taken (named j) (grid_at known)) ∷ []) nodes (full-push known (formula x.op x.taken (named j) (grid_at known)) h)

full-arrays : (named : Named) (nodes : List Node) → AreFull (arrays named nodes)
full-arrays named nodes = full-after named 0 [] nodes (λ k lt. absurd (omega arith))

cells-shape : (named : Named) (nodes : List Node) (n : ℕ) → IsExpression nodes → (cells_at (arrays named nodes) n).shape ≡ shape_at nodes n
cells-shape named nodes n ex = shape-known (arrays named nodes) nodes (shapes-all named nodes ex) n

cells-count : (named : Named) (nodes : List Node) (n : ℕ) → IsExpression nodes → n < length nodes → length (cells_at (arrays named nodes) n).cells ≡ elements (shape_at nodes n)
cells-count named nodes n ex lt = full-arrays named nodes n (omega (arith, lt, length-arrays named nodes)) ∙ ap elements (cells-shape named nodes n ex)

-- ## The array of a save

saved-from : (f : ℕ → Array) (saves : List Saved) (k : ℕ) (none : Array) → k < length saves → get_or (map (λ (s : Saved). f s.node) saves) k none ≡ f (get_or (map (λ (s : Saved). s.node) saves) k 0)
saved-from f [] k none lt = absurd (omega arith)
saved-from f (s ∷ saves) zero none lt = refl
saved-from f (s ∷ saves) (suc k) none lt = saved-from f saves k none (omega arith)

pub array-saved : (p : Plan) (named : Named) (k : ℕ) → k < length p.saves → array_at p named k ≡ array_of (cells_at (values_of p named) (node_at p k))
array-saved p named k lt = saved-from (λ n. array_of (cells_at (values_of p named) n)) p.saves k (record { shape = []; cells = [] }) lt

array-of : (named : Named) (nodes : List Node) (n : ℕ) → IsExpression nodes → n < length nodes → IsOf (shape_at nodes n) (array_of (cells_at (arrays named nodes) n))
array-of named nodes n ex lt = record {
  shape = cells-shape named nodes n ex;
  count = length-map (cells_at (arrays named nodes) n).cells (λ (z : Option ℤ). unwrap_or z (pos 0)) ∙ cells-count named nodes n ex lt;
}

pub saved-is : (p : Plan) (named : Named) (k : ℕ) → IsRunnable p → IsExpression p.nodes → k < length p.saves → IsOf (shape_at p.nodes (node_at p k)) (array_at p named k)
saved-is p named k runs ex lt = subst (IsOf (shape_at p.nodes (node_at p k))) (sym (array-saved p named k lt)) (array-of named p.nodes (node_at p k) ex (runs.saves k lt))

-- ## Blocks of it

pub region-in : (layout : List (List ℕ)) (c : ℕ) → c < blocks layout → LiesIn (region layout c) (lengths layout)
region-in layout c there = box-part layout (index_at (counts layout) c) (index_at-in (counts layout) c there)

-- the layout of a node cuts its shape
pub layout-cuts : (nodes : List Node) (n : ℕ) → IsExpression nodes → n < length nodes → lengths (layout_of nodes n) ≡ shape_at nodes n
layout-cuts nodes n ex lt = ((lowering-order nodes ex).known n lt).cut

-- the box of a block lies in its node's array
pub part-of : (nodes : List Node) (n c : ℕ) → IsExpression nodes → n < length nodes → c < blocks (layout_of nodes n) → LiesIn (box_of nodes n c) (shape_at nodes n)
part-of nodes n c ex lt there = subst (LiesIn (box_of nodes n c)) (layout-cuts nodes n ex lt) (region-in (layout_of nodes n) c there)

some-or : (o : Option ℤ) (v : ℤ) → Some v ≡ o → v ≡ unwrap_or o (pos 0)
some-or None v h = absurd cc
some-or (Some w) v h = cc

holds-cells : (cells : Cells) (block : Array) (box : Box) (at : ℕ) (i : List ℕ) → block.shape ≡ box.lengths → Some (get_or block.cells (place block.shape i) (pos 0)) ≡ get_or cells.cells at None
    → get_or block.cells (place box.lengths i) (pos 0) ≡ get_or (array_of cells).cells at (pos 0)
holds-cells cells block box at i shape e =
    ap (λ (ns : List ℕ). get_or block.cells (place ns i) (pos 0)) (sym shape)
    ∙ some-or (get_or cells.cells at None) (get_or block.cells (place block.shape i) (pos 0)) e
    ∙ sym (get_or-map (λ (z : Option ℤ). unwrap_or z (pos 0)) cells.cells at None)

holds-array : (named : Named) (nodes : List Node) (n : ℕ) (box : Box) (block : Array) → IsExpression nodes → LiesIn box (shape_at nodes n) → Holds (grid_of block) (whole named nodes n) box
    → HoldsBox (array_of (cells_at (arrays named nodes) n)) box block
holds-array named nodes n box block ex part h =
    let cells = cells_at (arrays named nodes) n in
    record {
      inside = subst (LiesIn box) (sym (cells-shape named nodes n ex)) part;
      shape = h.shape;
      each = λ i inside. holds-cells cells block box (place cells.shape (moved box.start i)) i h.shape (h.at i (subst (λ ns. IsIn ns i) refl inside));
    }

-- a block that holds what a node has in a box is one of each array that is saved of it
pub holds-saved : (p : Plan) (named : Named) (k n : ℕ) (box : Box) (block : Array) → IsExpression p.nodes → k < length p.saves → node_at p k ≡ n → LiesIn box (shape_at p.nodes n) → Holds (grid_of block) (whole named p.nodes n) box
    → HoldsBox (array_at p named k) box block
holds-saved p named k n box block ex lt e part h =
    subst (λ a. HoldsBox a box block) (sym (array-saved p named k lt ∙ ap (λ m. array_of (cells_at (values_of p named) m)) e)) (holds-array named p.nodes n box block ex part h)
