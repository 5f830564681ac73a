-- Arrays that are known have the shapes of their nodes.
use Rattle.std.proofs.Common.{◌≡◌, ℕ, ◌<◌, List, [], length, map, take, get_or, ap, sym, ◌∙◌, ◌+◌, arith, get_or-take}
use Rattle.std.proofs.Math.ListN.{get_or-map}
use Rattle.std.proofs.lemmas.List.{length-map, take-map}
use Rattle.std.specs.List.{range_with_len}
use Rattle.nd_shape.specs.Shape.{elements}
use Rattle.nd_shape.specs.Index.{index_at}
use Rattle.nd_grid.specs.Grid.{Grid}
use Rattle.array_expr.specs.declared.expr.Node.{Node}
use Rattle.array_expr.specs.Node.{shape_at, shapes_of}
use Rattle.array_expr.specs.Elem.{Cells, array_at, cells_of}
use Rattle.plain_eval.specs.Eval.{HaveShapes}

pub shape-known : (known : List Cells) (nodes : List Node) → HaveShapes known nodes → (k : ℕ) → (array_at known k).shape ≡ shape_at nodes k
shape-known known nodes h k =
    let none : Cells = record { shape = []; cells = [] } in
    sym (get_or-map (λ (c : Cells). c.shape) known k none) ∙ ap (λ ss. get_or ss k []) h.shapes

pub there-known : (known : List Cells) (nodes : List Node) → HaveShapes known nodes → (k : ℕ) → k < length nodes → k < length known
there-known known nodes h k b = omega (arith, ap length h.shapes, length-map known (λ (c : Cells). c.shape), length-map nodes (λ (n : Node). n.shape))

-- a node's shape needs no later nodes
pub shape-front : (nodes : List Node) (n : ℕ) → shape_at (take (n + 1) nodes) n ≡ shape_at nodes n
shape-front nodes n = ap (λ ss. get_or ss n []) (sym (take-map (λ (m : Node). m.shape) (n + 1) nodes)) ∙ get_or-take (n + 1) (shapes_of nodes) n [] (omega arith)

-- the cells of a grid without elements
pub empty-cells : (g : Grid) (ns : List ℕ) → elements ns ≡ 0 → g.shape ≡ ns → record { shape = ns; cells = [] } ≡ cells_of g
empty-cells g ns z e =
    let none : elements g.shape ≡ 0 = ap elements e ∙ z in
    ap (λ (a : List ℕ). record { shape = a; cells = [] }) (sym e)
    ∙ ap (λ n. record { shape = g.shape; cells = map (λ p. g.at (index_at g.shape p)) (range_with_len 0 n) }) (sym none)
