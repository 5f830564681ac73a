-- What the keys of the culled graph hold.
use Rattle.std.proofs.Common.{◌≡◌, ℕ, ◌<◌, List, length, refl, ap, sym, ◌∙◌, Some, None, true, ℤ}
use Rattle.std.specs.Prelude.{Option, Contains}
use Rattle.nd_shape.specs.Block.{Array}
use Rattle.nd_grid.specs.Grid.{Holds, grid_of}
use Rattle.nd_grid.proofs.Turning.{position-below, position-at}
use Rattle.array_expr.specs.declared.expr.Node.{Node}
use Rattle.array_expr.specs.Node.{IsExpression}
use Rattle.expr_laws.specs.Formulas.{whole}
use Rattle.chunk_layout.specs.Layouts.{blocks, region}
use Rattle.cluster_msgs.specs.Dags.{IsEarlier}
use Rattle.cluster_msgs.specs.Shape.{deps_of}
use Rattle.cluster_msgs.specs.Values.{cone, faulty}
use Rattle.cluster_msgs.proofs.ValueLemmas.{bad-fault}
use Rattle.task_graph.specs.declared.graph.Task.{Task}
use Rattle.task_graph.specs.Graphs.{shape_of, operation, value}
use Rattle.task_graph.specs.Orders.{position, renumbered}
use Rattle.lowering_laws.specs.Sources.{key_of}
use Rattle.lowering_laws.specs.Lowered.{source_at, lowering}
use Rattle.lowering_laws.specs.Built.{AreBuilt}
use Rattle.task_graph.specs.Numberings.{IsNumbering, AreBehind}
use Rattle.lowering_laws.proofs.Lowering.{law-of-lowering}
use Rattle.task_graph.proofs.Renumbered.{renumbered-value}
use Rattle.lowering_laws.proofs.Order.{lowering-order, good-earlier, good-fit}
use Rattle.task_graph.proofs.Visits.{numbering, renumbered-earlier}

-- a key without a faulty key in its cone has a value
has-value : (files : ℕ → List ℕ → ℤ) (tasks : List Task) → IsEarlier (deps_of (shape_of tasks)) → (k : ℕ) → ((j : ℕ) → cone (deps_of (shape_of tasks)) k j ≡ true → faulty (deps_of (shape_of tasks)) (value files tasks) j ≡ true → ⊥)
    → (b : Array) × (value files tasks k ≡ Some b)
has-value files tasks e k sound = there (value files tasks k) refl
  where
    there : (v : Option Array) → value files tasks k ≡ v → (b : Array) × (value files tasks k ≡ Some b)
    there (Some b) h = (b, h)
    there None h = let f = bad-fault (deps_of (shape_of tasks)) (operation files tasks) e k h in absurd (sound f.0 f.1 f.2)

-- The law: in the graph of the keys `order`, under their new numbers, where no key of the cone of a node's block is faulty,
-- its value holds the node's elements in the block's box.
pub culled-law : (files : ℕ → List ℕ → ℤ) (nodes : List Node) (order : List ℕ) → IsExpression nodes → AreBuilt nodes
    → AreBehind (deps_of (shape_of (lowering nodes).tasks)) order → (n c : ℕ) → n < length nodes → c < blocks (source_at (lowering nodes).sources n).layout → Contains order (key_of (source_at (lowering nodes).sources n) c)
    → (let k = position order (key_of (source_at (lowering nodes).sources n) c) in let tasks = renumbered (lowering nodes).tasks order in
    ((j : ℕ) → cone (deps_of (shape_of tasks)) k j ≡ true → faulty (deps_of (shape_of tasks)) (value files tasks) j ≡ true → ⊥)
    → (b : Array) × (value files tasks k ≡ Some b) × Holds (grid_of b) (whole files nodes n) (region (source_at (lowering nodes).sources n).layout c))
culled-law files nodes order ex built behind n c ln lc has sound =
    let l = lowering-order nodes ex in
    let e = good-earlier (lowering nodes).tasks l.good in
    let fit = good-fit (lowering nodes).tasks l.good in
    let tasks = (lowering nodes).tasks in
    let s = source_at (lowering nodes).sources n in
    let number : IsNumbering (lowering nodes).tasks order = numbering (lowering nodes).tasks order behind in
    let e' = renumbered-earlier (lowering nodes).tasks order number in
    let v = has-value files (renumbered (lowering nodes).tasks order) e' (position order (key_of (source_at (lowering nodes).sources n) c)) sound in
    let same = renumbered-value files (lowering nodes).tasks order e e' fit number (position order (key_of (source_at (lowering nodes).sources n) c)) (position-below order (key_of (source_at (lowering nodes).sources n) c) has) in
    let old : value files (lowering nodes).tasks (key_of (source_at (lowering nodes).sources n) c) ≡ Some v.0 = ap (value files (lowering nodes).tasks) (sym (position-at order (key_of (source_at (lowering nodes).sources n) c) has)) ∙ sym same ∙ v.1 in
    (v.0, v.1, (law-of-lowering files nodes ex built e n ln).carries.each c v.0 lc old)
