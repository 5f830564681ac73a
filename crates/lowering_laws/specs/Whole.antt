-- The law of lowering, in the words of whole arrays.
use Rattle.std.specs.Prelude.{◌≡◌, ℕ, ℤ, ◌<◌, List, [], length, map, get_or, Some, true, Contains}
use Rattle.std.specs.List.Sorted.{IsStrictlyIncreasing}
use Rattle.nd_shape.specs.Block.{Array}
use Rattle.nd_grid.specs.Grid.{Holds, grid_of}
use Rattle.array_expr.specs.declared.expr.Node.{Node}
use Rattle.expr_laws.specs.Formulas.{whole}
use Rattle.chunk_layout.specs.Layouts.{blocks, region}
use Rattle.cluster_msgs.specs.Dags.{IsEarlier}
use Rattle.cluster_msgs.specs.Shape.{deps_of}
use Rattle.cluster_msgs.specs.Values.{cone, faulty}
use Rattle.task_graph.specs.declared.graph.Task.{Task}
use Rattle.task_graph.specs.Graphs.{task_at, shape_of, value}
use Rattle.block_kernels.specs.Kernels.{input_shapes, result_shape}
use Rattle.task_graph.specs.Orders.{position, renumbered}
use Rattle.lowering_laws.specs.Sources.{key_of}
use Rattle.lowering_laws.specs.Lowered.{source_at, lowering, lowered}
use Rattle.task_graph.specs.Numberings.{AreFit, AreBehind}

-- no key of the cone of k is faulty
abbrev pub IsSound : (ℕ → List ℕ → ℤ) → List Task → ℕ → Type 0
IsSound files tasks k = (j : ℕ) → cone (deps_of (shape_of tasks)) k j ≡ true → faulty (deps_of (shape_of tasks)) (value files tasks) j ≡ true → ⊥

-- Each block of a node among the keys `order`, under its new number, where no key of its cone is faulty, has a value, which
-- holds the node's elements in the block's box.
abbrev pub LawOfLowering : (ℕ → List ℕ → ℤ) → List Node → List ℕ → Type 0
LawOfLowering files nodes order =
    AreBehind (deps_of (shape_of (lowering nodes).tasks)) order
    → (n c : ℕ) → n < length nodes → c < blocks (source_at (lowering nodes).sources n).layout → Contains order (key_of (source_at (lowering nodes).sources n) c)
    → IsSound files (renumbered (lowering nodes).tasks order) (position order (key_of (source_at (lowering nodes).sources n) c))
    → (b : Array) × (value files (renumbered (lowering nodes).tasks order) (position order (key_of (source_at (lowering nodes).sources n) c)) ≡ Some b)
    × Holds (grid_of b) (whole files nodes n) (region (source_at (lowering nodes).sources n).layout c)

-- the key of block c of the j-th save, in the graph that the cluster runs
abbrev pub saved_key : List Node → List ℕ → ℕ → ℕ → ℕ
saved_key nodes saves j c = get_or (get_or (lowered nodes saves).saved j []) c 0

-- Each block of each save, where no key of its cone is faulty, has a value, which holds the saved node's elements in the
-- block's box.
abbrev pub LawOfLowered : (ℕ → List ℕ → ℤ) → List Node → List ℕ → Type 0
LawOfLowered files nodes saves =
    (j c : ℕ) → j < length saves → c < blocks (source_at (lowering nodes).sources (get_or saves j 0)).layout
    → IsSound files (lowered nodes saves).tasks (saved_key nodes saves j c)
    → (b : Array) × (value files (lowered nodes saves).tasks (saved_key nodes saves j c) ≡ Some b)
    × Holds (grid_of b) (whole files nodes (get_or saves j 0)) (region (source_at (lowering nodes).sources (get_or saves j 0)).layout c)

-- the dependencies of each task rise, and lie below its own key
pub record AreOrdered (tasks : List Task) : Type 0 where
  pub below : IsEarlier (deps_of (shape_of tasks))
  pub rising : (k : ℕ) → IsStrictlyIncreasing (deps_of (shape_of tasks) k)

-- the inputs of each task have the shapes that its dependencies make
pub record AreFedAll (tasks : List Task) : Type 0 where
  pub each : (k : ℕ) → map (λ d. result_shape (task_at tasks d).spec) (task_at tasks k).deps ≡ input_shapes (task_at tasks k).spec

-- What is made of nodes, before and after culling: it is ordered, each operation names places among its task's dependencies,
-- inputs have the shapes that dependencies make, and the key of a block makes the block's lengths. The saved keys are there.
pub record LawOfOrder (nodes : List Node) (saves : List ℕ) : Type 0 where
  pub made : AreOrdered (lowering nodes).tasks
  pub fit : AreFit (lowering nodes).tasks
  pub fed : AreFedAll (lowering nodes).tasks
  pub shaped : (n c : ℕ) → n < length nodes → c < blocks (source_at (lowering nodes).sources n).layout
      → result_shape (task_at (lowering nodes).tasks (key_of (source_at (lowering nodes).sources n) c)).spec
      ≡ (region (source_at (lowering nodes).sources n).layout c).lengths
  pub run : AreOrdered (lowered nodes saves).tasks
  pub run_fit : AreFit (lowered nodes saves).tasks
  pub run_fed : AreFedAll (lowered nodes saves).tasks
  pub run_shaped : (j c : ℕ) → j < length saves → c < blocks (source_at (lowering nodes).sources (get_or saves j 0)).layout
      → result_shape (task_at (lowered nodes saves).tasks (saved_key nodes saves j c)).spec
      ≡ (region (source_at (lowering nodes).sources (get_or saves j 0)).layout c).lengths
  pub saved : (j c : ℕ) → j < length saves → c < blocks (source_at (lowering nodes).sources (get_or saves j 0)).layout
      → saved_key nodes saves j c < length (lowered nodes saves).tasks
