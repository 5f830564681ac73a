-- Each operation that is made is well formed, and what is read lies in an input of the job.
use Rattle.std.specs.Prelude.{◌≡◌, ℕ, ◌<◌, true, List, length, slice_index_or}
use Rattle.nd_shape.specs.Region.{Box, IsPart}
use Rattle.array_expr.specs.declared.expr.Node.{Node}
use Rattle.array_expr.specs.Elem.{is_input}
use Rattle.array_expr.specs.Node.{shape_at}
use Rattle.expr_laws.specs.Formulas.{inputs_before}
use Rattle.block_kernels.specs.declared.spec.Spec.{Spec}
use Rattle.block_kernels.specs.declared.spec.Spec.TheVariants.{Load}
use Rattle.block_kernels.specs.WellFormed.{IsWellFormed}
use Rattle.task_graph.specs.Graphs.{task_at}
use Rattle.lowering_laws.specs.Lowered.{no_node, lowering, lowered}

-- the input with this number is a node, and the region lies in its array
pub record IsRegion (nodes : List Node) (input : ℕ) (region : Box) : Type 0 where
  pub node : ℕ
  pub there : node < length nodes
  pub input_is : is_input (slice_index_or nodes node no_node).op ≡ true
  pub number : inputs_before nodes node ≡ input
  pub part : IsPart region (shape_at nodes node)

-- a region that is read lies in the array of the input that has this number
abbrev pub IsLoaded : List Node → Spec → Type 0
IsLoaded nodes (Load input region) = IsRegion nodes input region
IsLoaded nodes spec = Unit {0}

-- Each operation is well formed, and each load reads a region of an input's array, before culling and in the graph that is run.
pub record LawOfForm (nodes : List Node) (saves : List ℕ) : Type 0 where
  pub made : (k : ℕ) → k < length (lowering nodes).tasks → IsWellFormed (task_at (lowering nodes).tasks k).spec
  pub loads : (k : ℕ) → k < length (lowering nodes).tasks → IsLoaded nodes (task_at (lowering nodes).tasks k).spec
  pub run : (k : ℕ) → k < length (lowered nodes saves).tasks → IsWellFormed (task_at (lowered nodes saves).tasks k).spec
  pub run_loads : (k : ℕ) → k < length (lowered nodes saves).tasks → IsLoaded nodes (task_at (lowered nodes saves).tasks k).spec
