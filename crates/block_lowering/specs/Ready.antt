-- What is known of the arrays of the nodes before one, and of which operations element by element.
use Rattle.std.specs.Prelude.{◌≡◌, ℕ, ◌<◌, List, length, slice_get, Some}
use Rattle.chunk_layout.specs.Layouts.{lengths}
use Rattle.array_expr.specs.declared.op.Op.{Op}
use Rattle.array_expr.specs.declared.op.Op.TheVariants.{Negate, Elementwise, Where}
use Rattle.array_expr.specs.declared.expr.Node.{Node}
use Rattle.array_expr.specs.Node.{shape_at}
use Rattle.task_graph.specs.declared.graph.Task.{Task}
use Rattle.lowering_laws.specs.Sources.{Source, Made}
use Rattle.lowering_laws.specs.Lowered.{source_at, lower_op, Lowering}

-- each of the first n nodes has its array, whose layout cuts the node's shape
pub record IsReady (nodes : List Node) (n : ℕ) (sources : List Source) : Type 0 where
  pub here : n < length nodes
  pub count : length sources ≡ n
  pub shapes : (k : ℕ) → k < n → lengths (source_at sources k).layout ≡ shape_at nodes k

-- what a node would be lowered to with this operation, as the node behind those that have arrays, behind the tasks of a graph
abbrev pub op_made : List Node → List Source → Node → Op → List Task → Made
op_made nodes sources x op graph = lower_op nodes sources (length sources) x.taken x.shape op (length graph)

-- what it is lowered to
abbrev pub made_next : List Node → List Source → Node → List Task → Made
made_next nodes sources x graph = op_made nodes sources x x.op graph

-- what holds of the node behind those that are lowered
abbrev pub OfNext : List Node → Lowering → (Node → Type 0) → Type 0
OfNext nodes l P = (x : Node) → slice_get nodes (length l.sources) ≡ Some x → P x

-- operations that don't take their operands element by element
abbrev pub IsOther : Op → Type 0
IsOther (Negate of) = ⊥
IsOther (Elementwise op left right) = ⊥
IsOther (Where condition first second) = ⊥
IsOther op = Unit {0}
