-- What a job is lowered to: its graph, numbered depth first, and the keys of what is saved.
use Rattle.std.specs.Prelude.{ℕ, suc, ◌+◌, ◌-◌, ◌/◌, ◌%◌, cond, nat_eq, nat_lt, List, [], ◌∷◌, ◌++◌, length, map, pos, Option, Some, None, slice_index_or}
use Rattle.std.specs.List.{range_with_len, flat_map}
use Rattle.nd_shape.specs.declared.slice.Steps.{Steps}
use Rattle.nd_grid.specs.declared.operation.Binary.TheVariants.{Sub}
use Rattle.array_expr.specs.declared.op.Op.{Op}
use Rattle.array_expr.specs.declared.op.Op.TheVariants.{Input, Full, Ramp, Negate, Elementwise, Where, Slice, Transpose, Rechunk, Concatenate, Reduce, Tensordot}
use Rattle.array_expr.specs.declared.expr.Node.{Node}
use Rattle.array_expr.specs.Node.{shape_at, dropped, folded_axes}
use Rattle.expr_laws.specs.Formulas.{inputs_before}
use Rattle.chunk_layout.specs.Layouts.{blocks, normalized}
use Rattle.task_graph.specs.declared.graph.Task.{Task}
use Rattle.task_graph.specs.Orders.{depth_first, renumbered, position}
use Rattle.task_graph.specs.declared.limit.Quantity.{Quantity}
use Rattle.task_graph.specs.declared.limit.Quantity.TheVariants.{Keys, Edges, BlockBytes}
use Rattle.lowering_laws.specs.Sources.{Source, Made, key_of}
use Rattle.lowering_laws.specs.Stages.{Arg, Literal, Blocks, Pair, Choice, no_source, pointwise, filled_blocks, loaded_blocks, sliced_blocks, transposed_blocks, rechunked_blocks, concatenated_blocks, reduced_blocks, contracted_blocks}

abbrev pub no_node : Node
no_node = record { op = Full [] (pos 0) []; shape = []; taken = [] }

abbrev pub source_at : List Source → ℕ → Source
source_at sources n = slice_index_or sources n no_source

-- an operand of an elementwise operation: `full` of no axes is a number
abbrev pub arg_of_op : Op → Source → Arg
arg_of_op (Full [] v chunks) s = Literal v
arg_of_op op s = Blocks s

abbrev pub arg_of : List Node → List Source → ℕ → Arg
arg_of nodes sources n = arg_of_op (slice_index_or nodes n no_node).op (source_at sources n)

-- the tasks of node n, behind `base` others
abbrev pub lower_op : List Node → List Source → ℕ → List Steps → List ℕ → Op → ℕ → Made
lower_op nodes sources n taken shape (Input dims chunks) base = loaded_blocks (inputs_before nodes n) (normalized dims chunks) base
lower_op nodes sources n taken shape (Full dims v chunks) base = filled_blocks dims (normalized dims chunks) v (pos 0) base
lower_op nodes sources n taken shape (Ramp dims start step chunks) base = filled_blocks dims (normalized dims chunks) start step base
lower_op nodes sources n taken shape (Negate of) base = pointwise (Pair Sub) shape (Literal (pos 0) ∷ arg_of nodes sources of ∷ []) base
lower_op nodes sources n taken shape (Elementwise op left right) base =
    pointwise (Pair op) shape (arg_of nodes sources left ∷ arg_of nodes sources right ∷ []) base
lower_op nodes sources n taken shape (Where condition first second) base =
    pointwise Choice shape (arg_of nodes sources condition ∷ arg_of nodes sources first ∷ arg_of nodes sources second ∷ []) base
lower_op nodes sources n taken shape (Slice of parts) base = sliced_blocks (source_at sources of) taken (dropped parts) base
lower_op nodes sources n taken shape (Transpose of axes) base = transposed_blocks (source_at sources of) axes base
lower_op nodes sources n taken shape (Rechunk of chunks) base = rechunked_blocks (source_at sources of) (normalized shape chunks) base
lower_op nodes sources n taken shape (Concatenate of axis) base = concatenated_blocks (map (source_at sources) of) axis base
lower_op nodes sources n taken shape (Reduce fold of axes split) base =
    reduced_blocks fold (folded_axes axes (length (shape_at nodes of))) split (source_at sources of) base
lower_op nodes sources n taken shape (Tensordot left right left_axes right_axes) base =
    contracted_blocks left_axes right_axes (source_at sources left) (source_at sources right) base

-- the tasks of a node, as node n
abbrev pub node_made : List Node → List Source → ℕ → Node → ℕ → Made
node_made nodes sources n x base = lower_op nodes sources n x.taken x.shape x.op base

-- node n and its block, at each key that is one's own
abbrev pub name_at : Source → ℕ → ℕ → Option (ℕ × ℕ)
name_at s n k = cond (nat_lt k s.first) None (cond (nat_eq ((k - s.first) % s.stride) 0) (Some (n, (k - s.first) / s.stride)) None)

-- what was lowered so far: tasks, the node and block of each key, and the array of each node
pub record Lowering : Type 0 where
  pub tasks : List Task
  pub names : List (Option (ℕ × ℕ))
  pub sources : List Source

abbrev pub with_made : Lowering → ℕ → Made → Lowering
with_made l n m = record {
  tasks = l.tasks ++ m.tasks;
  names = l.names ++ map (name_at m.source n) (range_with_len (length l.tasks) (length m.tasks));
  sources = l.sources ++ m.source ∷ [];
}

-- a node more, as node n
abbrev pub with_node : List Node → Lowering → ℕ → Node → Lowering
with_node nodes l n x = with_made l n (node_made nodes l.sources n x (length l.tasks))

-- the nodes from number n on
abbrev pub lower_from : List Node → ℕ → Lowering → List Node → Lowering
lower_from nodes n l [] = l
lower_from nodes n l (x ∷ rest) = lower_from nodes (suc n) (with_node nodes l n x) rest

-- all nodes, before anything is culled
abbrev pub lowering : List Node → Lowering
lowering nodes = lower_from nodes 0 (record { tasks = []; names = []; sources = [] }) nodes

abbrev pub keys_of : Source → List ℕ
keys_of s = map (key_of s) (range_with_len 0 (blocks s.layout))

pub record Lowered : Type 0 where
  pub tasks : List Task
  pub names : List (Option (ℕ × ℕ))
  pub saved : List (List ℕ)

abbrev pub culled : Lowering → List ℕ → Lowered
culled l saves =
    let wanted = map (λ n. keys_of (source_at l.sources n)) saves in
    let order = depth_first l.tasks (flat_map (λ ks. ks) wanted) in
    record {
      tasks = renumbered l.tasks order;
      names = map (λ k. slice_index_or l.names k None) order;
      saved = map (λ ks. map (position order) ks) wanted;
    }

-- the nodes, of which some are saved
abbrev pub lowered : List Node → List ℕ → Lowered
lowered nodes saves = culled (lowering nodes) saves

-- ---- limits

abbrev pub limit_at : ℕ → ℕ → Task → Option Quantity → Option Quantity
limit_at keys edges t more =
    cond (nat_lt 32767 keys) (Some Keys) (cond (nat_lt 262144 (edges + length t.deps)) (Some Edges) (cond (nat_lt 134217728 t.nbytes) (Some BlockBytes) more))

-- the first limit that the tasks pass, in the order in which they are made
abbrev pub limit_from : ℕ → ℕ → List Task → Option Quantity
limit_from keys edges [] = None
limit_from keys edges (t ∷ ts) = limit_at keys edges t (limit_from (suc keys) (edges + length t.deps) ts)

abbrev pub limit_of : List Node → Option Quantity
limit_of nodes = limit_from 0 0 (lowering nodes).tasks
