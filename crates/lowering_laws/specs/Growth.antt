-- Lowering one node after another, and the first limit that is passed, as a loop over nodes and tasks meets them.
use Rattle.std.specs.Prelude.{◌≡◌, ℕ, ◌+◌, ◌≤◌, List, [], ◌∷◌, ◌++◌, length, take, map, Some, None, slice_get}
use Rattle.array_expr.specs.declared.expr.Node.{Node}
use Rattle.cluster_msgs.specs.Shape.{total_length}
use Rattle.task_graph.specs.declared.graph.Task.{Task}
use Rattle.task_graph.specs.declared.limit.Quantity.{Quantity}
use Rattle.lowering_laws.specs.Lowered.{Lowering, with_node, lower_from, lowering, limit_at, limit_from}

-- the first n nodes, lowered
abbrev pub lowering_to : List Node → ℕ → Lowering
lowering_to nodes n = lower_from nodes 0 (record { tasks = []; names = []; sources = [] }) (take n nodes)

-- how many dependencies tasks have together
abbrev pub edges_of : List Task → ℕ
edges_of tasks = total_length (map (λ (t : Task). t.deps) tasks)

-- tasks behind others
pub record IsFront (front all : List Task) : Type 0 where
  pub rest : List Task
  pub all_is : all ≡ front ++ rest

-- each node adds its tasks; the tasks of the first nodes are the first of all
pub record LawOfGrowth (nodes : List Node) : Type 0 where
  pub next : (n : ℕ) (x : Node) → slice_get nodes n ≡ Some x → lowering_to nodes (n + 1) ≡ with_node nodes (lowering_to nodes n) n x
  pub end : lowering_to nodes (length nodes) ≡ lowering nodes
  pub front : (n : ℕ) → n ≤ length nodes → IsFront (lowering_to nodes n).tasks (lowering nodes).tasks

-- Tasks that pass no limit pass none with one more that doesn't, and else the limit that this one passes, whatever follows.
pub record LawOfRefusal (tasks : List Task) (t : Task) : Type 0 where
  pub taken : limit_from 0 0 tasks ≡ None → limit_at (length tasks) (edges_of tasks) t None ≡ None → limit_from 0 0 (tasks ++ t ∷ []) ≡ None
  pub refused : (q : Quantity) (rest : List Task) → limit_from 0 0 tasks ≡ None → limit_at (length tasks) (edges_of tasks) t None ≡ Some q
      → limit_from 0 0 (tasks ++ t ∷ rest) ≡ Some q
