-- Marks on nodes, as a list of bools: what the private functions answer.
use Rattle.std.specs.Prelude.{◌≡◌, ◌≤◌, ℕ, List, length, slice_get, slice_index_or, Some, Bool, true, false, ◌||◌}
use Rattle.array_expr.specs.declared.expr.Node.{Node}
use Rattle.node_reach.specs.Reach.{is_operand}

-- the nodes that are marked
abbrev pub marked : List Bool → ℕ → Bool
marked marks k = slice_index_or marks k false

-- these nodes were marked too
pub record Marks (named : ℕ → Bool) (old new : List Bool) : Type 0 where
  pub count : length new ≡ length old
  pub each : (k : ℕ) → marked new k ≡ (marked old k || named k)

-- with each of the nodes from this one on, a set has its operands
abbrev pub HasOperands : List Node → ℕ → (ℕ → Bool) → Type 0
HasOperands nodes from set = (n k : ℕ) (node : Node) → from ≤ n → slice_get nodes n ≡ Some node → set n ≡ true → is_operand node.op k ≡ true → set k ≡ true

-- one set has all nodes of another
abbrev pub IsIn : (ℕ → Bool) → (ℕ → Bool) → Type 0
IsIn some all = (k : ℕ) → some k ≡ true → all k ≡ true

-- the marks grew by operands of marked nodes alone
pub record Grows (nodes : List Node) (old new : List Bool) : Type 0 where
  pub count : length new ≡ length old
  pub grown : IsIn (marked old) (marked new)
  pub least : (set : ℕ → Bool) → HasOperands nodes 0 set → IsIn (marked old) set → IsIn (marked new) set
