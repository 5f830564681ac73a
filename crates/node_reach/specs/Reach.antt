-- Which nodes of an expression are needed: those that are saved, and with each node its operands.
use Rattle.std.specs.Prelude.{◌≡◌, ◌<◌, ℕ, List, length, slice_get, slice_index_or, Some, Bool, true, false, nat_eq, ◌||◌}
use Rattle.std.specs.List.{list_any}
use Rattle.array_expr.specs.declared.expr.Node.{Node}
use Rattle.array_expr.specs.declared.op.Op.{Op}
use Rattle.array_expr.specs.declared.op.Op.TheVariants.{Input, Full, Ramp, Negate, Elementwise, Where, Slice, Transpose, Rechunk, Concatenate, Reduce, Tensordot}

-- the operation names this node
abbrev pub is_operand : Op → ℕ → Bool
is_operand (Input dims chunks) k = false
is_operand (Full dims value chunks) k = false
is_operand (Ramp dims start step chunks) k = false
is_operand (Negate of) k = nat_eq of k
is_operand (Elementwise op left right) k = nat_eq left k || nat_eq right k
is_operand (Where condition first second) k = nat_eq condition k || (nat_eq first k || nat_eq second k)
is_operand (Slice of parts) k = nat_eq of k
is_operand (Transpose of axes) k = nat_eq of k
is_operand (Rechunk of chunks) k = nat_eq of k
is_operand (Concatenate of axis) k = list_any (λ j. nat_eq j k) of
is_operand (Reduce fold of axes split) k = nat_eq of k
is_operand (Tensordot left right left_axes right_axes) k = nat_eq left k || nat_eq right k

-- a set of nodes that has these roots, and with each node its operands
pub record IsClosed (nodes : List Node) (roots : List ℕ) (set : ℕ → Bool) : Type 0 where
  pub roots_in : (k : ℕ) → k < length roots → set (slice_index_or roots k 0) ≡ true
  pub operands : (n k : ℕ) (node : Node) → slice_get nodes n ≡ Some node → set n ≡ true → is_operand node.op k ≡ true → set k ≡ true

-- the node is in the least such set
abbrev pub Reaches : List Node → List ℕ → ℕ → Type 0
Reaches nodes roots n = (set : ℕ → Bool) → IsClosed nodes roots set → set n ≡ true
