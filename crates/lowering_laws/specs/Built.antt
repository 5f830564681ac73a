-- What the law of lowering asks of values that a text or a program gives: they are int64, as their types say.
use Rattle.std.specs.Prelude.{◌≡◌, ℕ, List, Some, slice_get}
use Rattle.nd_grid.specs.Int64.{IsInt64}
use Rattle.array_expr.specs.declared.op.Op.{Op}
use Rattle.array_expr.specs.declared.op.Op.TheVariants.{Full}
use Rattle.array_expr.specs.declared.expr.Node.{Node}

-- the value of `full` is an int64, as the field's type says
abbrev pub IsBuilt : Op → Type 0
IsBuilt (Full dims v chunks) = IsInt64 v
IsBuilt op = Unit {0}

pub record AreBuilt (nodes : List Node) : Type 0 where
  pub each : (k : ℕ) (node : Node) → slice_get nodes k ≡ Some node → IsBuilt node.op
