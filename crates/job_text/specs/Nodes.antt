-- The operations that a text asks for as nodes of an expression.
use Rattle.std.specs.Prelude.{◌≡◌, ℕ, zero, suc, List, [], ◌∷◌, length}
use Rattle.array_expr.specs.declared.op.Op.{Op}
use Rattle.array_expr.specs.declared.op.Op.TheVariants.{Transpose}
use Rattle.array_expr.specs.declared.expr.Node.{Node}
use Rattle.array_expr.specs.declared.error.NodeError.TheVariants as NodeErrors
use Rattle.array_expr.specs.declared.error.Quantity.TheVariants as NodeQuantities
use Rattle.array_expr.specs.Node.{shape_at, Adds}
use Rattle.array_expr.specs.Refusal.{Refuses}
use Rattle.job_script.specs.declared.asked.Asked.{Asked}
use Rattle.job_script.specs.declared.asked.Asked.TheVariants as AskedVariants
use Rattle.job_script.specs.declared.asked.Placed.{Placed}
use Rattle.job_text.specs.declared.error.JobKind.{JobKind}
use Rattle.job_text.specs.declared.error.JobKind.TheVariants as Kinds
use Rattle.job_text.specs.declared.error.Quantity.{Quantity}
use Rattle.job_text.specs.declared.error.Quantity.TheVariants as Quantities

-- n - 1 down to 0
abbrev pub axes_down : ℕ → List ℕ
axes_down zero = []
axes_down (suc n) = n ∷ axes_down n

-- The operation that is asked for: all axes of a node in reverse order are a transpose.
abbrev pub op_of : List Node → Asked → Op
op_of nodes (AskedVariants.Op op) = op
op_of nodes (AskedVariants.ReverseAxes of) = Transpose of (axes_down (length (shape_at nodes of)))

-- The operations, one after another, make these nodes.
abbrev pub Builds : List Node → List Placed → List Node → Type 0
Builds nodes [] all = all ≡ nodes
Builds nodes (p ∷ rest) all = (more : List Node) × Adds nodes (op_of nodes p.asked) more × Builds more rest all

-- ---- why an operation is refused

abbrev pub RefusesLimit : List Node → Op → Quantity → Type 0
RefusesLimit nodes op Quantities.Nodes = Refuses nodes op (NodeErrors.Limit NodeQuantities.Nodes)
RefusesLimit nodes op Quantities.Axes = Refuses nodes op (NodeErrors.Limit NodeQuantities.Axes)
RefusesLimit nodes op Quantities.Elements = Refuses nodes op (NodeErrors.Limit NodeQuantities.Elements)
RefusesLimit nodes op Quantities.JobBytes = ⊥
RefusesLimit nodes op Quantities.Statements = ⊥
RefusesLimit nodes op Quantities.Depth = ⊥
RefusesLimit nodes op Quantities.Number = ⊥

-- the operation doesn't fit its operands
abbrev pub RefusesAsked : List Node → Op → JobKind → Type 0
RefusesAsked nodes op (Kinds.Shape e) = Refuses nodes op (NodeErrors.Shape e)
RefusesAsked nodes op (Kinds.Chunks e) = Refuses nodes op (NodeErrors.Chunks e)
RefusesAsked nodes op (Kinds.Limit quantity) = RefusesLimit nodes op quantity
RefusesAsked nodes op Kinds.Grammar = ⊥
RefusesAsked nodes op Kinds.Token = ⊥
RefusesAsked nodes op Kinds.UnknownName = ⊥
RefusesAsked nodes op Kinds.Repeated = ⊥
RefusesAsked nodes op Kinds.OutOfMemory = Unit {0}
