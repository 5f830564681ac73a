-- The arrays of nodes by their operations' formulas.
use Rattle.std.specs.Prelude.{ℕ, ℤ, List, take}
use Rattle.std.specs.List.{count_by}
use Rattle.nd_grid.specs.Grid.{Grid}
use Rattle.array_expr.specs.declared.expr.Node.{Node}
use Rattle.array_expr.specs.Node.{shape_at}
use Rattle.array_expr.specs.Elem.{formula, is_input, elem}

-- how many inputs stand before node n
abbrev pub inputs_before : List Node → ℕ → ℕ
inputs_before nodes n = count_by (λ m. is_input m.op) (take n nodes)

-- the array of node k: its shape, and its element at each index
abbrev pub whole : (ℕ → List ℕ → ℤ) → List Node → ℕ → Grid
whole inputs nodes k = record { shape = shape_at nodes k; at = elem inputs nodes k }

-- what the operation of node n makes of the arrays of the nodes that it names
abbrev pub made_of : (ℕ → List ℕ → ℤ) → List Node → ℕ → Node → Grid
made_of inputs nodes n node = formula node.op node.taken (inputs (inputs_before nodes n)) (whole inputs nodes)
