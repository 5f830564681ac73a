use Rattle.std.proofs.Common.{◌≡◌}
use Rattle.array_expr.specs.Node.{shape_at}
use Rattle.input_regions.specs.Uses.{IsInBranches, before_operand}
use Rattle.input_regions.specs.Widening.{AreFit, IsUsed, Widens}
use Rattle.input_regions.proofs.branches.use_branches.Given as goal

abbrev pub invariant-loop-branch : goal.invariant-loop-branch
invariant-loop-branch l = record {
  before : l.before ≡ before_operand (shape_at l.nodes) l.axis l.of l.branch;
  uses : Widens (IsUsed l.first l.last (IsInBranches (shape_at l.nodes) l.axis l.of l.branch)) l.fn.needs l.needs;
  fit : AreFit l.nodes l.needs;
}
