use Rattle.std.proofs.Common.{◌<◌, All}
use Rattle.array_table.proofs.expression.roots.Given as goal

abbrev pub invariant-loop-number : goal.invariant-loop-number
invariant-loop-number l = All (λ node. node < l.count) l.roots.items
