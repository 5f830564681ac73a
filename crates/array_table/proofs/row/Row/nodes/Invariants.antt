use Rattle.std.proofs.Common.{◌<◌, All}
use Rattle.array_table.proofs.row.Row.nodes.Given as goal

abbrev pub invariant-loop : goal.invariant-loop
invariant-loop l = All (λ node. node < l.count) l.list.items
