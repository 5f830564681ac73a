use Rattle.std.proofs.Common.{◌≡◌}
use Rattle.cell_table.proofs.posts.take_all.Given as goal

abbrev pub invariant-loop-taken : goal.invariant-loop-taken
invariant-loop-taken g l =
    (l.port.to.pass.table_id ≡ l.initial.port.to.pass.table_id) × (l.port.from.pass.table_id ≡ l.initial.port.from.pass.table_id)
