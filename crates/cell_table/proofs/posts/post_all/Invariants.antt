use Rattle.std.proofs.Common.{◌≡◌}
use Rattle.cell_table.proofs.posts.post_all.Given as goal

abbrev pub invariant-loop-key : goal.invariant-loop-key
invariant-loop-key g l =
    (l.port.to.pass.table_id ≡ l.initial.port.to.pass.table_id) × (l.port.from.pass.table_id ≡ l.initial.port.from.pass.table_id)
