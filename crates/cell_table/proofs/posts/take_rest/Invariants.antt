use Rattle.std.proofs.Common.{◌≡◌}
use Rattle.cell_table.proofs.posts.take_rest.Given as goal

abbrev pub invariant-loop : goal.invariant-loop
invariant-loop g l =
    (l.left.to.pass.table_id ≡ l.initial.left.to.pass.table_id) × (l.left.from.pass.table_id ≡ l.initial.left.from.pass.table_id)
    × (l.right.to.pass.table_id ≡ l.initial.right.to.pass.table_id) × (l.right.from.pass.table_id ≡ l.initial.right.from.pass.table_id)
