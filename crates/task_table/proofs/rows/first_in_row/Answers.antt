use Rattle.std.proofs.Common.{◌<◌, ◌≤◌, length, arith}
use Rattle.task_table.proofs.RowLemmas.{first_there, row_past}
use Rattle.task_table.proofs.rows.first_in_row.Goals as goal

pub returns-then-row-len : goal.returns-then-row-len
returns-then-row-len c =
    let rows = c.args.rows.now.items in
    let low : c.args.worker < length rows = omega arith in
    first_there rows c.args.worker c.args.from c.first_from.result c.index.result.now low c.index.ensures c.first_from.ensures

pub returns-else-row-len : goal.returns-else-row-len
returns-else-row-len c =
    let rows = c.args.rows.now.items in
    let past : length rows ≤ c.args.worker = omega arith in
    λ k l. row_past rows c.args.worker k past
