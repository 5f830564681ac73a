use Rattle.std.proofs.Common.{◌<◌, ◌≤◌, ℕ, List, length, length-set, get_or, [], sym, subst, arith}
use Rattle.std.proofs.lemmas.List.{get_or_read}
use Rattle.key_sets.specs.Sets.{room}
use Rattle.task_table.proofs.RowLemmas.{row_put, row_missed, rows_put}
use Rattle.task_table.proofs.rows.put_in_row.Goals as goal

pub put-requires : goal.put-requires
put-requires c =
    let rows = c.args.rows.now.items in
    let w = c.args.worker in
    let low : w < length rows = omega arith in
    let wide : c.args.count ≤ room (get_or rows w []) = c.requires.rows.wide w low in
    subst (λ (ks : List ℕ). c.args.key < room ks) (sym (get_or_read rows w c.index_mut.result.now low c.index_mut.ensures.value [])) (omega (arith, wide, c.requires.key))

pub returns-then-row-len-clause-keys : goal.returns-then-row-len-clause-keys
returns-then-row-len-clause-keys c =
    let rows = c.args.rows.now.items in
    let low : c.args.worker < length rows = omega arith in
    row_put rows c.args.worker c.args.key c.args.to c.index_mut.result.now c.put.new.self low c.index_mut.ensures.value c.put.ensures.keys

pub returns-then-row-len-clause-rows : goal.returns-then-row-len-clause-rows
returns-then-row-len-clause-rows c =
    let rows = c.args.rows.now.items in
    let low : c.args.worker < length rows = omega arith in
    rows_put c.args.count rows c.args.worker c.index_mut.result.now c.put.new.self c.requires.rows low c.index_mut.ensures.value c.put.ensures.room (length-set rows c.args.worker c.put.new.self)

pub returns-else-row-len-clause-keys : goal.returns-else-row-len-clause-keys
returns-else-row-len-clause-keys c =
    let past : length c.args.rows.now.items ≤ c.args.worker = omega arith in
    row_missed c.args.rows.now.items c.args.worker c.args.key c.args.to past
