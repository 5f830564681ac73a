use Rattle.std.proofs.Common.{rules, arith, ◌≤◌, ◌+◌, length}
use Rattle.cluster_msgs.proofs.StoredLemmas.{next-row, row-follows, unfit-row}
use Rattle.cluster_msgs.proofs.shape.GraphShape.from_rows.Goals as goal

pub returns-then-not-follows : goal.returns-then-not-follows
returns-then-not-follows c =
    unfit-row c.args.rows.items c.loop-key.key c.loop-key.edge_total c.row-item.result (search rules) (search rules) (search rules) (search rules)

pub overflow_cast-edge_total : goal.overflow_cast-edge_total
overflow_cast-edge_total c =
    let f = row-follows c.args.rows.items c.loop-key.key c.loop-key.edge_total c.row-item.result (search rules) (search rules) (search rules) in
    let e : length c.row-item.result.deps ≤ 262144 = omega (arith, f.edges) in
    rw c.len.ensures (omega (arith, e))

pub overflow_add-edge_total : goal.overflow_add-edge_total
overflow_add-edge_total c =
    let f = row-follows c.deref-row-items.result.now c.loop-key.key c.loop-key.edge_total c.row-item.result (search rules) (search rules) (search rules) in
    let e : c.loop-key.edge_total + length c.row-item.result.deps ≤ 262144 = rw c.loop-key.invariant.edges f.edges in
    rw c.len.ensures (omega (arith, e))

pub loop-key-preserved : goal.loop-key-preserved
loop-key-preserved c =
    let f = row-follows c.deref-row-items.result.now c.loop-key.key c.loop-key.edge_total c.row-item.result (search rules) (search rules) (search rules) in
    rw c.len.ensures (next-row c.deref-row-items.result.now c.loop-key.key c.loop-key.edge_total c.row-item.result (search rules) (search rules) (search rules) f)
