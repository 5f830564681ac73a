use Rattle.std.proofs.Common.{None}
use Rattle.cluster_msgs.specs.Shape.{key_count}
use Rattle.worker_core.specs.Core.{facts}
use Rattle.node_states.proofs.StoreLemmas.{due_same, none_known}
use Rattle.node_states.proofs.worker.WorkerNode.due.Goals as goal

pub returns-in_default-clause-due : goal.returns-in_default-clause-due
returns-in_default-clause-due g c =
    let stock = g.S.BlockStore.stock in
    let old = c.args.self.now in
    let keys = key_count old.graph in
    let w = facts old.history.book.core.core in
    let m = old.history.recorded in
    due_same keys (stock old.store) (stock c.hear_of.new.store) w m None c.hear_of.ensures.aside
    (none_known keys (stock c.hear_of.new.store) c.hear_of.new.known w m c.hear_of.ensures.told (c.hear_of.ensures.heard keys w m old.room old.heard_of) c.in_default.ensures)
