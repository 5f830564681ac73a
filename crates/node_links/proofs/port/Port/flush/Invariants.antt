use Rattle.std.proofs.Common.{◌≡◌}
use Rattle.crossbeam_queue.specs.Passes.{view}
use Rattle.node_links.specs.Links.{posted}
use Rattle.node_links.proofs.port.Port.flush.Given as goal

abbrev pub invariant-loop : goal.invariant-loop
invariant-loop g l =
    (l.self.to.pass.table_id ≡ l.initial.self.to.pass.table_id)
    × (l.self.from ≡ l.initial.self.from)
    × (posted (view l.self.to.pass).sent l.self.first l.self.waiting.items ≡ posted (view l.initial.self.to.pass).sent l.initial.self.first l.initial.self.waiting.items)
