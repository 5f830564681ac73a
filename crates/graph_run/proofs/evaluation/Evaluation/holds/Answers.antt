use Rattle.std.proofs.Common.{◌≡◌, ◌<◌, length, arith}
use Rattle.cluster_msgs.specs.Shape.{key_count}
use Rattle.graph_run.proofs.Holding.{held-at}
use Rattle.graph_run.proofs.evaluation.Evaluation.holds.Goals as goal

pub returns : goal.returns
returns g c =
    let j = g.J.JobSpec in
    let s = c.self.inside in
    let lt : c.args.key < key_count (j.graph s.job) = rw (← c.self.view_is) at c.requires in
    let many : length s.slots.items ≡ length s.last.items = c.self.invariant.0.kept.counted in
    let all : length s.last.items ≡ key_count (j.graph s.job) = c.self.invariant.0.uses.counted in
    rw (← c.self.view_is) (held-at (j.graph s.job) s.last.items s.next s.slots.items c.self.invariant.0.uses c.self.invariant.0.kept c.args.key lt c.index.result.now c.is_some.result c.index.ensures (omega arith) c.is_some.ensures)
