use Rattle.std.proofs.Common.{◌≡◌, ◌+◌, length}
use Rattle.message_queues.specs.Queues.{waiting}
use Rattle.cluster_nodes.proofs.opening.add_links.Given as goal

abbrev pub invariant-loop-link : goal.invariant-loop-link
invariant-loop-link l = record {
  long : length l.links ≡ length l.fn.links + l._link;
  same : waiting l.links ≡ waiting l.fn.links;
}
