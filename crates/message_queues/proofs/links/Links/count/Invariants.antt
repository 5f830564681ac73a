use Rattle.std.proofs.Common.{◌≡◌, ◌-◌, ◌^◌, length}
use Rattle.std.specs.Prelude.{min}
use Rattle.cluster_rules.specs.Derived.{below}
use Rattle.cluster_rules.specs.Functions.{total}
use Rattle.message_queues.specs.Queues.{waiting}
use Rattle.message_queues.proofs.links.Links.count.Given as goal

abbrev pub invariant-loop-node : goal.invariant-loop-node
invariant-loop-node g l = l.total ≡ min (total (λ i. length (waiting l.self i)) (below l.node)) (2 ^ 64 - 1)
