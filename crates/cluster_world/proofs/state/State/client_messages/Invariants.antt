use Rattle.std.proofs.Common.{◌≡◌, ◌+◌, ◌-◌, ◌^◌, length}
use Rattle.std.specs.Prelude.{min}
use Rattle.std.specs.List.{range_with_len}
use Rattle.cluster_rules.specs.Functions.{total}
use Rattle.cluster_world.specs.Worlds.{world}
use Rattle.cluster_world.proofs.state.State.client_messages.Given as goal

abbrev pub invariant-loop-before : goal.invariant-loop-before
invariant-loop-before g l = l.total ≡ min (total (λ i. length ((world l.self).to_client i) + length ((world l.self).from_client i)) (range_with_len 1 l.before)) (2 ^ 64 - 1)
