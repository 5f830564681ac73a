use Rattle.std.proofs.Common.{◌≡◌, ◌-◌, ◌^◌}
use Rattle.std.specs.Prelude.{min}
use Rattle.std.specs.List.{range_with_len}
use Rattle.cluster_rules.specs.Client.{client_pairs}
use Rattle.cluster_rules.specs.Functions.{total}
use Rattle.cluster_world.specs.Worlds.{world}
use Rattle.cluster_world.proofs.state.State.client_pairs.Given as goal

abbrev pub invariant-loop-before : goal.invariant-loop-before
invariant-loop-before g l = l.total ≡ min (total (λ i. client_pairs ((world l.self).clients i)) (range_with_len 1 l.before)) (2 ^ 64 - 1)
