use Rattle.std.proofs.Common.{◌≡◌, ◌≤◌, ◌||◌}
use Rattle.std.specs.List.{range_with_len}
use Rattle.cluster_rules.specs.Functions.{count}
use Rattle.cluster_rules.specs.World.{is_connected}
use Rattle.cluster_world.specs.Worlds.{world}
use Rattle.cluster_world.proofs.state.State.worker_count.Given as goal

abbrev pub invariant-loop-before : goal.invariant-loop-before
invariant-loop-before g l = record { counted : l.count ≡ count (λ i. (world l.self).alive i || is_connected (world l.self) i) (range_with_len 1 l.before); few : l.count ≤ l.before }
