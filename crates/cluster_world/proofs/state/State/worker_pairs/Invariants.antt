use Rattle.std.proofs.Common.{◌≡◌, ◌-◌, ◌^◌, cond}
use Rattle.std.specs.Prelude.{min}
use Rattle.std.specs.List.{range_with_len}
use Rattle.cluster_rules.specs.Functions.{total}
use Rattle.cluster_rules.specs.Worker.{pairs}
use Rattle.cluster_world.specs.Worlds.{world}
use Rattle.cluster_world.proofs.state.State.worker_pairs.Given as goal

abbrev pub invariant-loop-before : goal.invariant-loop-before
invariant-loop-before g l = l.total ≡ min (total (λ i. cond ((world l.self).alive i) (pairs ((world l.self).workers i)) 0) (range_with_len 1 l.before)) (2 ^ 64 - 1)
