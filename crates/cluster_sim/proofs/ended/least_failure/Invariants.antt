use Rattle.std.proofs.Common.{◌≡◌, ℕ, ◌<◌, None}
use Rattle.cluster_world.specs.Worlds.{world}
use Rattle.cluster_sim.proofs.ended.least_failure.Given as goal

abbrev pub invariant-loop-key : goal.invariant-loop-key
invariant-loop-key g l = (k : ℕ) → k < l.key → ((world l.world).clients 1).failed k ≡ None
