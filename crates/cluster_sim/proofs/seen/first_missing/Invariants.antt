use Rattle.std.proofs.Common.{◌≡◌, true, take}
use Rattle.std.specs.List.{list_all}
use Rattle.cluster_world.specs.Worlds.{world}
use Rattle.cluster_sim.proofs.seen.first_missing.Given as goal

abbrev pub invariant-loop-place : goal.invariant-loop-place
invariant-loop-place g l = list_all ((world l.world).clients 1).got (take l.place l.keys) ≡ true
