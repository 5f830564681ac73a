use Rattle.std.proofs.Common.{◌≡◌, drop}
use Rattle.cluster_rules.specs.Draw.{scripted}
use Rattle.cluster_world.specs.Worlds.{world}
use Rattle.cluster_sim.proofs.script.next_item.Given as goal

abbrev pub invariant-loop-at : goal.invariant-loop-at
invariant-loop-at g l = scripted l.plan.threads (world l.world) (drop l.passed l.script) ≡ scripted l.plan.threads (world l.world) (drop l.at l.script)
