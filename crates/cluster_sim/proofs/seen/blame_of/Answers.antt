use Rattle.std.proofs.Common.{refl}
use Rattle.cluster_world.specs.Worlds.{world}
use Rattle.cluster_sim.proofs.EndLemmas.{least_none}
use Rattle.cluster_sim.proofs.seen.blame_of.Goals as goal

pub returns-else-told : goal.returns-else-told
returns-else-told g c = least_none ((world c.args.world.now).clients 1) _ refl (λ k u. c.requires.silent c.if-told.false k)
