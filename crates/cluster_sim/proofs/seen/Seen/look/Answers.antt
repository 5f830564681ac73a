use Rattle.std.proofs.Common.{ℕ, List, subst}
use Rattle.cluster_world.specs.Worlds.{world}
use Rattle.cluster_sim.specs.Seen.{IsSeen}
use Rattle.cluster_sim.proofs.seen.Seen.look.Goals as goal

pub blame_of-self-requires-clause-fresh : goal.blame_of-self-requires-clause-fresh
blame_of-self-requires-clause-fresh g c = λ κs lives k s. (c.requires.client.failed k s).1

pub returns : goal.returns
returns g c =
    subst (λ (l : List ℕ). IsSeen l ((world c.args.world.now).clients 1) (record { got = c.first_missing-self.result; failure = c.blame_of-self.result })) c.as_slice.ensures
    (record { few = c.first_missing-self.ensures.few; before = c.first_missing-self.ensures.before; there = c.first_missing-self.ensures.there; failure = c.blame_of-self.ensures })
