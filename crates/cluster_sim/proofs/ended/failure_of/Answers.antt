use Rattle.cluster_world.specs.Worlds.{world}
use Rattle.cluster_sim.proofs.EndLemmas.{erred_is, got_is, open_is}
use Rattle.cluster_sim.proofs.ended.failure_of.Goals as goal

pub returns-in-Some-Erred : goal.returns-in-Some-Erred
returns-in-Some-Erred g c = let d = (world c.args.world.now).clients 1 in erred_is (d.got c.args.key) (d.failed c.args.key) c.in-Some-Erred.blame (rw c.in-Some-Erred.field-0-is at c.in-Some-Erred.ensures.done)

pub returns-in-Some-Got : goal.returns-in-Some-Got
returns-in-Some-Got g c = let d = (world c.args.world.now).clients 1 in got_is (d.got c.args.key) (d.failed c.args.key) c.requires (rw c.in-Some-Got.field-0-is at c.in-Some-Got.ensures.done)

pub returns-in-None : goal.returns-in-None
returns-in-None g c = let d = (world c.args.world.now).clients 1 in open_is (d.got c.args.key) (d.failed c.args.key) c.in-None.ensures.done
