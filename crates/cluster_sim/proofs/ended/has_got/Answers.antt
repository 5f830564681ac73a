use Rattle.cluster_world.specs.Worlds.{world}
use Rattle.cluster_sim.proofs.EndLemmas.{got_true, not_got_erred, not_got_none}
use Rattle.cluster_sim.proofs.ended.has_got.Goals as goal

pub returns-in-Some-Got : goal.returns-in-Some-Got
returns-in-Some-Got g c = let d = (world c.args.world.now).clients 1 in got_true (d.got c.args.key) (d.failed c.args.key) (rw c.in-Some-Got.field-0-is at c.in-Some-Got.ensures.done)

pub returns-in-Some-Erred : goal.returns-in-Some-Erred
returns-in-Some-Erred g c = let d = (world c.args.world.now).clients 1 in not_got_erred (d.got c.args.key) (d.failed c.args.key) _ (rw c.in-Some-Erred.field-0-is at c.in-Some-Erred.ensures.done)

pub returns-in-None : goal.returns-in-None
returns-in-None g c = let d = (world c.args.world.now).clients 1 in not_got_none (d.got c.args.key) (d.failed c.args.key) c.in-None.ensures.done
