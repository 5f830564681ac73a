use Rattle.cluster_world.specs.Worlds.{world}
use Rattle.cluster_sim.specs.Standing.{sim_of}
use Rattle.cluster_sim.proofs.ChooseLemmas.{turn_drawn, turn_still}
use Rattle.cluster_sim.proofs.choose.turn.Goals as goal

pub returns-in-Some-clause-next : goal.returns-in-Some-clause-next
returns-in-Some-clause-next g c p words b e t = turn_drawn words (sim_of p (world c.args.world.now) c.args.standing.now b) c.args.word c.in-Some.event t e c.in-Some.ensures

pub returns-in-Some-clause-kind : goal.returns-in-Some-clause-kind
returns-in-Some-clause-kind g c d keys items = (tt, tt)

pub returns-in-None-clause-next : goal.returns-in-None-clause-next
returns-in-None-clause-next g c p words b e t = turn_still words (sim_of p (world c.args.world.now) c.args.standing.now b) c.args.word e c.in-None.ensures
