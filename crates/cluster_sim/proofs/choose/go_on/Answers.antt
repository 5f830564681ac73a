use Rattle.std.proofs.Common.{drop}
use Rattle.cluster_world.specs.Worlds.{world}
use Rattle.cluster_sim.specs.Plans.{plan_of}
use Rattle.cluster_sim.specs.Standing.{sim_of}
use Rattle.cluster_sim.proofs.ChooseLemmas.{next_scripted, next_unscripted}
use Rattle.cluster_sim.proofs.choose.go_on.Goals as goal

pub returns-in-Some-clause-next : goal.returns-in-Some-clause-next
returns-in-Some-clause-next g c words b e t = next_scripted words (sim_of (plan_of c.args.plan.now) (world c.args.world.now) c.args.standing.now b) c.in-Some.step.event (drop c.in-Some.step.passed c.args.plan.now.script) _ c.in-Some.ensures.step

pub returns-in-Some-clause-kind : goal.returns-in-Some-clause-kind
returns-in-Some-clause-kind g c d = (tt, c.in-Some.ensures.passed)

pub returns-in-None-clause-next : goal.returns-in-None-clause-next
returns-in-None-clause-next g c words b e t = next_unscripted words (sim_of (plan_of c.args.plan.now) (world c.args.world.now) c.args.standing.now b) _ _ c.in-None.ensures.step (c.unscripted.ensures.next (plan_of c.args.plan.now) words b e t)

pub returns-in-None-clause-kind : goal.returns-in-None-clause-kind
returns-in-None-clause-kind g c d = c.unscripted.ensures.kind d _
