use Rattle.std.proofs.Common.{◌<◌, sym, subst, arith}
use Rattle.cluster_msgs.specs.Shape.{Shape, key_count}
use Rattle.cluster_world.specs.Worlds.{world}
use Rattle.cluster_sim.specs.Plans.{plan_of}
use Rattle.cluster_sim.specs.Standing.{sim_of}
use Rattle.cluster_sim.proofs.ChooseLemmas.{next_over, next_on}
use Rattle.cluster_sim.proofs.choose.choose.Goals as goal

pub returns-in-Some-clause-next : goal.returns-in-Some-clause-next
returns-in-Some-clause-next g c words b e t = next_over words (plan_of c.args.plan.now) (sim_of (plan_of c.args.plan.now) (world c.args.world.now) c.args.standing.now b) c.in-Some.end.failure (c.in-Some.ensures ((world c.args.world.now).clients 1) c.requires.seen c.requires.standing.client (λ k q. subst (λ (x : Shape). k < key_count x) (sym c.requires.standing.shape) (c.requires.standing.keys k q)))

pub returns-in-Some-clause-kind : goal.returns-in-Some-clause-kind
returns-in-Some-clause-kind g c = sym (c.in-Some.ensures ((world c.args.world.now).clients 1) c.requires.seen c.requires.standing.client (λ k q. subst (λ (x : Shape). k < key_count x) (sym c.requires.standing.shape) (c.requires.standing.keys k q)))

pub go_on-requires-clause-passed : goal.go_on-requires-clause-passed
go_on-requires-clause-passed g c = λ κs lives. c.requires.standing.passed

pub go_on-requires-clause-threads : goal.go_on-requires-clause-threads
go_on-requires-clause-threads g c = λ κs lives. c.requires.plan.threads

pub go_on-requires-clause-numbers : goal.go_on-requires-clause-numbers
go_on-requires-clause-numbers g c = λ κs lives. let n = c.requires.standing.joins in omega (arith, n)

pub returns-in-None-clause-next : goal.returns-in-None-clause-next
returns-in-None-clause-next g c words b e t = next_on words (plan_of c.args.plan.now) (sim_of (plan_of c.args.plan.now) (world c.args.world.now) c.args.standing.now b) _ (c.in-None.ensures ((world c.args.world.now).clients 1) c.requires.seen c.requires.standing.client (λ k q. subst (λ (x : Shape). k < key_count x) (sym c.requires.standing.shape) (c.requires.standing.keys k q))) (c.go_on.ensures.next words b e t)

pub returns-in-None-clause-kind : goal.returns-in-None-clause-kind
returns-in-None-clause-kind g c = c.go_on.ensures.kind ((world c.args.world.now).clients 1)
