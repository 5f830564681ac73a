use Rattle.cluster_world.proofs.Stepwise.{step_stopped, step_starved}
use Rattle.cluster_world.proofs.step.take.Goals as goal

pub returns-in-Fed : goal.returns-in-Fed
returns-in-Fed g c =
    record { step = step_stopped g.J.JobSpec.operation g.J.JobSpec.feed_tells g.J.JobSpec.fault_count c.args.e.now c.args.state.now c.in-Fed.is; world = c.requires.world }

pub returns-in-Starved : goal.returns-in-Starved
returns-in-Starved g c =
    record { step = step_starved g.J.JobSpec.operation g.J.JobSpec.feed_tells g.J.JobSpec.fault_count c.args.e.now c.args.state.now c.in-Starved.is; world = c.requires.world }

pub take_going-requires-clause-world : goal.take_going-requires-clause-world
take_going-requires-clause-world g c = λ κs lives. c.requires.world

pub take_going-requires-clause-going : goal.take_going-requires-clause-going
take_going-requires-clause-going g c = λ κs lives. c.in-Going.is

pub returns-in-Going : goal.returns-in-Going
returns-in-Going g c =
    c.take_going.ensures
