use Rattle.std.proofs.Common.{◌+◌, refl, ap, subst, arith}
use Rattle.std.proofs.Common.{Err}
use Rattle.cluster_world.specs.Outcomes.{CountsPerform, FeedLeaves}
use Rattle.cluster_world.proofs.Finishing as finishing
use Rattle.cluster_world.proofs.events.advance.Goals as goal

pub perform-requires-clause-whole : goal.perform-requires-clause-whole
perform-requires-clause-whole g c = λ κs lives. c.requires.whole

pub perform-requires-clause-feed : goal.perform-requires-clause-feed
perform-requires-clause-feed g c = λ κs lives. c.requires.feed

pub perform-requires-clause-possible : goal.perform-requires-clause-possible
perform-requires-clause-possible g c = λ κs lives. c.requires.possible

pub perform-requires-clause-room : goal.perform-requires-clause-room
perform-requires-clause-room g c = λ κs lives. c.requires.room

pub returns-in-Ok : goal.returns-in-Ok
returns-in-Ok g c =
    let k = c.perform.ensures.same in let r = c.requires.room in let n = k.events in record { advances = (finishing.counted_once c.args.state.now c.perform.new.state _ (c.perform.new.state.events + 1) c.in-Ok.ensures.performed, k.course, ap (λ n. n + 1) k.events); job = k.job; clients = k.clients; setting = k.setting; few = omega (arith, n, r); fits = c.perform.ensures.fits; tells = c.perform.ensures.tells; faults = c.in-Ok.ensures.faults }

pub returns-in-Err-Feed : goal.returns-in-Err-Feed
returns-in-Err-Feed g c =
    let k = c.perform.ensures.same in let r = c.requires.room in let n = k.events in record { advances = finishing.fed_alone c.args.state.now c.perform.new.state (subst (λ x. FeedLeaves {A = Unit {0}} (Err x) c.args.state.now c.perform.new.state) c.in-Err-Feed.field-0-is c.in-Err-Feed.ensures.left); job = k.job; clients = k.clients; setting = k.setting; few = omega (arith, n, r); fits = c.perform.ensures.fits; tells = c.perform.ensures.tells; faults = subst (λ x. CountsPerform {A = Unit {0}} (Err x) (g.J.JobSpec.fault_count c.args.state.now.feed) (g.J.JobSpec.fault_count c.perform.new.state.feed)) c.in-Err-Feed.field-0-is c.in-Err-Feed.ensures.faults }

pub returns-in-Err-Memory : goal.returns-in-Err-Memory
returns-in-Err-Memory g c =
    let k = c.perform.ensures.same in let r = c.requires.room in let n = k.events in record { advances = refl; job = k.job; clients = k.clients; setting = k.setting; few = omega (arith, n, r); fits = c.perform.ensures.fits; tells = c.perform.ensures.tells; faults = subst (λ x. CountsPerform {A = Unit {0}} (Err x) (g.J.JobSpec.fault_count c.args.state.now.feed) (g.J.JobSpec.fault_count c.perform.new.state.feed)) c.in-Err-Memory.field-0-is c.in-Err-Memory.ensures.faults }
