use Rattle.std.proofs.Common.{None, sym, ap, subst}
use Rattle.std.proofs.lemmas.Option.{none-some}
use Rattle.cluster_world.proofs.Acting as acting
use Rattle.cluster_world.specs.Outcomes.{IsUnended}
use Rattle.cluster_world.proofs.Finishing as finishing
use Rattle.cluster_world.proofs.events.carry.Goals as goal

pub act-requires : goal.act-requires
act-requires g c =
    record { joint = c.requires.whole.joint; carried = c.requires.whole.stocked.answers; possible = c.requires.possible; room = c.requires.room; unended = c.requires.unended }

pub returns-in_err-act : goal.returns-in_err-act
returns-in_err-act g c =
    let k = c.act.ensures.kept in record { performed = acting.exits _ _ c.from_residual.result c.from_residual.ensures.1; same = k.same; fits = subst (λ f. g.J.JobSpec.feed_fits c.args.state.now.job f) (sym k.feed) c.requires.feed; tells = (λ t. subst (λ f. g.J.JobSpec.feed_tells c.args.state.now.job f) k.feed t, λ t. subst (λ f. g.J.JobSpec.feed_tells c.args.state.now.job f) (sym k.feed) t); faults = finishing.counts_memory _ c.from_residual.result _ _ c.from_residual.ensures.1 (ap g.J.JobSpec.fault_count k.feed); left = finishing.left_memory _ c.from_residual.result c.args.state.now _ c.from_residual.ensures.1 }

pub returns : goal.returns
returns g c =
    let k = c.act.ensures.kept in record { performed = record { outcome = None; turned = c.in_ok-act.ensures.moved; fits = λ i k b e x. absurd (none-some b x); told = λ t i k e. absurd (subst IsUnended e c.requires.unended) }; same = k.same; fits = subst (λ f. g.J.JobSpec.feed_fits c.args.state.now.job f) (sym k.feed) c.requires.feed; tells = (λ t. subst (λ f. g.J.JobSpec.feed_tells c.args.state.now.job f) k.feed t, λ t. subst (λ f. g.J.JobSpec.feed_tells c.args.state.now.job f) (sym k.feed) t); faults = ap g.J.JobSpec.fault_count k.feed; left = tt }
