use Rattle.std.proofs.Common.{◌∙◌, ◌++◌, ◌∷◌, [], Err, sym, ap, subst, refl}
use Rattle.std.proofs.lemmas.Bool.{true≢false}
use Rattle.std.proofs.lemmas.Result.{err_from_is_err_and}
use Rattle.cluster_world.specs.declared.errors.StepError.{StepError}
use Rattle.run_report.specs.Counts.{IsCountOf}
use Rattle.cluster_sim.proofs.ActLemmas.{not_starved, stays_none, act_is, not_fed, is_cause, counts_cause}
use Rattle.cluster_sim.proofs.act.act.Goals as goal

pub returns-in_err-count-clause-stays : goal.returns-in_err-count-clause-stays
returns-in_err-count-clause-stays g c = stays_none _ _

pub returns-in_err-count-clause-faults : goal.returns-in_err-count-clause-faults
returns-in_err-count-clause-faults g c = let p = err_from_is_err_and c.from_residual.result c.from_residual.ensures.1 in rw (p.1, p.2) refl

pub returns-in-Ok-clause-done : goal.returns-in-Ok-clause-done
returns-in-Ok-clause-done g c =
    let e = c.in-Ok.ensures in
    act_is _ _ c.args.world.now c.step.new.self c.args.event.now c.requires.going e.ready e.goes e.events e.world e.by_values e.made

pub returns-in-Ok-clause-counted : goal.returns-in-Ok-clause-counted
returns-in-Ok-clause-counted g c es short rare h =
    subst (λ m. IsCountOf c.count.new.self (es ++ (c.args.event.now, m) ∷ [])) (c.message.ensures.message (not_starved _ c.requires.going)) (c.in_ok-count.ensures.ok es short rare h)

pub returns-in-Ok-clause-stays : goal.returns-in-Ok-clause-stays
returns-in-Ok-clause-stays g c = record { job = c.step.ensures.job; setting = c.step.ensures.setting; tells = c.step.ensures.tells }

pub cause_of-requires : goal.cause_of-requires
cause_of-requires g c =
    let e = c.in-Err.ensures in
    is_cause c.in-Err.error
    (λ q. true≢false (sym c.requires.enabled ∙ (e.not_enabled.0 (ap (λ (x : StepError). Err x) q)).1))
    (λ q. not_fed _ c.requires.going (e.stopped.0 (ap (λ (x : StepError). Err x) q)))

pub returns-in-Err-clause-stays : goal.returns-in-Err-clause-stays
returns-in-Err-clause-stays g c = record { job = c.step.ensures.job; setting = c.step.ensures.setting; tells = c.step.ensures.tells }

pub returns-in-Err-clause-faults : goal.returns-in-Err-clause-faults
returns-in-Err-clause-faults g c =
    let e = c.in-Err.ensures in
    let k = is_cause c.in-Err.error
    (λ q. true≢false (sym c.requires.enabled ∙ (e.not_enabled.0 (ap (λ (x : StepError). Err x) q)).1))
    (λ q. not_fed _ c.requires.going (e.stopped.0 (ap (λ (x : StepError). Err x) q))) in
    rw c.cause_of.ensures (counts_cause (Unit {0}) (Unit {0}) c.in-Err.error _ _ k e.faults)
