use Rattle.std.proofs.Common.{Err, ◌<◌, ◌∙◌, refl, sym, ap, subst, arith}
use Rattle.cluster_msgs.specs.Shape.{IsShape, Shape, key_count}
use Rattle.cluster_world.specs.Worlds.{world, setting}
use Rattle.cluster_sim.specs.declared.act.SimError.{SimError}
use Rattle.cluster_sim.specs.declared.ended.Ending.{Ending}
use Rattle.cluster_sim.specs.declared.whole.SimEnd.{SimEnd}
use Rattle.cluster_sim.specs.Plans.{plan_of}
use Rattle.std.proofs.lemmas.Result.{err_from_is_err_and}
use Rattle.cluster_sim.proofs.ActLemmas.{setting-world, stays_both, counts_as, counts_from}
use Rattle.cluster_sim.proofs.PlayLemmas.{spent_play, stuck_play, cut_play, unfinished_play, same_error}
use Rattle.cluster_sim.proofs.SimulateLemmas.{served_is}
use Rattle.cluster_sim.proofs.FaultLemmas.{bounded, key_is, no_fault}
use Rattle.cluster_sim.proofs.LedLemmas.{few_losses}
use Rattle.cluster_sim.proofs.RemovalLemmas.{few_removed}
use Rattle.cluster_sim.proofs.SimulateRecords.{halted_alone, opened_between, opened_drawn, reported, deserted_by, unfinished_by, blamed_by}
use Rattle.cluster_sim.proofs.whole.simulate.Goals as goal

pub play-requires-clause-between : goal.play-requires-clause-between
play-requires-clause-between g c = λ κs lives.
    opened_between _ _ (plan_of c.args.plan.now) c.args.wanted.now c.args.world.now c.make_opening.new.world _ c.requires.opening (subst IsShape c.shape.ensures.setting c.sound.ensures) c.requires.plan c.requires.wanted
    c.in_ok-make_opening.ensures.opened c.make_opening.ensures.stays c.new.ensures c.look.ensures

pub look-requires-clause-few : goal.look-requires-clause-few
look-requires-clause-few g c = λ κs lives. omega arith

pub look-requires-clause-before : goal.look-requires-clause-before
look-requires-clause-before g c = λ κs lives. refl

pub look-requires-clause-silent : goal.look-requires-clause-silent
look-requires-clause-silent g c = λ κs lives t. c.in_ok-make_opening.ensures.opened.opened.fresh

pub look-requires-clause-client : goal.look-requires-clause-client
look-requires-clause-client g c = λ κs lives. c.in_ok-make_opening.ensures.opened.opened.client

pub look-requires-clause-shape : goal.look-requires-clause-shape
look-requires-clause-shape g c = λ κs lives. c.in_ok-make_opening.ensures.opened.opened.shape

pub returns-clause-served : goal.returns-clause-served
returns-clause-served g c told =
    let d = opened_drawn _ _ (plan_of c.args.plan.now) c.args.wanted.now c.args.number c.args.world.now c.make_opening.new.world _ c.requires.opening (subst IsShape c.shape.ensures.setting c.sound.ensures) c.in_ok-make_opening.ensures.opened c.make_opening.ensures.stays c.new.ensures c.new-2.ensures told in
    rw (c.fault_of-fault.ensures, ← key_is (world c.play.new.world) c.in_ok-end.end.failure) (reported _ _ (plan_of c.args.plan.now) c.args.wanted.now c.args.number _ c.args.world.now c.play.new.world c.play.new.run c.in_ok-report.report c.shape-2.result.now
    (stays_both _ _ _ _ c.make_opening.ensures.stays c.play.ensures.stays) c.shape-2.ensures.setting c.in_ok-report.ensures c.is_safe.ensures.events (c.in_ok-end.ensures.drawn c.args.number d))

pub returns-clause-all : goal.returns-clause-all
returns-clause-all g c =
    let s = c.in_ok-end.ensures.play in
    let w = world c.play.new.world in
    let h = served_is w c.args.wanted.now c.in_ok-end.end.failure s.between.standing.client (λ k q. subst (λ (x : Shape). k < key_count x) (sym s.between.standing.shape) (s.between.standing.keys k q)) s.over in
    let n = no_fault w c.in_ok-end.end.failure in
    rw c.fault_of-fault.ensures ((λ e. h.0 (n.0 e)), (λ all. n.1 (h.1 all)))

pub returns-clause-blame : goal.returns-clause-blame
returns-clause-blame g c told es h =
    rw c.fault_of-fault.ensures (blamed_by g.J.JobSpec.operation g.J.JobSpec.feed_tells (plan_of c.args.plan.now) c.args.wanted.now c.args.number _ c.in_ok-end.end.failure c.args.world.now c.play.new.world c.play.new.run (subst IsShape c.shape.ensures.setting c.sound.ensures)
    (stays_both _ _ _ _ c.make_opening.ensures.stays c.play.ensures.stays) c.in_ok-end.ensures.play c.is_safe.ensures.losses es h)

pub returns-clause-bounded : goal.returns-clause-bounded
returns-clause-bounded g c =
    let new = c.play.new.world in
    let stays = stays_both _ _ _ _ c.make_opening.ensures.stays c.play.ensures.stays in
    let led = c.in_ok-end.ensures.play.between.led in
    rw c.fault_of-fault.ensures (bounded (world new) (setting c.args.world.now) (plan_of c.args.plan.now).script c.in_ok-end.end.failure (setting-world new ∙ stays.setting)
    (few_losses (setting new) (plan_of c.args.plan.now) c.args.wanted.now _ led) (few_removed (setting new) (plan_of c.args.plan.now) c.args.wanted.now _ led))

pub returns-clause-stays : goal.returns-clause-stays
returns-clause-stays g c = stays_both _ _ _ _ c.make_opening.ensures.stays c.play.ensures.stays

-- where the opening failed
pub returns-in_err-make_opening-clause-faults : goal.returns-in_err-make_opening-clause-faults
returns-in_err-make_opening-clause-faults g c =
    let p = err_from_is_err_and c.from_residual.result c.from_residual.ensures.1 in
    rw (p.1, p.2) (counts_as (Unit {0}) SimEnd c.in_err-make_opening.field-0.0 _ _ c.in_err-make_opening.ensures.faults)

pub returns-in_err-make_opening-clause-spent : goal.returns-in_err-make_opening-clause-spent
returns-in_err-make_opening-clause-spent g c q =
    let p = err_from_is_err_and c.from_residual.result c.from_residual.ensures.1 in
    absurd (c.in_err-make_opening.ensures.spent (ap (λ (x : SimError). Err x) (sym p.2 ∙ same_error _ _ (sym p.1 ∙ q))))

pub returns-in_err-make_opening-clause-stuck : goal.returns-in_err-make_opening-clause-stuck
returns-in_err-make_opening-clause-stuck g c q =
    let p = err_from_is_err_and c.from_residual.result c.from_residual.ensures.1 in
    absurd (c.in_err-make_opening.ensures.stuck (ap (λ (x : SimError). Err x) (sym p.2 ∙ same_error _ _ (sym p.1 ∙ q))))

pub returns-in_err-make_opening-clause-spent_waits : goal.returns-in_err-make_opening-clause-spent_waits
returns-in_err-make_opening-clause-spent_waits g c q =
    let p = err_from_is_err_and c.from_residual.result c.from_residual.ensures.1 in
    absurd (c.in_err-make_opening.ensures.spent (ap (λ (x : SimError). Err x) (sym p.2 ∙ same_error _ _ (sym p.1 ∙ q))))

pub returns-in_err-make_opening-clause-cut_off : goal.returns-in_err-make_opening-clause-cut_off
returns-in_err-make_opening-clause-cut_off g c q told =
    let p = err_from_is_err_and c.from_residual.result c.from_residual.ensures.1 in
    absurd (c.in_err-make_opening.ensures.spent (ap (λ (x : SimError). Err x) (sym p.2 ∙ same_error _ _ (sym p.1 ∙ q))))

pub returns-in_err-make_opening-clause-deserted : goal.returns-in_err-make_opening-clause-deserted
returns-in_err-make_opening-clause-deserted g c q told =
    let p = err_from_is_err_and c.from_residual.result c.from_residual.ensures.1 in
    absurd (c.in_err-make_opening.ensures.stuck (ap (λ (x : SimError). Err x) (sym p.2 ∙ same_error _ _ (sym p.1 ∙ q))))

-- where the play failed
pub returns-in_err-end-clause-faults : goal.returns-in_err-end-clause-faults
returns-in_err-end-clause-faults g c =
    let p = err_from_is_err_and c.from_residual-in_err-end.result c.from_residual-in_err-end.ensures.1 in
    rw (p.1, p.2) (counts_from Ending SimEnd c.in_err-end.field-0.0 _ _ _ c.in_ok-make_opening.ensures.faults c.in_err-end.ensures.faults)

pub returns-in_err-end-clause-spent : goal.returns-in_err-end-clause-spent
returns-in_err-end-clause-spent g c q =
    let p = err_from_is_err_and c.from_residual-in_err-end.result c.from_residual-in_err-end.ensures.1 in
    (spent_play (plan_of c.args.plan.now) c.args.wanted.now c.play.new.world c.play.new.run _ (sym p.2 ∙ same_error _ _ (sym p.1 ∙ q)) c.in_err-end.ensures.play).events

pub returns-in_err-end-clause-spent_waits : goal.returns-in_err-end-clause-spent_waits
returns-in_err-end-clause-spent_waits g c q =
    let p = err_from_is_err_and c.from_residual-in_err-end.result c.from_residual-in_err-end.ensures.1 in
    (spent_play (plan_of c.args.plan.now) c.args.wanted.now c.play.new.world c.play.new.run _ (sym p.2 ∙ same_error _ _ (sym p.1 ∙ q)) c.in_err-end.ensures.play).waits

pub returns-in_err-end-clause-stuck : goal.returns-in_err-end-clause-stuck
returns-in_err-end-clause-stuck g c q =
    let p = err_from_is_err_and c.from_residual-in_err-end.result c.from_residual-in_err-end.ensures.1 in
    halted_alone (plan_of c.args.plan.now) c.args.wanted.now c.args.world.now c.play.new.world c.play.new.run (stays_both _ _ _ _ c.make_opening.ensures.stays c.play.ensures.stays).setting
    (stuck_play (plan_of c.args.plan.now) c.args.wanted.now c.play.new.world c.play.new.run _ (sym p.2 ∙ same_error _ _ (sym p.1 ∙ q)) c.in_err-end.ensures.play)

pub returns-in_err-end-clause-deserted : goal.returns-in_err-end-clause-deserted
returns-in_err-end-clause-deserted g c q told =
    let p = err_from_is_err_and c.from_residual-in_err-end.result c.from_residual-in_err-end.ensures.1 in
    let d = opened_drawn _ _ (plan_of c.args.plan.now) c.args.wanted.now c.args.number c.args.world.now c.make_opening.new.world _ c.requires.opening (subst IsShape c.shape.ensures.setting c.sound.ensures) c.in_ok-make_opening.ensures.opened c.make_opening.ensures.stays c.new.ensures c.new-2.ensures told in
    deserted_by _ _ (plan_of c.args.plan.now) c.args.wanted.now c.args.number c.args.world.now c.play.new.world c.play.new.run
    (stays_both _ _ _ _ c.make_opening.ensures.stays c.play.ensures.stays) c.is_safe.ensures.events c.requires.opening.client
    (stuck_play (plan_of c.args.plan.now) c.args.wanted.now c.play.new.world c.play.new.run _ (sym p.2 ∙ same_error _ _ (sym p.1 ∙ q)) c.in_err-end.ensures.play).stuck
    (cut_play _ _ (plan_of c.args.plan.now) c.args.wanted.now c.args.number c.play.new.world c.play.new.run _ (sym p.2 ∙ same_error _ _ (sym p.1 ∙ q)) (c.in_err-end.ensures.drawn c.args.number d))

pub returns-in_err-end-clause-cut_off : goal.returns-in_err-end-clause-cut_off
returns-in_err-end-clause-cut_off g c q told =
    let p = err_from_is_err_and c.from_residual-in_err-end.result c.from_residual-in_err-end.ensures.1 in
    let d = opened_drawn _ _ (plan_of c.args.plan.now) c.args.wanted.now c.args.number c.args.world.now c.make_opening.new.world _ c.requires.opening (subst IsShape c.shape.ensures.setting c.sound.ensures) c.in_ok-make_opening.ensures.opened c.make_opening.ensures.stays c.new.ensures c.new-2.ensures told in
    unfinished_by _ _ (plan_of c.args.plan.now) c.args.wanted.now _ c.is_safe.ensures.events
    (unfinished_play _ _ (plan_of c.args.plan.now) c.args.wanted.now c.args.number c.args.world.now c.play.new.world c.play.new.run c.in_err-end.field-0.0 (stays_both _ _ _ _ c.make_opening.ensures.stays c.play.ensures.stays)
    (sym p.2 ∙ same_error _ _ (sym p.1 ∙ q)) (c.in_err-end.ensures.drawn c.args.number d))

pub returns-clause-going : goal.returns-clause-going
returns-clause-going g c = c.in_ok-end.ensures.play.between.going

pub returns-clause-made : goal.returns-clause-made
returns-clause-made g c told =
    let d = opened_drawn _ _ (plan_of c.args.plan.now) c.args.wanted.now c.args.number c.args.world.now c.make_opening.new.world _ c.requires.opening (subst IsShape c.shape.ensures.setting c.sound.ensures) c.in_ok-make_opening.ensures.opened c.make_opening.ensures.stays c.new.ensures c.new-2.ensures told in
    let h = (c.in_ok-end.ensures.drawn c.args.number d).drawn.course in
    record { events = _; made = h.all.made }

pub returns-in_err-end-clause-stays : goal.returns-in_err-end-clause-stays
returns-in_err-end-clause-stays g c = stays_both _ _ _ _ c.make_opening.ensures.stays c.play.ensures.stays

pub returns-in_err-report-clause-stays : goal.returns-in_err-report-clause-stays
returns-in_err-report-clause-stays g c = stays_both _ _ _ _ c.make_opening.ensures.stays c.play.ensures.stays

pub returns-clause-faults : goal.returns-clause-faults
returns-clause-faults g c = c.in_ok-end.ensures.faults ∙ c.in_ok-make_opening.ensures.faults
