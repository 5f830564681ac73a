use Rattle.std.proofs.Common.{◌∙◌, refl, Option}
use Rattle.std.proofs.lemmas.Result.{err_from_is_err_and}
use Rattle.cluster_sim.specs.declared.ended.Ending.{Ending}
use Rattle.cluster_sim.specs.Plans.{plan_of}
use Rattle.cluster_sim.proofs.ActLemmas.{stays_none, stays_both, counts_from}
use Rattle.cluster_sim.proofs.PlayLemmas.{served_by, played_by, play_failed, drawn_play_failed, fewer_left}
use Rattle.cluster_sim.proofs.whole.play.Goals as goal

pub turns-init : goal.turns-init
turns-init g c = record { between = c.requires.between; stays = stays_none _ _; faults = refl; drawn = λ number d. d }

pub turn-requires-clause-between : goal.turn-requires-clause-between
turn-requires-clause-between g c = λ κs lives. c.turns.invariant.between

pub returns-in-Some-clause-play : goal.returns-in-Some-clause-play
returns-in-Some-clause-play g c = served_by (plan_of c.args.plan.now) c.args.wanted.now _ c.turns.world c.turn.new.world c.turns.run c.turn.new.run c.turns.invariant.between (rw c.in-Some.is at c.in_ok-next.ensures.turn)

pub returns-in-Some-clause-drawn : goal.returns-in-Some-clause-drawn
returns-in-Some-clause-drawn g c number d =
    let e = c.turns.invariant.drawn number d in
    played_by _ _ (plan_of c.args.plan.now) c.args.wanted.now number _ c.turns.world c.turn.new.world c.turns.run c.turn.new.run (rw c.in-Some.is at c.in_ok-next.ensures.turn).stayed (rw c.in-Some.is at (c.in_ok-next.ensures.drawn number e))

pub returns-in-Some-clause-stays : goal.returns-in-Some-clause-stays
returns-in-Some-clause-stays g c = stays_both _ _ _ _ c.turns.invariant.stays c.turn.ensures.stays

pub turns-preserved : goal.turns-preserved
turns-preserved g c = record {
  between = (rw c.in-None.is at c.in_ok-next.ensures.turn).between;
  stays = stays_both _ _ _ _ c.turns.invariant.stays c.turn.ensures.stays;
  faults = c.in_ok-next.ensures.faults ∙ c.turns.invariant.faults;
  drawn = λ number d. rw c.in-None.is at (c.in_ok-next.ensures.drawn number (c.turns.invariant.drawn number d));
}

pub turns-smaller : goal.turns-smaller
turns-smaller g c = fewer_left (plan_of c.args.plan.now) c.args.wanted.now c.turns.world c.turn.new.world c.turn.new.run (rw c.in-None.is at c.in_ok-next.ensures.turn)

-- where the turn failed
pub returns-in_err-next-clause-play : goal.returns-in_err-next-clause-play
returns-in_err-next-clause-play g c =
    let p = err_from_is_err_and c.from_residual.result c.from_residual.ensures.1 in
    rw (p.1, p.2) (play_failed (plan_of c.args.plan.now) c.args.wanted.now c.turns.world c.turn.new.world c.turns.run c.turn.new.run _ c.turns.invariant.between c.in_err-next.ensures.turn)

pub returns-in_err-next-clause-drawn : goal.returns-in_err-next-clause-drawn
returns-in_err-next-clause-drawn g c number d =
    let p = err_from_is_err_and c.from_residual.result c.from_residual.ensures.1 in
    let e = c.turns.invariant.drawn number d in
    rw (p.1, p.2) (drawn_play_failed _ _ (plan_of c.args.plan.now) c.args.wanted.now number c.turns.world c.turn.new.world c.turns.run c.turn.new.run _ c.turn.ensures.stays c.in_err-next.ensures.turn (c.in_err-next.ensures.drawn number e))

pub returns-in_err-next-clause-faults : goal.returns-in_err-next-clause-faults
returns-in_err-next-clause-faults g c =
    let p = err_from_is_err_and c.from_residual.result c.from_residual.ensures.1 in
    rw (p.1, p.2) (counts_from (Option Ending) Ending c.in_err-next.field-0.0 _ _ _ c.turns.invariant.faults c.in_err-next.ensures.faults)

pub returns-in_err-next-clause-stays : goal.returns-in_err-next-clause-stays
returns-in_err-next-clause-stays g c = stays_both _ _ _ _ c.turns.invariant.stays c.turn.ensures.stays

pub returns-in-Some-clause-faults : goal.returns-in-Some-clause-faults
returns-in-Some-clause-faults g c = c.in_ok-next.ensures.faults ∙ c.turns.invariant.faults
