use Rattle.std.proofs.Common.{Err, ◌≡◌, ◌≤◌, ◌++◌, ◌∷◌, [], true, length, take, ◌∙◌, sym, ap, refl, subst, arith}
use Rattle.std.proofs.lemmas.Result.{err_from_is_err_and}
use Rattle.cluster_rules.specs.Enabled.{message}
use Rattle.cluster_rules.specs.Draw.{Over, Spent, Served, OutOfTurns}
use Rattle.cluster_world.specs.Worlds.{world}
use Rattle.run_report.specs.Counts.{IsCountOf}
use Rattle.run_report.specs.declared.tally.Tally.{Tally}
use Rattle.cluster_sim.specs.declared.act.SimError.{SimError}
use Rattle.cluster_sim.specs.Plans.{plan_of}
use Rattle.cluster_sim.specs.Seen.{tells_failure}
use Rattle.cluster_sim.specs.declared.seen.Seen.{Seen}
use Rattle.std.specs.List.{list_all}
use Rattle.cluster_sim.proofs.ActLemmas.{stays_none, not_starved}
use Rattle.cluster_sim.proofs.TurnLemmas.{can_pass}
use Rattle.cluster_sim.proofs.TurnRecords.{chosen_comes, full_there, event_drawn, stands_then, seen_then, has_gone, has_drawn, turn_there, stuck_here}
use Rattle.cluster_sim.proofs.PlayLemmas.{turn_failed, drawn_failed, ends_by}
use Rattle.cluster_sim.proofs.turn.turn.Goals as goal

pub choose-requires-clause-going : goal.choose-requires-clause-going
choose-requires-clause-going g c = λ κs lives. c.requires.between.going

pub choose-requires-clause-standing : goal.choose-requires-clause-standing
choose-requires-clause-standing g c = λ κs lives. c.requires.between.standing

pub returns-in-Over-clause-turn : goal.returns-in-Over-clause-turn
returns-in-Over-clause-turn g c = record { stayed = record { world = refl; run = refl }; over = c.in-Over.ensures.kind }

pub returns-in-Over-clause-drawn : goal.returns-in-Over-clause-drawn
returns-in-Over-clause-drawn g c number d =
    ends_by _ _ (plan_of c.args.plan.now) c.args.wanted.now number c.word-word.result (Served c.args.run.now.standing.turns c.in-Over.failure) (Over c.in-Over.failure) c.args.world.now c.args.run.now d (turn_there _ _ (plan_of c.args.plan.now) c.args.wanted.now number c.args.world.now c.args.run.now d)
    (sym c.word-word.ensures) c.in-Over.ensures.next refl

pub returns-in-Over-clause-stays : goal.returns-in-Over-clause-stays
returns-in-Over-clause-stays g c = stays_none _ _

pub returns-in-Still-clause-turn : goal.returns-in-Still-clause-turn
returns-in-Still-clause-turn g c = record {
  stayed = record { world = refl; run = refl };
  stuck = stuck_here (plan_of c.args.plan.now) c.word-word.result (world c.args.world.now) c.args.run.now.standing c.in-Still.ensures.next;
}

pub returns-in-Still-clause-drawn : goal.returns-in-Still-clause-drawn
returns-in-Still-clause-drawn g c number d =
    ends_by _ _ (plan_of c.args.plan.now) c.args.wanted.now number c.word-word.result OutOfTurns Spent c.args.world.now c.args.run.now d (turn_there _ _ (plan_of c.args.plan.now) c.args.wanted.now number c.args.world.now c.args.run.now d)
    (sym c.word-word.ensures) c.in-Still.ensures.next refl

pub returns-in-Still-clause-stays : goal.returns-in-Still-clause-stays
returns-in-Still-clause-stays g c = stays_none _ _

pub choose-requires-clause-seen : goal.choose-requires-clause-seen
choose-requires-clause-seen g c = λ κs lives. c.requires.between.seen

pub act-requires-clause-going : goal.act-requires-clause-going
act-requires-clause-going g c = λ κs lives. c.requires.between.going

pub act-requires-clause-enabled : goal.act-requires-clause-enabled
act-requires-clause-enabled g c = λ κs lives.
    (chosen_comes (plan_of c.args.plan.now) c.args.wanted.now c.args.world.now c.args.run.now c.in-Make.event c.in-Make.kind c.word-word.result
    (record { plan = c.requires.plan; between = c.requires.between; next = c.in-Make.ensures.next; own = c.in-Make.ensures.kind.0; some = c.in-Make.ensures.kind.1 })).enabled

pub returns-in_err-act-in-Make-clause-turn : goal.returns-in_err-act-in-Make-clause-turn
returns-in_err-act-in-Make-clause-turn g c =
    let p = err_from_is_err_and c.from_residual.result c.from_residual.ensures.1 in
    rw (p.1, p.2) (turn_failed (plan_of c.args.plan.now) c.args.wanted.now c.args.world.now c.act.new.world c.args.run.now _ _ (λ q. c.in_err-act-in-Make.ensures.stuck (ap (λ (x : SimError). Err x) q))
    (λ q. full_there (plan_of c.args.plan.now) c.args.wanted.now c.args.world.now c.act.new.world c.args.run.now c.in-Make.event c.in-Make.kind c.word-word.result
    (record { plan = c.requires.plan; between = c.requires.between; next = c.in-Make.ensures.next; own = c.in-Make.ensures.kind.0; some = c.in-Make.ensures.kind.1 })
    (c.in_err-act-in-Make.ensures.spent_stays (ap (λ (x : SimError). Err x) q)) (c.in_err-act-in-Make.ensures.spent (ap (λ (x : SimError). Err x) q))))

pub returns-in_err-act-in-Make-clause-drawn : goal.returns-in_err-act-in-Make-clause-drawn
returns-in_err-act-in-Make-clause-drawn g c number d =
    let p = err_from_is_err_and c.from_residual.result c.from_residual.ensures.1 in
    rw (p.1, p.2) (drawn_failed g.J.JobSpec.operation g.J.JobSpec.feed_tells (plan_of c.args.plan.now) c.args.wanted.now number c.args.world.now c.act.new.world c.args.run.now c.args.run.now _ c.in-Make.event d
    (event_drawn (plan_of c.args.plan.now) c.args.wanted.now number d.budget c.args.world.now c.args.run.now c.in-Make.event c.in-Make.kind c.word-word.result
    (record { plan = c.requires.plan; between = c.requires.between; next = c.in-Make.ensures.next; own = c.in-Make.ensures.kind.0; some = c.in-Make.ensures.kind.1 }) (sym c.word-word.ensures)
    (turn_there _ _ (plan_of c.args.plan.now) c.args.wanted.now number c.args.world.now c.args.run.now d) d.words)
    (λ q. c.in_err-act-in-Make.ensures.stuck (ap (λ (x : SimError). Err x) q)) (λ q. c.in_err-act-in-Make.ensures.spent_before (ap (λ (x : SimError). Err x) q)))

pub go_on-requires : goal.go_on-requires
go_on-requires g c =
    let t = c.requires.between.turns in
    let r = c.in_ok-act-in-Make.ensures.done.room in
    can_pass _ _ c.args.run.now.standing c.in-Make.kind c.in-Make.ensures.kind.1 (omega (arith, t, r))

pub look-requires-clause-few : goal.look-requires-clause-few
look-requires-clause-few g c = λ κs lives. subst (λ (s : Seen). s.got ≤ length c.args.wanted.now) (sym c.go_on.ensures.seen) c.requires.between.seen.few

pub look-requires-clause-before : goal.look-requires-clause-before
look-requires-clause-before g c = λ κs lives. subst (λ (s : Seen). list_all ((world c.act.new.world).clients 1).got (take s.got c.args.wanted.now) ≡ true) (sym c.go_on.ensures.seen)
    (seen_then _ _ (plan_of c.args.plan.now) c.args.wanted.now c.args.world.now c.act.new.world c.args.run.now c.in-Make.event c.in-Make.kind c.word-word.result
    (record { plan = c.requires.plan; between = c.requires.between; next = c.in-Make.ensures.next; own = c.in-Make.ensures.kind.0; some = c.in-Make.ensures.kind.1 })
    c.in_ok-act-in-Make.ensures.done).before

pub look-requires-clause-silent : goal.look-requires-clause-silent
look-requires-clause-silent g c = λ κs lives t.
    (seen_then _ _ (plan_of c.args.plan.now) c.args.wanted.now c.args.world.now c.act.new.world c.args.run.now c.in-Make.event c.in-Make.kind c.word-word.result
    (record { plan = c.requires.plan; between = c.requires.between; next = c.in-Make.ensures.next; own = c.in-Make.ensures.kind.0; some = c.in-Make.ensures.kind.1 })
    c.in_ok-act-in-Make.ensures.done).silent (sym (ap tells_failure (c.message.ensures.message (not_starved _ c.requires.between.going))) ∙ sym c.tells_failure-told.ensures ∙ t)

pub look-requires-clause-client : goal.look-requires-clause-client
look-requires-clause-client g c = λ κs lives.
    (stands_then _ _ (plan_of c.args.plan.now) c.args.wanted.now c.args.world.now c.act.new.world c.args.run.now c.in-Make.event c.in-Make.kind c.word-word.result
    (record { plan = c.requires.plan; between = c.requires.between; next = c.in-Make.ensures.next; own = c.in-Make.ensures.kind.0; some = c.in-Make.ensures.kind.1 })
    c.in_ok-act-in-Make.ensures.done).client

pub look-requires-clause-shape : goal.look-requires-clause-shape
look-requires-clause-shape g c = λ κs lives.
    (stands_then _ _ (plan_of c.args.plan.now) c.args.wanted.now c.args.world.now c.act.new.world c.args.run.now c.in-Make.event c.in-Make.kind c.word-word.result
    (record { plan = c.requires.plan; between = c.requires.between; next = c.in-Make.ensures.next; own = c.in-Make.ensures.kind.0; some = c.in-Make.ensures.kind.1 })
    c.in_ok-act-in-Make.ensures.done).shape

pub returns-in_ok-act-in-Make-clause-turn : goal.returns-in_ok-act-in-Make-clause-turn
returns-in_ok-act-in-Make-clause-turn g c =
    has_gone g.J.JobSpec.operation g.J.JobSpec.feed_tells (plan_of c.args.plan.now) c.args.wanted.now c.args.world.now c.act.new.world c.args.run.now _ c.in-Make.event c.in-Make.kind c.word-word.result
    (record { plan = c.requires.plan; between = c.requires.between; next = c.in-Make.ensures.next; own = c.in-Make.ensures.kind.0; some = c.in-Make.ensures.kind.1 })
    c.in_ok-act-in-Make.ensures.done c.act.ensures.stays.setting c.go_on.ensures.standing c.look.ensures

pub returns-in_ok-act-in-Make-clause-drawn : goal.returns-in_ok-act-in-Make-clause-drawn
returns-in_ok-act-in-Make-clause-drawn g c number d =
    has_drawn g.J.JobSpec.operation g.J.JobSpec.feed_tells (plan_of c.args.plan.now) c.args.wanted.now number c.args.world.now c.act.new.world c.args.run.now _ c.in-Make.event c.in-Make.kind c.word-word.result
    (record { plan = c.requires.plan; between = c.requires.between; next = c.in-Make.ensures.next; own = c.in-Make.ensures.kind.0; some = c.in-Make.ensures.kind.1 })
    c.in_ok-act-in-Make.ensures.done c.act.ensures.stays (sym c.word-word.ensures) c.go_on.ensures.standing (c.go_on.ensures.words number)
    (λ ts short rare h. subst (λ (t : Tally). IsCountOf t (ts ++ (c.in-Make.event, message (world c.args.world.now) c.in-Make.event) ∷ [])) (sym c.go_on.ensures.tally) (c.in_ok-act-in-Make.ensures.counted ts short rare h))
    d (turn_there _ _ (plan_of c.args.plan.now) c.args.wanted.now number c.args.world.now c.args.run.now d)

pub returns-in_ok-act-in-Make-clause-stays : goal.returns-in_ok-act-in-Make-clause-stays
returns-in_ok-act-in-Make-clause-stays g c = c.act.ensures.stays
