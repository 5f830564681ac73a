use Rattle.std.proofs.Common.{◌≡◌, ◌<◌, ◌+◌, true, subst, sym, ◌∙◌, arith}
use Rattle.cluster_rules.specs.Sched.{Facts, keys}
use Rattle.cluster_rules.specs.SchedTable.{sched_takes}
use Rattle.task_table.specs.Tasks.{facts}
use Rattle.cluster_laws.specs.Attempts.{AttemptsEndForACause}
use Rattle.cluster_laws.proofs.Attempts.{attempts_end}
use Rattle.scheduler_core.specs.Inner.{IsAfter}
use Rattle.scheduler_core.proofs.AfterLemmas.{after_more, losses_left, room_left, sent_left}
use Rattle.scheduler_core.proofs.sched.Sched.on.Goals as goal

pub carry_out-requires-clause-room : goal.carry_out-requires-clause-room
carry_out-requires-clause-room c =
    let f = facts c.self.inside.table in
    let l : c.self.inside.taken < 1099511627776 = omega (arith, c.if-self-ge-EVENT_LIMIT.false) in
    room_left f.counter (keys f) c.self.inside.taken (c.self.invariant.after c.if-self.false).counter c.sound.ensures.shape.few l

pub carry_out-requires-clause-sent : goal.carry_out-requires-clause-sent
carry_out-requires-clause-sent c w =
    let f = facts c.self.inside.table in
    let l : c.self.inside.taken < 1099511627776 = omega (arith, c.if-self-ge-EVENT_LIMIT.false) in
    sent_left (f.sent w) c.self.inside.taken ((c.self.invariant.after c.if-self.false).sent w) l

pub carry_out-requires-clause-losses : goal.carry_out-requires-clause-losses
carry_out-requires-clause-losses c k = losses_left (facts c.self.inside.table) c.self.inside.taken k c.sound.ensures (c.self.invariant.after c.if-self.false)

pub invariant_of-self : goal.invariant_of-self
invariant_of-self c =
    let f = facts c.self.inside.table in
    let n = c.self.inside.taken in
    let h : sched_takes f c.args.event ≡ true = sym c.takes.ensures ∙ c.if-not-takes.false in
    record {
      limit = omega (arith, c.if-self-ge-EVENT_LIMIT.false);
      after = λ e. subst (λ (z : Facts). IsAfter z (n + 1)) (sym c.in-Ok.ensures.facts) (after_more f c.args.event n c.sound.ensures h c.in-Ok.ensures.few (c.self.invariant.after c.if-self.false));
      untouched = λ e. c.in-Ok.ensures.untouched;
    }

pub returns-in-Ok-clause-attempts : goal.returns-in-Ok-clause-attempts
returns-in-Ok-clause-attempts c =
    let f = facts c.self.inside.table in
    let h : sched_takes f c.args.event ≡ true = sym c.takes.ensures ∙ c.if-not-takes.false in
    rw (← c.self.view_is) (subst (λ (z : Facts). AttemptsEndForACause f c.args.event z) (sym c.in-Ok.ensures.facts) (attempts_end f c.args.event c.sound.ensures h))
