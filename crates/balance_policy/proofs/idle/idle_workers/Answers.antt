use Rattle.std.proofs.Common.{◌≡◌, ap, ◌∙◌, arith}
use Rattle.balance_policy.proofs.Idling.{idle_of, room, taken, passed}
use Rattle.balance_policy.proofs.idle.idle_workers.Goals as goal
use Rattle.balance_policy.proofs.idle.idle_workers.Goals.{then-may_take, else-may_take}

pub push-requires : goal.push-requires
push-requires g c = (omega arith, room (g.F.Facts.facts c.args.facts.now) c.sound.ensures c.loop-before.before c.may_take.result c.loop-before.idle.items (omega (arith, c.last_worker-before-end.ensures)) c.loop-before.invariant c.may_take.ensures c.if-may_take.true)

pub loop-before-preserved : goal.loop-before-preserved
loop-before-preserved g c = elim c.if-may_take.branch [
  | then-may_take w ↦ taken (g.F.Facts.facts c.args.facts.now) c.loop-before.before c.may_take.result c.loop-before.idle.items c.if-may_take.idle.items c.loop-before.invariant c.may_take.ensures w.if-may_take.true (ap (λ v. v.items) w.idle-is ∙ w.push.ensures.items)
  | else-may_take w ↦ ap (λ v. v.items) w.idle-is ∙ passed (g.F.Facts.facts c.args.facts.now) c.loop-before.before c.may_take.result c.loop-before.idle.items c.loop-before.invariant c.may_take.ensures w.if-may_take.false
]

pub returns : goal.returns
returns g c =
    let e : c.loop-before.before ≡ (g.F.Facts.facts c.args.facts.now).last_worker = omega (arith, c.loop-before-test.false, c.loop-before.auto, c.last_worker-before-end.ensures) in
    c.loop-before.invariant ∙ ap (idle_of (g.F.Facts.facts c.args.facts.now)) e
