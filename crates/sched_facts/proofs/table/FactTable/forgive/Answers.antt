use Rattle.std.proofs.Common.{◌<◌, false, cond, subst, sym, ap, ◌∙◌}
use Rattle.small_facts.proofs.Numbers.{unequal_past}
use Rattle.cluster_rules.specs.Functions.{put}
use Rattle.cluster_rules.specs.Sched.{Facts, keys}
use Rattle.sched_facts.specs.Stored.{Stored, facts_of}
use Rattle.sched_facts.proofs.Keeping.{keep-losses}
use Rattle.sched_facts.proofs.table.FactTable.forgive.Goals as goal

pub invariant_of-self : goal.invariant_of-self
invariant_of-self c =
    let s = c.self.inside in
    let f = facts_of s.store in
    let low : c.args.key < keys f = subst (λ (z : Stored). c.args.key < keys (facts_of z)) (sym c.self.view_is) c.requires in
    keep-losses f (facts_of c.set_losses.new.self) s.store.room c.set_losses.new.self.room s.tasks s.work s.bytes s.holders s.wanters (put f.bad c.args.key false) c.args.key 0
    (c.set_losses.ensures.facts ∙ ap (λ (g : Facts). record g { losses = put g.losses c.args.key 0 }) c.set_bad.ensures.facts) (c.set_losses.ensures.room ∙ c.set_bad.ensures.room) low
    (λ j m. ap (λ b. cond b false (f.bad j)) (unequal_past j c.args.key (keys f) low m) ∙ c.self.invariant.sound.bad j m) c.self.invariant
