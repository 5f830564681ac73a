use Rattle.std.proofs.Common.{◌<◌, subst, sym}
use Rattle.cluster_rules.specs.Sched.{keys}
use Rattle.sched_facts.specs.Stored.{Stored, facts_of}
use Rattle.sched_facts.proofs.Keeping.{keep-losses}
use Rattle.sched_facts.proofs.table.FactTable.count_loss.Goals as goal

pub invariant_of-self : goal.invariant_of-self
invariant_of-self c =
    let s = c.self.inside in
    keep-losses (facts_of s.store) (facts_of c.set_losses.new.self) s.store.room c.set_losses.new.self.room s.tasks s.work s.bytes s.holders s.wanters (facts_of s.store).bad c.args.key _ c.set_losses.ensures.facts c.set_losses.ensures.room
    (subst (λ (z : Stored). c.args.key < keys (facts_of z)) (sym c.self.view_is) c.requires.key) (λ k l. c.self.invariant.sound.bad k l) c.self.invariant
