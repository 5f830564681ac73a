use Rattle.std.proofs.Common.{◌<◌, subst, sym}
use Rattle.cluster_rules.specs.Sched.{keys}
use Rattle.sched_facts.specs.Stored.{Stored, facts_of}
use Rattle.sched_facts.proofs.Keeping.{keep-bad}
use Rattle.sched_facts.proofs.table.FactTable.set_bad.Goals as goal

pub invariant_of-self : goal.invariant_of-self
invariant_of-self c =
    let s = c.self.inside in
    keep-bad (facts_of s.store) (facts_of c.set_bad.new.self) s.store.room c.set_bad.new.self.room s.tasks s.work s.bytes s.holders s.wanters c.args.key c.args.to c.set_bad.ensures.facts c.set_bad.ensures.room
    (subst (λ (z : Stored). c.args.key < keys (facts_of z)) (sym c.self.view_is) c.requires) c.self.invariant
