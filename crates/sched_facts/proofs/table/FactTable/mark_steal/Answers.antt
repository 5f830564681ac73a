use Rattle.std.proofs.Common.{◌≡◌, true, is_some, subst, sym}
use Rattle.sched_facts.specs.Stored.{Stored, facts_of}
use Rattle.sched_facts.proofs.Keeping.{keep-marked}
use Rattle.sched_facts.proofs.table.FactTable.mark_steal.Goals as goal

pub invariant_of-self : goal.invariant_of-self
invariant_of-self c =
    let s = c.self.inside in
    keep-marked (facts_of s.store) (facts_of c.set_steal.new.self) s.store.room c.set_steal.new.self.room s.tasks s.work s.bytes s.holders s.wanters c.args.key c.args.to c.set_steal.ensures.facts c.set_steal.ensures.room
    (subst (λ (z : Stored). is_some ((facts_of z).on c.args.key) ≡ true) (sym c.self.view_is) c.requires.on) c.self.invariant
