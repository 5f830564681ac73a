use Rattle.sched_facts.specs.Stored.{facts_of}
use Rattle.sched_facts.proofs.Keeping.{keep-number}
use Rattle.sched_facts.proofs.table.FactTable.next_number.Goals as goal

pub invariant_of-self : goal.invariant_of-self
invariant_of-self c =
    let s = c.self.inside in
    keep-number (facts_of s.store) (facts_of c.next_number.new.self) s.store.room c.next_number.new.self.room s.tasks s.work s.bytes s.holders s.wanters c.next_number.ensures.facts c.next_number.ensures.room c.self.invariant
