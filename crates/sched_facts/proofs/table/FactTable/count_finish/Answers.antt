use Rattle.sched_facts.specs.Stored.{facts_of}
use Rattle.sched_facts.proofs.Keeping.{keep-finish}
use Rattle.sched_facts.proofs.table.FactTable.count_finish.Goals as goal

pub invariant_of-self : goal.invariant_of-self
invariant_of-self c =
    let s = c.self.inside in
    keep-finish (facts_of s.store) (facts_of c.count_finish.new.self) s.store.room c.count_finish.new.self.room s.tasks s.work s.bytes s.holders s.wanters c.count_finish.ensures.facts c.count_finish.ensures.room c.self.invariant
