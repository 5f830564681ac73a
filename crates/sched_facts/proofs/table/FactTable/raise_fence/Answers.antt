use Rattle.cluster_rules.specs.Functions.{put_pair}
use Rattle.sched_facts.specs.Stored.{facts_of}
use Rattle.sched_facts.proofs.Keeping.{keep-sent}
use Rattle.sched_facts.proofs.table.FactTable.raise_fence.Goals as goal

pub invariant_of-self : goal.invariant_of-self
invariant_of-self c =
    let s = c.self.inside in
    let f = facts_of s.store in
    keep-sent f (facts_of c.set_fence.new.self) s.store.room c.set_fence.new.self.room s.tasks s.work s.bytes s.holders s.wanters f.sent (put_pair f.fence c.args.worker c.args.key c.sent-place.result) c.set_fence.ensures.facts c.set_fence.ensures.room c.self.invariant
