use Rattle.std.proofs.Common.{◌+◌}
use Rattle.cluster_rules.specs.Functions.{put}
use Rattle.sched_facts.specs.Stored.{facts_of}
use Rattle.sched_facts.proofs.Keeping.{keep-sent}
use Rattle.sched_facts.proofs.table.FactTable.count_sent.Goals as goal

pub invariant_of-self : goal.invariant_of-self
invariant_of-self c =
    let s = c.self.inside in
    let f = facts_of s.store in
    keep-sent f (facts_of c.set_sent.new.self) s.store.room c.set_sent.new.self.room s.tasks s.work s.bytes s.holders s.wanters (put f.sent c.args.worker (c.sent-place.result + 1)) f.fence c.set_sent.ensures.facts c.set_sent.ensures.room c.self.invariant
