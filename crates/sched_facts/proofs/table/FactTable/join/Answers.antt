use Rattle.std.proofs.Common.{◌<◌, ◌+◌, length, Some, subst, sym, ap, ◌∙◌}
use Rattle.cluster_rules.specs.Functions.{put}
use Rattle.cluster_rules.specs.Sched.{Facts, workers}
use Rattle.cluster_rules.specs.SchedTable.{joined}
use Rattle.sched_facts.specs.Stored.{Stored, facts_of}
use Rattle.sched_facts.proofs.Rooms.{keep-joined}
use Rattle.sched_facts.proofs.table.FactTable.join.Goals as goal

pub invariant_of-self : goal.invariant_of-self
unfolding joined
invariant_of-self c =
    let s = c.self.inside in
    let f = facts_of s.store in
    keep-joined f (facts_of c.count_worker.new.self) s.store.room c.count_worker.new.self.room s.tasks s.work s.bytes s.holders s.wanters c.args.threads
    (c.count_worker.ensures.facts ∙ ap (λ (g : Facts). record g { last_worker = g.last_worker + 1 }) c.set_threads.ensures.facts ∙ ap (λ n. record f { threads = put f.threads (n + 1) (Some c.args.threads); last_worker = f.last_worker + 1 }) c.last_worker-number.ensures)
    (c.count_worker.ensures.room ∙ c.set_threads.ensures.room) c.requires.threads.0 c.requires.threads.1
    (subst (λ (z : Stored). length (workers (facts_of z)) < 64) (sym c.self.view_is) c.requires.workers)
    (subst (λ (z : Stored). (facts_of z).last_worker < 1024) (sym c.self.view_is) c.requires.numbers)
    (subst (λ (z : Stored). (facts_of z).last_worker < z.room) (sym c.self.view_is) c.requires.room) c.self.invariant

pub returns : goal.returns
unfolding joined
returns c =
    let f = facts_of c.self.inside.store in
    rw (← c.self.view_is) (c.count_worker.ensures.facts ∙ ap (λ (g : Facts). record g { last_worker = g.last_worker + 1 }) c.set_threads.ensures.facts ∙ ap (λ n. record f { threads = put f.threads (n + 1) (Some c.args.threads); last_worker = f.last_worker + 1 }) c.last_worker-number.ensures)
