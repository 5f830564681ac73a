use Rattle.std.proofs.Common.{◌∙◌, arith}
use Rattle.sched_facts.specs.Stored.{facts_of}
use Rattle.sched_facts.proofs.Rooms.{keep-opening}
use Rattle.sched_facts.proofs.table.FactTable.new.Goals as goal

pub invariant_of-result : goal.invariant_of-result
invariant_of-result c =
    keep-opening (record { shape = c.args.shape; clients = c.args.clients; saturation = c.args.saturation; allowed = c.args.allowed }) (facts_of c.in_ok-store.store) c.in_ok-store.store.room c.in_ok-tasks.tasks c.in_ok-work.work c.in_ok-bytes.bytes c.in_ok-holders.holders c.in_ok-wanters.wanters
    c.in_ok-store.ensures.facts c.sound.ensures c.requires.clients c.requires.saturation c.in_ok-tasks.ensures.same c.in_ok-work.ensures.same c.in_ok-bytes.ensures.same c.in_ok-holders.ensures.same c.in_ok-wanters.ensures.same
    (omega (arith, c.in_ok-store.ensures.room, c.in_ok-tasks.ensures.length)) (omega (arith, c.in_ok-store.ensures.room, c.in_ok-work.ensures.length)) (omega (arith, c.in_ok-store.ensures.room, c.in_ok-bytes.ensures.length))
    (c.in_ok-holders.ensures.length ∙ c.keys-count.ensures) (c.in_ok-wanters.ensures.length ∙ c.keys-count.ensures)
