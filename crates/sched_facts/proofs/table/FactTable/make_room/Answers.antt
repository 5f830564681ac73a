use Rattle.std.proofs.Common.{refl, arith}
use Rattle.sched_facts.specs.Stored.{facts_of}
use Rattle.sched_facts.proofs.Rooms.{keep-room}
use Rattle.sched_facts.proofs.table.FactTable.make_room.Goals as goal

pub invariant_of-self : goal.invariant_of-self
invariant_of-self c =
    let s = c.self.inside in
    let more = c.in-Ok.ensures.more in
    keep-room (facts_of s.store) (facts_of c.make_room.new.self) s.store.room c.make_room.new.self.room s.tasks s.work s.bytes s.holders s.wanters c.add_sums.new.first c.add_sums.new.second c.add_sums.new.third
    c.make_room.ensures.facts c.add_sums.ensures.same.0 c.add_sums.ensures.same.1 c.add_sums.ensures.same.2 c.make_room.ensures.least
    (omega (arith, c.make_room.ensures.most, more.0, c.self.invariant.task_rows)) (omega (arith, c.make_room.ensures.most, more.1, c.self.invariant.work_rows)) (omega (arith, c.make_room.ensures.most, more.2, c.self.invariant.byte_rows)) c.self.invariant

pub invariant_of-self-in-Err : goal.invariant_of-self-in-Err
invariant_of-self-in-Err c =
    let s = c.self.inside in
    let kept = c.add_sums.ensures.kept in
    keep-room (facts_of s.store) (facts_of s.store) s.store.room s.store.room s.tasks s.work s.bytes s.holders s.wanters c.add_sums.new.first c.add_sums.new.second c.add_sums.new.third
    refl c.add_sums.ensures.same.0 c.add_sums.ensures.same.1 c.add_sums.ensures.same.2 (omega arith)
    (omega (arith, kept.0, c.self.invariant.task_rows)) (omega (arith, kept.1, c.self.invariant.work_rows)) (omega (arith, kept.2, c.self.invariant.byte_rows)) c.self.invariant
