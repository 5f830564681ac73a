use Rattle.std.proofs.Common.{arith}
use Rattle.sched_facts.specs.Stored.{facts_of}
use Rattle.spread_flags.specs.Spread.{flag}
use Rattle.task_table.specs.Tasks.{Tasks}
use Rattle.task_table.specs.Tables.{tasks_of}
use Rattle.task_table.proofs.Opening.{parts_cleared, remembered_now}
use Rattle.task_table.proofs.table.TaskTable.forget.Goals as goal

pub invariant_of-self : goal.invariant_of-self
invariant_of-self c =
    let f = facts_of c.self.inside.table in
    let p = c.self.inside.parts in
    let s : Tasks = tasks_of c.self.inside in
    let t : Tasks = record { stored = c.self.inside.table; touched = c.clear.new.self; held_before = c.recall_held.new.before; erred_before = c.recall_erred.new.before } in
    record {
      parts = parts_cleared f p c.clear.new.self c.self.invariant.parts c.clear.ensures.keys c.clear.ensures.room;
      lists = c.self.invariant.lists;
      remembered = remembered_now f s t (flag p.levels.erred) c.self.invariant.remembered (λ k l. (c.self.invariant.parts.standing.derived k l).erred) c.recall_held.ensures.held c.recall_erred.ensures.flagged c.clear.ensures.keys;
      held_room = omega (arith, c.recall_held.ensures.room, c.self.invariant.held_room);
      erred_room = omega (arith, c.recall_erred.ensures.room, c.self.invariant.erred_room);
    }
