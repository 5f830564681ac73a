use Rattle.sched_facts.specs.Stored.{facts_of}
use Rattle.task_table.specs.declared.lists.Lists.{Lists}
use Rattle.task_table.proofs.Listing.{relisted}
use Rattle.task_table.proofs.lists.relist.Goals as goal

pub returns : goal.returns
returns c =
    let f = facts_of c.args.table.now in
    let m : Lists = record { placed = c.put.new.self; shared = c.put-2.new.self; rows = c.relist_any-2.new.rows } in
    relisted f c.args.lists.now m c.relist_any.new.rows.items c.args.key c.args.one c.args.other c.is_placed-placed.result c.is_shared-shared.result record {
      near = c.requires.near;
      on_one = c.is_placed-placed.ensures;
      held_twice = c.is_shared-shared.ensures;
      placed = c.put.ensures.keys;
      placed_room = c.put.ensures.room;
      shared = c.put-2.ensures.keys;
      shared_room = c.put-2.ensures.room;
      first = c.relist_any.ensures.keys;
      second = c.relist_any-2.ensures.keys;
      rows = c.relist_any-2.ensures.rows;
    }
