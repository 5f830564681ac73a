use Rattle.std.proofs.Common.{sym, ◌∙◌}
use Rattle.task_table.specs.Tasks.{facts}
use Rattle.scheduler_core.proofs.PlacingLemmas.{place_connected}
use Rattle.scheduler_core.proofs.placing.give_to.Goals as goal

pub give-requires : goal.give-requires
give-requires c = record {
  key = c.requires.key;
  worker = place_connected (facts c.args.table.now) c.args.key c.in-Some.worker (sym c.in-Some.is ∙ c.requires.place);
  free = c.requires.free;
  room = c.requires.room;
}
