use Rattle.std.proofs.Common.{refl, ◌∙◌}
use Rattle.task_table.specs.Tasks.{facts}
use Rattle.scheduler_core.proofs.RootLemmas.{roots_after}
use Rattle.scheduler_core.proofs.PlacingLemmas.{due_ready, due_there, free_of, placed_yes}
use Rattle.scheduler_core.proofs.placing.take_turn.Goals as goal

pub has_no_deps-is_root-requires : goal.has_no_deps-is_root-requires
has_no_deps-is_root-requires c = due_there (facts c.args.table.now) c.args.roots_wait c.args.key c.sound.ensures c.requires.due

pub place_free-requires : goal.place_free-requires
place_free-requires c =
    let f = facts c.args.table.now in
    record {
      key = due_there f c.args.roots_wait c.args.key c.sound.ensures c.requires.due;
      free = free_of f c.args.key _ refl (due_ready f c.args.roots_wait c.args.key c.requires.due);
      room = c.requires.room;
    }

pub returns : goal.returns
returns c =
    let f = facts c.args.table.now in
    let p = c.place_free.ensures.facts ∙ placed_yes f c.args.key (due_ready f c.args.roots_wait c.args.key c.requires.due) in
    record {
      placed = p;
      follows = c.place_free.ensures.follows;
      roots = roots_after f (facts c.place_free.new.table) c.args.key c.args.roots_wait c.has_no_deps-is_root.result c.is_left.result p c.requires.roots c.has_no_deps-is_root.ensures c.is_left.ensures;
    }
