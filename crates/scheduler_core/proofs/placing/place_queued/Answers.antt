use Rattle.std.proofs.Common.{◌<◌, arith}
use Rattle.std.proofs.lemmas.Bool.{false≢true}
use Rattle.cluster_rules.specs.Sched.{keys}
use Rattle.task_table.specs.Tasks.{facts}
use Rattle.sched_changes.proofs.Following.{follows_self, follows_then}
use Rattle.scheduler_core.proofs.PlacingLemmas.{placed_none, placed_next, due_between, due_no_more}
use Rattle.scheduler_core.proofs.WalkLemmas.{in_setting}
use Rattle.scheduler_core.proofs.placing.place_queued.Goals as goal

pub loop-key-init : goal.loop-key-init
loop-key-init c = record { placed = placed_none (facts c.args.table.now); roots = λ e. absurd (false≢true e); follows = follows_self c.args.table.now; within = omega arith }

pub overflow_add-from : goal.overflow_add-from
overflow_add-from c =
    let f = facts c.args.table.now in
    let l : c.in-Some.key < keys f = in_setting c.args.table.now c.loop-key.table c.in-Some.key c.loop-key.invariant.follows c.in-Some.ensures.within in
    omega (arith, l, c.sound.ensures.shape.few)

pub take_turn-roots_wait-requires : goal.take_turn-roots_wait-requires
take_turn-roots_wait-requires c =
    let f = facts c.args.table.now in
    let i = c.loop-key.invariant in
    let key = c.in-Some.key in
    let l : key < keys f = in_setting c.args.table.now c.loop-key.table key i.follows c.in-Some.ensures.within in
    let p = due_between f (facts c.loop-key.table) c.loop-key.roots_wait c.loop-key.from key i.placed i.roots c.in-Some.ensures.first in
    record { due = c.in-Some.ensures.first.1; room = omega (arith, p.counter, c.requires, l); roots = i.roots }

pub loop-key-preserved : goal.loop-key-preserved
loop-key-preserved c =
    let f = facts c.args.table.now in
    let g = facts c.loop-key.table in
    let i = c.loop-key.invariant in
    let key = c.in-Some.key in
    let l : key < keys f = in_setting c.args.table.now c.loop-key.table key i.follows c.in-Some.ensures.within in
    record {
      placed = placed_next f g (facts c.take_turn-roots_wait.new.table) key c.take_turn-roots_wait.ensures.placed (due_between f g c.loop-key.roots_wait c.loop-key.from key i.placed i.roots c.in-Some.ensures.first);
      roots = c.take_turn-roots_wait.ensures.roots;
      follows = follows_then c.args.table.now c.loop-key.table c.take_turn-roots_wait.new.table i.follows c.take_turn-roots_wait.ensures.follows;
      within = omega (arith, l);
    }

pub returns-clause-facts : goal.returns-clause-facts
returns-clause-facts c =
    let i = c.loop-key.invariant in
    due_no_more (facts c.args.table.now) (facts c.loop-key.table) c.loop-key.roots_wait c.loop-key.from i.placed i.within i.roots c.in_default.ensures.first
