use Rattle.std.proofs.Common.{◌<◌, ◌+◌, ◌*◌, ◌^◌, ℕ, ap, ◌∙◌, subst, arith}
use Rattle.sched_facts.specs.Stored.{Stored, facts_of}
use Rattle.sched_facts.specs.Kept.{IsFresh}
use Rattle.cluster_rules.specs.Sched.{keys}
use Rattle.cluster_rules.specs.SchedTable.{Changed}
use Rattle.task_table.specs.Tasks.{facts}
use Rattle.scheduler_core.specs.Settling.{let_go}
use Rattle.scheduler_core.proofs.WalkLemmas.{tidy_settled}
use Rattle.scheduler_core.proofs.CourseLemmas.{course_is, room_placed}
use Rattle.scheduler_core.proofs.event.settle.Goals as goal

less_room : (a n : ℕ) → a + 2 * n < 2 ^ 62 → a + n < 2 ^ 62
less_room a n h = omega arith

pub apply-requires-clause-room : goal.apply-requires-clause-room
apply-requires-clause-room c = let f = facts c.args.table.now in less_room f.counter (keys f) c.requires.room

pub let_go-requires : goal.let_go-requires
let_go-requires c = tidy_settled c.args.table.now c.apply.new.table c.requires.settled c.requires.untouched c.apply.ensures.follows

pub place_ready-requires : goal.place_ready-requires
place_ready-requires c = room_placed (facts c.args.table.now) c.args.event.now (facts c.let_go.new.table) c.requires.takes (c.in_ok-let_go.ensures.facts ∙ ap (λ (z : Changed). let_go z.facts) c.in_ok-effect.ensures.change) c.requires.room

pub returns-clause-course : goal.returns-clause-course
returns-clause-course c = course_is c.args.table.now c.apply.new.table c.let_go.new.table c.place_ready.new.table c.args.event.now c.apply.new.freed _ c.sound.ensures (subst (λ (z : Stored). IsFresh (facts_of z)) c.table.ensures c.fresh.ensures) c.remembered.ensures c.requires.untouched (record {
  changed = c.in_ok-effect.ensures.change;
  is_answer = c.in_ok-effect.ensures.is_answer;
  named = c.in_ok-effect.ensures.asked;
  first = c.apply.ensures.follows;
  went = c.in_ok-let_go.ensures.facts;
  lost = c.in_ok-let_go.ensures.lost;
  second = c.let_go.ensures.follows;
  placed = c.place_ready.ensures.facts;
  third = c.place_ready.ensures.follows;
  since = c.counter_of-since.ensures;
  asked = c.in_ok-asked.ensures;
})

pub returns-clause-setting : goal.returns-clause-setting
returns-clause-setting c = c.place_ready.ensures.follows.setting ∙ c.let_go.ensures.follows.setting ∙ c.apply.ensures.follows.setting

pub returns-in_err-let_go-clause-setting : goal.returns-in_err-let_go-clause-setting
returns-in_err-let_go-clause-setting c = c.let_go.ensures.follows.setting ∙ c.apply.ensures.follows.setting
