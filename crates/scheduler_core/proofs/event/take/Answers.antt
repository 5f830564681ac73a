use Rattle.std.proofs.Common.{◌≡◌, ◌<◌, ◌≤◌, ◌*◌, ◌^◌, ℕ, List, length, subst, sym, ap, ◌∙◌}
use Rattle.std.specs.List.{All}
use Rattle.cluster_msgs.specs.declared.messages.Down.{Down}
use Rattle.cluster_msgs.specs.declared.cores.Outbox.{Outbox}
use Rattle.cluster_rules.specs.Sched.{keys}
use Rattle.sched_facts.specs.Stored.{Stored, facts_of}
use Rattle.task_table.specs.Tasks.{facts}
use Rattle.scheduler_core.specs.Posted.{taken_keys}
use Rattle.scheduler_core.specs.Courses.{told_by}
use Rattle.scheduler_core.proofs.CourseLemmas.{told_is, postable_by, facts_posted, sent_before}
use Rattle.scheduler_core.proofs.event.take.Goals as goal

pub tell-requires-clause-calm : goal.tell-requires-clause-calm
tell-requires-clause-calm c = c.in_ok-course.ensures.course.calm

pub post_all-requires-clause-workers : goal.post_all-requires-clause-workers
post_all-requires-clause-workers c =
    let s = c.args.table.now in
    let t = c.settle.new.table in
    let x = c.in_ok-course.ensures.course in
    let v = postable_by s c.args.event.now t c.in_ok-course.course c.sound.ensures x c.settle.ensures.setting in
    let e : c.as_slice.result.now ≡ (told_by t c.in_ok-course.course).down = c.as_slice.ensures ∙ ap (λ (o : Outbox). o.down) c.in_ok-tell.ensures in
    subst (λ (ms : List (ℕ × Down)). All (λ (m : ℕ × Down). m.0 ≤ (facts t).last_worker) ms) (sym e) v.to

pub post_all-requires-clause-keys : goal.post_all-requires-clause-keys
post_all-requires-clause-keys c =
    let s = c.args.table.now in
    let t = c.settle.new.table in
    let x = c.in_ok-course.ensures.course in
    let v = postable_by s c.args.event.now t c.in_ok-course.course c.sound.ensures x c.settle.ensures.setting in
    let e : c.as_slice.result.now ≡ (told_by t c.in_ok-course.course).down = c.as_slice.ensures ∙ ap (λ (o : Outbox). o.down) c.in_ok-tell.ensures in
    subst (λ (ms : List (ℕ × Down)). All (λ (m : ℕ × Down). All (λ k. k < keys (facts t)) (taken_keys m.1)) ms) (sym e) v.takes

pub post_all-requires-clause-room : goal.post_all-requires-clause-room
post_all-requires-clause-room c w =
    let s = c.args.table.now in
    let t = c.settle.new.table in
    let x = c.in_ok-course.ensures.course in
    let v = postable_by s c.args.event.now t c.in_ok-course.course c.sound.ensures x c.settle.ensures.setting in
    let e : c.as_slice.result.now ≡ (told_by t c.in_ok-course.course).down = c.as_slice.ensures ∙ ap (λ (o : Outbox). o.down) c.in_ok-tell.ensures in
    sent_before s c.args.event.now t c.in_ok-course.course c.as_slice.result.now w c.requires.takes x e v.few (c.requires.sent w)

pub returns-clause-facts : goal.returns-clause-facts
returns-clause-facts c =
    let s = c.args.table.now in
    let t = c.settle.new.table in
    let x = c.in_ok-course.ensures.course in
    let e : c.as_slice.result.now ≡ (told_by t c.in_ok-course.course).down = c.as_slice.ensures ∙ ap (λ (o : Outbox). o.down) c.in_ok-tell.ensures in
    ap facts_of c.forget.ensures.stored ∙ c.post_all.ensures.facts ∙ facts_posted s c.args.event.now t c.in_ok-course.course c.as_slice.result.now c.requires.takes c.requires.settled x e

pub returns-clause-made : goal.returns-clause-made
returns-clause-made c = c.in_ok-tell.ensures ∙ told_is c.args.table.now c.args.event.now c.settle.new.table c.in_ok-course.course c.requires.takes c.requires.settled c.in_ok-course.ensures.course

pub returns-clause-few : goal.returns-clause-few
returns-clause-few c =
    let s = c.args.table.now in
    let t = c.settle.new.table in
    let x = c.in_ok-course.ensures.course in
    let v = postable_by s c.args.event.now t c.in_ok-course.course c.sound.ensures x c.settle.ensures.setting in
    subst (λ (o : Outbox). length o.down ≤ 3 * 2 ^ 20) (told_is s c.args.event.now t c.in_ok-course.course c.requires.takes c.requires.settled x) v.few

pub returns-clause-setting : goal.returns-clause-setting
returns-clause-setting c = ap (λ (z : Stored). (facts_of z).setting) c.forget.ensures.stored ∙ c.post_all.ensures.follows.setting ∙ c.settle.ensures.setting
