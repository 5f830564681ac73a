use Rattle.std.proofs.Common.{◌≡◌, ℕ, ◌+◌, ◌<◌, ◌≤◌, ◌++◌, ◌∷◌, [], sym, ap, ◌∙◌, subst, take, length, arith, All}
use Rattle.std.proofs.lemmas.List.{take_more, length-take-le}
use Rattle.cluster_msgs.specs.declared.messages.Down.{Down}
use Rattle.cluster_rules.specs.Sched.{Facts, keys}
use Rattle.task_table.specs.Tasks.{facts}
use Rattle.sched_changes.proofs.Following.{follows_self, follows_then}
use Rattle.scheduler_core.specs.Posted.{posted_mail, posted_one, taken_keys}
use Rattle.scheduler_core.proofs.PostLemmas.{posted-nil, posted-push, last-posted, keys-posted, sent-posted, count_to-few}
use Rattle.scheduler_core.proofs.posts.post_all.Goals as goal

pub loop-message-init : goal.loop-message-init
loop-message-init c = record { facts = sym (posted-nil (facts c.args.table.now)); follows = follows_self c.args.table.now }

pub post-requires-clause-worker : goal.post-requires-clause-worker
post-requires-clause-worker c =
    let i = c.loop-message.message-index in
    rw (c.loop-message.invariant.facts, last-posted) (subst (λ (m : ℕ × Down). m.0 ≤ (facts c.args.table.now).last_worker) (sym c.message-item.is) (c.requires.workers i c.message-item.result c.loop-message-test.true))

pub post-requires-clause-keys : goal.post-requires-clause-keys
post-requires-clause-keys c =
    let i = c.loop-message.message-index in
    rw (c.loop-message.invariant.facts, keys-posted) (subst (λ (m : ℕ × Down). All (λ k. k < keys (facts c.args.table.now)) (taken_keys m.1)) (sym c.message-item.is) (c.requires.keys i c.message-item.result c.loop-message-test.true))

pub post-requires-clause-room : goal.post-requires-clause-room
post-requires-clause-room c =
    let f = facts c.args.table.now in
    let ms = c.args.mail.now in
    let i = c.loop-message.message-index in
    let w = c.message-item.result.0 in
    let few = count_to-few w (take i ms) in
    let long : length (take i ms) ≡ i = length-take-le i ms (omega (arith, c.loop-message-test.true)) in
    rw (c.loop-message.invariant.facts, sent-posted) (omega (arith, few, long, c.requires.room w, c.loop-message-test.true))

pub loop-message-preserved : goal.loop-message-preserved
loop-message-preserved c =
    let f = facts c.args.table.now in
    let ms = c.args.mail.now in
    let i = c.loop-message.message-index in
    let m = c.message-item.result in
    let more : take (i + 1) ms ≡ take i ms ++ m ∷ [] = take_more ms i m c.loop-message-test.true ∙ ap (λ (x : ℕ × Down). take i ms ++ x ∷ []) (sym c.message-item.is) in
    record {
      facts = c.post.ensures.facts ∙ ap (λ (g : Facts). posted_one g m) c.loop-message.invariant.facts ∙ sym (posted-push f (take i ms) m) ∙ ap (posted_mail f) (sym more);
      follows = follows_then c.args.table.now c.loop-message.table c.post.new.table c.loop-message.invariant.follows c.post.ensures.follows;
    }
