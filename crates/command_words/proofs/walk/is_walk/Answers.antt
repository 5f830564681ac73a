-- An item that can be followed, or not.
use Rattle.std.proofs.Common.{subst}
use Rattle.std.proofs.lemmas.Bool.{MatchBool-at_true, MatchBool-at_false}
use Rattle.command_words.specs.Walks.{IsWalk}
use Rattle.command_words.proofs.Walking.{item_at, one_step, no_step}
use Rattle.command_words.proofs.walk.is_walk.Goals as goal

pub returns-then-not-branch : goal.returns-then-not-branch
returns-then-not-branch c = subst (λ items. ¬ IsWalk c.args.workers c.args.threads items) c.as_slice-items.ensures
    (no_step c.args.workers c.args.threads c.as_slice-items.result.now c.loop-item.item-index _ c.loop-item.walk
    (item_at c.as_slice-items.result.now c.loop-item.item-index _ c.loop-item-test.true)
    (MatchBool-at_false _ _ c.if-not-branch.true c.in_ok-follow.ensures.step) c.loop-item.invariant)

pub loop-item-preserved : goal.loop-item-preserved
loop-item-preserved c =
    one_step c.args.workers c.args.threads c.as_slice-items.result.now c.loop-item.item-index _ c.loop-item.walk c.follow.new.self
    (item_at c.as_slice-items.result.now c.loop-item.item-index _ c.loop-item-test.true) c.in_ok-follow.ensures.small
    (MatchBool-at_true _ _ c.if-not-branch.false c.in_ok-follow.ensures.step) c.loop-item.invariant
