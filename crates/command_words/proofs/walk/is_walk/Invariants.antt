-- The items that were passed could be followed.
use Rattle.command_words.proofs.Walking.{IsWalked}
use Rattle.command_words.proofs.walk.is_walk.Given as goal

abbrev pub invariant-loop-item : goal.invariant-loop-item
invariant-loop-item l = IsWalked l.workers l.threads l.items l.item-index l.walk
