use Rattle.std.proofs.Common.{◌≡◌, take}
use Rattle.journal_audit.proofs.same.same_who_has.Given as goal

abbrev pub invariant-loop-at : goal.invariant-loop-at
invariant-loop-at l = take l.at l.left ≡ take l.at l.right
