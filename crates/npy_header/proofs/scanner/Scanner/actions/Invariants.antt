-- The actions that are left do to what is kept now what all of them do to what was kept at first.
use Rattle.std.proofs.Common.{◌≡◌, drop}
use Rattle.npy_header.specs.Reading.{after_actions}
use Rattle.npy_header.proofs.scanner.Scanner.actions.Given as goal

abbrev pub invariant-loop-action : goal.invariant-loop-action
invariant-loop-action l = after_actions l.actions l.fn.self ≡ after_actions (drop l.action-index l.actions) l.self
