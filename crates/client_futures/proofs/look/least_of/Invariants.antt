use Rattle.std.proofs.Common.{take}
use Rattle.client_futures.specs.Answers.{IsLeast}
use Rattle.client_futures.proofs.look.least_of.Given as goal

abbrev pub invariant-loop-key : goal.invariant-loop-key
invariant-loop-key g l = IsLeast (g.R.Rounds.seen l.rounds).ends (take l.key-index l.keys) l.least
