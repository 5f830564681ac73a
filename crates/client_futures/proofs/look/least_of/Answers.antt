use Rattle.std.proofs.Common.{◌+◌, take, subst, sym}
use Rattle.client_futures.specs.Answers.{IsLeast}
use Rattle.client_futures.proofs.LeastLemmas.{lesser_keeps}
use Rattle.client_futures.proofs.look.least_of.Goals as goal

pub loop-key-preserved : goal.loop-key-preserved
loop-key-preserved g c =
    let ends = (g.R.Rounds.seen c.args.rounds.now).ends in
    let keys = c.args.keys.now in
    let at = c.loop-key.key-index in
    subst (IsLeast ends (take (at + 1) keys)) (sym c.lesser-least.ensures)
    (lesser_keeps ends keys at c.loop-key-test.true c.loop-key.least c.end.result (sym c.end.ensures) c.loop-key.invariant)
