use Rattle.std.proofs.Common.{◌≡◌, vec_len}
use Rattle.node_runner.proofs.wiring.wire.Given as goal

abbrev pub invariant-loop-at : goal.invariant-loop-at
invariant-loop-at g l = vec_len l.all.workers ≡ l._at
