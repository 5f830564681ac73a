use Rattle.std.proofs.Common.{◌≡◌, true, take}
use Rattle.std.specs.Prelude.{All}
use Rattle.node_runner.proofs.ends.has_all.Given as goal

abbrev pub invariant-loop-key : goal.invariant-loop-key
invariant-loop-key g l = All (λ k. g.Z.Sink.had l.sink k ≡ true) (take l.key-index l.wanted)
