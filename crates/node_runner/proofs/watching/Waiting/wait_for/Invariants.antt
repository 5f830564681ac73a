use Rattle.node_runner.proofs.watching.Waiting.wait_for.Given as goal

abbrev pub invariant-loop-key : goal.invariant-loop-key
invariant-loop-key g l = g.Z.Sink.leads l.initial.self.sink l.self.sink
