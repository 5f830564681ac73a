use Rattle.node_runner.proofs.watching.Waiting.go_on.Given as goal

abbrev pub invariant-loop : goal.invariant-loop
invariant-loop g l = g.Z.Sink.leads l.initial.self.sink l.self.sink
