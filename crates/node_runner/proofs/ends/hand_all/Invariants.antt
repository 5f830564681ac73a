use Rattle.node_runner.proofs.ends.hand_all.Given as goal

abbrev pub invariant-loop-keyed : goal.invariant-loop-keyed
invariant-loop-keyed g l = g.Z.Sink.leads l.initial.sink l.sink
