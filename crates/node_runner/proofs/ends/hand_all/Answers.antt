use Rattle.node_runner.proofs.ends.hand_all.Goals as goal

pub loop-keyed-init : goal.loop-keyed-init
loop-keyed-init g c = g.met.Z.Sink.here c.args.sink.now

pub loop-keyed-preserved : goal.loop-keyed-preserved
loop-keyed-preserved g c = g.met.Z.Sink.on c.args.sink.now c.loop-keyed.sink c.take.new.self c.loop-keyed.invariant c.take.ensures.leads
