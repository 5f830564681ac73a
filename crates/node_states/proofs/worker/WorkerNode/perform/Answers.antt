use Rattle.node_states.proofs.worker.WorkerNode.perform.Goals as goal

pub invariant_of-self : goal.invariant_of-self
invariant_of-self g c = record { room = c.args.self.now.room; heard_of = c.advance-end.ensures.heard_of _ _ c.args.self.now.heard_of }

pub invariant_of-self-in-Err-1 : goal.invariant_of-self-in-Err-1
invariant_of-self-in-Err-1 g c = record { room = c.args.self.now.room; heard_of = c.advance-end.ensures.heard_of _ _ c.args.self.now.heard_of }
