use Rattle.node_states.proofs.worker.WorkerNode.ask.Goals as goal

pub returns-then-would_ask : goal.returns-then-would_ask
returns-then-would_ask g c = rw (← c.id-id.ensures.id) (c.ask.ensures _ _)
