use Rattle.node_states.proofs.worker.WorkerNode.outcome.Goals as goal

pub returns-in_ok-value-in-Value : goal.returns-in_ok-value-in-Value
returns-in_ok-value-in-Value g c = rw (← c.id-id.ensures.id) (c.in_ok-value-in-Value.ensures _ _)

pub returns-in-Zero : goal.returns-in-Zero
returns-in-Zero g c = rw (← c.id-id.ensures.id) (c.zero.ensures _ _)
