use Rattle.node_states.proofs.worker.WorkerNode.hear.Goals as goal

pub returns : goal.returns
returns g c = rw (← c.id.ensures.id) (c.in_ok-told.ensures _ _)
