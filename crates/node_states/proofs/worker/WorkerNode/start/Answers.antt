use Rattle.node_states.proofs.worker.WorkerNode.start.Goals as goal

pub returns-in-Err-clause-recorded : goal.returns-in-Err-clause-recorded
returns-in-Err-clause-recorded g c = rw c.note.ensures.same.0 c.perform.ensures.recorded
