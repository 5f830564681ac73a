use Rattle.node_states.proofs.worker.WorkerNode.meet.Goals as goal

pub returns-in_ok-gathered-in-Peer-Data-clause-says : goal.returns-in_ok-gathered-in-Peer-Data-clause-says
returns-in_ok-gathered-in-Peer-Data-clause-says g c = rw (← c.id-id.ensures.id) (c.in_ok-gathered-in-Peer-Data.ensures _ _)
