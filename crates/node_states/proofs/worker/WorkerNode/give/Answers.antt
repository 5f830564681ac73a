use Rattle.node_states.proofs.worker.WorkerNode.give.Goals as goal

pub returns-in-Whole-clause-says : goal.returns-in-Whole-clause-says
returns-in-Whole-clause-says g c = rw (← c.answer.ensures.same.0, ← c.id.ensures.id) (c.serve.ensures _ _)
