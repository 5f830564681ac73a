use Rattle.node_states.proofs.worker.WorkerNode.go_on.Goals as goal

pub returns-in-Miss-clause-recorded : goal.returns-in-Miss-clause-recorded
returns-in-Miss-clause-recorded g c = rw (← (c.catch_up.ensures.none c.if-catch_up.false).0, ← c.next_task-next.ensures.history) c.miss.ensures.recorded

pub returns-in-Other-clause-recorded : goal.returns-in-Other-clause-recorded
returns-in-Other-clause-recorded g c = rw (← (c.catch_up.ensures.none c.if-catch_up.false).0, ← c.next_task-next.ensures.history) c.ask_next-moved.ensures.recorded
