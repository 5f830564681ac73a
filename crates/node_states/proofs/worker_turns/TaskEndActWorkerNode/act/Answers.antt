use Rattle.node_links.proofs.Recorded.{went_of}
use Rattle.node_states.proofs.worker_turns.TaskEndActWorkerNode.act.Goals as goal

pub returns-clause-went : goal.returns-clause-went
returns-clause-went g c = went_of (λ s. s.history.book) _ c.args.state.now c.finish-back.new.self c.finish-back.ensures.recorded
