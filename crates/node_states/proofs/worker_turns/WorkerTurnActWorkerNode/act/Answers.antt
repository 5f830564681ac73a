use Rattle.std.proofs.Common.{refl, ap}
use Rattle.node_links.proofs.Recorded.{went_of}
use Rattle.node_states.proofs.Kept.{recorded_over}
use Rattle.node_states.proofs.worker_turns.WorkerTurnActWorkerNode.act.Goals as goal

pub returns-clause-went : goal.returns-clause-went
returns-clause-went g c =
    let before = c.args.state.now.history.book in
    let asked = c.stays.new.self.history.book in
    let after = c.go_on-moved.new.self.history.book in
    let left = c.take_given-given.new.self.history.book in
    went_of (λ s. s.history.book) _ c.args.state.now c.take_given-given.new.self
    (recorded_over _ before asked after left (ap (λ h. h.book) c.stays.ensures.history) c.go_on-moved.ensures.recorded (ap (λ h. h.book) c.take_given-given.ensures.history))
