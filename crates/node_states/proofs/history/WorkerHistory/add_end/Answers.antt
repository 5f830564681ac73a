use Rattle.node_states.proofs.Ends.{number_kept, ended_now}
use Rattle.node_states.proofs.history.WorkerHistory.add_end.Goals as goal

pub invariant_of-self-2 : goal.invariant_of-self-2
invariant_of-self-2 g c = record {
  own = number_kept _ _ (λ s. s.id) (λ s e t b. b.0) c.args.self.now.book c.record_end.new.self c.record_end.ensures.recorded c.args.self.now.id c.args.self.now.own;
  alive = ended_now c.args.self.now.id c.args.self.now.ended c.args.self.now.book c.record_end.new.self c.requires c.args.self.now.alive c.in_ok-record_end.ensures.entered;
}
