use Rattle.node_states.proofs.Released.{still_released}
use Rattle.node_states.proofs.client.ClientNode.perform.Goals as goal

pub invariant_of-self-then-is_err : goal.invariant_of-self-then-is_err
invariant_of-self-then-is_err g c = record { told = still_released _ c.args.self.now.released c.args.self.now.book c.record-end.new.self c.args.self.now.told c.record-end.ensures.recorded }

pub invariant_of-self-2 : goal.invariant_of-self-2
invariant_of-self-2 g c = record { told = still_released _ c.args.self.now.released c.args.self.now.book c.record-end.new.self c.args.self.now.told c.record-end.ensures.recorded }
