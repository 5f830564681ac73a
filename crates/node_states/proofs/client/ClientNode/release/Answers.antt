use Rattle.node_states.proofs.Released.{released_now}
use Rattle.node_states.proofs.client.ClientNode.release.Goals as goal

pub mark-requires : goal.mark-requires
mark-requires g c = released_now c.args.key c.args.choice.event c.args.choice.message c.args.self.now.book c.perform.new.self.book c.requires.names c.in_ok-perform.ensures.entered
