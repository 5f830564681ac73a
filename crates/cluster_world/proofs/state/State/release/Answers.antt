use Rattle.std.proofs.Common.{None, ap, ◌∙◌}
use Rattle.cluster_msgs.specs.declared.cores.ClientEvent.TheVariants as client
use Rattle.cluster_nodes.specs.Turns.{nothing, client_turned}
use Rattle.cluster_world.specs.Worlds.{cluster}
use Rattle.cluster_world.proofs.Acting as acting
use Rattle.cluster_world.proofs.Rows as row
use Rattle.cluster_world.proofs.Taking as taking
use Rattle.cluster_world.proofs.state.State.release.Goals as goal

pub client_turn-requires : goal.client_turn-requires
client_turn-requires g c =
    record { joint = c.requires.joint; there = acting.can_release c.args.self.now c.requires.joint c.args.client c.args.keys.now c.requires.possible; takes = taking.takes_release c.args.self.now c.requires.joint c.args.client c.args.keys.now c.in_ok-keys.keys c.in_ok-keys.ensures c.requires.possible; room = c.requires.room }

pub returns-in_err-keys : goal.returns-in_err-keys
returns-in_err-keys g c =
    record { moved = acting.exits _ _ c.from_residual.result c.from_residual.ensures.1; kept = acting.kept_nodes c.args.self.now c.args.self.now.nodes }

pub returns-clause-moved : goal.returns-clause-moved
returns-clause-moved g c =
    acting.on_turned c.args.self.now _ c.client_turn.result _ _ (ap (λ ks. client_turned (cluster c.args.self.now) c.args.client (client.Release ks) nothing) c.in_ok-keys.ensures ∙ row.release_is None (cluster c.args.self.now) c.requires.joint.tidy c.args.client c.args.keys.now) c.client_turn.ensures.turned

pub returns-clause-kept : goal.returns-clause-kept
returns-clause-kept g c = c.client_turn.ensures.kept
