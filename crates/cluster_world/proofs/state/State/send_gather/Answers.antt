use Rattle.cluster_msgs.specs.declared.events.Event.TheVariants as event
use Rattle.std.proofs.Common.{◌≡◌, true, None, sym, ap, ◌∙◌, subst}
use Rattle.cluster_rules.specs.Enabled.{enabled}
use Rattle.cluster_rules.specs.World.{is_asker}
use Rattle.cluster_world.specs.Worlds.{cluster, world}
use Rattle.cluster_world.specs.Outcomes.{stepped}
use Rattle.cluster_world.proofs.Acting as acting
use Rattle.cluster_world.proofs.Rows as row
use Rattle.cluster_world.proofs.Taking as taking
use Rattle.cluster_world.proofs.state.State.send_gather.Goals as goal

pub worker_turn-requires : goal.worker_turn-requires
worker_turn-requires g c =
    record { joint = c.requires.joint; alive = subst (λ a. is_asker (world c.args.self.now) a ≡ true) c.in-Worker.is (acting.can_send c.args.self.now c.requires.joint c.args.asker c.args.peer c.requires.possible); takes = taking.takes_ask c.args.self.now c.requires.joint c.in-Worker.worker c.args.peer (subst (λ a. enabled (world c.args.self.now) (event.SendGather a c.args.peer) ≡ true) c.in-Worker.is c.requires.possible); room = c.requires.room }

pub client_turn-requires : goal.client_turn-requires
client_turn-requires g c =
    record { joint = c.requires.joint; there = subst (λ a. is_asker (world c.args.self.now) a ≡ true) c.in-Client.is (acting.can_send c.args.self.now c.requires.joint c.args.asker c.args.peer c.requires.possible); takes = taking.client_takes_ask c.args.self.now c.requires.joint c.in-Client.client c.args.peer (subst (λ a. enabled (world c.args.self.now) (event.SendGather a c.args.peer) ≡ true) c.in-Client.is c.requires.possible); room = c.requires.room }

pub returns-in-Worker : goal.returns-in-Worker
returns-in-Worker g c =
    record { moved = acting.on_turned c.args.self.now _ c.worker_turn.result _ _ (row.worker_asks_is None (cluster c.args.self.now) c.requires.joint.tidy c.in-Worker.worker c.args.peer ∙ ap (λ a. stepped None (cluster c.args.self.now) (event.SendGather a c.args.peer)) (sym c.in-Worker.is)) c.worker_turn.ensures.turned; kept = c.worker_turn.ensures.kept }

pub returns-in-Client : goal.returns-in-Client
returns-in-Client g c =
    record { moved = acting.on_turned c.args.self.now _ c.client_turn.result _ _ (row.client_asks_is None (cluster c.args.self.now) c.requires.joint.tidy c.in-Client.client c.args.peer ∙ ap (λ a. stepped None (cluster c.args.self.now) (event.SendGather a c.args.peer)) (sym c.in-Client.is)) c.client_turn.ensures.turned; kept = c.client_turn.ensures.kept }
