use Rattle.cluster_rules.specs.World.{open_ask}
use Rattle.cluster_msgs.specs.declared.events.Event.TheVariants as event
use Rattle.std.proofs.Common.{◌≡◌, true, None, sym, ap, ◌∙◌, subst}
use Rattle.cluster_msgs.specs.declared.cores.WorkerEvent.TheVariants as work
use Rattle.cluster_msgs.specs.declared.cores.ClientEvent.TheVariants as client
use Rattle.cluster_rules.specs.World.{is_asker}
use Rattle.cluster_nodes.specs.Turns.{nothing, worker_turned, client_turned}
use Rattle.cluster_world.specs.Worlds.{cluster, world}
use Rattle.cluster_world.specs.Outcomes.{stepped}
use Rattle.cluster_world.proofs.Acting as acting
use Rattle.cluster_world.proofs.Rows as row
use Rattle.cluster_world.proofs.Taking as taking
use Rattle.cluster_world.proofs.state.State.fail_ask.Goals as goal

pub worker_turn-requires : goal.worker_turn-requires
worker_turn-requires g c =
    record { joint = c.requires.joint; alive = subst (λ a. is_asker (world c.args.self.now) a ≡ true) c.in-Worker.is c.requires.there; takes = taking.takes_failure c.args.self.now c.requires.joint c.in-Worker.worker c.args.peer c.args.ask; room = c.requires.room }

pub client_turn-requires : goal.client_turn-requires
client_turn-requires g c =
    record { joint = c.requires.joint; there = subst (λ a. is_asker (world c.args.self.now) a ≡ true) c.in-Client.is c.requires.there; takes = taking.client_takes_failure c.args.self.now c.requires.joint c.in-Client.client c.args.peer c.args.ask; room = c.requires.room }

pub returns-in-Worker : goal.returns-in-Worker
returns-in-Worker g c =
    let o = acting.open_there (open_ask (world c.args.self.now) c.args.asker c.args.peer) c.args.ask c.requires.ask in
    record {
      moved = acting.on_turned c.args.self.now _ c.worker_turn.result _ _ (ap (λ n. worker_turned (cluster c.args.self.now) c.in-Worker.worker (work.GatherFailed c.args.peer n) nothing) (sym o.2) ∙ row.worker_fails_is None (cluster c.args.self.now) c.requires.joint.tidy c.in-Worker.worker c.args.peer o.0 (ap (λ a. open_ask (world c.args.self.now) a c.args.peer) (sym c.in-Worker.is) ∙ o.1) ∙ ap (λ a. stepped None (cluster c.args.self.now) (event.FailGather a c.args.peer)) (sym c.in-Worker.is)) c.worker_turn.ensures.turned;
      kept = c.worker_turn.ensures.kept;
    }

pub returns-in-Client : goal.returns-in-Client
returns-in-Client g c =
    let o = acting.open_there (open_ask (world c.args.self.now) c.args.asker c.args.peer) c.args.ask c.requires.ask in
    record {
      moved = acting.on_turned c.args.self.now _ c.client_turn.result _ _ (ap (λ n. client_turned (cluster c.args.self.now) c.in-Client.client (client.GatherFailed c.args.peer n) nothing) (sym o.2) ∙ row.client_fails_is None (cluster c.args.self.now) c.requires.joint.tidy c.in-Client.client c.args.peer o.0 (ap (λ a. open_ask (world c.args.self.now) a c.args.peer) (sym c.in-Client.is) ∙ o.1) ∙ ap (λ a. stepped None (cluster c.args.self.now) (event.FailGather a c.args.peer)) (sym c.in-Client.is)) c.client_turn.ensures.turned;
      kept = c.client_turn.ensures.kept;
    }
