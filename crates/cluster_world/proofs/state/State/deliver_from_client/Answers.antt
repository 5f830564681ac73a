use Rattle.std.proofs.Common.{None, refl, ap, ◌∙◌, arith}
use Rattle.cluster_msgs.specs.declared.cores.SchedEvent.TheVariants as sched
use Rattle.cluster_rules.specs.WorldStep.{at_scheduler}
use Rattle.cluster_laws.specs.Blocks.{Cluster}
use Rattle.scheduler_core.specs.Cores.{facts}
use Rattle.cluster_nodes.specs.Turns.{in_world}
use Rattle.cluster_world.specs.Worlds.{cluster, world}
use Rattle.cluster_world.proofs.Acting as acting
use Rattle.cluster_world.proofs.Rows as row
use Rattle.cluster_world.proofs.Taking as taking
use Rattle.cluster_world.proofs.state.State.deliver_from_client.Goals as goal

pub take_from_client-requires : goal.take_from_client-requires
take_from_client-requires g c =
    record { nodes = c.requires.joint.nodes; client = acting.client_place c.args.self.now c.requires.joint c.args.client (acting.can_be_heard c.args.self.now c.requires.joint c.args.client c.requires.possible) }

pub scheduler_turn-requires : goal.scheduler_turn-requires
scheduler_turn-requires g c =
    record { nodes = c.take_from_client.ensures.nodes; workers = c.take_from_client.ensures.same.workers ∙ acting.workers_stay c.args.self.now c.requires.joint (sched.FromClient c.args.client c.in-Some.msg) refl; clients = c.take_from_client.ensures.same.clients ∙ c.requires.joint.clients; takes = taking.takes_message c.args.self.now c.requires.joint c.args.client c.in-Some.msg (c.in-Some.ensures.first (facts c.args.self.now.sched)); room = taking.has_room c.args.self.now c.requires.joint c.requires.room }

pub returns-in-Some : goal.returns-in-Some
returns-in-Some g c =
    record {
      moved = let more = c.take_from_client.ensures.same.workers in
          acting.on_after c.args.self.now (record c.args.self.now { nodes = c.take_from_client.new.self }) _ c.scheduler_turn.result _ _ c.take_from_client.ensures.same.shape c.take_from_client.ensures.same.clients (omega (arith, more)) (λ b t. (c.take_from_client.ensures.few b t.0, t.1))
          (ap (λ (x : Cluster _). in_world x (at_scheduler x.world (sched.FromClient c.args.client c.in-Some.msg))) (c.take_from_client.ensures.cluster (facts c.args.self.now.sched)) ∙ row.from_client_row None (cluster c.args.self.now) c.requires.joint.tidy c.args.client c.in-Some.msg (acting.front_is c.in-Some.msg ((world c.args.self.now).from_client c.args.client) (c.in-Some.ensures.first (facts c.args.self.now.sched))))
          c.scheduler_turn.ensures.turned;
      kept = acting.kept_both c.args.self.now (record c.args.self.now { nodes = c.take_from_client.new.self }) _ (acting.kept_nodes c.args.self.now c.take_from_client.new.self) c.scheduler_turn.ensures.kept;
    }

pub returns-in-None : goal.returns-in-None
returns-in-None g c =
    acting.no_front ((world c.args.self.now).from_client c.args.client) (c.in-None.ensures.first (facts c.args.self.now.sched)) (acting.has_message c.args.self.now c.requires.joint c.args.client c.requires.possible)
