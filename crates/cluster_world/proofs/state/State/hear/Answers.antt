use Rattle.std.proofs.Common.{true, None, refl, ap, ◌∙◌, arith}
use Rattle.cluster_msgs.specs.declared.cores.SchedEvent.TheVariants as sched
use Rattle.cluster_rules.specs.WorldStep.{at_scheduler}
use Rattle.cluster_laws.specs.Blocks.{Cluster}
use Rattle.scheduler_core.specs.Cores.{facts}
use Rattle.cluster_nodes.specs.Turns.{in_world}
use Rattle.cluster_world.specs.Worlds.{cluster, world}
use Rattle.cluster_world.proofs.Acting as acting
use Rattle.cluster_world.proofs.Rows as row
use Rattle.cluster_world.proofs.Taking as taking
use Rattle.cluster_world.proofs.state.State.hear.Goals as goal

pub take_up-requires : goal.take_up-requires
take_up-requires g c =
    record { nodes = c.requires.joint.nodes; worker = acting.can_take_up c.args.self.now c.requires.joint c.args.worker c.requires.possible }

pub scheduler_turn-requires : goal.scheduler_turn-requires
scheduler_turn-requires g c =
    record { nodes = c.take_up.ensures.nodes; workers = c.take_up.ensures.same.workers ∙ acting.workers_stay c.args.self.now c.requires.joint (sched.FromWorker c.args.worker c.in-Some.up) refl; clients = c.take_up.ensures.same.clients ∙ c.requires.joint.clients; takes = taking.takes_up c.args.self.now c.requires.joint c.args.worker c.in-Some.up (c.in-Some.ensures.first (facts c.args.self.now.sched)) c.requires.connected; room = taking.has_room c.args.self.now c.requires.joint c.requires.room }

pub returns-in-Some : goal.returns-in-Some
returns-in-Some g c =
    record {
      moved = let more = c.take_up.ensures.same.workers in
          acting.on_after c.args.self.now (record c.args.self.now { nodes = c.take_up.new.self }) _ c.scheduler_turn.result _ _ c.take_up.ensures.same.shape c.take_up.ensures.same.clients (omega (arith, more)) (λ b t. (c.take_up.ensures.few b t.0, t.1))
          (ap (λ (x : Cluster _). in_world x (at_scheduler x.world (sched.FromWorker c.args.worker c.in-Some.up))) (c.take_up.ensures.cluster (facts c.args.self.now.sched)) ∙ row.up_row None (cluster c.args.self.now) c.requires.joint.tidy c.args.worker c.in-Some.up (acting.front_is c.in-Some.up ((world c.args.self.now).up c.args.worker) (c.in-Some.ensures.first (facts c.args.self.now.sched))) true c.requires.connected)
          c.scheduler_turn.ensures.turned;
      kept = acting.kept_both c.args.self.now (record c.args.self.now { nodes = c.take_up.new.self }) _ (acting.kept_nodes c.args.self.now c.take_up.new.self) c.scheduler_turn.ensures.kept;
    }

pub returns-in-None : goal.returns-in-None
returns-in-None g c =
    acting.no_front ((world c.args.self.now).up c.args.worker) (c.in-None.ensures.first (facts c.args.self.now.sched)) (acting.has_up c.args.self.now c.requires.joint c.args.worker c.requires.possible)
