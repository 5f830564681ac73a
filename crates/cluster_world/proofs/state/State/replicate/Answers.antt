use Rattle.std.proofs.Common.{None, refl}
use Rattle.cluster_msgs.specs.declared.cores.SchedEvent.TheVariants as sched
use Rattle.cluster_world.specs.Worlds.{cluster}
use Rattle.cluster_world.proofs.Acting as acting
use Rattle.cluster_world.proofs.Rows as row
use Rattle.cluster_world.proofs.Taking as taking
use Rattle.cluster_world.proofs.state.State.replicate.Goals as goal

pub scheduler_turn-requires : goal.scheduler_turn-requires
scheduler_turn-requires g c =
    record { nodes = c.requires.joint.nodes; workers = acting.workers_stay c.args.self.now c.requires.joint (sched.Replicate c.args.key c.args.worker) refl; clients = c.requires.joint.clients; takes = taking.takes_replicate c.args.self.now c.requires.joint c.args.key c.args.worker c.requires.possible; room = taking.has_room c.args.self.now c.requires.joint c.requires.room }

pub returns-clause-moved : goal.returns-clause-moved
returns-clause-moved g c =
    acting.on_turned c.args.self.now _ c.scheduler_turn.result _ _ (row.replicate_is None (cluster c.args.self.now) c.requires.joint.tidy c.args.key c.args.worker) c.scheduler_turn.ensures.turned

pub returns-clause-kept : goal.returns-clause-kept
returns-clause-kept g c = c.scheduler_turn.ensures.kept
