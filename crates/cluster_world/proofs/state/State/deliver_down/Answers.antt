use Rattle.std.proofs.Common.{None}
use Rattle.scheduler_core.specs.Cores.{facts}
use Rattle.cluster_rules.specs.Sched.{Facts}
use Rattle.cluster_nodes.specs.Nodes.{cluster_of, world_of}
use Rattle.cluster_nodes.specs.Turns.{down_delivered}
use Rattle.cluster_world.specs.Worlds.{cluster}
use Rattle.cluster_world.proofs.Acting as acting
use Rattle.cluster_world.proofs.Rows as row
use Rattle.cluster_world.proofs.Telling.{alive_is}
use Rattle.cluster_world.proofs.Taking as taking
use Rattle.cluster_world.proofs.state.State.deliver_down.Goals as goal

pub deliver_down-requires : goal.deliver_down-requires
deliver_down-requires g c =
    let a = acting.can_take_down c.args.self.now c.requires.joint c.args.worker c.requires.possible in record { nodes = c.requires.joint.nodes; worker = acting.worker_number c.args.self.now c.requires.joint c.args.worker a; alive = alive_is c.args.self.now c.args.worker a }

pub without_refusal-requires : goal.without_refusal-requires
without_refusal-requires g c =
    record { refused = λ r. taking.takes_down c.args.self.now c.requires.joint c.args.worker (c.deliver_down.ensures.refused r (facts c.args.self.now.sched)); spent = λ r. taking.not_spent c.args.self.now c.requires.joint c.requires.room (c.deliver_down.ensures.spent r) }

pub returns-clause-moved : goal.returns-clause-moved
returns-clause-moved g c =
    acting.passed _ c.without_refusal.result c.deliver_down.result c.without_refusal.ensures (acting.on_turned c.args.self.now _ c.deliver_down.result _ _ (row.down_step None (cluster c.args.self.now) c.requires.joint.tidy c.args.worker)
    (acting.on_ok4 c.deliver_down.result (λ e n h f. acting.nodes_turned c.args.self.now c.requires.joint c.deliver_down.new.self (λ (f : Facts). down_delivered (cluster_of f c.args.self.now.nodes) c.args.worker ((world_of f c.args.self.now.nodes).down c.args.worker)) e n h f) c.deliver_down.ensures.cluster c.deliver_down.ensures.nodes c.deliver_down.ensures.same c.deliver_down.ensures.few))

pub returns-clause-kept : goal.returns-clause-kept
returns-clause-kept g c = acting.kept_nodes c.args.self.now c.deliver_down.new.self
