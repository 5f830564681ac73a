use Rattle.std.proofs.Common.{None}
use Rattle.scheduler_core.specs.Cores.{facts}
use Rattle.cluster_rules.specs.Sched.{Facts}
use Rattle.cluster_nodes.specs.Nodes.{cluster_of, world_of}
use Rattle.cluster_nodes.specs.Turns.{client_told}
use Rattle.cluster_world.specs.Worlds.{cluster}
use Rattle.cluster_world.proofs.Acting as acting
use Rattle.cluster_world.proofs.Rows as row
use Rattle.cluster_world.proofs.Taking as taking
use Rattle.cluster_world.proofs.state.State.deliver_to_client.Goals as goal

pub deliver_to_client-requires : goal.deliver_to_client-requires
deliver_to_client-requires g c =
    record { nodes = c.requires.joint.nodes; client = acting.client_place c.args.self.now c.requires.joint c.args.client (acting.can_hear c.args.self.now c.requires.joint c.args.client c.requires.possible) }

pub without_refusal-requires : goal.without_refusal-requires
without_refusal-requires g c =
    record { refused = λ r. taking.takes_news c.args.self.now c.requires.joint c.args.client (c.deliver_to_client.ensures.refused r (facts c.args.self.now.sched)); spent = λ r. taking.not_spent c.args.self.now c.requires.joint c.requires.room (c.deliver_to_client.ensures.spent r) }

pub returns-clause-moved : goal.returns-clause-moved
returns-clause-moved g c =
    acting.passed _ c.without_refusal.result c.deliver_to_client.result c.without_refusal.ensures (acting.on_turned c.args.self.now _ c.deliver_to_client.result _ _ (row.told_step None (cluster c.args.self.now) c.requires.joint.tidy c.args.client)
    (acting.on_ok4 c.deliver_to_client.result (λ e n h f. acting.nodes_turned c.args.self.now c.requires.joint c.deliver_to_client.new.self (λ (f : Facts). client_told (cluster_of f c.args.self.now.nodes) c.args.client ((world_of f c.args.self.now.nodes).to_client c.args.client)) e n h f) c.deliver_to_client.ensures.cluster c.deliver_to_client.ensures.nodes c.deliver_to_client.ensures.same c.deliver_to_client.ensures.few))

pub returns-clause-kept : goal.returns-clause-kept
returns-clause-kept g c =
    acting.kept_nodes c.args.self.now c.deliver_to_client.new.self
