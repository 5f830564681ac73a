use Rattle.std.proofs.Common.{None}
use Rattle.scheduler_core.specs.Cores.{facts}
use Rattle.cluster_rules.specs.Sched.{Facts}
use Rattle.cluster_laws.specs.Moves.{delivery_of}
use Rattle.cluster_nodes.specs.Nodes.{cluster_of, blocks_in}
use Rattle.cluster_nodes.specs.Turns.{answer_arrived}
use Rattle.cluster_world.specs.Worlds.{cluster}
use Rattle.cluster_world.proofs.Acting as acting
use Rattle.cluster_world.proofs.Gathers as gather
use Rattle.cluster_world.proofs.Taking as taking
use Rattle.cluster_world.proofs.state.State.arrive.Goals as goal

pub arrive-requires : goal.arrive-requires
arrive-requires g c =
    record { nodes = c.requires.joint.nodes; asker = acting.asker_place c.args.self.now c.requires.joint c.args.asker (acting.can_arrive c.args.self.now c.requires.joint c.args.asker c.args.peer c.args.ask c.requires.possible) }

pub without_refusal-requires : goal.without_refusal-requires
without_refusal-requires g c =
    record { refused = λ r. taking.takes_answer c.args.self.now c.requires.joint c.args.asker c.args.peer c.args.ask (c.arrive.ensures.refused r (facts c.args.self.now.sched)); spent = λ r. taking.not_spent c.args.self.now c.requires.joint c.requires.room (c.arrive.ensures.spent r) }

pub returns-clause-moved : goal.returns-clause-moved
returns-clause-moved g c =
    acting.passed _ c.without_refusal.result c.arrive.result c.without_refusal.ensures (acting.on_turned c.args.self.now _ c.arrive.result _ _ (gather.arrive_is None (cluster c.args.self.now) c.requires.joint.tidy c.args.asker c.args.peer c.args.ask c.requires.carried)
    (acting.on_ok4 c.arrive.result (λ e n h f. acting.nodes_turned c.args.self.now c.requires.joint c.arrive.new.self (λ (f : Facts). answer_arrived (cluster_of f c.args.self.now.nodes) c.args.asker c.args.peer c.args.ask (delivery_of c.args.asker c.args.peer c.args.ask (blocks_in c.args.self.now.nodes).carried)) e n h f) c.arrive.ensures.cluster c.arrive.ensures.nodes c.arrive.ensures.same c.arrive.ensures.few))

pub returns-clause-kept : goal.returns-clause-kept
returns-clause-kept g c = acting.kept_nodes c.args.self.now c.arrive.new.self
