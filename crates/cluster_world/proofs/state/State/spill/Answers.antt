use Rattle.cluster_rules.specs.WorldStep.{spill}
use Rattle.std.proofs.Common.{None}
use Rattle.cluster_rules.specs.Sched.{Facts}
use Rattle.cluster_nodes.specs.Nodes.{cluster_of, world_of}
use Rattle.cluster_nodes.specs.Turns.{in_world}
use Rattle.cluster_world.specs.Worlds.{cluster}
use Rattle.cluster_world.proofs.Acting as acting
use Rattle.cluster_world.proofs.Rows as row
use Rattle.cluster_nodes.proofs.Counting.{took_more}
use Rattle.cluster_world.proofs.state.State.spill.Goals as goal

pub spill-requires : goal.spill-requires
spill-requires g c =
    let a = acting.can_spill c.args.self.now c.requires.joint c.args.worker c.args.key c.requires.possible in record { nodes = c.requires.joint.nodes; worker = acting.worker_number c.args.self.now c.requires.joint c.args.worker a.0; key = acting.held_key c.args.self.now c.requires.joint c.args.worker c.args.key a.1 }

pub returns-clause-moved : goal.returns-clause-moved
returns-clause-moved g c =
    acting.turned_to c.args.self.now _ _ _ (row.spill_is None (cluster c.args.self.now) c.requires.joint.tidy c.args.worker c.args.key) (acting.nodes_turned c.args.self.now c.requires.joint c.spill.new.self (λ (f : Facts). in_world (cluster_of f c.args.self.now.nodes) (spill (world_of f c.args.self.now.nodes) c.args.worker c.args.key)) c.spill.ensures.cluster c.spill.ensures.nodes c.spill.ensures.same (λ b t. took_more b c.spill.new.self (c.spill.ensures.few b t)))

pub returns-clause-kept : goal.returns-clause-kept
returns-clause-kept g c = acting.kept_nodes c.args.self.now c.spill.new.self
