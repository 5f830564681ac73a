use Rattle.std.proofs.Common.{None}
use Rattle.cluster_rules.specs.Sched.{Facts}
use Rattle.cluster_rules.specs.World.{parcel_of}
use Rattle.cluster_nodes.specs.Nodes.{cluster_of, world_of}
use Rattle.cluster_nodes.specs.Turns.{served_by}
use Rattle.cluster_nodes.proofs.Counting.{took_more}
use Rattle.cluster_world.specs.Worlds.{cluster}
use Rattle.cluster_world.proofs.Acting as acting
use Rattle.cluster_world.proofs.Gathers as gather
use Rattle.cluster_world.proofs.Telling.{alive_is}
use Rattle.cluster_world.proofs.state.State.serve.Goals as goal

pub serve-requires : goal.serve-requires
serve-requires g c =
    let a = acting.can_serve c.args.self.now c.requires.joint c.args.peer c.args.asker c.args.ask c.requires.possible in record { nodes = c.requires.joint.nodes; peer = acting.worker_number c.args.self.now c.requires.joint c.args.peer a; alive = alive_is c.args.self.now c.args.peer a }

pub returns-clause-moved : goal.returns-clause-moved
returns-clause-moved g c =
    acting.on_turned c.args.self.now _ c.serve.result _ _ (gather.serve_is None (cluster c.args.self.now) c.requires.joint.tidy c.args.peer c.args.asker c.args.ask)
    (acting.on_ok4 c.serve.result (λ e n h f. acting.nodes_turned c.args.self.now c.requires.joint c.serve.new.self (λ (f : Facts). served_by (cluster_of f c.args.self.now.nodes) c.args.asker c.args.peer c.args.ask (parcel_of c.args.asker c.args.peer c.args.ask (world_of f c.args.self.now.nodes).requests)) e n h (λ b t. took_more b c.serve.new.self (f b t))) c.serve.ensures.cluster c.serve.ensures.nodes c.serve.ensures.same c.serve.ensures.few)

pub returns-clause-kept : goal.returns-clause-kept
returns-clause-kept g c = acting.kept_nodes c.args.self.now c.serve.new.self
