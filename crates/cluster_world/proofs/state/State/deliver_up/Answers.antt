use Rattle.std.proofs.Common.{None, sym, ◌∙◌}
use Rattle.cluster_rules.specs.Sched.{Facts}
use Rattle.cluster_nodes.specs.Nodes.{cluster_of}
use Rattle.cluster_nodes.specs.Turns.{up_taken}
use Rattle.cluster_world.specs.Worlds.{cluster}
use Rattle.cluster_world.proofs.Acting as acting
use Rattle.cluster_world.proofs.Rows as row
use Rattle.cluster_nodes.proofs.Counting.{took_more}
use Rattle.cluster_world.proofs.state.State.deliver_up.Goals as goal

pub hear-requires : goal.hear-requires
hear-requires g c =
    record { joint = c.requires.joint; room = c.requires.room; possible = c.requires.possible; connected = sym c.is_connected.ensures ∙ c.if-is_connected.true }

pub returns-then-is_connected : goal.returns-then-is_connected
returns-then-is_connected g c = c.hear.ensures

pub take_up-dropped-requires : goal.take_up-dropped-requires
take_up-dropped-requires g c =
    record { nodes = c.requires.joint.nodes; worker = acting.can_take_up c.args.self.now c.requires.joint c.args.worker c.requires.possible }

pub returns-else-is_connected : goal.returns-else-is_connected
returns-else-is_connected g c =
    record {
      moved = acting.turned_to c.args.self.now _ _ _ (row.up_dropped None (cluster c.args.self.now) c.requires.joint.tidy c.args.worker (sym c.is_connected.ensures ∙ c.if-is_connected.false) (acting.has_up c.args.self.now c.requires.joint c.args.worker c.requires.possible)) (acting.nodes_turned c.args.self.now c.requires.joint c.take_up-dropped.new.self (λ (f : Facts). up_taken (cluster_of f c.args.self.now.nodes) c.args.worker) c.take_up-dropped.ensures.cluster c.take_up-dropped.ensures.nodes c.take_up-dropped.ensures.same (λ b t. took_more b c.take_up-dropped.new.self (c.take_up-dropped.ensures.few b t)));
      kept = acting.kept_nodes c.args.self.now c.take_up-dropped.new.self;
    }
