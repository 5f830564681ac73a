use Rattle.cluster_rules.specs.WorldStep.{cut_off}
use Rattle.std.proofs.Common.{◌+◌, None, refl, ap, ◌∙◌, arith}
use Rattle.cluster_msgs.specs.declared.cores.SchedEvent.TheVariants as sched
use Rattle.cluster_laws.specs.Blocks.{Cluster}
use Rattle.scheduler_core.specs.Cores.{facts}
use Rattle.cluster_nodes.specs.Turns.{in_world}
use Rattle.cluster_world.specs.Worlds.{cluster}
use Rattle.cluster_world.proofs.Acting as acting
use Rattle.cluster_world.proofs.Rows as row
use Rattle.cluster_world.proofs.Taking as taking
use Rattle.cluster_world.proofs.state.State.see_loss.Goals as goal

pub scheduler_turn-requires : goal.scheduler_turn-requires
scheduler_turn-requires g c =
    record { nodes = c.requires.joint.nodes; workers = acting.workers_stay c.args.self.now c.requires.joint (sched.Leave c.args.worker) refl; clients = c.requires.joint.clients; takes = taking.takes_leave c.args.self.now c.requires.joint c.args.worker (acting.can_see c.args.self.now c.requires.joint c.args.worker c.requires.possible); room = taking.has_room c.args.self.now c.requires.joint c.requires.room }

pub returns-in_err-scheduler_turn : goal.returns-in_err-scheduler_turn
returns-in_err-scheduler_turn g c =
    record { moved = acting.exits _ _ c.from_residual.result c.from_residual.ensures.1; kept = c.scheduler_turn.ensures.kept }

pub cut_off-requires : goal.cut_off-requires
cut_off-requires g c =
    let n = acting.connected_number c.args.self.now c.requires.joint c.sound.ensures c.args.worker (acting.can_see c.args.self.now c.requires.joint c.args.worker c.requires.possible) in let m = c.in_ok-scheduler_turn.ensures.turned.more in record { nodes = c.in_ok-scheduler_turn.ensures.turned.nodes; worker = omega (arith, n, m) }

pub returns : goal.returns
returns g c =
    let t = c.in_ok-scheduler_turn.ensures.turned in let h = c.cut_off.ensures.same in
    record {
      moved = record {
        cluster = c.cut_off.ensures.cluster (facts c.scheduler_turn.new.self.sched) ∙ ap (λ (x : Cluster _). in_world x (cut_off x.world c.args.worker)) t.cluster ∙ row.see_loss_is None (cluster c.args.self.now) c.requires.joint.tidy c.args.worker;
        nodes = c.cut_off.ensures.nodes;
        shape = h.shape ∙ t.shape;
        workers = h.workers ∙ t.workers;
        clients = h.clients ∙ t.clients;
        more = let a = h.workers in let b = t.more in omega (arith, a, b);
        few = λ n d. let k = t.few n d in (c.cut_off.ensures.few (n + 1) k.0, k.1);
      };
      kept = acting.kept_both c.args.self.now c.scheduler_turn.new.self _ c.scheduler_turn.ensures.kept (acting.kept_nodes c.scheduler_turn.new.self c.cut_off.new.self);
    }
