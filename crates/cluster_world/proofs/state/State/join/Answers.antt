use Rattle.cluster_nodes.specs.Turns.{joined}
use Rattle.cluster_laws.proofs.Framed.{step_last}
use Rattle.std.proofs.Common.{◌+◌, ℕ, None, sym, ap, ◌∙◌, arith, length}
use Rattle.cluster_msgs.specs.declared.cores.SchedEvent.TheVariants as sched
use Rattle.cluster_rules.specs.WorldStep.{at_scheduler}
use Rattle.cluster_laws.specs.Blocks.{Cluster}
use Rattle.scheduler_core.specs.Cores.{facts}
use Rattle.cluster_nodes.specs.Nodes.{world_of}
use Rattle.cluster_nodes.specs.Turns.{in_world}
use Rattle.cluster_world.specs.Worlds.{cluster}
use Rattle.cluster_world.proofs.Acting as acting
use Rattle.cluster_world.proofs.Rows as row
use Rattle.cluster_world.proofs.Taking as taking
use Rattle.cluster_world.proofs.state.State.join.Goals as goal

pub join-requires : goal.join-requires
join-requires g c =
    record { nodes = c.requires.joint.nodes; few = acting.can_join c.args.self.now c.requires.joint c.args.threads c.requires.possible }

pub returns-in_err-join : goal.returns-in_err-join
returns-in_err-join g c =
    record { moved = acting.exits _ _ c.from_residual.result c.from_residual.ensures.1; kept = acting.kept_nodes c.args.self.now c.join.new.self }

pub scheduler_turn-requires : goal.scheduler_turn-requires
scheduler_turn-requires g c =
    record { nodes = c.in_ok-join.ensures.nodes; workers = c.in_ok-join.ensures.workers ∙ ap (λ n. n + 1) (c.requires.joint.workers ∙ sym (step_last (facts c.args.self.now.sched) (sched.Join c.args.threads))); clients = c.in_ok-join.ensures.clients ∙ c.requires.joint.clients; takes = taking.takes_join c.args.self.now c.requires.joint c.args.threads c.requires.possible; room = taking.has_room c.args.self.now c.requires.joint c.requires.room }

pub returns-clause-moved : goal.returns-clause-moved
unfolding world_of
returns-clause-moved g c =
    let more = c.in_ok-join.ensures.workers in
    let n = length c.args.self.now.nodes.workers.items in
    let to = λ (x : Cluster _). in_world x (at_scheduler x.world (sched.Join c.args.threads)) in
    acting.on_after c.args.self.now (record c.args.self.now { nodes = c.join.new.self }) _ c.scheduler_turn.result _ _ c.in_ok-join.ensures.shape c.in_ok-join.ensures.clients (omega (arith, more)) (λ b t. (c.in_ok-join.ensures.few b t.0, t.1))
    (ap to (c.in_ok-join.ensures.cluster (facts c.args.self.now.sched) (sym c.requires.joint.shape)) ∙ ap (λ (n : ℕ). to (joined (cluster c.args.self.now) n c.args.threads)) c.requires.joint.workers ∙ row.join_is None (cluster c.args.self.now) c.requires.joint.tidy c.args.threads (acting.newcomer c.args.self.now c.requires.joint))
    c.scheduler_turn.ensures.turned

pub returns-clause-kept : goal.returns-clause-kept
returns-clause-kept g c =
    acting.kept_both c.args.self.now (record c.args.self.now { nodes = c.join.new.self }) _ (acting.kept_nodes c.args.self.now c.join.new.self) c.scheduler_turn.ensures.kept
