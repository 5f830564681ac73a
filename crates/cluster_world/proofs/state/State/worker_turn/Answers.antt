use Rattle.std.proofs.Common.{sym, ap, ◌∙◌}
use Rattle.std.proofs.lemmas.Bool.{false≢true}
use Rattle.scheduler_core.specs.Cores.{facts}
use Rattle.cluster_rules.specs.Sched.{Facts}
use Rattle.cluster_nodes.specs.Nodes.{cluster_of}
use Rattle.cluster_nodes.specs.Turns.{among, nothing, worker_turned}
use Rattle.cluster_world.specs.Worlds.{cluster}
use Rattle.cluster_world.proofs.Acting as acting
use Rattle.cluster_world.proofs.Telling.{alive_is}
use Rattle.cluster_world.proofs.Taking as taking
use Rattle.cluster_world.proofs.state.State.worker_turn.Goals as goal

pub worker_turn-requires : goal.worker_turn-requires
worker_turn-requires g c =
    record { nodes = c.requires.joint.nodes; worker = acting.worker_number c.args.self.now c.requires.joint c.args.worker c.requires.alive; alive = alive_is c.args.self.now c.args.worker c.requires.alive }

pub without_refusal-requires : goal.without_refusal-requires
without_refusal-requires g c =
    record { refused = λ r. false≢true (sym (c.worker_turn.ensures.refused r (facts c.args.self.now.sched)) ∙ c.requires.takes); spent = λ r. taking.not_spent c.args.self.now c.requires.joint c.requires.room (c.worker_turn.ensures.spent r) }

pub returns-clause-turned : goal.returns-clause-turned
returns-clause-turned g c =
    acting.passed _ c.without_refusal.result c.worker_turn.result c.without_refusal.ensures (acting.on_turned c.args.self.now _ c.worker_turn.result _ (worker_turned (cluster c.args.self.now) c.args.worker c.args.event nothing) (ap (λ ps. worker_turned (cluster c.args.self.now) c.args.worker c.args.event (among ps)) c.new-none.ensures.items)
    (acting.on_ok4 c.worker_turn.result (λ e n h f. acting.nodes_turned c.args.self.now c.requires.joint c.worker_turn.new.self (λ (f : Facts). worker_turned (cluster_of f c.args.self.now.nodes) c.args.worker c.args.event (among c.new-none.result.items)) e n h f) c.worker_turn.ensures.cluster c.worker_turn.ensures.nodes c.worker_turn.ensures.same c.worker_turn.ensures.few))

pub returns-clause-kept : goal.returns-clause-kept
returns-clause-kept g c = acting.kept_nodes c.args.self.now c.worker_turn.new.self
