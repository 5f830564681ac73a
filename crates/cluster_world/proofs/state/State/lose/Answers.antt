use Rattle.std.proofs.Common.{None, ◌∙◌, arith}
use Rattle.scheduler_core.specs.Cores.{facts}
use Rattle.cluster_world.specs.Worlds.{cluster}
use Rattle.cluster_world.proofs.Acting as acting
use Rattle.cluster_world.proofs.Rows as row
use Rattle.cluster_nodes.proofs.Counting.{took_more}
use Rattle.cluster_world.proofs.state.State.lose.Goals as goal

pub lose-requires : goal.lose-requires
lose-requires g c =
    record { nodes = c.requires.joint.nodes; worker = acting.worker_number c.args.self.now c.requires.joint c.args.worker (acting.can_lose c.args.self.now c.requires.joint c.args.worker c.requires.possible) }

pub returns-clause-moved : goal.returns-clause-moved
returns-clause-moved g c =
    record { cluster = c.lose.ensures.cluster (facts c.args.self.now.sched) ∙ row.lose_is None (cluster c.args.self.now) c.requires.joint.tidy c.args.worker; nodes = c.lose.ensures.nodes; shape = c.lose.ensures.shape; workers = c.lose.ensures.workers ∙ c.requires.joint.workers; clients = c.lose.ensures.clients; more = let l = c.lose.ensures.workers in omega (arith, l); few = λ n t. (took_more n c.lose.new.self (c.lose.ensures.few n t.0), let l = t.1 in omega (arith, l)) }

pub returns-clause-kept : goal.returns-clause-kept
returns-clause-kept g c = acting.kept_nodes c.args.self.now c.lose.new.self
