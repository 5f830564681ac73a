use Rattle.std.proofs.Common.{rules, sym, ◌∙◌}
use Rattle.cluster_world.proofs.Telling.{alive_there, worker_at}
use Rattle.cluster_world.proofs.state.State.worker.Goals as goal

pub index-requires : goal.index-requires
index-requires g c = let h = alive_there c.args.self.now c.requires c.args.worker (sym c.is_alive.ensures ∙ c.if-is_alive.true) in search (rules, h)

pub returns-then-is_alive : goal.returns-then-is_alive
returns-then-is_alive g c = let a = sym c.is_alive.ensures ∙ c.if-is_alive.true in (a, worker_at c.args.self.now c.requires c.args.worker c.index.result.now a c.index.ensures)

pub returns-else-is_alive : goal.returns-else-is_alive
returns-else-is_alive g c = sym c.is_alive.ensures ∙ c.if-is_alive.false
