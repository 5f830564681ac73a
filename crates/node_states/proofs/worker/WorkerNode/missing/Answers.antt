use Rattle.std.proofs.Common.{sym, ◌∙◌}
use Rattle.node_states.proofs.worker.WorkerNode.missing.Goals as goal

pub returns-then-is_recorded-clause-says : goal.returns-then-is_recorded-clause-says
returns-then-is_recorded-clause-says g c = rw (← c.id-id.ensures.id) (c.lose.ensures _ _ (c.holds.ensures c.if-not-holds.false) (sym c.is_recorded.ensures ∙ c.if-is_recorded.true))
