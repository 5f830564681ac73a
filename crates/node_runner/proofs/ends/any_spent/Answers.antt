use Rattle.std.proofs.Common.{sym}
use Rattle.node_runner.proofs.ends.any_spent.Goals as goal

pub returns-then-is_spent : goal.returns-then-is_spent
returns-then-is_spent g c = λ yes. (c.worker-item.result, (c.loop-worker.worker-index, c.loop-worker-test.true, sym c.worker-item.is), c.is_spent.ensures c.if-is_spent.true)
