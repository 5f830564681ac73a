use Rattle.std.proofs.Common.{◌||◌, ◌∙◌, cond}
use Rattle.cluster_world.proofs.state.State.worker_counts.Goals as goal
use Rattle.open_asks.proofs.AskLemmas.{byte_is}

pub returns : goal.returns
returns g c = c.from.ensures ∙ byte_is (c.is_alive.result || c.is_connected.result) ∙ (λ t. cond (c.is_alive.ensures t || c.is_connected.ensures t) 1 0)
