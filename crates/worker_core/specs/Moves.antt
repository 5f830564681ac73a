-- What is worked out of a worker's facts after each event: which peers hold a key to fetch.
use Rattle.std.specs.Prelude.{◌≡◌, ℕ, ◌<◌, false, length}
use Rattle.cluster_rules.specs.Worker.{WorkerFacts, fetchable, has_any}
use Rattle.fact_rows.specs.Rows.{read}
use Rattle.worker_core.specs.declared.moves.Moves.{Moves}

-- for each peer that the row has, whether it holds a key to fetch
pub record AreMoves (w : WorkerFacts) (m : Moves) : Type 0 where
  pub peers : (p : ℕ) → p < length m.peers → read m.peers false p ≡ has_any (fetchable w p)
