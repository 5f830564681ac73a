-- What holds of the world after every legal list of events, besides what `cluster_rules` says of it.
use Rattle.std.specs.Prelude.{◌≡◌, ℕ, ◌<◌, true}
use Rattle.cluster_msgs.specs.Shape.{key_count}
use Rattle.cluster_rules.specs.World.{World, shape_of, is_connected}
use Rattle.pair_machine.specs.Pair.{Pair, IsPair}
use Rattle.pair_moves.specs.Projection.{Side, pair_of}

-- the worker's side of a pair, with the links
abbrev pub side_of : World → ℕ → ℕ → Side
side_of w i k = record { down = w.down i; seen = (w.workers i).seen; mine = (w.workers i).mine k; mem = (w.workers i).mem k; up = w.up i }

abbrev pub pair_at : World → ℕ → ℕ → Pair
pair_at w i k = pair_of w.sched i k (side_of w i k)

-- the pair of each worker that is alive and connected, and each key
abbrev pub IsPaired : World → Type 0
IsPaired w = (i k : ℕ) → k < key_count (shape_of w) → w.alive i ≡ true → is_connected w i ≡ true → IsPair (pair_at w i k)
