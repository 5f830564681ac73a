-- How many workers a key can have lost.
use Rattle.std.specs.Prelude.{ℕ, ◌+◌, ◌≤◌, length}
use Rattle.cluster_rules.specs.Sched.{Facts, workers}

-- with the workers that are connected a key has lost no more than ever joined
abbrev pub AreFew : Facts → Type 0
AreFew f = (k : ℕ) → f.losses k + length (workers f) ≤ f.last_worker
