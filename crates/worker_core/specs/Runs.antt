-- The tasks that a worker runs, by key.
use Rattle.std.specs.Prelude.{◌≡◌, ℕ, ◌<◌, ◌≤◌, true, false, Option, Some, None}
use Rattle.cluster_rules.specs.Worker.{WorkerFacts}

-- the key runs, and none from the first one up to it
pub record IsLeastRun (w : WorkerFacts) (first key : ℕ) : Type 0 where
  pub past : first ≤ key
  pub runs : w.running key ≡ true
  pub before : (k : ℕ) → first ≤ k → k < key → w.running k ≡ false

-- the least key from this one on that runs
abbrev pub IsNextRun : WorkerFacts → ℕ → Option ℕ → Type 0
IsNextRun w first None = (k : ℕ) → first ≤ k → w.running k ≡ false
IsNextRun w first (Some key) = IsLeastRun w first key
