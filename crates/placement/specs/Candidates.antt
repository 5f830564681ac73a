-- The candidates for a key as the code meets them, each with what it is ranked by.
use Rattle.std.specs.Prelude.{ℕ, ◌+◌, ◌/◌, Bool, true, not, ◌&&◌, List, [], ◌∷◌, Option, Some, None, cond, filter}
use Rattle.std.specs.List.{list_any}
use Rattle.cluster_rules.specs.Choice.{is_before, least_by}
use Rattle.cluster_rules.specs.Sched.{Facts, deps, holds, connected, workers, occupancy, bytes_held, threads_of, full}
use Rattle.cluster_rules.specs.Policies.{missing_bytes, place_rank}
use Rattle.placement.specs.declared.candidate.Candidate.{Candidate}
use Rattle.placement.specs.declared.candidate.Pool.{Pool}
use Rattle.placement.specs.declared.candidate.Pool.TheVariants.{NotFull, Holders, Everyone}

-- by cost, then bytes held, then number
abbrev pub rank_of : Candidate → List ℕ
rank_of c = c.cost ∷ c.held ∷ c.worker ∷ []

abbrev pub comes_before : Candidate → Candidate → Bool
comes_before y z = is_before (rank_of y) (rank_of z)

abbrev pub candidate_of : Facts → ℕ → ℕ → Candidate
candidate_of f k w = record { cost = occupancy f w / threads_of f w + missing_bytes f w k; held = bytes_held f w; worker = w }

-- the pool that a worker has to be in
abbrev pub admits : Facts → ℕ → Pool → ℕ → Bool
admits f k NotFull w = not (full f w)
admits f k Holders w = list_any (holds f w) (deps f k)
admits f k Everyone w = true

-- the worker as a candidate
unfoldable pub offer : Facts → ℕ → Pool → ℕ → Option Candidate
offer f k p w = cond (connected f w && admits f k p w) (Some (candidate_of f k w)) None

-- the connected worker of the pool with the least rank
unfoldable pub offered : Facts → ℕ → Pool → Option ℕ
offered f k p = least_by (place_rank f k) (filter (admits f k p) (workers f))
