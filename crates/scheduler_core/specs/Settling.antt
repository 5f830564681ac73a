-- What settling takes away, before ready keys are placed.
use Rattle.std.specs.Prelude.{ℕ, Bool, not, ◌&&◌, ◌||◌}
use Rattle.cluster_rules.specs.Sched.{Facts, holds, is_on, need, ready}
use Rattle.cluster_rules.specs.SchedStep.{drop_bad, drop_has, drop_on}

-- errors only of known keys, copies only of needed ones, places only of ready ones
unfoldable pub let_go : Facts → Facts
let_go f = drop_on (drop_has (drop_bad f))

-- a copy goes, of this worker and this key
abbrev pub copy_goes : Facts → ℕ → ℕ → Bool
copy_goes f w k = holds f w k && not (need f k)

-- a place goes, of this worker and this key
abbrev pub place_goes : Facts → ℕ → ℕ → Bool
place_goes f w k = is_on f w k && not (ready f k)

-- a copy or a place goes
abbrev pub goes : Facts → ℕ → ℕ → Bool
goes f w k = copy_goes (drop_bad f) w k || place_goes (drop_has (drop_bad f)) w k
