-- The values of keys, as they come.
use Rattle.std.specs.Prelude.{◌≡◌, ℕ, List, slice_index_or, Bool, is_some, Option, Some, None}
use Rattle.cluster_msgs.specs.Labels.{BlockFits, LabelFacts}

-- each value fits the key at whose place it is
pub record AreValues (facts : LabelFacts ℕ) (values : List (Option ℕ)) : Type 0 where
  pub each : (key value : ℕ) → slice_index_or values key None ≡ Some value → BlockFits facts key value

-- whether there is a value of the key; what is no key counts as there
abbrev pub has_value : List (Option ℕ) → ℕ → Bool
has_value values key = is_some (slice_index_or values key (Some 0))
