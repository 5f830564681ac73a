-- Entries of many lists as one list, by their stamps.
use Rattle.std.specs.Prelude.{◌≡◌, ℕ, ◌==◌, List, filter}
use Rattle.std.specs.List.{flat_map}
use Rattle.std.specs.List.Sorted.{IsNonDecreasingBy}
use Rattle.cluster_msgs.specs.declared.events.Entry.{Entry}

-- the entries with this stamp, in their order
abbrev pub with_stamp : ℕ → List Entry → List Entry
with_stamp s es = filter (λ e. e.stamp == s) es

-- the entries of the lists by their stamps, which ascend; those of each stamp in the order of the lists
pub record IsMerge (lists : List (List Entry)) (all : List Entry) : Type 0 where
  -- an entry's stamp is at most that of each later one
  pub rising : IsNonDecreasingBy (λ e. e.stamp) all
  pub each : (s : ℕ) → with_stamp s all ≡ with_stamp s (flat_map (λ es. es) lists)
