-- Keys that workers lose in one event, as pairs of worker and key, and what an event changes by itself.
use Rattle.std.specs.Prelude.{ℕ, List}
use Rattle.cluster_rules.specs.Sched.{Facts}
use Rattle.cluster_rules.specs.SchedTable.{Changed, plain}
pub use Rattle.sched_facts.specs.Pairs.{has_pair}

-- facts and freed keys, and nothing else
abbrev pub so_far : Facts → List (ℕ × ℕ) → Changed
so_far f ps = record (plain f) { freed = has_pair ps }
