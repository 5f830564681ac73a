-- What callers see of the scheduler's core.
use Rattle.std.specs.Prelude.{ℕ, Bool}
use Rattle.cluster_rules.specs.Sched.{Facts}
use Rattle.sched_facts.specs.Stored.{Stored, facts_of}

-- the stored facts, whether it stopped for want of memory, and how many events it took
pub record Core : Type 0 where
  pub stored : Stored
  pub stopped : Bool
  pub taken : ℕ

-- the facts of a core
abbrev pub facts : Core → Facts
facts c = facts_of c.stored
