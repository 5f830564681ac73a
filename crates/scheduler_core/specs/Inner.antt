-- What a `Sched` keeps.
use Rattle.std.specs.Prelude.{◌≡◌, ℕ, ◌+◌, ◌*◌, ◌^◌, ◌≤◌, false}
use Rattle.cluster_rules.specs.Sched.{Facts}
use Rattle.cluster_laws.specs.Settled.{IsSettled}
use Rattle.cluster_laws.specs.Losses.{AreFew}
use Rattle.key_sets.specs.Sets.{has}
use Rattle.task_table.specs.Tasks.{facts}
use Rattle.scheduler_core.specs.Cores.{Core}
use Rattle.cluster_rules.specs.Runs.{event_limit}
use Rattle.scheduler_core.specs.declared.sched.Sched.TheInside.{Inside}

abbrev pub seen_core : Inside → Core
seen_core a = record { stored = a.table.stored; stopped = a.stopped; taken = a.taken }

-- what holds of the facts after so many events: they have settled, and each event drew few numbers and sent few messages
pub record IsAfter (f : Facts) (taken : ℕ) : Type 0 where
  pub settled : IsSettled f
  pub few : AreFew f
  pub counter : f.counter ≤ 1 + taken * 2 ^ 16
  pub finishes : f.finishes ≤ taken
  pub sent : (w : ℕ) → f.sent w ≤ taken * (3 * 2 ^ 20)

pub record IsCore (a : Inside) : Type 0 where
  pub limit : a.taken ≤ event_limit
  pub after : a.stopped ≡ false → IsAfter (facts a.table) a.taken
  pub untouched : a.stopped ≡ false → (k : ℕ) → has a.table.touched k ≡ false
