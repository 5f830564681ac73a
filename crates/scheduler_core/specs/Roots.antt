-- Keys that wait for a worker. Where one without dependencies finds none, none does.
use Rattle.std.specs.Prelude.{◌≡◌, ℕ, Bool, true, None, not, ◌&&◌}
use Rattle.cluster_rules.specs.Sched.{Facts}
use Rattle.cluster_rules.specs.Policies.{place}
use Rattle.task_table.specs.Tasks.{is_root, is_queued}

-- no key without dependencies could be placed
abbrev pub RootsWait : Facts → Type 0
RootsWait f = (k : ℕ) → is_root f k ≡ true → place f k ≡ None

-- the key waits for a worker, and not in vain as far as is known
abbrev pub is_due : Facts → Bool → ℕ → Bool
is_due f roots_wait k = is_queued f k && not (roots_wait && is_root f k)
