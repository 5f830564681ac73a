-- Keys that are listed for whoever goes over them: those on a worker, those that two workers or more hold, and those at each worker.
use Rattle.std.specs.Prelude.{◌≡◌, ℕ, ◌<◌, ◌≤◌, ◌==◌, nat_lt, Bool, true, false, ◌&&◌, ◌||◌, List, [], length, Option, Some, None, is_some, slice_index_or}
use Rattle.cluster_rules.specs.Sched.{Facts, keys, holds, is_on, holder_count}
use Rattle.key_sets.specs.Sets.{has, room}
use Rattle.task_table.specs.declared.lists.Lists.{Lists}

-- the key is on a worker
abbrev pub is_placed : Facts → ℕ → Bool
is_placed f k = is_some (f.on k)

-- two workers or more hold the key
abbrev pub is_shared : Facts → ℕ → Bool
is_shared f k = nat_lt 1 (holder_count f k)

-- the worker holds the key or has it
abbrev pub is_at : Facts → ℕ → ℕ → Bool
is_at f w k = holds f w k || is_on f w k

-- the set has just the keys that pass, and they are below n
pub record IsSetOf (n : ℕ) (p : ℕ → Bool) (ks : List ℕ) : Type 0 where
  pub exact : (k : ℕ) → has ks k ≡ p k
  pub within : (k : ℕ) → has ks k ≡ true → k < n

-- the key is in the set of the worker
abbrev pub in_row : List (List ℕ) → ℕ → ℕ → Bool
in_row rows w k = has (slice_index_or rows w []) k

-- this worker, if it is one
abbrev pub names : Option ℕ → ℕ → Bool
names None w = false
names (Some v) w = v == w

-- a set for each number that a worker can get, each with room for so many keys
pub record AreRows (n : ℕ) (rows : List (List ℕ)) : Type 0 where
  pub many : 1024 < length rows
  pub wide : (w : ℕ) → w < length rows → n ≤ room (slice_index_or rows w [])

-- the lists are those of the facts
pub record IsListed (f : Facts) (l : Lists) : Type 0 where
  pub placed_room : keys f ≤ room l.placed
  pub shared_room : keys f ≤ room l.shared
  pub rows : AreRows (keys f) l.rows.items
  pub placed : (k : ℕ) → has l.placed k ≡ is_placed f k
  pub shared : (k : ℕ) → has l.shared k ≡ is_shared f k
  pub at : (w k : ℕ) → in_row l.rows.items w k ≡ is_at f w k

-- the same but for one key, and of the workers' sets for the key at one or two workers
pub record IsListedBut (f : Facts) (l : Lists) (key : ℕ) (one other : Option ℕ) : Type 0 where
  pub placed_room : keys f ≤ room l.placed
  pub shared_room : keys f ≤ room l.shared
  pub rows : AreRows (keys f) l.rows.items
  pub placed : (k : ℕ) → (k == key) ≡ false → has l.placed k ≡ is_placed f k
  pub shared : (k : ℕ) → (k == key) ≡ false → has l.shared k ≡ is_shared f k
  pub at : (w k : ℕ) → ((names one w || names other w) && k == key) ≡ false → in_row l.rows.items w k ≡ is_at f w k
