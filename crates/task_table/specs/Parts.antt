-- The flags, the queues and the touched keys of a table, and what ties them to the facts.
use Rattle.std.specs.Prelude.{◌≡◌, ℕ, ◌<◌, ◌≤◌, ◌==◌, true, false}
use Rattle.cluster_rules.specs.Sched.{Facts, keys}
use Rattle.key_sets.specs.Sets.{has, room}
use Rattle.task_table.specs.Tasks.{queued_root, queued_other}
use Rattle.task_table.specs.Standing.{IsSeededBut, IsStanding, IsQuiet, SameLevels, root_by, other_by}
use Rattle.task_table.specs.declared.queues.Queues.{Queues}
use Rattle.task_table.specs.declared.parts.Parts.{Parts}

-- there is room for so many keys in both queues
pub record HasRooms (n : ℕ) (q : Queues) : Type 0 where
  pub roots : n ≤ room q.roots
  pub others : n ≤ room q.others

-- the rooms of both queues are the same in r as in q
pub record SameRooms (q r : Queues) : Type 0 where
  pub roots : room r.roots ≡ room q.roots
  pub others : room r.others ≡ room q.others

-- there is room for each key, the marks are empty, and touched keys are keys
pub record IsRoomy (n : ℕ) (p : Parts) : Type 0 where
  pub queues : HasRooms n p.queues
  pub marks : n ≤ room p.marks
  pub touched : n ≤ room p.touched
  pub unmarked : (k : ℕ) → has p.marks k ≡ false
  pub within : (k : ℕ) → has p.touched k ≡ true → k < n
  pub few_roots : (k : ℕ) → n ≤ k → has p.queues.roots k ≡ false
  pub few_others : (k : ℕ) → n ≤ k → has p.queues.others k ≡ false

-- no key is queued or touched
pub record IsEmpty (p : Parts) : Type 0 where
  pub roots : (k : ℕ) → has p.queues.roots k ≡ false
  pub others : (k : ℕ) → has p.queues.others k ≡ false
  pub touched : (k : ℕ) → has p.touched k ≡ false

-- each part says what is derived from the facts
pub record IsParts (f : Facts) (p : Parts) : Type 0 where
  pub standing : IsStanding f p.levels
  pub quiet : IsQuiet p.levels
  pub roomy : IsRoomy (keys f) p
  pub roots : (k : ℕ) → k < keys f → has p.queues.roots k ≡ queued_root f k
  pub others : (k : ℕ) → k < keys f → has p.queues.others k ≡ queued_other f k

-- the same but for the key that a change is about: seeds, gates and queues are those of the facts and of the flags as they are kept
pub record IsNearly (f : Facts) (p : Parts) (key : ℕ) : Type 0 where
  pub seeded : IsSeededBut f p.levels key
  pub quiet : IsQuiet p.levels
  pub roomy : IsRoomy (keys f) p
  pub roots : (k : ℕ) → k < keys f → (k == key) ≡ false → has p.queues.roots k ≡ root_by f p.levels k
  pub others : (k : ℕ) → k < keys f → (k == key) ≡ false → has p.queues.others k ≡ other_by f p.levels k

-- what following a change of one key does: where a flag or a count differs the key is touched, and so is the key itself
pub record IsFollowed (n : ℕ) (p q : Parts) (key : ℕ) : Type 0 where
  pub kept : (k : ℕ) → k < n → has q.touched k ≡ false → SameLevels p.levels q.levels k
  pub grows : (k : ℕ) → has p.touched k ≡ true → has q.touched k ≡ true
  pub named : has q.touched key ≡ true
