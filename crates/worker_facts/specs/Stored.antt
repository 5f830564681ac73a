-- The facts of a worker as they are kept, in rows by key, and what the rows mean.
use Rattle.std.specs.Prelude.{◌≡◌, ℕ, Bool, false, not, ◌&&◌, List, [], Option, None, is_some, length, filter, find, min}
use Rattle.cluster_msgs.specs.Shape.{Shape, key_count, deps_of, IsShape}
use Rattle.cluster_rules.specs.Functions.{count, from_one}
use Rattle.cluster_rules.specs.Derived.{below, is_in}
use Rattle.cluster_rules.specs.Worker.{Ask, WorkerFacts, worker_keys, flying, is_wanted, wstate, is_ready_state, first_fit}
use Rattle.fact_rows.specs.Rows.{read}

pub record Stored : Type 0 where
  pub shape : Shape
  pub id : ℕ
  pub threads : ℕ
  pub seen : ℕ
  pub mine : List (Option ℕ)
  pub mem : List Bool
  pub running : List Bool
  pub asks : List Ask
  pub holders : List (List (ℕ × ℕ))
  pub asked : List Bool
  pub sought : List Bool
  pub failed : List Bool
  pub next_ask : ℕ

-- what the rows mean
unfoldable pub facts_of : Stored → WorkerFacts
facts_of s = record {
  shape = s.shape;
  id = s.id;
  threads = s.threads;
  seen = s.seen;
  mine = read s.mine None;
  mem = read s.mem false;
  running = read s.running false;
  asks = s.asks;
  holders = read s.holders [];
  asked = read s.asked false;
  sought = read s.sought false;
  failed = read s.failed false;
  next_ask = s.next_ask;
}

-- each row has a member for each key
pub record IsStored (s : Stored) : Type 0 where
  pub shape : IsShape s.shape
  pub mine : length s.mine ≡ key_count s.shape
  pub mem : length s.mem ≡ key_count s.shape
  pub running : length s.running ≡ key_count s.shape
  pub holders : length s.holders ≡ key_count s.shape
  pub asked : length s.asked ≡ key_count s.shape
  pub sought : length s.sought ≡ key_count s.shape
  pub failed : length s.failed ≡ key_count s.shape

-- the tasks that don't run, of these rows
abbrev pub pends : List (Option ℕ) → List Bool → ℕ → Bool
pends mine running j = is_some (read mine None j) && not (read running false j)

-- how many of these tasks depend on a key
abbrev pub waiters : Shape → (ℕ → Bool) → ℕ → ℕ
waiters g pend k = count (λ j. pend j && is_in k (deps_of g j)) (below (key_count g))

-- a task of the worker depends on the key
abbrev pub uses_key : WorkerFacts → ℕ → ℕ → Bool
uses_key w k j = is_some (w.mine j) && is_in k (deps_of w.shape j)

-- the key is wanted and not on its way, and no task of the worker
abbrev pub is_lacking : WorkerFacts → ℕ → Bool
is_lacking w k = not (w.mem k) && (not (w.running k) && (not (flying w k) && (not (is_some (w.mine k)) && is_wanted w k)))

-- the least ready task
abbrev pub first_ready : WorkerFacts → Option ℕ
first_ready w = find (λ k. is_ready_state (wstate w k)) (worker_keys w)

-- how many of these items, from the first, go into one ask
abbrev pub fitting_count : Shape → List (ℕ × ℕ) → ℕ
fitting_count g is = length (filter (first_fit g is) (from_one (min 16 (length is))))
