-- The facts of a worker, and the state of a key at it ("Worker State Machine" of Dask.distributed).
use Rattle.std.specs.Prelude.{ℕ, ◌==◌, nat_lt, nat_le, min, Bool, true, false, not, ◌&&◌, ◌||◌, List, [], ◌∷◌, Option, None, is_some, is_none, filter, find, map, cond, length, take}
use Rattle.std.specs.List.{list_any, list_all, filter_map}
use Rattle.std.specs.Option.{option_map}
use Rattle.cluster_msgs.specs.Shape.{Shape, key_count, deps_of, nbytes_of}
use Rattle.cluster_msgs.specs.declared.cores.WState.{WState}
use Rattle.cluster_msgs.specs.declared.cores.WState.TheVariants.{Memory, Executing, ResumedExecuting, CancelledExecuting, ResumedFlight, Flight, CancelledFlight, Ready, Waiting, Fetch, Missing, Error, Released, Forgotten}
use Rattle.cluster_rules.specs.Functions.{from_one, total, count}
use Rattle.cluster_rules.specs.Derived.{below, is_in}

-- what one asker has asked of one peer: the number of the ask, and each key with the copy that it is to be
pub record Ask : Type 0 where
  pub peer : ℕ
  pub number : ℕ
  pub items : List (ℕ × ℕ)

-- the facts of a worker. The first three never change
pub record WorkerFacts : Type 0 where
  pub shape : Shape
  pub id : ℕ
  pub threads : ℕ
  pub seen : ℕ  -- how many messages of the scheduler it has taken
  pub mine : ℕ → Option ℕ  -- key: the attempt that the scheduler gave it
  pub mem : ℕ → Bool  -- the keys whose blocks it holds
  pub running : ℕ → Bool
  pub asks : List Ask  -- the asks that are open, ascending by peer, at most one to each
  pub holders : ℕ → List (ℕ × ℕ)  -- key: who holds it, with the copy
  pub asked : ℕ → Bool  -- the scheduler was asked who holds the key, and hasn't answered
  pub sought : ℕ → Bool  -- the scheduler wants a copy here
  pub failed : ℕ → Bool
  pub next_ask : ℕ

-- a worker as it starts
abbrev pub new_worker : Shape → ℕ → ℕ → WorkerFacts
new_worker g id threads = record {
  shape = g;
  id = id;
  threads = threads;
  seen = 0;
  mine = λ k. None;
  mem = λ k. false;
  running = λ k. false;
  asks = [];
  holders = λ k. [];
  asked = λ k. false;
  sought = λ k. false;
  failed = λ k. false;
  next_ask = 1;
}

-- the keys of the graph, ascending
abbrev pub worker_keys : WorkerFacts → List ℕ
worker_keys w = below (key_count w.shape)

-- some open ask names the key
abbrev pub names_key : ℕ → Ask → Bool
names_key k a = list_any (λ i. i.0 == k) a.items

abbrev pub is_asked_for : List Ask → ℕ → Bool
is_asked_for asks k = list_any (names_key k) asks

unfoldable pub flying : WorkerFacts → ℕ → Bool
flying w k = is_asked_for w.asks k

-- a task of the worker that doesn't run
abbrev pub pending : WorkerFacts → ℕ → Bool
pending w j = is_some (w.mine j) && not (w.running j)

-- a pending task depends on the key
unfoldable pub awaited : WorkerFacts → ℕ → Bool
awaited w k = list_any (λ j. pending w j && is_in k (deps_of w.shape j)) (worker_keys w)

-- a task of the worker depends on the key
unfoldable pub used : WorkerFacts → ℕ → Bool
used w k = list_any (λ j. is_some (w.mine j) && is_in k (deps_of w.shape j)) (worker_keys w)

-- the worker has use for the block, and hasn't got it
abbrev pub is_wanted : WorkerFacts → ℕ → Bool
is_wanted w k = not (w.mem k) && (w.sought k || awaited w k)

-- each dependency is in memory
abbrev pub is_fed : WorkerFacts → ℕ → Bool
is_fed w k = list_all w.mem (deps_of w.shape k)

-- the list has a member
abbrev pub has_any : {A : Type 0} → List A → Bool
has_any [] = false
has_any (x ∷ xs) = true

-- the state of a key: the first line that fits
unfoldable pub wstate : WorkerFacts → ℕ → WState
wstate w k =
    cond (w.mem k) Memory
    (cond (w.running k && is_some (w.mine k)) Executing
    (cond (w.running k && is_wanted w k) ResumedExecuting
    (cond (w.running k) CancelledExecuting
    (cond (flying w k && is_some (w.mine k)) ResumedFlight
    (cond (flying w k && is_wanted w k) Flight
    (cond (flying w k) CancelledFlight
    (cond (is_some (w.mine k) && is_fed w k) Ready
    (cond (is_some (w.mine k)) Waiting
    (cond (is_wanted w k && has_any (w.holders k)) Fetch
    (cond (is_wanted w k) Missing
    (cond (w.failed k) Error
    (cond (used w k) Released Forgotten))))))))))))

abbrev pub is_ready_state : WState → Bool
is_ready_state Ready = true
is_ready_state _ = false

abbrev pub is_fetch_state : WState → Bool
is_fetch_state Fetch = true
is_fetch_state _ = false

abbrev pub is_missing_state : WState → Bool
is_missing_state Missing = true
is_missing_state _ = false

-- a task that can still be given up: waiting or ready
abbrev pub is_unstarted_state : WState → Bool
is_unstarted_state Waiting = true
is_unstarted_state Ready = true
is_unstarted_state _ = false

-- how many tasks run
unfoldable pub running_count : WorkerFacts → ℕ
running_count w = count w.running (worker_keys w)

-- the task that a start would take: the least ready one, where a thread is free
unfoldable pub would_start : WorkerFacts → Option ℕ
would_start w = cond (nat_lt (running_count w) w.threads) (find (λ k. is_ready_state (wstate w k)) (worker_keys w)) None

-- the copy of a key that a peer holds
abbrev pub copy_at : ℕ → List (ℕ × ℕ) → Option ℕ
copy_at p hs = option_map (λ h. h.1) (find (λ h. h.0 == p) hs)

-- a key with the copy that is to be asked for
abbrev pub item_at : ℕ → ℕ → List (ℕ × ℕ) → Option (ℕ × ℕ)
item_at p k hs = option_map (λ c. (k, c)) (copy_at p hs)

-- the keys to fetch that this peer holds, ascending
unfoldable pub fetchable : WorkerFacts → ℕ → List (ℕ × ℕ)
fetchable w p = filter_map (λ k. item_at p k (w.holders k)) (filter (λ k. is_fetch_state (wstate w k)) (worker_keys w))

-- the bytes of these keys together
abbrev pub total_bytes : Shape → List (ℕ × ℕ) → ℕ
total_bytes g is = total (nbytes_of g) (map (λ i. i.0) is)

-- the first n fit one ask: one does always, more where they have at most 2^26 bytes together
abbrev pub first_fit : Shape → List (ℕ × ℕ) → ℕ → Bool
first_fit g is n = n == 1 || nat_le (total_bytes g (take n is)) 67108864

-- what one ask takes of these keys: from the front, as many as fit, and at most 16
unfoldable pub ask_items : Shape → List (ℕ × ℕ) → List (ℕ × ℕ)
ask_items g is = take (length (filter (first_fit g is) (from_one (min 16 (length is))))) is

-- the open ask to a peer
abbrev pub ask_to : List Ask → ℕ → Option Ask
ask_to asks p = find (λ a. a.peer == p) asks

abbrev pub without_ask : List Ask → ℕ → List Ask
without_ask asks p = filter (λ a. not (a.peer == p)) asks

-- with one more ask, in its place
abbrev pub with_ask : Ask → List Ask → List Ask
with_ask a [] = a ∷ []
with_ask a (b ∷ bs) = cond (nat_lt a.peer b.peer) (a ∷ b ∷ bs) (b ∷ with_ask a bs)

-- an ask to this peer is possible: none is open, and it holds a key to fetch
unfoldable pub would_ask : WorkerFacts → ℕ → Bool
would_ask w p = is_none (ask_to w.asks p) && has_any (fetchable w p)

-- how many pairs the holders of these keys are
abbrev pub pair_count : (ℕ → List (ℕ × ℕ)) → List ℕ → ℕ
pair_count holders ks = total (λ k. length (holders k)) ks

-- how many pairs the worker has in `holders`
unfoldable pub pairs : WorkerFacts → ℕ
pairs w = pair_count w.holders (worker_keys w)
