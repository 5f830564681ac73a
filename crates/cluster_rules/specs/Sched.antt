-- The scheduler's facts, and what is derived anew from them ("Scheduling State" of Dask.distributed's documentation).
use Rattle.std.specs.Prelude.{◌≡◌, ℕ, zero, suc, ◌*◌, ◌≤◌, ◌==◌, nat_le, nat_lt, Bool, true, false, not, ◌&&◌, List, length, Option, Some, None, is_some, filter, find, map, cond, unwrap_or}
use Rattle.std.specs.List.{list_any, list_all, filter_map}
use Rattle.std.specs.Option.{option_map}
use Rattle.cluster_msgs.specs.Shape.{Shape, IsShape, deps_of, work_of, nbytes_of, key_count}
use Rattle.cluster_msgs.specs.declared.cores.Phase.{Phase}
use Rattle.cluster_msgs.specs.declared.cores.Phase.TheVariants.{Erred, Released, Memory, Waiting, Processing, NoWorker, Queued, Forgotten}
use Rattle.cluster_rules.specs.Functions.{from_one, total, count}
use Rattle.cluster_rules.specs.Derived.{err, reach, below, is_in}

-- what never changes: the graph's shape, how many clients there are, how many tenths of its threads a worker may be given in tasks,
-- and how often a key's worker may leave while the key is assigned to it, where that is bounded
pub record Setting : Type 0 where
  pub shape : Shape
  pub clients : ℕ
  pub saturation : ℕ
  pub allowed : Option ℕ

-- the scheduler's facts. A worker and a client count from 1, a key from 0
pub record Facts : Type 0 where
  pub setting : Setting
  pub want : ℕ → ℕ → Bool  -- client, key
  pub has : ℕ → ℕ → Option ℕ  -- worker, key: the copy that the worker holds
  pub on : ℕ → Option (ℕ × ℕ)  -- key: the worker that it was given to, and under which attempt
  pub steal : ℕ → Option (ℕ × Bool)  -- key: the thief that is to get it, and whether the victim refused
  pub bad : ℕ → Bool  -- keys with an error of their own
  pub losses : ℕ → ℕ  -- key: how often its worker left while the key was assigned to it
  pub threads : ℕ → Option ℕ  -- of a connected worker
  pub sent : ℕ → ℕ  -- how many messages went to the worker
  pub fence : ℕ → ℕ → ℕ  -- worker, key: the place of the last message that took the key away from the worker, else 0
  pub last_worker : ℕ  -- the greatest number that a worker got
  pub counter : ℕ  -- the next attempt or copy
  pub finishes : ℕ  -- how many finishes counted

-- nobody has joined and nothing is wanted
abbrev pub sched_opening : Setting → Facts
sched_opening s = record {
  setting = s;
  want = λ c k. false;
  has = λ w k. None;
  on = λ k. None;
  steal = λ k. None;
  bad = λ k. false;
  losses = λ k. 0;
  threads = λ w. None;
  sent = λ w. 0;
  fence = λ w k. 0;
  last_worker = 0;
  counter = 1;
  finishes = 0;
}

-- how many keys there are
abbrev pub keys : Facts → ℕ
keys f = key_count f.setting.shape

abbrev pub deps : Facts → ℕ → List ℕ
deps f k = deps_of f.setting.shape k

abbrev pub holds : Facts → ℕ → ℕ → Bool
holds f w k = is_some (f.has w k)

abbrev pub connected : Facts → ℕ → Bool
connected f w = is_some (f.threads w)

-- the connected workers, ascending
abbrev pub workers : Facts → List ℕ
workers f = filter (connected f) (from_one f.last_worker)

-- some worker holds the key
unfoldable pub held : Facts → ℕ → Bool
held f k = list_any (λ w. holds f w k) (from_one f.last_worker)

-- erred: not held, and bad or with an erred dependency
unfoldable pub erred : Facts → ℕ → Bool
erred f = err (deps f) (held f) f.bad

-- some client wants the key
unfoldable pub wanted : Facts → ℕ → Bool
wanted f k = list_any (λ c. f.want c k) (from_one f.setting.clients)

-- known: in the cone of a wanted key
unfoldable pub known : Facts → ℕ → Bool
known f = reach (deps f) (keys f) (wanted f) (λ _. true)

-- neither held nor erred, so that its dependencies are needed where it is
abbrev pub open_key : Facts → ℕ → Bool
open_key f j = not (held f j) && not (erred f j)

-- needed: wanted, or some dependent is needed, not held and not erred
unfoldable pub need : Facts → ℕ → Bool
need f = reach (deps f) (keys f) (wanted f) (open_key f)

-- each dependency is held
abbrev pub fed : Facts → ℕ → Bool
fed f k = list_all (held f) (deps f k)

-- ready: needed, not held, not erred, and each dependency is held
unfoldable pub ready : Facts → ℕ → Bool
ready f k = (need f k && open_key f k) && fed f k

-- the blame of an optional key
abbrev pub blame_from : (ℕ → Option ℕ) → Option ℕ → Option ℕ
blame_from blamed None = None
blame_from blamed (Some d) = blamed d

-- an erred key is blamed on itself where it is bad, else on what its least erred dependency is blamed on
abbrev pub blame_step : Facts → (ℕ → Option ℕ) → ℕ → Option ℕ
blame_step f blamed k = cond (erred f k) (cond (f.bad k) (Some k) (blame_from blamed (find (erred f) (deps f k)))) None

-- the same, seen this many steps down
abbrev pub blame_in : Facts → ℕ → ℕ → Option ℕ
blame_in f zero k = None
blame_in f (suc n) k = blame_step f (λ d. blame_in f n d) k

unfoldable pub blame : Facts → ℕ → Option ℕ
blame f k = blame_in f (suc k) k

-- a place of a key is this worker
abbrev pub is_for : ℕ → Option (ℕ × ℕ) → Bool
is_for w None = false
is_for w (Some p) = p.0 == w

-- so many losses are more than are allowed
abbrev pub is_above : Option ℕ → ℕ → Bool
is_above None n = false
is_above (Some a) n = nat_lt a n

-- the key is on the worker
abbrev pub is_on : Facts → ℕ → ℕ → Bool
is_on f w k = is_for w (f.on k)

-- the key is to be stolen, or was and its worker refused
abbrev pub is_stealing : Facts → ℕ → Bool
is_stealing f k = is_some (f.steal k)

-- the state of a key: the first that fits
unfoldable pub phase : Facts → ℕ → Phase
phase f k =
    cond (not (known f k)) Forgotten
    (cond (erred f k) Erred
    (cond (not (need f k)) Released
    (cond (held f k) Memory
    (cond (not (fed f k)) Waiting
    (cond (is_some (f.on k)) Processing
    (cond (not (list_any (connected f) (from_one f.last_worker))) NoWorker
    Queued))))))

-- how many keys are on the worker
unfoldable pub tasks : Facts → ℕ → ℕ
tasks f w = count (is_on f w) (below (keys f))

-- the work of all keys on the worker
unfoldable pub occupancy : Facts → ℕ → ℕ
occupancy f w = total (λ k. cond (is_on f w k) (work_of f.setting.shape k) 0) (below (keys f))

-- the bytes of all keys that the worker holds
unfoldable pub bytes_held : Facts → ℕ → ℕ
bytes_held f w = total (λ k. cond (holds f w k) (nbytes_of f.setting.shape k) 0) (below (keys f))

abbrev pub threads_of : Facts → ℕ → ℕ
threads_of f w = unwrap_or (f.threads w) 0

-- the worker has as many tasks as the saturation allows for its threads
unfoldable pub full : Facts → ℕ → Bool
full f w = nat_le (threads_of f w * f.setting.saturation) (10 * tasks f w)

-- who holds a key under which copy, ascending
unfoldable pub holders : Facts → ℕ → List (ℕ × ℕ)
holders f k = filter_map (λ w. option_map (λ c. (w, c)) (f.has w k)) (from_one f.last_worker)

-- these keys with their holders
unfoldable pub who_has : Facts → List ℕ → List (ℕ × List (ℕ × ℕ))
who_has f ks = map (λ d. (d, holders f d)) ks

-- how many workers hold the key
unfoldable pub holder_count : Facts → ℕ → ℕ
holder_count f k = count (λ w. holds f w k) (from_one f.last_worker)

-- how many of its dependents are needed, not held and not erred
unfoldable pub waiters : Facts → ℕ → ℕ
waiters f k = count (λ j. is_in k (deps f j) && (need f j && open_key f j)) (below (keys f))

-- no fact names a key, worker or client that is not there
pub record IsSound (f : Facts) : Type 0 where
  pub shape : IsShape f.setting.shape
  pub few_clients : f.setting.clients ≤ 16
  pub saturation : (1 ≤ f.setting.saturation) × (f.setting.saturation ≤ 1000)
  pub want : (c k : ℕ) → keys f ≤ k → f.want c k ≡ false
  pub has : (w k : ℕ) → keys f ≤ k → f.has w k ≡ None
  pub bad : (k : ℕ) → keys f ≤ k → f.bad k ≡ false
  pub losses : (k : ℕ) → keys f ≤ k → f.losses k ≡ 0
  pub on : (k : ℕ) → keys f ≤ k → f.on k ≡ None
  pub steal : (k : ℕ) → f.on k ≡ None → f.steal k ≡ None
  pub numbers : (w : ℕ) → connected f w ≡ true → (1 ≤ w) × (w ≤ f.last_worker)
  pub threads : (w n : ℕ) → f.threads w ≡ Some n → (1 ≤ n) × (n ≤ 16)
  pub few_workers : length (workers f) ≤ 64
  pub few_numbers : f.last_worker ≤ 1024
  pub holders : (w k : ℕ) → holds f w k ≡ true → connected f w ≡ true
  pub places : (w k : ℕ) → is_on f w k ≡ true → connected f w ≡ true
