-- Where a key is placed, which key is stolen and which replica is dropped ("Work Stealing" and "Active Memory Manager" of Dask.distributed's documentation).
use Rattle.std.specs.Prelude.{◌≡◌, ℕ, ◌+◌, ◌*◌, ◌/◌, ◌^◌, ◌<◌, ◌≤◌, nat_le, nat_lt, Bool, true, false, not, ◌&&◌, List, [], ◌∷◌, Option, Some, None, is_none, filter, find, map, cond, unwrap_or}
use Rattle.std.specs.List.{list_any, flat_map}
use Rattle.std.specs.Option.{option_map}
use Rattle.cluster_msgs.specs.Shape.{work_of, nbytes_of}
use Rattle.cluster_msgs.specs.declared.cores.Steal.{Steal}
use Rattle.cluster_rules.specs.Functions.{from_one, total}
use Rattle.cluster_rules.specs.Derived.{below}
use Rattle.cluster_rules.specs.Choice.{unbeaten, least_by}
use Rattle.cluster_rules.specs.Sched.{Facts, keys, deps, holds, connected, workers, is_on, tasks, occupancy, bytes_held, threads_of, full, holder_count, waiters}

-- the bytes of a key's dependencies that the worker does not hold
unfoldable pub missing_bytes : Facts → ℕ → ℕ → ℕ
missing_bytes f w k = total (λ d. cond (holds f w d) 0 (nbytes_of f.setting.shape d)) (deps f k)

-- the first list, or the second where the first is empty
abbrev pub or_else : List ℕ → List ℕ → List ℕ
or_else [] ys = ys
or_else (x ∷ xs) ys = x ∷ xs

-- a key without dependencies may go to each connected worker that is not full, another key to those that hold a dependency, or to all where none does
abbrev pub candidates_by : Facts → List ℕ → List ℕ
candidates_by f [] = filter (λ w. not (full f w)) (workers f)
candidates_by f (d ∷ ds) = or_else (filter (λ w. list_any (holds f w) (d ∷ ds)) (workers f)) (workers f)

unfoldable pub candidates : Facts → ℕ → List ℕ
candidates f k = candidates_by f (deps f k)

-- the time until the worker could start, then the bytes that it holds, then its number
unfoldable pub place_rank : Facts → ℕ → ℕ → List ℕ
place_rank f k w = (occupancy f w / threads_of f w + missing_bytes f w k) ∷ bytes_held f w ∷ w ∷ []

-- the candidate with the least rank
unfoldable pub place : Facts → ℕ → Option ℕ
place f k = least_by (place_rank f k) (candidates f k)

-- the victim has more tasks than threads, the thief fewer, and the move gains at least half of the key's work
unfoldable pub may_steal : Facts → Steal → Bool
may_steal f c =
    (is_on f c.victim c.key && is_none (f.steal c.key))
    && ((nat_lt (threads_of f c.victim) (tasks f c.victim) && nat_lt (tasks f c.thief) (threads_of f c.thief))
    && nat_le (2 * (occupancy f c.thief + missing_bytes f c.thief c.key + work_of f.setting.shape c.key) + work_of f.setting.shape c.key) (2 * occupancy f c.victim))

unfoldable pub steal_choices : Facts → List Steal
steal_choices f = filter (may_steal f)
    (flat_map (λ k. flat_map (λ v. map (λ t. record { key = k; victim = v; thief = t }) (workers f)) (workers f)) (below (keys f)))

-- a steal that may be made, between connected workers
pub record IsStealChoice (f : Facts) (c : Steal) : Type 0 where
  pub key : c.key < keys f
  pub victim : connected f c.victim ≡ true
  pub thief : connected f c.thief ≡ true
  pub allowed : may_steal f c ≡ true

-- the least n with bytes < 2^n * (work + 1). Bytes are far below 2^63
unfoldable pub level : ℕ → ℕ → ℕ
level bytes work = unwrap_or (find (λ n. nat_lt bytes (2 ^ n * (work + 1))) (below 64)) 64

unfoldable pub steal_rank : Facts → Steal → List ℕ
steal_rank f c = level (missing_bytes f c.thief c.key) (work_of f.setting.shape c.key) ∷ c.victim ∷ c.key ∷ c.thief ∷ []

-- the choice with the least level, then victim, key and thief
unfoldable pub next_steal : Facts → Option Steal
next_steal f = least_by (steal_rank f) (steal_choices f)

-- a key with more holders than those who still wait for it, and one to spare
unfoldable pub may_drop : Facts → ℕ → Bool
may_drop f k = nat_lt (waiters f k + 1) (holder_count f k)

-- of the key's holders the one that holds most bytes, the least number among several
unfoldable pub most_loaded : Facts → ℕ → Option ℕ
most_loaded f k = unbeaten (λ v w. nat_lt (bytes_held f w) (bytes_held f v)) (filter (λ w. holds f w k) (from_one f.last_worker))

abbrev pub drop_of : Facts → Option ℕ → Option (ℕ × ℕ)
drop_of f None = None
drop_of f (Some k) = option_map (λ w. (w, k)) (most_loaded f k)

-- the worker and the key: the least key that may be dropped, at its most loaded holder
unfoldable pub next_drop : Facts → Option (ℕ × ℕ)
next_drop f = drop_of f (find (may_drop f) (below (keys f)))

-- the least key that may be dropped, and the first of those of its holders that hold most
pub record IsDrop (f : Facts) (w k : ℕ) : Type 0 where
  pub key : k < keys f
  pub spare : may_drop f k ≡ true
  pub least : (j : ℕ) → j < k → may_drop f j ≡ false
  pub holder : holds f w k ≡ true
  pub most : (v : ℕ) → 1 ≤ v → v ≤ f.last_worker → holds f v k ≡ true → bytes_held f v ≤ bytes_held f w
  pub first : (v : ℕ) → 1 ≤ v → v < w → holds f v k ≡ true → bytes_held f v < bytes_held f w

-- the drop, or nothing where no key may be dropped
abbrev pub IsDropOf : Facts → Option (ℕ × ℕ) → Type 0
IsDropOf f None = (k : ℕ) → k < keys f → may_drop f k ≡ false
IsDropOf f (Some p) = IsDrop f p.0 p.1
