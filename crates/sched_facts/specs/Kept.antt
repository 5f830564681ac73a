-- What the stored facts keep, beside that no fact names what is not there.
use Rattle.std.specs.Prelude.{◌≡◌, ℕ, ◌+◌, ◌<◌, ◌≤◌, ◌==◌, ◌&&◌, ◌||◌, nat_lt, List, Some, None, length, cond}
use Rattle.fact_rows.specs.Rows.{read}
use Rattle.cluster_rules.specs.Functions.{put, put_pair, from_one, count}
use Rattle.cluster_rules.specs.Sched.{Facts, IsSound, is_above, is_on, keys, tasks, occupancy, bytes_held, holder_count}

-- each copy and each attempt is below the next
pub record IsFresh (f : Facts) : Type 0 where
  pub copies : (w k c : ℕ) → f.has w k ≡ Some c → c < f.counter
  pub attempts : (k w a : ℕ) → f.on k ≡ Some (w, a) → a < f.counter

-- how many clients want the key
unfoldable pub want_count : Facts → ℕ → ℕ
want_count f k = count (λ c. f.want c k) (from_one f.setting.clients)

-- sums by worker and counts by key are those of the facts
pub record IsSummed (f : Facts) (task_row work_row byte_row holder_row want_row : List ℕ) : Type 0 where
  pub tasks : (w : ℕ) → read task_row 0 w ≡ tasks f w
  pub work : (w : ℕ) → read work_row 0 w ≡ occupancy f w
  pub bytes : (w : ℕ) → read byte_row 0 w ≡ bytes_held f w
  pub holders : (k : ℕ) → read holder_row 0 k ≡ holder_count f k
  pub wanters : (k : ℕ) → read want_row 0 k ≡ want_count f k

-- the key has lost the worker that it was on, once more than before
abbrev pub lost_place : Facts → ℕ → Facts
lost_place f k = record f {
  on = put f.on k None;
  steal = put f.steal k None;
  bad = put f.bad k (f.bad k || is_above f.setting.allowed (f.losses k + 1));
  losses = put f.losses k (f.losses k + 1);
}

-- a key that is on a worker is no longer
abbrev pub taken_back : Facts → ℕ → ℕ → Facts
taken_back f w k = cond (is_on f w k) (lost_place f k) f

-- what a worker that leaves holds or was given of one key goes
unfoldable pub left_key : ℕ → Facts → ℕ → Facts
left_key w f k = taken_back (record f { has = put_pair f.has w k None }) w k

-- the same of the keys below this one
unfoldable pub left_below : ℕ → Facts → ℕ → Facts
left_below w f n = record f {
  has = λ v k. cond (v == w && nat_lt k n) None (f.has v k);
  on = λ k. cond (nat_lt k n && is_on f w k) None (f.on k);
  steal = λ k. cond (nat_lt k n && is_on f w k) None (f.steal k);
  bad = λ k. f.bad k || ((nat_lt k n && is_on f w k) && is_above f.setting.allowed (f.losses k + 1));
  losses = λ k. cond (nat_lt k n && is_on f w k) (f.losses k + 1) (f.losses k);
}

-- all that is kept of the facts, with room for as many workers, and rows of tasks, work and bytes by worker and of holders and wanters by key
pub record IsKeeping (f : Facts) (room : ℕ) (task_row work_row byte_row holder_row want_row : List ℕ) : Type 0 where
  pub sound : IsSound f
  pub fresh : IsFresh f
  pub sums : IsSummed f task_row work_row byte_row holder_row want_row
  pub last : f.last_worker ≤ room
  pub task_rows : room < length task_row
  pub work_rows : room < length work_row
  pub byte_rows : room < length byte_row
  pub holder_rows : length holder_row ≡ keys f
  pub want_rows : length want_row ≡ keys f
