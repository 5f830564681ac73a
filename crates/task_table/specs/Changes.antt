-- One change of one fact: what it makes of the facts, where it may be made, and the key whose derived facts it can turn.
use Rattle.std.specs.Prelude.{◌≡◌, ℕ, ◌+◌, ◌<◌, ◌≤◌, ◌^◌, true, false, length, Option, Some, None, is_some}
use Rattle.cluster_rules.specs.Functions.{put, put_pair}
use Rattle.cluster_rules.specs.Sched.{Facts, keys, connected, workers, holds, is_on}
use Rattle.cluster_rules.specs.SchedTable.{joined}
use Rattle.task_table.specs.declared.change.Change.{Change}
use Rattle.task_table.specs.declared.change.Change.TheVariants.{Want, Unwant, Hold, Lose, Assign, Unassign, Steal, Unsteal, Fail, Count, Forgive, Connect, Disconnect, Send, Fence, Finish}

-- the facts after the change. A copy and an attempt take the next number, which is given once
abbrev pub with_change : Facts → Change → Facts
with_change f (Want c k) = record f { want = put_pair f.want c k true }
with_change f (Unwant c k) = record f { want = put_pair f.want c k false }
with_change f (Hold w k) = record f { has = put_pair f.has w k (Some f.counter); counter = f.counter + 1 }
with_change f (Lose w k) = record f { has = put_pair f.has w k None }
with_change f (Assign k w) = record f { on = put f.on k (Some (w, f.counter)); steal = put f.steal k None; counter = f.counter + 1 }
with_change f (Unassign k) = record f { on = put f.on k None; steal = put f.steal k None }
with_change f (Steal k thief refused) = record f { steal = put f.steal k (Some (thief, refused)) }
with_change f (Unsteal k) = record f { steal = put f.steal k None }
with_change f (Fail k) = record f { bad = put f.bad k true }
with_change f (Count k) = record f { losses = put f.losses k (f.losses k + 1) }
with_change f (Forgive k) = record f { bad = put f.bad k false; losses = put f.losses k 0 }
with_change f (Connect threads) = joined f threads
with_change f (Disconnect w) = record f { threads = put f.threads w None }
with_change f (Send w) = record f { sent = put f.sent w (f.sent w + 1) }
with_change f (Fence w k) = record f { fence = put_pair f.fence w k (f.sent w) }
with_change f Finish = record f { finishes = f.finishes + 1 }

-- the client and the key are there
pub record IsWish (f : Facts) (c k : ℕ) : Type 0 where
  pub first : 1 ≤ c
  pub client : c ≤ f.setting.clients
  pub key : k < keys f

-- the worker is connected, and the key is there
pub record IsAtWorker (f : Facts) (w k : ℕ) : Type 0 where
  pub worker : connected f w ≡ true
  pub key : k < keys f

-- the same, and a number is left for a copy or an attempt
pub record IsNumbered (f : Facts) (w k : ℕ) : Type 0 where
  pub worker : connected f w ≡ true
  pub key : k < keys f
  pub room : f.counter < 2 ^ 62

-- the key is on a worker
pub record IsGiven (f : Facts) (k : ℕ) : Type 0 where
  pub key : k < keys f
  pub on : is_some (f.on k) ≡ true

-- one more loss of the key may be counted
pub record IsCountable (f : Facts) (k : ℕ) : Type 0 where
  pub key : k < keys f
  pub room : f.losses k < 2 ^ 31

-- one more worker may join, with so many threads, where rows for so many workers are there
pub record IsJoining (f : Facts) (rows threads : ℕ) : Type 0 where
  pub room : f.last_worker < rows
  pub least : 1 ≤ threads
  pub most : threads ≤ 16
  pub workers : length (workers f) < 64
  pub numbers : f.last_worker < 1024

-- the worker is connected, holds nothing and was given nothing
pub record IsBare (f : Facts) (w : ℕ) : Type 0 where
  pub worker : connected f w ≡ true
  pub holds : (k : ℕ) → holds f w k ≡ false
  pub on : (k : ℕ) → is_on f w k ≡ false

-- one more message may go to the worker
pub record IsSendable (f : Facts) (w : ℕ) : Type 0 where
  pub worker : w ≤ f.last_worker
  pub room : f.sent w < 2 ^ 62

-- the number was a worker's, and the key is there
pub record IsFenced (f : Facts) (w k : ℕ) : Type 0 where
  pub worker : w ≤ f.last_worker
  pub key : k < keys f

-- where the change may be made, with rows for so many workers
abbrev pub Fits : Facts → ℕ → Change → Type 0
Fits f rows (Want c k) = IsWish f c k
Fits f rows (Unwant c k) = IsWish f c k
Fits f rows (Hold w k) = IsNumbered f w k
Fits f rows (Lose w k) = IsAtWorker f w k
Fits f rows (Assign k w) = IsNumbered f w k
Fits f rows (Unassign k) = k < keys f
Fits f rows (Steal k thief refused) = IsGiven f k
Fits f rows (Unsteal k) = IsGiven f k
Fits f rows (Fail k) = k < keys f
Fits f rows (Count k) = IsCountable f k
Fits f rows (Forgive k) = k < keys f
Fits f rows (Connect threads) = IsJoining f rows threads
Fits f rows (Disconnect w) = IsBare f w
Fits f rows (Send w) = IsSendable f w
Fits f rows (Fence w k) = IsFenced f w k
Fits f rows Finish = f.finishes < 2 ^ 62

-- the key that the change is about, where derived facts rest on what it changes
abbrev pub changed_key : Change → Option ℕ
changed_key (Want c k) = Some k
changed_key (Unwant c k) = Some k
changed_key (Hold w k) = Some k
changed_key (Lose w k) = Some k
changed_key (Assign k w) = Some k
changed_key (Unassign k) = Some k
changed_key (Steal k thief refused) = None
changed_key (Unsteal k) = None
changed_key (Fail k) = Some k
changed_key (Count k) = Some k
changed_key (Forgive k) = Some k
changed_key (Connect threads) = None
changed_key (Disconnect w) = None
changed_key (Send w) = None
changed_key (Fence w k) = None
changed_key Finish = None

-- the worker that comes to hold or to have the key, or holds it no longer
abbrev pub changed_worker : Change → Option ℕ
changed_worker (Want c k) = None
changed_worker (Unwant c k) = None
changed_worker (Hold w k) = Some w
changed_worker (Lose w k) = Some w
changed_worker (Assign k w) = Some w
changed_worker (Unassign k) = None
changed_worker (Steal k thief refused) = None
changed_worker (Unsteal k) = None
changed_worker (Fail k) = None
changed_worker (Count k) = None
changed_worker (Forgive k) = None
changed_worker (Connect threads) = None
changed_worker (Disconnect w) = None
changed_worker (Send w) = None
changed_worker (Fence w k) = None
changed_worker Finish = None
