-- What the scheduler, a worker and the links between them are for one key.
use Rattle.std.specs.Prelude.{◌≡◌, ℕ, ◌<◌, ◌==◌, Bool, true, ◌&&◌, List, [], ◌∷◌, ◌++◌, Option, Some, None, is_some, cond}
use Rattle.cluster_msgs.specs.declared.messages.Down.{Down}
use Rattle.cluster_msgs.specs.declared.messages.Down.TheVariants.{ComputeTask, FreeKeys, StealRequest, RemoveReplicas, AcquireReplicas, RefreshWhoHas}
use Rattle.cluster_msgs.specs.declared.messages.Up.{Up}
use Rattle.cluster_msgs.specs.declared.messages.Up.TheVariants.{TaskFinished, TaskErred, AddKeys, ReleaseWorkerData, MissingData, RequestRefreshWhoHas, StealResponse}
use Rattle.cluster_msgs.specs.declared.cores.SchedEvent.{SchedEvent}
use Rattle.cluster_msgs.specs.declared.cores.SchedEvent.TheVariants.{Join, Leave, FromWorker, FromClient, Balance, Evict, Replicate}
use Rattle.cluster_rules.specs.Derived.{is_in}
use Rattle.cluster_rules.specs.Sched.{Facts, keys, connected, holds}
use Rattle.cluster_rules.specs.SchedStep.{sched_step, mail}
use Rattle.cluster_rules.specs.SchedTable.{is_asked_back}
use Rattle.pair_machine.specs.Pair.{Note, Task, Free, Remove, Ask, Other, Report, Finished, Erred, Gave, Declined, Added, Released, Quiet, Pair, IsPair}

abbrev pub note_of : ℕ → Down → Note
note_of k (ComputeTask q a who) = cond (q == k) (Task a) Other
note_of k (FreeKeys ks) = cond (is_in k ks) Free Other
note_of k (StealRequest q a) = cond (q == k) (Ask a) Other
note_of k (RemoveReplicas ks) = cond (is_in k ks) Remove Other
note_of k (AcquireReplicas who) = Other
note_of k (RefreshWhoHas who) = Other

abbrev pub report_of : ℕ → Up → Report
report_of k (TaskFinished seen q a) = cond (q == k) (Finished a) Quiet
report_of k (TaskErred seen q a) = cond (q == k) (Erred a) Quiet
report_of k (AddKeys seen ks) = cond (is_in k ks) (Added seen) Quiet
report_of k (ReleaseWorkerData seen q) = cond (q == k) (Released seen) Quiet
report_of k (MissingData seen q x c) = Quiet
report_of k (RequestRefreshWhoHas seen q) = Quiet
report_of k (StealResponse seen q a agreed) = cond (q == k) (cond agreed (Gave a) (Declined a)) Quiet

-- the messages, as they are for the key
abbrev pub notes : ℕ → List Down → List Note
notes k [] = []
notes k (m ∷ ms) = note_of k m ∷ notes k ms

abbrev pub reports : ℕ → List Up → List Report
reports k [] = []
reports k (m ∷ ms) = report_of k m ∷ reports k ms

-- the attempt of a place, where it is at the worker
abbrev pub at_worker : ℕ → Option (ℕ × ℕ) → Option ℕ
at_worker w None = None
at_worker w (Some p) = cond (p.0 == w) (Some p.1) None

-- the worker's side of a pair, with the links
pub record Side : Type 0 where
  pub down : List Down
  pub seen : ℕ
  pub mine : Option ℕ
  pub mem : Bool
  pub up : List Up

abbrev pub pair_of : Facts → ℕ → ℕ → Side → Pair
pair_of f w k s = record {
  has = holds f w k;
  on = at_worker w (f.on k);
  asked = is_some (at_worker w (f.on k)) && is_asked_back (f.steal k);
  fence = f.fence w k;
  sent = f.sent w;
  counter = f.counter;
  down = notes k s.down;
  seen = s.seen;
  mine = s.mine;
  mem = s.mem;
  up = reports k s.up;
}

-- each place's attempt was given
pub record IsNumbered (f : Facts) : Type 0 where
  pub below : (k w a : ℕ) → f.on k ≡ Some (w, a) → a < f.counter

-- what a scheduler's event takes of what is under way from the worker, as it is for the key
abbrev pub report_in : SchedEvent → ℕ → ℕ → Report
report_in (Join threads) w k = Quiet
report_in (Leave v) w k = Quiet
report_in (FromWorker v m) w k = cond (v == w) (report_of k m) Quiet
report_in (FromClient c m) w k = Quiet
report_in Balance w k = Quiet
report_in Evict w k = Quiet
report_in (Replicate q v) w k = Quiet

-- an event of the scheduler keeps what holds of the pair of a worker that stays connected, and takes the message that it is about
abbrev pub EventKeeps : Facts → SchedEvent → Type 0
EventKeeps f e = (w k : ℕ) (s : Side) → k < keys f → connected (sched_step f e).facts w ≡ true
    → IsPair (record (pair_of f w k s) { up = report_in e w k ∷ reports k s.up })
    → IsPair (pair_of (sched_step f e).facts w k (record s { down = s.down ++ mail w (sched_step f e).down }))
