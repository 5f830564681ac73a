-- What is named was there: copies that are named were drawn, and no fence is above what was sent.
use Rattle.std.specs.Prelude.{ℕ, ◌<◌, ◌≤◌}
use Rattle.std.specs.List.{AllByRecursion}
use Rattle.cluster_msgs.specs.declared.messages.Up.{Up}
use Rattle.cluster_msgs.specs.declared.messages.Up.TheVariants.{TaskFinished, TaskErred, AddKeys, ReleaseWorkerData, MissingData, RequestRefreshWhoHas, StealResponse}
use Rattle.cluster_msgs.specs.declared.messages.FromClient.{FromClient as ClientMessage}
use Rattle.cluster_msgs.specs.declared.messages.FromClient.TheVariants.{Want, Release, Missing}
use Rattle.cluster_rules.specs.Sched.{Facts}
use Rattle.cluster_rules.specs.Worker.{Ask}
use Rattle.cluster_rules.specs.World.{World}

abbrev pub IsOldUp : ℕ → Up → Type 0
IsOldUp n (MissingData seen k x c) = c < n
IsOldUp n (TaskFinished seen k a) = Unit {0}
IsOldUp n (TaskErred seen k a) = Unit {0}
IsOldUp n (AddKeys seen ks) = Unit {0}
IsOldUp n (ReleaseWorkerData seen k) = Unit {0}
IsOldUp n (RequestRefreshWhoHas seen k) = Unit {0}
IsOldUp n (StealResponse seen k a agreed) = Unit {0}

abbrev pub IsOldLetter : ℕ → ClientMessage → Type 0
IsOldLetter n (Missing k x c) = c < n
IsOldLetter n (Want ks) = Unit {0}
IsOldLetter n (Release ks) = Unit {0}

abbrev pub IsOldAsk : ℕ → Ask → Type 0
IsOldAsk n a = AllByRecursion (λ (i : ℕ × ℕ). i.1 < n) a.items

-- each copy that a question or an ask names was drawn
pub record AreOld (w : World) : Type 0 where
  pub up : (i : ℕ) → AllByRecursion (IsOldUp w.sched.counter) (w.up i)
  pub letters : (c : ℕ) → AllByRecursion (IsOldLetter w.sched.counter) (w.from_client c)
  pub asks : (i : ℕ) → AllByRecursion (IsOldAsk w.sched.counter) (w.workers i).asks
  pub client_asks : (c : ℕ) → AllByRecursion (IsOldAsk w.sched.counter) (w.clients c).asks

-- no message that took a key away is above what was sent
abbrev pub AreFenced : Facts → Type 0
AreFenced f = (i k : ℕ) → f.fence i k ≤ f.sent i
