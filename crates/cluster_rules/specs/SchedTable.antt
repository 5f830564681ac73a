-- The table of the scheduler's events: what each changes before the facts settle, which keys it frees, and whom it answers.
use Rattle.std.specs.Prelude.{ℕ, ◌+◌, ◌==◌, nat_le, nat_lt, Bool, true, false, not, ◌&&◌, ◌||◌, List, [], ◌∷◌, Option, Some, None, is_some, length, cond}
use Rattle.std.specs.List.{list_all}
use Rattle.cluster_msgs.specs.declared.messages.Down.{Down}
use Rattle.cluster_msgs.specs.declared.messages.Down.TheVariants.{StealRequest, RemoveReplicas, AcquireReplicas, RefreshWhoHas}
use Rattle.cluster_msgs.specs.declared.messages.Up.{Up}
use Rattle.cluster_msgs.specs.declared.messages.Up.TheVariants.{TaskFinished, TaskErred, AddKeys, ReleaseWorkerData, MissingData, RequestRefreshWhoHas, StealResponse}
use Rattle.cluster_msgs.specs.declared.messages.FromClient.{FromClient as FromClientMessage}
use Rattle.cluster_msgs.specs.declared.messages.FromClient.TheVariants.{Want, Release, Missing}
use Rattle.cluster_msgs.specs.declared.cores.Steal.{Steal}
use Rattle.cluster_msgs.specs.declared.cores.SchedEvent.{SchedEvent}
use Rattle.cluster_msgs.specs.declared.cores.SchedEvent.TheVariants.{Join, Leave, FromWorker, FromClient, Balance, Evict, Replicate}
use Rattle.cluster_rules.specs.Functions.{put, put_pair}
use Rattle.cluster_rules.specs.Derived.{is_in}
use Rattle.cluster_rules.specs.Sched.{Facts, keys, connected, workers, holds, held, is_on, is_above, who_has}
use Rattle.cluster_rules.specs.Policies.{next_steal, next_drop}

-- what an event changes by itself
pub record Changed : Type 0 where
  pub facts : Facts
  pub freed : ℕ → ℕ → Bool  -- worker, key: taken away from the worker by the event itself
  pub answer : Facts → ℕ → List Down  -- what a worker is answered, by the facts once they have settled
  pub asked : ℕ → Bool  -- the keys of the event's own want
  pub reply : Option (ℕ × ℕ)  -- the client that is answered, and about which key
  pub joined : List ℕ  -- the numbers of the workers that joined

abbrev pub no_answer : Facts → ℕ → List Down
no_answer f w = []

abbrev pub nothing_freed : ℕ → ℕ → Bool
nothing_freed w k = false

abbrev pub nothing_asked : ℕ → Bool
nothing_asked k = false

-- these facts and nothing else
abbrev pub plain : Facts → Changed
plain f = record { facts = f; freed = nothing_freed; answer = no_answer; asked = nothing_asked; reply = None; joined = [] }

-- Join: the next number is connected
unfoldable pub joined : Facts → ℕ → Facts
joined f threads = record f { threads = put f.threads (f.last_worker + 1) (Some threads); last_worker = f.last_worker + 1 }

-- Leave: the worker, what it holds, what it was given and the steals of that go. A steal for it stays. Each key that it was given has lost a
-- worker once more, and where that is more often than is allowed, it is bad
unfoldable pub left : Facts → ℕ → Facts
left f w = record f {
  threads = put f.threads w None;
  has = λ v k. cond (v == w) None (f.has v k);
  on = λ k. cond (is_on f w k) None (f.on k);
  steal = λ k. cond (is_on f w k) None (f.steal k);
  bad = λ k. f.bad k || (is_on f w k && is_above f.setting.allowed (f.losses k + 1));
  losses = λ k. cond (is_on f w k) (f.losses k + 1) (f.losses k);
}

-- whether the key was given to the worker under this attempt
abbrev pub is_this : ℕ → ℕ → Option (ℕ × ℕ) → Bool
is_this w a None = false
is_this w a (Some p) = p.0 == w && p.1 == a

-- task-finished counts for the attempt that the key has: the worker holds a new copy
unfoldable pub finished : Facts → ℕ → ℕ → ℕ → Facts
finished f w k a = cond (is_this w a (f.on k)) (record f { on = put f.on k None; steal = put f.steal k None; has = put_pair f.has w k (Some f.counter); counter = f.counter + 1; finishes = f.finishes + 1 }) f

-- task-erred counts for the attempt that the key has: the key is bad
unfoldable pub failed : Facts → ℕ → ℕ → ℕ → Facts
failed f w k a = cond (is_this w a (f.on k)) (record f { on = put f.on k None; steal = put f.steal k None; bad = put f.bad k true }) f

-- add-keys, one key: no message after the worker's last news took it away. A new copy where the key is held elsewhere, else freed unless the worker was given it
abbrev pub add_key : ℕ → ℕ → Changed → ℕ → Changed
add_key w seen g k =
    cond (nat_le (g.facts.fence w k) seen)
    (cond (holds g.facts w k) g
    (cond (held g.facts k) (record g { facts = record g.facts { has = put_pair g.facts.has w k (Some g.facts.counter); counter = g.facts.counter + 1 } })
    (cond (is_on g.facts w k) g (record g { freed = put_pair g.freed w k true }))))
    g

-- each key in its order, seeing what the earlier ones changed
abbrev pub add_keys : ℕ → ℕ → Changed → List ℕ → Changed
add_keys w seen g [] = g
add_keys w seen g (k ∷ ks) = add_keys w seen (add_key w seen g k) ks

-- release-worker-data: the worker no longer holds the key
unfoldable pub released : Facts → ℕ → ℕ → ℕ → Facts
released f w seen k = cond (nat_le (f.fence w k) seen) (record f { has = put_pair f.has w k None }) f

abbrev pub is_copy : ℕ → Option ℕ → Bool
is_copy c None = false
is_copy c (Some d) = d == c

-- missing-data and missing: where the worker holds that very copy it goes, and the key is freed there
unfoldable pub lost_copy : Facts → ℕ → ℕ → ℕ → Changed
lost_copy f x k c = cond (is_copy c (f.has x k)) (record (plain (record f { has = put_pair f.has x k None })) { freed = put_pair nothing_freed x k true }) (plain f)

-- the worker is answered who holds the key
abbrev pub refreshed : Changed → ℕ → ℕ → Changed
refreshed g w k = record g { answer = λ h v. cond (v == w) (RefreshWhoHas (who_has h (k ∷ [])) ∷ []) [] }

-- to be stolen, and not refused
abbrev pub is_asked_back : Option (ℕ × Bool) → Bool
is_asked_back None = false
is_asked_back (Some p) = not p.1

-- a confirmed steal: the thief has the key under a new attempt, where it is connected
abbrev pub stolen_by : Facts → ℕ → ℕ → Facts
stolen_by f k thief = cond (connected f thief)
    (record f { on = put f.on k (Some (thief, f.counter)); steal = put f.steal k None; counter = f.counter + 1 })
    (record f { on = put f.on k None; steal = put f.steal k None })

abbrev pub stolen_to : Facts → ℕ → Option (ℕ × Bool) → Facts
stolen_to f k None = f
stolen_to f k (Some p) = stolen_by f k p.0

abbrev pub refused : Option (ℕ × Bool) → Option (ℕ × Bool)
refused None = None
refused (Some p) = Some (p.0, true)

-- steal-response counts where the key is to be stolen from this attempt
unfoldable pub answered : Facts → ℕ → ℕ → ℕ → Bool → Facts
answered f w k a agreed = cond (is_this w a (f.on k) && is_asked_back (f.steal k))
    (cond agreed (stolen_to f k (f.steal k)) (record f { steal = put f.steal k (refused (f.steal k)) }))
    f

-- want: each key in the list is wanted by the client
unfoldable pub wants_more : Facts → ℕ → List ℕ → Facts
wants_more f c ks = record f { want = λ d k. f.want d k || (d == c && is_in k ks) }

-- release: no key in the list is wanted by the client
unfoldable pub wants_less : Facts → ℕ → List ℕ → Facts
wants_less f c ks = record f { want = λ d k. f.want d k && not (d == c && is_in k ks) }

-- the victim is asked for the key under the attempt that it has
abbrev pub ask_message : ℕ → Option (ℕ × ℕ) → ℕ → List Down
ask_message k None w = []
ask_message k (Some p) w = cond (p.0 == w) (StealRequest k p.1 ∷ []) []

-- Balance: the key is to be stolen
abbrev pub balanced : Facts → Option Steal → Changed
balanced f None = plain f
balanced f (Some c) = record (plain (record f { steal = put f.steal c.key (Some (c.thief, false)) })) { answer = λ g w. ask_message c.key (f.on c.key) w }

-- Evict: the holder's copy goes, and it is told to remove it
abbrev pub evicted : Facts → Option (ℕ × ℕ) → Changed
evicted f None = plain f
evicted f (Some p) = record (plain (record f { has = put_pair f.has p.0 p.1 None })) { answer = λ g w. cond (w == p.0) (RemoveReplicas (p.1 ∷ []) ∷ []) [] }

-- the rows of a worker's messages
abbrev pub change_up : Facts → ℕ → Up → Changed
change_up f w (TaskFinished seen k a) = plain (finished f w k a)
change_up f w (TaskErred seen k a) = plain (failed f w k a)
change_up f w (AddKeys seen ks) = add_keys w seen (plain f) ks
change_up f w (ReleaseWorkerData seen k) = plain (released f w seen k)
change_up f w (MissingData seen k x c) = refreshed (lost_copy f x k c) w k
change_up f w (RequestRefreshWhoHas seen k) = refreshed (plain f) w k
change_up f w (StealResponse seen k a agreed) = plain (answered f w k a agreed)

-- the rows of a client's messages
abbrev pub change_client : Facts → ℕ → FromClientMessage → Changed
change_client f c (Want ks) = record (plain (wants_more f c ks)) { asked = λ k. is_in k ks }
change_client f c (Release ks) = plain (wants_less f c ks)
change_client f c (Missing k x copy) = record (lost_copy f x k copy) { reply = Some (c, k) }

-- Replicate: the worker is answered that it is to get a copy, and from whom
abbrev pub copied : Facts → ℕ → ℕ → Changed
copied f k w = record (plain f) { answer = λ h v. cond (v == w) (AcquireReplicas (who_has h (k ∷ [])) ∷ []) [] }

-- the whole table
abbrev pub change : Facts → SchedEvent → Changed
change f (Join threads) = record (plain (joined f threads)) { joined = (f.last_worker + 1) ∷ [] }
change f (Leave w) = plain (left f w)
change f (FromWorker w up) = change_up f w up
change f (FromClient c msg) = change_client f c msg
change f Balance = balanced f (next_steal f)
change f Evict = evicted f (next_drop f)
change f (Replicate k w) = copied f k w

-- the keys that a worker's message names
abbrev pub up_keys : Up → List ℕ
up_keys (TaskFinished seen k a) = k ∷ []
up_keys (TaskErred seen k a) = k ∷ []
up_keys (AddKeys seen ks) = ks
up_keys (ReleaseWorkerData seen k) = k ∷ []
up_keys (MissingData seen k x c) = k ∷ []
up_keys (RequestRefreshWhoHas seen k) = k ∷ []
up_keys (StealResponse seen k a agreed) = k ∷ []

-- the keys that a client's message names
abbrev pub client_keys : FromClientMessage → List ℕ
client_keys (Want ks) = ks
client_keys (Release ks) = ks
client_keys (Missing k x c) = k ∷ []

-- each of these keys is there
abbrev pub are_keys : Facts → List ℕ → Bool
are_keys f ks = list_all (λ k. nat_lt k (keys f)) ks

-- the events that are not refused
unfoldable pub sched_takes : Facts → SchedEvent → Bool
sched_takes f (Join threads) = (nat_le 1 threads && nat_le threads 16) && (nat_lt (length (workers f)) 64 && nat_lt f.last_worker 1024)
sched_takes f (Leave w) = connected f w
sched_takes f (FromWorker w up) = connected f w && are_keys f (up_keys up)
sched_takes f (FromClient c msg) = (nat_le 1 c && nat_le c f.setting.clients) && are_keys f (client_keys msg)
sched_takes f Balance = is_some (next_steal f)
sched_takes f Evict = is_some (next_drop f)
sched_takes f (Replicate k w) = (connected f w && are_keys f (k ∷ [])) && (held f k && not (holds f w k))
