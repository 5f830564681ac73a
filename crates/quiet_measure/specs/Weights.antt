-- What each message, task, list of holders and ask weighs. Each token pays for what its own event may cause, and for nothing else, so that an
-- event changes few terms. All weights rise with how many more times a key may be lost (`deaths`).
use Rattle.std.specs.Prelude.{ℕ, ◌+◌, ◌*◌, ◌-◌, Bool, not, ◌&&◌, ◌||◌, List, [], ◌∷◌, cond}
use Rattle.std.specs.List.{list_any}
use Rattle.cluster_msgs.specs.declared.messages.Down.{Down}
use Rattle.cluster_msgs.specs.declared.messages.Down.TheVariants.{ComputeTask, FreeKeys, StealRequest, RemoveReplicas, AcquireReplicas, RefreshWhoHas}
use Rattle.cluster_msgs.specs.declared.messages.Up.{Up}
use Rattle.cluster_msgs.specs.declared.messages.Up.TheVariants.{TaskFinished, TaskErred, AddKeys, ReleaseWorkerData, MissingData, RequestRefreshWhoHas, StealResponse}
use Rattle.cluster_msgs.specs.declared.messages.ToClient.{ToClient}
use Rattle.cluster_msgs.specs.declared.messages.ToClient.TheVariants.{KeyInMemory, LostData, ClientTaskErred}
use Rattle.cluster_msgs.specs.declared.messages.FromClient.{FromClient as ClientMessage}
use Rattle.cluster_msgs.specs.declared.messages.FromClient.TheVariants.{Want, Release, Missing}
use Rattle.cluster_rules.specs.Functions.{total}
use Rattle.cluster_rules.specs.Sched.{Facts, held}
use Rattle.cluster_rules.specs.SchedTable.{is_copy}
use Rattle.cluster_rules.specs.Worker.{Ask, WorkerFacts, worker_keys, pending, is_wanted, flying, has_any}
use Rattle.cluster_rules.specs.WorkerStep.{others}
use Rattle.cluster_rules.specs.Client.{ClientFacts, client_keys, is_open}

abbrev pub bit : Bool → ℕ
bit b = cond b 1 0

-- the sum over the members of a list
abbrev pub sum_of : {A : Type 0} → (A → ℕ) → List A → ℕ
sum_of g [] = 0
sum_of g (x ∷ xs) = g x + sum_of g xs

-- the worker still holds that very copy of the key
abbrev pub is_current : Facts → ℕ → ℕ → ℕ → Bool
is_current f x k c = is_copy c (f.has x k)

-- some copy of the list is there no longer
abbrev pub is_stale : Facts → ℕ → List (ℕ × ℕ) → Bool
is_stale f k hs = list_any (λ h. not (is_current f h.0 k h.1)) hs

-- a chance to ask who holds the key
abbrev pub question : (ℕ → ℕ) → ℕ → ℕ
question d k = 7 * d k + 5

-- a list of holders: under way, or known where it is of use
abbrev pub list_weight : (ℕ → ℕ) → ℕ → Bool → ℕ
list_weight d k stale = 7 * (d k + bit stale) + 3

-- a list that the scheduler gives with a task, or for a replica: one that names nobody else leads to a question
abbrev pub given_weight : Facts → (ℕ → ℕ) → ℕ → ℕ × List (ℕ × ℕ) → ℕ
given_weight f d i p = list_weight d p.0 (is_stale f p.0 (others i p.1) || not (has_any (others i p.1)))

abbrev pub refresh_weight : Facts → (ℕ → ℕ) → ℕ → ℕ × List (ℕ × ℕ) → ℕ
refresh_weight f d i p = list_weight d p.0 (is_stale f p.0 (others i p.1))

abbrev pub down_weight : Facts → (ℕ → ℕ) → ℕ → Down → ℕ
down_weight f d i (ComputeTask k a who) = (question d k + 5) + sum_of (given_weight f d i) who
down_weight f d i (FreeKeys ks) = 1 + total (question d) ks
down_weight f d i (StealRequest k a) = 2 + question d k
down_weight f d i (RemoveReplicas ks) = 2 + total (λ k. question d k + 1) ks
down_weight f d i (AcquireReplicas who) = 1 + sum_of (given_weight f d i) who
down_weight f d i (RefreshWhoHas who) = 1 + sum_of (refresh_weight f d i) who

-- a key of add-keys: it is held elsewhere and will be held there too, or it will be freed, and may be asked for
abbrev pub added_weight : Facts → (ℕ → ℕ) → ℕ → ℕ
added_weight f d k = 7 * (d k - bit (held f k)) + 6

abbrev pub missed_weight : Facts → (ℕ → ℕ) → ℕ → ℕ → ℕ → ℕ
missed_weight f d k x c = 7 * (d k - bit (is_current f x k c)) + 5

abbrev pub up_weight : Facts → (ℕ → ℕ) → Up → ℕ
up_weight f d (AddKeys seen ks) = 1 + total (added_weight f d) ks
up_weight f d (MissingData seen k x c) = missed_weight f d k x c
up_weight f d (RequestRefreshWhoHas seen k) = question d k
up_weight f d (TaskFinished seen k a) = 1
up_weight f d (TaskErred seen k a) = 1
up_weight f d (ReleaseWorkerData seen k) = 1
up_weight f d (StealResponse seen k a agreed) = 1

abbrev pub news_weight : Facts → (ℕ → ℕ) → ToClient → ℕ
news_weight f d (KeyInMemory k hs) = 1 + list_weight d k (is_stale f k hs)
news_weight f d (LostData k) = 1
news_weight f d (ClientTaskErred k b) = 1

abbrev pub letter_weight : Facts → (ℕ → ℕ) → ClientMessage → ℕ
letter_weight f d (Want ks) = 0
letter_weight f d (Release ks) = 0
letter_weight f d (Missing k x c) = missed_weight f d k x c

-- a task that waits, and one that runs
abbrev pub task_weight : (ℕ → ℕ) → WorkerFacts → ℕ → ℕ
task_weight d w k = cond (pending w k) (question d k + 4) 0 + cond (w.running k) (question d k + 3) 0

abbrev pub known_weight : Facts → (ℕ → ℕ) → ℕ → Bool → List (ℕ × ℕ) → ℕ
known_weight f d k is_open hs = cond (is_open && has_any hs) (list_weight d k (is_stale f k hs)) 0

abbrev pub is_sought : WorkerFacts → ℕ → Bool
is_sought w k = is_wanted w k && not (flying w k)

abbrev pub ask_weight : Facts → (ℕ → ℕ) → Ask → ℕ
ask_weight f d a = sum_of (λ (i : ℕ × ℕ). 7 * (d i.0 + bit (not (is_current f a.peer i.0 i.1)))) a.items

-- what a worker knows and does
unfoldable pub core_weight : Facts → (ℕ → ℕ) → WorkerFacts → ℕ
core_weight f d w = (total (task_weight d w) (worker_keys w) + total (λ k. known_weight f d k (is_sought w k) (w.holders k)) (worker_keys w)) + sum_of (ask_weight f d) w.asks

unfoldable pub client_core_weight : Facts → (ℕ → ℕ) → ClientFacts → ℕ
client_core_weight f d c = total (λ k. known_weight f d k (is_open c k) (c.located k)) (client_keys c) + sum_of (ask_weight f d) c.asks
