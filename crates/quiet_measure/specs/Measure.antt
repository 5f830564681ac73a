-- The measure of what can still happen with no help from outside.
use Rattle.std.specs.Prelude.{ℕ, ◌+◌, ◌*◌, ◌<◌, ◌≤◌, ◌==◌, nat_le, max, Bool, false, not, ◌&&◌, ◌||◌, List, Option, Some, None, is_some, is_none, cond, length}
use Rattle.std.specs.List.{list_any}
use Rattle.cluster_msgs.specs.declared.messages.Down.{Down}
use Rattle.cluster_msgs.specs.declared.messages.Up.{Up}
use Rattle.cluster_msgs.specs.declared.messages.Up.TheVariants.{TaskFinished, TaskErred, AddKeys, ReleaseWorkerData, MissingData, RequestRefreshWhoHas, StealResponse}
use Rattle.cluster_msgs.specs.declared.messages.ToClient.{ToClient}
use Rattle.cluster_msgs.specs.declared.messages.FromClient.{FromClient as ClientMessage}
use Rattle.cluster_msgs.specs.declared.messages.FromClient.TheVariants.{Want, Release, Missing}
use Rattle.cluster_rules.specs.Functions.{from_one, total, count}
use Rattle.cluster_rules.specs.Derived.{below, is_in}
use Rattle.cluster_rules.specs.Sched.{Facts, keys, deps, holds, held, erred, need, open_key, holder_count}
use Rattle.cluster_rules.specs.SchedTable.{is_asked_back}
use Rattle.cluster_rules.specs.Worker.{Ask, WorkerFacts}
use Rattle.cluster_rules.specs.Client.{ClientFacts}
use Rattle.cluster_rules.specs.World.{World, Parcel, all_workers, all_clients, is_connected, open_ask}
use Rattle.quiet_measure.specs.Weights.{bit, sum_of, is_current, down_weight, up_weight, news_weight, letter_weight, core_weight, client_core_weight}

-- ## Disturbances: what is still to take a pair out of `has` that nothing else takes, or to change what is wanted

-- a loss of the key that will count
abbrev pub counts_loss : Facts → ℕ → ℕ → Up → Bool
counts_loss f x k (ReleaseWorkerData seen q) = q == k && nat_le (f.fence x k) seen
counts_loss f x k (TaskFinished seen q a) = false
counts_loss f x k (TaskErred seen q a) = false
counts_loss f x k (AddKeys seen ks) = false
counts_loss f x k (MissingData seen q p c) = false
counts_loss f x k (RequestRefreshWhoHas seen q) = false
counts_loss f x k (StealResponse seen q a agreed) = false

-- the copy goes anyway: its worker is dead, or its loss is under way
abbrev pub is_doomed : World → ℕ → ℕ → Bool
is_doomed w x k = not (w.alive x) || list_any (counts_loss w.sched x k) (w.up x)

-- that the copy is missing will be believed, though it is there
abbrev pub is_wrongful : World → ℕ → ℕ → ℕ → Bool
is_wrongful w x k c = is_current w.sched x k c && not (is_doomed w x k)

abbrev pub up_disturbs : World → ℕ → Up → ℕ
up_disturbs w i (ReleaseWorkerData seen k) = bit (nat_le (w.sched.fence i k) seen)
up_disturbs w i (MissingData seen k x c) = bit (is_wrongful w x k c)
up_disturbs w i (TaskFinished seen k a) = bit (not (w.alive i))
up_disturbs w i (AddKeys seen ks) = cond (w.alive i) 0 (length ks)
up_disturbs w i (TaskErred seen k a) = 0
up_disturbs w i (RequestRefreshWhoHas seen k) = 0
up_disturbs w i (StealResponse seen k a agreed) = 0

abbrev pub letter_disturbs : World → ClientMessage → ℕ
letter_disturbs w (Want ks) = 1
letter_disturbs w (Release ks) = 1
letter_disturbs w (Missing k x c) = bit (is_wrongful w x k c)

-- a dead worker, until it is seen to be dead
abbrev pub death_disturbs : World → ℕ → ℕ
death_disturbs w i = cond (w.alive i) 0 (1 + count (λ k. holds w.sched i k) (below (keys w.sched)))

unfoldable pub worker_disturbs : World → ℕ → ℕ
worker_disturbs w i = cond (is_connected w i) (sum_of (up_disturbs w i) (w.up i) + death_disturbs w i) 0

unfoldable pub client_disturbs : World → ℕ → ℕ
client_disturbs w c = sum_of (letter_disturbs w) (w.from_client c)

abbrev pub is_missed : World → Parcel → ℕ × ℕ → Bool
is_missed w q i = not (is_in i.0 q.keys) && is_wrongful w q.peer i.0 i.1

abbrev pub missed_in : World → Parcel → Option Ask → ℕ
missed_in w q None = 0
missed_in w q (Some a) = cond (a.number == q.ask) (sum_of (λ i. bit (is_missed w q i)) a.items) 0

unfoldable pub answer_disturbs : World → Parcel → ℕ
answer_disturbs w q = missed_in w q (open_ask w q.asker q.peer)

unfoldable pub disturbances : World → ℕ
disturbances w = (total (worker_disturbs w) (all_workers w) + total (client_disturbs w) (all_clients w)) + sum_of (answer_disturbs w) w.answers

-- ## How many more times a key may be lost, and tried

-- the key is to be given to a worker: it is on none, or it is to be stolen
unfoldable pub is_to_try : Facts → ℕ → Bool
is_to_try f k = (need f k && open_key f k) && (is_none (f.on k) || is_asked_back (f.steal k))

unfoldable pub deaths : Facts → ℕ → ℕ → ℕ
deaths f b k = b + (bit (is_to_try f k) + bit (is_some (f.on k) || held f k))

-- ## The most that one token weighs

abbrev pub most_listed : ℕ → ℕ
most_listed b = 7 * (b + 3) + 3

abbrev pub most_told : ℕ → ℕ
most_told b = most_listed b + 1

abbrev pub most_asked : ℕ → ℕ
most_asked b = 7 * (b + 2) + 5

-- a pair of `has`
abbrev pub pair_weight : ℕ → ℕ
pair_weight b = 7 * b + 6

abbrev pub client_count : Facts → ℕ
client_count f = max 1 f.setting.clients

-- what the end of an attempt may cause
abbrev pub end_weight : Facts → ℕ → ℕ
end_weight f b = client_count f * most_told b + (most_asked b + (client_count f * keys f + 3))

-- what a try may cause
abbrev pub try_weight : Facts → ℕ → ℕ → ℕ
try_weight f b k = end_weight f b + (most_asked b + 6 + length (deps f k) * most_listed b)

-- what a disturbance may cause
unfoldable pub disturbance_weight : Facts → ℕ → ℕ
disturbance_weight f b = total (try_weight f b) (below (keys f)) + (client_count f * keys f * (most_told b + 2) + (most_asked b + 4))

abbrev pub key_weight : Facts → ℕ → ℕ → ℕ
key_weight f b k = cond (is_to_try f k) (try_weight f b k) 0 + (cond (is_some (f.on k)) (end_weight f b) 0 + holder_count f k * pair_weight b)

-- what a client may still be told of a key
abbrev pub told_weight : Facts → ℕ → ℕ → ℕ
told_weight f c k = cond (f.want c k) (bit (not (erred f k)) + bit (held f k)) 0

unfoldable pub sched_weight : Facts → ℕ → ℕ
sched_weight f b = b * disturbance_weight f b + (total (key_weight f b) (below (keys f)) + total (λ c. total (told_weight f c) (below (keys f))) (from_one f.setting.clients))

-- ## The sum over workers, clients and what is under way between them

-- a worker that isn't connected counts for nothing; of a dead one only what it has sent
unfoldable pub site_weight : Facts → (ℕ → ℕ) → ℕ → Bool → Bool → List Down → WorkerFacts → List Up → ℕ
site_weight f d i is_alive is_there down w up = cond is_there (cond is_alive (sum_of (down_weight f d i) down + core_weight f d w) 0 + sum_of (up_weight f d) up) 0

unfoldable pub worker_weight : (ℕ → ℕ) → World → ℕ → ℕ
worker_weight d w i = site_weight w.sched d i (w.alive i) (is_connected w i) (w.down i) (w.workers i) (w.up i)

unfoldable pub client_site_weight : Facts → (ℕ → ℕ) → List ToClient → ClientFacts → List ClientMessage → ℕ
client_site_weight f d news c letters = sum_of (news_weight f d) news + (client_core_weight f d c + sum_of (letter_weight f d) letters)

unfoldable pub client_weight : (ℕ → ℕ) → World → ℕ → ℕ
client_weight d w c = client_site_weight w.sched d (w.to_client c) (w.clients c) (w.from_client c)

unfoldable pub links_weight : (ℕ → ℕ) → World → ℕ
links_weight d w = (total (worker_weight d w) (all_workers w) + total (client_weight d w) (all_clients w)) + (2 * length w.requests + length w.answers)

-- the measure where this many disturbances are left
unfoldable pub measure_at : ℕ → World → ℕ
measure_at b w = sched_weight w.sched b + links_weight (deaths w.sched b) w

unfoldable pub measure : World → ℕ
measure w = measure_at (disturbances w) w

-- a progress event adds no disturbance, and lowers the measure
pub record Falls (w v : World) : Type 0 where
  pub disturbances : disturbances v ≤ disturbances w
  pub measure : measure v < measure w
