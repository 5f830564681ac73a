-- What the world's events leave: its setting, the greatest number of a worker but for a join, and what client 1 wants.
use Rattle.std.proofs.Common.{◌≡◌, ℕ, ◌+◌, Bool, true, false, cond, List, [], ◌∷◌, Option, Some, None, refl, sym, ap, ◌∙◌, add-zero, subst}
use Rattle.std.specs.Prelude.{◌==◌}
use Rattle.std.proofs.lemmas.Bool.{eqb-true, false≢true}
use Rattle.std.specs.Option.{option_map}
use Rattle.cluster_msgs.specs.declared.messages.Down.{Down}
use Rattle.cluster_msgs.specs.declared.messages.Up.{Up}
use Rattle.cluster_msgs.specs.declared.messages.ToClient.{ToClient}
use Rattle.cluster_msgs.specs.declared.messages.FromClient.{FromClient as ClientMessage}
use Rattle.cluster_msgs.specs.declared.messages.Message.TheVariants.{ToClient as ToClientMessage}
use Rattle.cluster_msgs.specs.declared.cores.SchedEvent.{SchedEvent}
use Rattle.cluster_msgs.specs.declared.cores.SchedEvent.TheVariants.{Join as JoinSched, Leave, FromWorker, FromClient, Balance as BalanceSched, Evict as EvictSched, Replicate as ReplicateSched}
use Rattle.cluster_msgs.specs.declared.cores.ClientEvent.{ClientEvent}
use Rattle.cluster_msgs.specs.declared.cores.ClientEvent.TheVariants.{FromScheduler, Ask as ClientAsk, Gathered as ClientGathered, GatherFailed as ClientGatherFailed}
use Rattle.cluster_msgs.specs.declared.events.Asker.{Asker}
use Rattle.cluster_msgs.specs.declared.events.Asker.TheVariants.{Worker, Client}
use Rattle.cluster_msgs.specs.declared.events.Event.{Event}
use Rattle.cluster_msgs.specs.declared.events.Event.TheVariants.{Want, Release, Join, Lose, SeeLoss, Suspect, DeliverDown, DeliverUp, DeliverToClient, DeliverFromClient, Start, Finish, SendGather, ServeGather, ArriveGather, FailGather, Balance, Evict, Replicate, Spill, LoseSpilled}
use Rattle.cluster_rules.specs.Functions.{put}
use Rattle.cluster_rules.specs.Sched.{Facts}
use Rattle.cluster_rules.specs.Worker.{Ask}
use Rattle.cluster_rules.specs.WorkerStep.{WorkerStep}
use Rattle.cluster_rules.specs.Client.{ClientFacts, ClientStep, client_step}
use Rattle.cluster_rules.specs.World.{Job, World, Parcel, is_connected, open_ask, parcel_of}
use Rattle.cluster_rules.specs.WorldStep.{scheduled, worked, client_worked, at_scheduler, at_client, take_down_first, take_up, take_up_first, take_to_client, take_from_client, gathered_at, failed_at, serve, take_answer, fail_ask, world_step}
use Rattle.cluster_rules.specs.Enabled.{front, message_at}
use Rattle.cluster_laws.proofs.Framed.{joins_by, step_last, step_setting}
use Rattle.cluster_sim.specs.Seen.{is_erred, tells_failure}
use Rattle.cluster_sim.proofs.ClientKeeps.{IsQuiet, stays, hear_step, ask_step, gathered_step, failed_step}

-- how many workers an event lets join, and whether it leaves what the clients want
abbrev pub joins : Event → ℕ
joins (Join threads) = 1
joins _ = 0

abbrev pub is_gentle : Event → Bool
is_gentle (Want c ks) = false
is_gentle (Release c ks) = false
is_gentle _ = true

-- the setting stays, and the greatest number rises by a join
pub record FactsKeep (f g : Facts) (n : ℕ) : Type 0 where
  pub setting : g.setting ≡ f.setting
  pub last : g.last_worker ≡ f.last_worker + n

abbrev pub WorldKeeps : World → World → ℕ → Type 0
WorldKeeps w v n = FactsKeep w.sched v.sched n

alike : (w v : World) → v.sched ≡ w.sched → WorldKeeps w v 0
alike w v e = record { setting = ap (λ f. f.setting) e; last = ap (λ f. f.last_worker) e ∙ sym (add-zero _) }

at_sched : (w : World) (e : SchedEvent) → WorldKeeps w (at_scheduler w e) (joins_by e)
unfolding scheduled
at_sched w e = record { setting = step_setting w.sched e; last = step_last w.sched e }

worker_alike : (w : World) (i : ℕ) (s : WorkerStep) → WorldKeeps w (worked w i s) 0
unfolding worked
worker_alike w i s = alike w (worked w i s) refl

client_alike : (w : World) (c : ℕ) (s : ClientStep) → WorldKeeps w (client_worked w c s) 0
unfolding client_worked
client_alike w c s = alike w (client_worked w c s) refl

down_keeps : (w : World) (i : ℕ) (ms : List Down) → WorldKeeps w (take_down_first w i ms) 0
down_keeps w i [] = alike w w refl
down_keeps w i (m ∷ ms) = worker_alike (record w { down = put w.down i ms }) i _

up_keeps : (w : World) (i : ℕ) (m : Up) (b : Bool) → WorldKeeps w (take_up w i m b) 0
up_keeps w i m true = at_sched w (FromWorker i m)
up_keeps w i m false = alike w w refl

ups_keep : (w : World) (i : ℕ) (ms : List Up) → WorldKeeps w (take_up_first w i ms) 0
ups_keep w i [] = alike w w refl
ups_keep w i (m ∷ ms) = up_keeps (record w { up = put w.up i ms }) i m (is_connected w i)

to_client_keeps : (w : World) (c : ℕ) (ms : List ToClient) → WorldKeeps w (take_to_client w c ms) 0
to_client_keeps w c [] = alike w w refl
to_client_keeps w c (m ∷ ms) = client_alike (record w { to_client = put w.to_client c ms }) c _

from_client_keeps : (w : World) (c : ℕ) (ms : List ClientMessage) → WorldKeeps w (take_from_client w c ms) 0
from_client_keeps w c [] = alike w w refl
from_client_keeps w c (m ∷ ms) = at_sched (record w { from_client = put w.from_client c ms }) (FromClient c m)

gathered_keeps : (w : World) (a : Asker) (p n : ℕ) (found : List ℕ) → WorldKeeps w (gathered_at w a p n found) 0
gathered_keeps w (Worker i) p n found = worker_alike w i _
gathered_keeps w (Client c) p n found = client_alike w c _

failed_keeps : (w : World) (a : Asker) (p n : ℕ) → WorldKeeps w (failed_at w a p n) 0
failed_keeps w (Worker i) p n = worker_alike w i _
failed_keeps w (Client c) p n = client_alike w c _

serve_keeps : (w : World) (p : ℕ) (o : Option Parcel) → WorldKeeps w (serve w p o) 0
serve_keeps w p None = alike w w refl
serve_keeps w p (Some q) = alike w (serve w p (Some q)) refl

answer_keeps : (w : World) (o : Option Parcel) → WorldKeeps w (take_answer w o) 0
answer_keeps w None = alike w w refl
answer_keeps w (Some q) = gathered_keeps (record w { answers = _ }) q.asker q.peer q.ask q.keys

ask_fails : (w : World) (a : Asker) (p : ℕ) (o : Option Ask) → WorldKeeps w (fail_ask w a p o) 0
ask_fails w a p None = alike w w refl
ask_fails w a p (Some q) = failed_keeps w a p q.number

pub world_keeps : (j : Job) (w : World) (e : Event) → WorldKeeps w (world_step j w e) (joins e)
unfolding world_step
world_keeps j w (Want c ks) = client_alike w c _
world_keeps j w (Release c ks) = client_alike w c _
world_keeps j w (Join threads) = let h = at_sched (record w { workers = _; alive = _ }) (JoinSched threads) in record { setting = h.setting; last = h.last }
world_keeps j w (Lose i) = alike w (world_step j w (Lose i)) refl
world_keeps j w (SeeLoss i) = let h = at_sched w (Leave i) in record { setting = h.setting; last = h.last }
world_keeps j w (Suspect i) = at_sched w (Leave i)
world_keeps j w (DeliverDown i) = down_keeps w i (w.down i)
world_keeps j w (DeliverUp i) = ups_keep w i (w.up i)
world_keeps j w (DeliverToClient c) = to_client_keeps w c (w.to_client c)
world_keeps j w (DeliverFromClient c) = from_client_keeps w c (w.from_client c)
world_keeps j w (Start i) = worker_alike w i _
world_keeps j w (Finish i k) = worker_alike w i _
world_keeps j w (SendGather (Worker i) p) = worker_alike w i _
world_keeps j w (SendGather (Client c) p) = client_alike w c _
world_keeps j w (ServeGather p a n) = serve_keeps w p (parcel_of a p n w.requests)
world_keeps j w (ArriveGather a p n) = answer_keeps w (parcel_of a p n w.answers)
world_keeps j w (FailGather a p) = ask_fails w a p (open_ask w a p)
world_keeps j w Balance = at_sched w BalanceSched
world_keeps j w Evict = at_sched w EvictSched
world_keeps j w (Replicate k i) = at_sched w (ReplicateSched k i)
world_keeps j w (Spill i k) = alike w (world_step j w (Spill i k)) refl
world_keeps j w (LoseSpilled i k) = worker_alike w i _

-- of client 1
abbrev pub Quiet : Bool → World → World → Type 0
Quiet t w v = IsQuiet t (w.clients 1) (v.clients 1)

still_sched : (t : Bool) (w : World) (e : SchedEvent) → Quiet t w (at_scheduler w e)
unfolding scheduled
still_sched t w e = stays t (w.clients 1)

still_worker : (t : Bool) (w : World) (i : ℕ) (s : WorkerStep) → Quiet t w (worked w i s)
unfolding worked
still_worker t w i s = stays t (w.clients 1)

-- one client took a quiet event
quiet_client : (t : Bool) (w : World) (c : ℕ) (e : ClientEvent) → ((d : ClientFacts) → IsQuiet t d (client_step d e).facts) → Quiet t w (at_client w c e)
unfolding client_worked
quiet_client t w c e q = pick (1 == c) refl
  where
    pick : (b : Bool) → (1 == c) ≡ b → IsQuiet t (w.clients 1) (cond b (client_step (w.clients c) e).facts (w.clients 1))
    pick true h = subst (λ i. IsQuiet t (w.clients 1) (client_step (w.clients i) e).facts) (eqb-true 1 c h) (q (w.clients 1))
    pick false h = stays t (w.clients 1)

q_down : (t : Bool) (w : World) (i : ℕ) (ms : List Down) → Quiet t w (take_down_first w i ms)
q_down t w i [] = stays t (w.clients 1)
q_down t w i (m ∷ ms) = still_worker t (record w { down = put w.down i ms }) i _

q_up : (t : Bool) (w : World) (i : ℕ) (m : Up) (b : Bool) → Quiet t w (take_up w i m b)
q_up t w i m true = still_sched t w (FromWorker i m)
q_up t w i m false = stays t (w.clients 1)

q_ups : (t : Bool) (w : World) (i : ℕ) (ms : List Up) → Quiet t w (take_up_first w i ms)
q_ups t w i [] = stays t (w.clients 1)
q_ups t w i (m ∷ ms) = q_up t (record w { up = put w.up i ms }) i m (is_connected w i)

q_to_client : (w : World) (c : ℕ) (ms : List ToClient) → Quiet (tells_failure (option_map (λ m. ToClientMessage m) (front ms))) w (take_to_client w c ms)
q_to_client w c [] = stays false (w.clients 1)
q_to_client w c (m ∷ ms) = quiet_client (is_erred m) (record w { to_client = put w.to_client c ms }) c (FromScheduler m) (λ d. hear_step d m)

q_from_client : (t : Bool) (w : World) (c : ℕ) (ms : List ClientMessage) → Quiet t w (take_from_client w c ms)
q_from_client t w c [] = stays t (w.clients 1)
q_from_client t w c (m ∷ ms) = still_sched t (record w { from_client = put w.from_client c ms }) (FromClient c m)

q_gathered : (t : Bool) (w : World) (a : Asker) (p n : ℕ) (found : List ℕ) → Quiet t w (gathered_at w a p n found)
q_gathered t w (Worker i) p n found = still_worker t w i _
q_gathered t w (Client c) p n found = quiet_client t w c (ClientGathered p n found) (λ d. gathered_step t d p n found)

q_failed : (t : Bool) (w : World) (a : Asker) (p n : ℕ) → Quiet t w (failed_at w a p n)
q_failed t w (Worker i) p n = still_worker t w i _
q_failed t w (Client c) p n = quiet_client t w c (ClientGatherFailed p n) (λ d. failed_step t d p n)

q_serve : (t : Bool) (w : World) (p : ℕ) (o : Option Parcel) → Quiet t w (serve w p o)
q_serve t w p None = stays t (w.clients 1)
q_serve t w p (Some q) = stays t (w.clients 1)

q_answer : (t : Bool) (w : World) (o : Option Parcel) → Quiet t w (take_answer w o)
q_answer t w None = stays t (w.clients 1)
q_answer t w (Some q) = q_gathered t (record w { answers = _ }) q.asker q.peer q.ask q.keys

q_fails : (t : Bool) (w : World) (a : Asker) (p : ℕ) (o : Option Ask) → Quiet t w (fail_ask w a p o)
q_fails t w a p None = stays t (w.clients 1)
q_fails t w a p (Some q) = q_failed t w a p q.number

pub quiet_step : (j : Job) (w : World) (e : Event) → is_gentle e ≡ true → Quiet (tells_failure (message_at w e)) w (world_step j w e)
unfolding world_step
quiet_step j w (Want c ks) h = absurd (false≢true h)
quiet_step j w (Release c ks) h = absurd (false≢true h)
quiet_step j w (Join threads) h = still_sched _ (record w { workers = _; alive = _ }) (JoinSched threads)
quiet_step j w (Lose i) h = stays _ (w.clients 1)
quiet_step j w (SeeLoss i) h = still_sched _ w (Leave i)
quiet_step j w (Suspect i) h = still_sched _ w (Leave i)
quiet_step j w (DeliverDown i) h = q_down _ w i (w.down i)
quiet_step j w (DeliverUp i) h = q_ups _ w i (w.up i)
quiet_step j w (DeliverToClient c) h = q_to_client w c (w.to_client c)
quiet_step j w (DeliverFromClient c) h = q_from_client _ w c (w.from_client c)
quiet_step j w (Start i) h = still_worker _ w i _
quiet_step j w (Finish i k) h = still_worker _ w i _
quiet_step j w (SendGather (Worker i) p) h = still_worker _ w i _
quiet_step j w (SendGather (Client c) p) h = quiet_client _ w c (ClientAsk p) (λ d. ask_step _ d p)
quiet_step j w (ServeGather p a n) h = q_serve _ w p (parcel_of a p n w.requests)
quiet_step j w (ArriveGather a p n) h = q_answer _ w (parcel_of a p n w.answers)
quiet_step j w (FailGather a p) h = q_fails _ w a p (open_ask w a p)
quiet_step j w Balance h = still_sched _ w BalanceSched
quiet_step j w Evict h = still_sched _ w EvictSched
quiet_step j w (Replicate k i) h = still_sched _ w (ReplicateSched k i)
quiet_step j w (Spill i k) h = stays _ (w.clients 1)
quiet_step j w (LoseSpilled i k) h = still_worker _ w i _
