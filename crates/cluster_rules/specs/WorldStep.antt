-- One event of the world: one action of the scheduler, of one worker or of one client.
use Rattle.std.specs.Prelude.{ℕ, ◌+◌, ◌==◌, Bool, true, false, ◌&&◌, List, [], ◌∷◌, ◌++◌, Option, Some, None, filter, cond}
use Rattle.cluster_msgs.specs.declared.messages.Down.{Down}
use Rattle.cluster_msgs.specs.declared.messages.Up.{Up}
use Rattle.cluster_msgs.specs.declared.messages.ToClient.{ToClient}
use Rattle.cluster_msgs.specs.declared.messages.FromClient.{FromClient as ClientMessage}
use Rattle.cluster_msgs.specs.declared.cores.Instruction.{Instruction}
use Rattle.cluster_msgs.specs.declared.cores.Instruction.TheVariants.{Execute, Gather, Keep, Drop, Send}
use Rattle.cluster_msgs.specs.declared.cores.ClientInstruction.{ClientInstruction}
use Rattle.cluster_msgs.specs.declared.cores.ClientInstruction.TheVariants.{Send as ClientSend, Gather as ClientGather}
use Rattle.cluster_msgs.specs.declared.cores.SchedEvent.{SchedEvent}
use Rattle.cluster_msgs.specs.declared.cores.SchedEvent.TheVariants.{Join as JoinSched, Leave, FromWorker, FromClient, Balance as BalanceSched, Evict as EvictSched, Replicate as ReplicateSched}
use Rattle.cluster_msgs.specs.declared.cores.WorkerEvent.{WorkerEvent}
use Rattle.cluster_msgs.specs.declared.cores.WorkerEvent.TheVariants.{Down as Told, Start as StartTask, Done, Ask as AskPeer, Gathered, GatherFailed, DataLost}
use Rattle.cluster_msgs.specs.declared.cores.ClientEvent.{ClientEvent}
use Rattle.cluster_msgs.specs.declared.cores.ClientEvent.TheVariants.{Want as WantKeys, Release as ReleaseKeys, FromScheduler, Ask as ClientAsk, Gathered as ClientGathered, GatherFailed as ClientGatherFailed}
use Rattle.cluster_msgs.specs.declared.events.Asker.{Asker}
use Rattle.cluster_msgs.specs.declared.events.Asker.TheVariants.{Worker, Client}
use Rattle.cluster_msgs.specs.declared.events.Event.{Event}
use Rattle.cluster_msgs.specs.declared.events.Event.TheVariants.{Want, Release, Join, Lose, SeeLoss, Suspect, DeliverDown, DeliverUp, DeliverToClient, DeliverFromClient, Start, Finish, SendGather, ServeGather, ArriveGather, FailGather, Balance, Evict, Replicate, Spill, LoseSpilled}
use Rattle.cluster_rules.specs.Functions.{put}
use Rattle.cluster_rules.specs.SchedStep.{Stepped, sched_step, mail}
use Rattle.cluster_rules.specs.Worker.{Ask, new_worker}
use Rattle.cluster_rules.specs.WorkerStep.{WorkerStep, worker_step}
use Rattle.cluster_rules.specs.Client.{ClientStep, client_step}
use Rattle.cluster_rules.specs.World.{Job, World, Parcel, shape_of, is_connected, open_ask, with_parcel, parcel_of, without_parcel}

-- the messages to one client, in order
abbrev pub letters : ℕ → List (ℕ × ToClient) → List ToClient
letters c [] = []
letters c (m ∷ ms) = cond (m.0 == c) (m.1 ∷ letters c ms) (letters c ms)

-- the scheduler took an event: its messages join their links
unfoldable pub scheduled : World → Stepped → World
scheduled w s = record w {
  sched = s.facts;
  down = λ i. w.down i ++ mail i s.down;
  to_client = λ c. w.to_client c ++ letters c s.clients;
}

-- the messages among a worker's instructions, and its requests
abbrev pub sends : List Instruction → List Up
sends [] = []
sends (Send m ∷ is) = m ∷ sends is
sends (Execute k ∷ is) = sends is
sends (Gather p n ks ∷ is) = sends is
sends (Keep k ∷ is) = sends is
sends (Drop k ∷ is) = sends is

abbrev pub requested : Asker → List Parcel → List Instruction → List Parcel
requested a qs [] = qs
requested a qs (Gather p n ks ∷ is) = requested a (with_parcel (record { asker = a; peer = p; ask = n; keys = ks }) qs) is
requested a qs (Send m ∷ is) = requested a qs is
requested a qs (Execute k ∷ is) = requested a qs is
requested a qs (Keep k ∷ is) = requested a qs is
requested a qs (Drop k ∷ is) = requested a qs is

-- a worker took an event: its messages join its link, and a key that leaves memory is spilled no longer
unfoldable pub worked : World → ℕ → WorkerStep → World
worked w i s = record w {
  workers = put w.workers i s.facts;
  spilled = put w.spilled i (λ k. w.spilled i k && s.facts.mem k);
  up = put w.up i (w.up i ++ sends s.out);
  requests = requested (Worker i) w.requests s.out;
}

-- the same of a client
abbrev pub client_sends : List ClientInstruction → List ClientMessage
client_sends [] = []
client_sends (ClientSend m ∷ is) = m ∷ client_sends is
client_sends (ClientGather p n ks ∷ is) = client_sends is

abbrev pub client_requested : Asker → List Parcel → List ClientInstruction → List Parcel
client_requested a qs [] = qs
client_requested a qs (ClientSend m ∷ is) = client_requested a qs is
client_requested a qs (ClientGather p n ks ∷ is) = client_requested a (with_parcel (record { asker = a; peer = p; ask = n; keys = ks }) qs) is

unfoldable pub client_worked : World → ℕ → ClientStep → World
client_worked w c s = record w {
  clients = put w.clients c s.facts;
  from_client = put w.from_client c (w.from_client c ++ client_sends s.out);
  requests = client_requested (Client c) w.requests s.out;
}

abbrev pub at_scheduler : World → SchedEvent → World
at_scheduler w e = scheduled w (sched_step w.sched e)

abbrev pub at_worker : World → ℕ → WorkerEvent → World
at_worker w i e = worked w i (worker_step (w.workers i) e)

abbrev pub at_client : World → ℕ → ClientEvent → World
at_client w c e = client_worked w c (client_step (w.clients c) e)

-- Join: a worker that is alive, under the next number
abbrev pub new_at : World → ℕ → ℕ → World
new_at w i threads = record w { workers = put w.workers i (new_worker (shape_of w) i threads); alive = put w.alive i true }

-- Lose: the worker is dead, and its blocks go. What is under way stays
abbrev pub died : World → ℕ → World
died w i = record w {
  alive = put w.alive i false;
  workers = put w.workers i (record (w.workers i) { mem = λ k. false });
  spilled = put w.spilled i (λ k. false);
}

-- SeeLoss: the messages of its links go
abbrev pub cut_off : World → ℕ → World
cut_off w i = record w { down = put w.down i []; up = put w.up i [] }

-- DeliverDown
abbrev pub take_down_first : World → ℕ → List Down → World
take_down_first w i [] = w
take_down_first w i (m ∷ ms) = at_worker (record w { down = put w.down i ms }) i (Told m)

-- DeliverUp: a message of a worker that isn't connected is dropped
abbrev pub take_up : World → ℕ → Up → Bool → World
take_up w i m true = at_scheduler w (FromWorker i m)
take_up w i m false = w

abbrev pub take_up_first : World → ℕ → List Up → World
take_up_first w i [] = w
take_up_first w i (m ∷ ms) = take_up (record w { up = put w.up i ms }) i m (is_connected w i)

-- DeliverToClient, DeliverFromClient
abbrev pub take_to_client : World → ℕ → List ToClient → World
take_to_client w c [] = w
take_to_client w c (m ∷ ms) = at_client (record w { to_client = put w.to_client c ms }) c (FromScheduler m)

abbrev pub take_from_client : World → ℕ → List ClientMessage → World
take_from_client w c [] = w
take_from_client w c (m ∷ ms) = at_scheduler (record w { from_client = put w.from_client c ms }) (FromClient c m)

-- an asker asks a peer, and takes what was found
abbrev pub ask_by : World → Asker → ℕ → World
ask_by w (Worker i) p = at_worker w i (AskPeer p)
ask_by w (Client c) p = at_client w c (ClientAsk p)

abbrev pub gathered_at : World → Asker → ℕ → ℕ → List ℕ → World
gathered_at w (Worker i) p n found = at_worker w i (Gathered p n found)
gathered_at w (Client c) p n found = at_client w c (ClientGathered p n found)

abbrev pub failed_at : World → Asker → ℕ → ℕ → World
failed_at w (Worker i) p n = at_worker w i (GatherFailed p n)
failed_at w (Client c) p n = at_client w c (ClientGatherFailed p n)

-- ServeGather: an answer with those of the keys that the peer has
abbrev pub serve : World → ℕ → Option Parcel → World
serve w p None = w
serve w p (Some q) = record w {
  requests = without_parcel q.asker q.peer q.ask w.requests;
  answers = with_parcel (record q { keys = filter (w.workers p).mem q.keys }) w.answers;
}

-- ArriveGather
abbrev pub take_answer : World → Option Parcel → World
take_answer w None = w
take_answer w (Some q) = gathered_at (record w { answers = without_parcel q.asker q.peer q.ask w.answers }) q.asker q.peer q.ask q.keys

-- FailGather: the request or the answer stays under way
abbrev pub fail_ask : World → Asker → ℕ → Option Ask → World
fail_ask w a p None = w
fail_ask w a p (Some q) = failed_at w a p q.number

abbrev pub spill : World → ℕ → ℕ → World
spill w i k = record w { spilled = put w.spilled i (put (w.spilled i) k true) }

unfoldable pub world_step : Job → World → Event → World
world_step j w (Want c ks) = at_client w c (WantKeys ks)
world_step j w (Release c ks) = at_client w c (ReleaseKeys ks)
world_step j w (Join threads) = at_scheduler (new_at w (w.sched.last_worker + 1) threads) (JoinSched threads)
world_step j w (Lose i) = died w i
world_step j w (SeeLoss i) = cut_off (at_scheduler w (Leave i)) i
world_step j w (Suspect i) = at_scheduler w (Leave i)
world_step j w (DeliverDown i) = take_down_first w i (w.down i)
world_step j w (DeliverUp i) = take_up_first w i (w.up i)
world_step j w (DeliverToClient c) = take_to_client w c (w.to_client c)
world_step j w (DeliverFromClient c) = take_from_client w c (w.from_client c)
world_step j w (Start i) = at_worker w i StartTask
world_step j w (Finish i k) = at_worker w i (Done k (j.zero k))
world_step j w (SendGather a p) = ask_by w a p
world_step j w (ServeGather p a n) = serve w p (parcel_of a p n w.requests)
world_step j w (ArriveGather a p n) = take_answer w (parcel_of a p n w.answers)
world_step j w (FailGather a p) = fail_ask w a p (open_ask w a p)
world_step j w Balance = at_scheduler w BalanceSched
world_step j w Evict = at_scheduler w EvictSched
world_step j w (Replicate k i) = at_scheduler w (ReplicateSched k i)
world_step j w (Spill i k) = spill w i k
world_step j w (LoseSpilled i k) = at_worker w i (DataLost k)
