-- What each event of the world is to the scheduler: one event of its own, or nothing.
use Rattle.std.proofs.Common.{◌≡◌, ℕ, Bool, true, false, cond, List, [], ◌∷◌, Option, Some, None, refl, ap}
use Rattle.std.specs.Option.{option_map}
use Rattle.cluster_msgs.specs.declared.messages.Down.{Down}
use Rattle.cluster_msgs.specs.declared.messages.Up.{Up}
use Rattle.cluster_msgs.specs.declared.messages.ToClient.{ToClient}
use Rattle.cluster_msgs.specs.declared.messages.FromClient.{FromClient as ClientMessage}
use Rattle.cluster_msgs.specs.declared.cores.SchedEvent.{SchedEvent}
use Rattle.cluster_msgs.specs.declared.cores.SchedEvent.TheVariants.{FromWorker, FromClient}
use Rattle.cluster_msgs.specs.declared.events.Asker.{Asker}
use Rattle.cluster_msgs.specs.declared.events.Asker.TheVariants.{Worker, Client}
use Rattle.cluster_msgs.specs.declared.events.Event.{Event}
use Rattle.cluster_msgs.specs.declared.events.Event.TheVariants.{Want, Release, Join, Lose, SeeLoss, Suspect, DeliverDown, DeliverUp, DeliverToClient, DeliverFromClient, Start, Finish, SendGather, ServeGather, ArriveGather, FailGather, Balance, Evict, Replicate, Spill, LoseSpilled}
use Rattle.cluster_rules.specs.Sched.{Facts}
use Rattle.cluster_rules.specs.Functions.{put}
use Rattle.cluster_rules.specs.SchedStep.{sched_step}
use Rattle.cluster_rules.specs.Worker.{Ask}
use Rattle.cluster_rules.specs.World.{Job, World, Parcel, is_connected, open_ask, parcel_of}
use Rattle.cluster_rules.specs.WorldStep.{scheduled, worked, client_worked, take_down_first, take_up, take_up_first, take_to_client, take_from_client, ask_by, gathered_at, failed_at, serve, take_answer, fail_ask, world_step}
use Rattle.cluster_rules.specs.Enabled.{front}
use Rattle.cluster_rules.specs.Runs.{sched_event}

abbrev pub sched_after : Facts → Option SchedEvent → Facts
sched_after f None = f
sched_after f (Some s) = (sched_step f s).facts

sched_gathered : (w : World) (a : Asker) (p n : ℕ) (found : List ℕ) → (gathered_at w a p n found).sched ≡ w.sched
unfolding worked client_worked
sched_gathered w (Worker i) p n found = refl
sched_gathered w (Client c) p n found = refl

sched_failed : (w : World) (a : Asker) (p n : ℕ) → (failed_at w a p n).sched ≡ w.sched
unfolding worked client_worked
sched_failed w (Worker i) p n = refl
sched_failed w (Client c) p n = refl

sched_asks : (w : World) (a : Asker) (p : ℕ) → (ask_by w a p).sched ≡ w.sched
unfolding worked client_worked
sched_asks w (Worker i) p = refl
sched_asks w (Client c) p = refl

sched_serves : (w : World) (p : ℕ) (o : Option Parcel) → (serve w p o).sched ≡ w.sched
sched_serves w p None = refl
sched_serves w p (Some q) = refl

sched_answer : (w : World) (o : Option Parcel) → (take_answer w o).sched ≡ w.sched
sched_answer w None = refl
sched_answer w (Some q) = sched_gathered _ q.asker q.peer q.ask q.keys

sched_fails : (w : World) (a : Asker) (p : ℕ) (o : Option Ask) → (fail_ask w a p o).sched ≡ w.sched
sched_fails w a p None = refl
sched_fails w a p (Some q) = sched_failed w a p q.number

sched_down : (w : World) (i : ℕ) (ms : List Down) → (take_down_first w i ms).sched ≡ w.sched
unfolding worked
sched_down w i [] = refl
sched_down w i (m ∷ ms) = refl

sched_to_client : (w : World) (c : ℕ) (ms : List ToClient) → (take_to_client w c ms).sched ≡ w.sched
unfolding client_worked
sched_to_client w c [] = refl
sched_to_client w c (m ∷ ms) = refl

sched_from_client : (w : World) (c : ℕ) (ms : List ClientMessage) → (take_from_client w c ms).sched ≡ sched_after w.sched (option_map (λ m. FromClient c m) (front ms))
unfolding scheduled
sched_from_client w c [] = refl
sched_from_client w c (m ∷ ms) = refl

sched_up : (w : World) (i : ℕ) (ms : List Up) (b : Bool) → is_connected w i ≡ b → (take_up_first w i ms).sched ≡ sched_after w.sched (cond b (option_map (λ m. FromWorker i m) (front ms)) None)
unfolding scheduled
sched_up w i [] true e = refl
sched_up w i [] false e = refl
sched_up w i (m ∷ ms) true e = ap (λ b. (take_up (record w { up = put w.up i ms }) i m b).sched) e
sched_up w i (m ∷ ms) false e = ap (λ b. (take_up (record w { up = put w.up i ms }) i m b).sched) e

pub sched_is : (j : Job) (w : World) (e : Event) → (world_step j w e).sched ≡ sched_after w.sched (sched_event w e)
unfolding world_step scheduled worked client_worked
sched_is j w (Want c ks) = refl
sched_is j w (Release c ks) = refl
sched_is j w (Join threads) = refl
sched_is j w (Lose i) = refl
sched_is j w (SeeLoss i) = refl
sched_is j w (Suspect i) = refl
sched_is j w (DeliverDown i) = sched_down w i (w.down i)
sched_is j w (DeliverUp i) = sched_up w i (w.up i) (is_connected w i) refl
sched_is j w (DeliverToClient c) = sched_to_client w c (w.to_client c)
sched_is j w (DeliverFromClient c) = sched_from_client w c (w.from_client c)
sched_is j w (Start i) = refl
sched_is j w (Finish i k) = refl
sched_is j w (SendGather a p) = sched_asks w a p
sched_is j w (ServeGather p a n) = sched_serves w p (parcel_of a p n w.requests)
sched_is j w (ArriveGather a p n) = sched_answer w (parcel_of a p n w.answers)
sched_is j w (FailGather a p) = sched_fails w a p (open_ask w a p)
sched_is j w Balance = refl
sched_is j w Evict = refl
sched_is j w (Replicate k i) = refl
sched_is j w (Spill i k) = refl
sched_is j w (LoseSpilled i k) = refl
