-- No event changes the setting.
use Rattle.std.proofs.Common.{◌≡◌, ℕ, Bool, true, false, List, [], ◌∷◌, Option, Some, None, refl}
use Rattle.cluster_msgs.specs.declared.messages.Down.{Down}
use Rattle.cluster_msgs.specs.declared.messages.Up.{Up}
use Rattle.cluster_msgs.specs.declared.messages.ToClient.{ToClient}
use Rattle.cluster_msgs.specs.declared.messages.FromClient.{FromClient as ClientMessage}
use Rattle.cluster_msgs.specs.declared.cores.SchedEvent.{SchedEvent}
use Rattle.cluster_msgs.specs.declared.cores.SchedEvent.TheVariants.{FromWorker, FromClient}
use Rattle.cluster_msgs.specs.declared.events.Asker.{Asker}
use Rattle.cluster_msgs.specs.declared.events.Asker.TheVariants.{Worker, Client}
use Rattle.cluster_rules.specs.Functions.{put}
use Rattle.cluster_rules.specs.Sched.{Setting}
use Rattle.cluster_rules.specs.Worker.{Ask}
use Rattle.cluster_rules.specs.World.{World, Parcel, is_connected}
use Rattle.cluster_rules.specs.WorldStep.{scheduled, worked, client_worked, at_scheduler, take_down_first, take_up, take_up_first, take_to_client, take_from_client, ask_by, gathered_at, serve, take_answer, fail_ask}
use Rattle.cluster_laws.proofs.Framed.{step_setting}

abbrev set_in : World → Setting
set_in w = w.sched.setting

same_scheduler : (w : World) (e : SchedEvent) → set_in (at_scheduler w e) ≡ set_in w
unfolding scheduled
same_scheduler w e = step_setting w.sched e

same_down : (w : World) (i : ℕ) (ms : List Down) → set_in (take_down_first w i ms) ≡ set_in w
unfolding worked
same_down w i [] = refl
same_down w i (m ∷ ms) = refl

same_up : (w : World) (i : ℕ) (ms : List Up) → set_in (take_up_first w i ms) ≡ set_in w
same_up w i [] = refl
same_up w i (m ∷ ms) = by (is_connected w i)
  where
    by : (b : Bool) → set_in (take_up (record w { up = put w.up i ms }) i m b) ≡ set_in w
    by true = same_scheduler (record w { up = put w.up i ms }) (FromWorker i m)
    by false = refl

same_to_client : (w : World) (c : ℕ) (ms : List ToClient) → set_in (take_to_client w c ms) ≡ set_in w
unfolding client_worked
same_to_client w c [] = refl
same_to_client w c (m ∷ ms) = refl

same_from_client : (w : World) (c : ℕ) (ms : List ClientMessage) → set_in (take_from_client w c ms) ≡ set_in w
same_from_client w c [] = refl
same_from_client w c (m ∷ ms) = same_scheduler (record w { from_client = put w.from_client c ms }) (FromClient c m)

same_ask : (w : World) (a : Asker) (p : ℕ) → set_in (ask_by w a p) ≡ set_in w
unfolding worked client_worked
same_ask w (Worker i) p = refl
same_ask w (Client c) p = refl

same_gathered : (w : World) (a : Asker) (p n : ℕ) (found : List ℕ) → set_in (gathered_at w a p n found) ≡ set_in w
unfolding worked client_worked
same_gathered w (Worker i) p n found = refl
same_gathered w (Client c) p n found = refl

same_fail : (w : World) (a : Asker) (p : ℕ) (o : Option Ask) → set_in (fail_ask w a p o) ≡ set_in w
unfolding worked client_worked
same_fail w a p None = refl
same_fail w (Worker i) p (Some q) = refl
same_fail w (Client c) p (Some q) = refl

same_serve : (w : World) (p : ℕ) (o : Option Parcel) → set_in (serve w p o) ≡ set_in w
same_serve w p None = refl
same_serve w p (Some q) = refl

same_answer : (w : World) (o : Option Parcel) → set_in (take_answer w o) ≡ set_in w
same_answer w None = refl
same_answer w (Some q) = same_gathered _ q.asker q.peer q.ask q.keys
