-- Gathers lower the measure.
use Rattle.std.proofs.Common.{◌≡◌, ℕ, true, false, Option, Some, None, refl, sym, subst, is_some}
use Rattle.std.proofs.lemmas.Bool.{false≢true, and_parts}
use Rattle.small_facts.proofs.Options.{find_passes}
use Rattle.cluster_msgs.specs.declared.events.Asker.{Asker}
use Rattle.cluster_msgs.specs.declared.events.Asker.TheVariants.{Worker, Client}
use Rattle.cluster_rules.specs.Worker.{Ask, would_ask}
use Rattle.cluster_rules.specs.Client.{client_would_ask}
use Rattle.cluster_rules.specs.World.{World, Parcel, is_asker, is_client, open_ask, same_asker, parcel_of, without_parcel, is_parcel}
use Rattle.cluster_rules.specs.WorldStep.{world_step, gathered_at, take_answer, fail_ask}
use Rattle.cluster_rules.specs.Enabled.{enabled}
use Rattle.quiet_measure.specs.Measure.{Falls}
use Rattle.quiet_measure.specs.Turns.{MayGather, SendFalls, ArriveFalls, FailFalls}
use Rattle.quiet_measure.proofs.Send.{worker_sends}
use Rattle.quiet_measure.proofs.Arrive.{worker_arrives, worker_fails, same_is}
use Rattle.quiet_measure.proofs.ClientSend.{client_asks}
use Rattle.quiet_measure.proofs.ClientArrive.{client_arrives, client_fails, client_is}

pub send_falls : SendFalls
unfolding enabled world_step
send_falls j w (Worker i) p may t = let h = and_parts (w.alive i) (would_ask (w.workers i) p) t in worker_sends w i p may h.0 h.1
send_falls j w (Client c) p may t = let h = and_parts (is_client w c) (client_would_ask (w.clients c) p) t in client_asks w c p may h.0 h.1

asked_by : (w : World) (a : Asker) (p n : ℕ) (q : Parcel) → parcel_of a p n w.answers ≡ Some q → same_asker q.asker a ≡ true
asked_by w a p n q e = (and_parts (same_asker q.asker a) _ (find_passes (is_parcel a p n) w.answers q e)).0

arrives : (w : World) (a : Asker) (p n : ℕ) (o : Option Parcel) → MayGather w a → is_asker w a ≡ true → is_some o ≡ true → parcel_of a p n w.answers ≡ o → Falls w (take_answer w o)
arrives w a p n None may t s e = absurd (false≢true s)
arrives w (Worker i) p n (Some q) may t s e = subst (λ (a : Asker). Falls w (gathered_at (record w { answers = without_parcel q.asker q.peer q.ask w.answers }) a q.peer q.ask q.keys))
    (sym (same_is q.asker i (asked_by w (Worker i) p n q e))) (worker_arrives w i may t p n q e)
arrives w (Client c) p n (Some q) may t s e = subst (λ (a : Asker). Falls w (gathered_at (record w { answers = without_parcel q.asker q.peer q.ask w.answers }) a q.peer q.ask q.keys))
    (sym (client_is q.asker c (asked_by w (Client c) p n q e))) (client_arrives w c may t p n q e)

pub arrive_falls : ArriveFalls
unfolding enabled world_step
arrive_falls j w a p n may t = let h = and_parts (is_asker w a) (is_some (parcel_of a p n w.answers)) t in arrives w a p n (parcel_of a p n w.answers) may h.0 h.1 refl

fails : (w : World) (a : Asker) (p : ℕ) (o : Option Ask) → MayGather w a → w.alive p ≡ false → is_asker w a ≡ true → is_some o ≡ true → open_ask w a p ≡ o → Falls w (fail_ask w a p o)
fails w a p None may dead t s e = absurd (false≢true s)
fails w (Worker i) p (Some a) may dead t s e = worker_fails w i may t p a dead e
fails w (Client c) p (Some a) may dead t s e = client_fails w c may t p a dead e

pub fail_falls : FailFalls
unfolding enabled world_step
fail_falls j w a p may dead t = let h = and_parts (is_asker w a) (is_some (open_ask w a p)) t in fails w a p (open_ask w a p) may dead h.0 h.1 refl
