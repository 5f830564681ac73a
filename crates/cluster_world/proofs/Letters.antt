-- Messages wait only between the scheduler and clients that are there, after each event.
use Rattle.std.proofs.Common.{◌≡◌, ℕ, zero, suc, ◌+◌, ◌≤◌, Bool, true, false, ◌&&◌, List, [], ◌∷◌, ◌++◌, Option, Some, None, refl, sym, ap, ◌∙◌, subst, arith, cond}
use Rattle.std.specs.Prelude.{◌==◌, nat_le}
use Rattle.std.specs.List.{AllByRecursion, range_with_len}
use Rattle.std.proofs.lemmas.Bool.{false≢true, eqb-true, leb-true, le-leb, and_parts, and_from}
use Rattle.std.proofs.lemmas.Option.{none-some, same_Some}
use Rattle.small_facts.proofs.Options.{find_passes}
use Rattle.cluster_msgs.specs.declared.messages.Down.{Down}
use Rattle.cluster_msgs.specs.declared.messages.Up.{Up}
use Rattle.cluster_msgs.specs.declared.messages.Up.TheVariants.{TaskFinished, TaskErred, AddKeys, ReleaseWorkerData, MissingData, RequestRefreshWhoHas, StealResponse}
use Rattle.cluster_msgs.specs.declared.messages.ToClient.{ToClient}
use Rattle.cluster_msgs.specs.declared.messages.FromClient.{FromClient as ClientMessage}
use Rattle.cluster_msgs.specs.declared.messages.FromClient.TheVariants.{Want as WantMessage, Release as ReleaseMessage, Missing as MissingMessage}
use Rattle.cluster_msgs.specs.declared.cores.Steal.{Steal}
use Rattle.cluster_msgs.specs.declared.cores.SchedEvent.{SchedEvent}
use Rattle.cluster_msgs.specs.declared.cores.SchedEvent.TheVariants.{Join as JoinSched, Leave, FromWorker, FromClient, Balance as BalanceSched, Evict as EvictSched, Replicate as ReplicateSched}
use Rattle.cluster_msgs.specs.declared.cores.WorkerEvent.{WorkerEvent}
use Rattle.cluster_msgs.specs.declared.cores.WorkerEvent.TheVariants.{Down as Told, Start as StartTask, Done, Ask as AskPeer, Gathered, GatherFailed, DataLost}
use Rattle.cluster_msgs.specs.declared.cores.ClientEvent.{ClientEvent}
use Rattle.cluster_msgs.specs.declared.cores.ClientEvent.TheVariants.{Want as WantKeys, Release as ReleaseKeys, FromScheduler, Ask as ClientAsk, Gathered as ClientGathered, GatherFailed as ClientGatherFailed}
use Rattle.cluster_msgs.specs.declared.events.Asker.{Asker}
use Rattle.cluster_msgs.specs.declared.events.Asker.TheVariants.{Worker, Client}
use Rattle.cluster_msgs.specs.declared.events.Event.{Event}
use Rattle.cluster_msgs.specs.declared.events.Event.TheVariants.{Want, Release, Join, Lose, SeeLoss, Suspect, DeliverDown, DeliverUp, DeliverToClient, DeliverFromClient, Start, Finish, SendGather, ServeGather, ArriveGather, FailGather, Balance, Evict, Replicate, Spill, LoseSpilled}
use Rattle.cluster_rules.specs.Functions.{put, put_pair}
use Rattle.cluster_rules.specs.Policies.{next_steal, next_drop}
use Rattle.cluster_rules.specs.Sched.{Setting, Facts, holds, held, is_on}
use Rattle.cluster_rules.specs.SchedTable.{Changed, plain, is_copy, add_key, add_keys, lost_copy, nothing_freed, balanced, evicted, change_up, change, sched_takes}
use Rattle.cluster_rules.specs.SchedStep.{sched_step}
use Rattle.cluster_rules.specs.Worker.{Ask, has_any}
use Rattle.cluster_rules.specs.Client.{client_step}
use Rattle.cluster_rules.specs.World.{Job, World, Parcel, is_connected, is_client, is_asker, open_ask, parcel_of, is_parcel, without_parcel}
use Rattle.cluster_rules.specs.WorldStep.{letters, scheduled, worked, client_worked, client_sends, at_scheduler, at_worker, at_client, new_at, take_down_first, take_up, take_up_first, take_to_client, take_from_client, ask_by, gathered_at, failed_at, serve, take_answer, fail_ask, world_step}
use Rattle.cluster_rules.specs.Enabled.{are_named, enabled}
use Rattle.cluster_rules.proofs.WorkerLemmas.{at_one}
use Rattle.cluster_laws.specs.Moves.{world_after}
use Rattle.cluster_laws.proofs.Framed.{step_setting}
use Rattle.cluster_world.proofs.Numbers.{news_go}
use Rattle.cluster_world.proofs.Gathers.{is_of}

-- only a client's message is answered, and to that client
added_reply : (w seen : ℕ) (g : Changed) (ks : List ℕ) → (add_keys w seen g ks).reply ≡ g.reply
added_reply w seen g [] = refl
added_reply w seen g (k ∷ ks) = added_reply w seen (add_key w seen g k) ks ∙ by (nat_le (g.facts.fence w k) seen) (holds g.facts w k) (held g.facts k) (is_on g.facts w k)
  where
    by : (a b c d : Bool) → (cond a (cond b g (cond c (record g { facts = record g.facts { has = put_pair g.facts.has w k (Some g.facts.counter); counter = g.facts.counter + 1 } }) (cond d g (record g { freed = put_pair g.freed w k true })))) g).reply ≡ g.reply
    by false b c d = refl
    by true true c d = refl
    by true false true d = refl
    by true false false true = refl
    by true false false false = refl

lost_reply : (f : Facts) (x k c : ℕ) → (lost_copy f x k c).reply ≡ None
unfolding lost_copy
lost_reply f x k c = pick (is_copy c (f.has x k))
  where
    pick : (b : Bool) → (cond b (record (plain (record f { has = put_pair f.has x k None })) { freed = put_pair nothing_freed x k true }) (plain f)).reply ≡ None
    pick true = refl
    pick false = refl

up_reply : (f : Facts) (w : ℕ) (u : Up) → (change_up f w u).reply ≡ None
up_reply f w (TaskFinished seen k a) = refl
up_reply f w (TaskErred seen k a) = refl
up_reply f w (AddKeys seen ks) = added_reply w seen (plain f) ks
up_reply f w (ReleaseWorkerData seen k) = refl
up_reply f w (MissingData seen k x c) = lost_reply f x k c
up_reply f w (RequestRefreshWhoHas seen k) = refl
up_reply f w (StealResponse seen k a agreed) = refl

balanced_reply : (f : Facts) (o : Option Steal) → (balanced f o).reply ≡ None
balanced_reply f None = refl
balanced_reply f (Some c) = refl

evicted_reply : (f : Facts) (o : Option (ℕ × ℕ)) → (evicted f o).reply ≡ None
evicted_reply f None = refl
evicted_reply f (Some p) = refl

pub reply_goes : (P : ℕ → Type 0) (f : Facts) (e : SchedEvent) → ((c : ℕ) (m : ClientMessage) → e ≡ FromClient c m → P c) → (p : ℕ × ℕ) → (change f e).reply ≡ Some p → P p.0
reply_goes P f (JoinSched threads) h p r = absurd (none-some p r)
reply_goes P f (Leave w) h p r = absurd (none-some p r)
reply_goes P f (FromWorker w u) h p r = absurd (none-some p (sym (up_reply f w u) ∙ r))
reply_goes P f (FromClient c (WantMessage ks)) h p r = absurd (none-some p r)
reply_goes P f (FromClient c (ReleaseMessage ks)) h p r = absurd (none-some p r)
reply_goes P f (FromClient c (MissingMessage k x copy)) h p r = subst (λ (q : ℕ × ℕ). P q.0) (same_Some (c, k) p r) (h c (MissingMessage k x copy) refl)
reply_goes P f BalanceSched h p r = absurd (none-some p (sym (balanced_reply f (next_steal f)) ∙ r))
reply_goes P f EvictSched h p r = absurd (none-some p (sym (evicted_reply f (next_drop f)) ∙ r))
reply_goes P f (ReplicateSched k w) h p r = absurd (none-some p r)

-- the scheduler takes messages only of clients that are there
pub reply_there : (f : Facts) (e : SchedEvent) → sched_takes f e ≡ true → (p : ℕ × ℕ) → (change f e).reply ≡ Some p → p.0 ≤ f.setting.clients
unfolding sched_takes
reply_there f e t p r = reply_goes (λ c. c ≤ f.setting.clients) f e
    (λ c m s. leb-true c f.setting.clients (and_parts (nat_le 1 c) _ (and_parts (nat_le 1 c && nat_le c f.setting.clients) _ (subst (λ d. sched_takes f d ≡ true) s t)).0).1) p r

-- there is a client of this number
abbrev is_there : ℕ → ℕ → Bool
is_there n c = nat_le 1 c && nat_le c n

numbered : (n a m : ℕ) → 1 ≤ a → a + m ≤ n + 1 → AllByRecursion (λ c. is_there n c ≡ true) (range_with_len a m)
numbered n a zero l h = tt
numbered n a (suc m) l h = (and_from _ _ (le-leb 1 a l) (le-leb a n (omega arith)), numbered n (a + 1) m (omega arith) (omega arith))

letters_go : (n c : ℕ) (ms : List (ℕ × ToClient)) → AllByRecursion (λ (m : ℕ × ToClient). is_there n m.0 ≡ true) ms → has_any (letters c ms) ≡ true → is_there n c ≡ true
letters_go n c [] h s = absurd (false≢true s)
letters_go n c (m ∷ ms) h s = pick (m.0 == c) refl s (letters_go n c ms h.1)
  where
    pick : (b : Bool) → (m.0 == c) ≡ b → has_any (cond b (m.1 ∷ letters c ms) (letters c ms)) ≡ true → (has_any (letters c ms) ≡ true → is_there n c ≡ true) → is_there n c ≡ true
    pick true e s r = subst (λ x. is_there n x ≡ true) (eqb-true m.0 c e) h.0
    pick false e s r = r s

one_of : {A : Type 0} (Q : Type 0) (xs ys : List A) → (has_any xs ≡ true → Q) → (has_any ys ≡ true → Q) → has_any (xs ++ ys) ≡ true → Q
one_of Q [] ys f g s = g s
one_of Q (x ∷ xs) ys f g s = f s

record AreAddressed (w : World) : Type 0 where
  to_client : (c : ℕ) → has_any (w.to_client c) ≡ true → is_client w c ≡ true
  from_client : (c : ℕ) → has_any (w.from_client c) ≡ true → is_client w c ≡ true

go_scheduler : (w : World) (e : SchedEvent) → ((c : ℕ) (m : ClientMessage) → e ≡ FromClient c m → is_client w c ≡ true) → AreAddressed w → AreAddressed (at_scheduler w e)
unfolding scheduled
go_scheduler w e from h =
    let n = w.sched.setting.clients in
    let same : w.sched.setting ≡ (sched_step w.sched e).facts.setting = sym (step_setting w.sched e) in
    let news = news_go (λ c. is_there n c ≡ true) w.sched e (numbered n 1 n (omega arith) (omega arith)) (reply_goes (λ c. is_there n c ≡ true) w.sched e from) in
    record {
      to_client = λ c s. subst (λ (x : Setting). is_there x.clients c ≡ true) same (one_of (is_there n c ≡ true) (w.to_client c) (letters c (sched_step w.sched e).clients) (h.to_client c) (letters_go n c (sched_step w.sched e).clients news) s);
      from_client = λ c s. subst (λ (x : Setting). is_there x.clients c ≡ true) same (h.from_client c s);
    }

go_worker : (w : World) (i : ℕ) (e : WorkerEvent) → AreAddressed w → AreAddressed (at_worker w i e)
unfolding worked
go_worker w i e h = record { to_client = h.to_client; from_client = h.from_client }

go_client : (w : World) (c : ℕ) (e : ClientEvent) → is_client w c ≡ true → AreAddressed w → AreAddressed (at_client w c e)
unfolding client_worked
go_client w c e l h = record {
  to_client = h.to_client;
  from_client = at_one c (λ b x. has_any (cond b (w.from_client c ++ client_sends (client_step (w.clients c) e).out) (w.from_client x)) ≡ true → is_client w x ≡ true) (λ s. l) h.from_client;
}

go_gathered_at : (w : World) (a : Asker) (p n : ℕ) (found : List ℕ) → is_asker w a ≡ true → AreAddressed w → AreAddressed (gathered_at w a p n found)
go_gathered_at w (Worker i) p n found l h = go_worker w i (Gathered p n found) h
go_gathered_at w (Client c) p n found l h = go_client w c (ClientGathered p n found) l h

go_failed_at : (w : World) (a : Asker) (p n : ℕ) → is_asker w a ≡ true → AreAddressed w → AreAddressed (failed_at w a p n)
go_failed_at w (Worker i) p n l h = go_worker w i (GatherFailed p n) h
go_failed_at w (Client c) p n l h = go_client w c (ClientGatherFailed p n) l h

go_ask_by : (w : World) (a : Asker) (p : ℕ) → is_asker w a ≡ true → AreAddressed w → AreAddressed (ask_by w a p)
go_ask_by w (Worker i) p l h = go_worker w i (AskPeer p) h
go_ask_by w (Client c) p l h = go_client w c (ClientAsk p) l h

go_serve : (w : World) (p : ℕ) (o : Option Parcel) → AreAddressed w → AreAddressed (serve w p o)
go_serve w p None h = h
go_serve w p (Some q) h = record { to_client = h.to_client; from_client = h.from_client }

go_take_answer : (w : World) (o : Option Parcel) → ((q : Parcel) → o ≡ Some q → is_asker w q.asker ≡ true) → AreAddressed w → AreAddressed (take_answer w o)
go_take_answer w None l h = h
go_take_answer w (Some q) l h = go_gathered_at (record w { answers = without_parcel q.asker q.peer q.ask w.answers }) q.asker q.peer q.ask q.keys (asker_there q.asker (l q refl)) (record { to_client = h.to_client; from_client = h.from_client })
  where
    asker_there : (a : Asker) → is_asker w a ≡ true → is_asker (record w { answers = without_parcel q.asker q.peer q.ask w.answers }) a ≡ true
    asker_there (Worker i) l = l
    asker_there (Client c) l = l

go_fail_ask : (w : World) (a : Asker) (p : ℕ) (o : Option Ask) → is_asker w a ≡ true → AreAddressed w → AreAddressed (fail_ask w a p o)
go_fail_ask w a p None l h = h
go_fail_ask w a p (Some q) l h = go_failed_at w a p q.number l h

go_take_down : (w : World) (i : ℕ) (ms : List Down) → AreAddressed w → AreAddressed (take_down_first w i ms)
go_take_down w i [] h = h
go_take_down w i (m ∷ ms) h = go_worker (record w { down = put w.down i ms }) i (Told m) (record { to_client = h.to_client; from_client = h.from_client })

not_from : (P : Type 0) (i c : ℕ) (u : Up) (m : ClientMessage) → FromWorker i u ≡ FromClient c m → P
not_from P i c u m e = cc

go_take_up : (w : World) (i : ℕ) (ms : List Up) → AreAddressed w → AreAddressed (take_up_first w i ms)
go_take_up w i [] h = h
go_take_up w i (m ∷ ms) h = heard (is_connected w i)
  where
    rest : AreAddressed (record w { up = put w.up i ms })
    rest = record { to_client = h.to_client; from_client = h.from_client }

    heard : (b : Bool) → AreAddressed (take_up (record w { up = put w.up i ms }) i m b)
    heard true = go_scheduler (record w { up = put w.up i ms }) (FromWorker i m) (λ c n e. not_from _ i c m n e) rest
    heard false = rest

go_take_to_client : (w : World) (c : ℕ) (ms : List ToClient) → w.to_client c ≡ ms → AreAddressed w → AreAddressed (take_to_client w c ms)
go_take_to_client w c [] e h = h
go_take_to_client w c (m ∷ ms) e h = go_client (record w { to_client = put w.to_client c ms }) c (FromScheduler m) here
    (record { to_client = at_one c (λ b x. has_any (cond b ms (w.to_client x)) ≡ true → is_client w x ≡ true) (λ s. here) h.to_client; from_client = h.from_client })
  where
    here : is_client w c ≡ true
    here = h.to_client c (ap has_any e)

from_is : (c d : ℕ) (m n : ClientMessage) → FromClient c m ≡ FromClient d n → c ≡ d
from_is c d m n e = cc

go_take_from_client : (w : World) (c : ℕ) (ms : List ClientMessage) → w.from_client c ≡ ms → AreAddressed w → AreAddressed (take_from_client w c ms)
go_take_from_client w c [] e h = h
go_take_from_client w c (m ∷ ms) e h = go_scheduler (record w { from_client = put w.from_client c ms }) (FromClient c m) (λ d n s. subst (λ x. is_client w x ≡ true) (from_is c d m n s) here)
    (record { to_client = h.to_client; from_client = at_one c (λ b x. has_any (cond b ms (w.from_client x)) ≡ true → is_client w x ≡ true) (λ s. here) h.from_client })
  where
    here : is_client w c ≡ true
    here = h.from_client c (ap has_any e)

go_join : (w : World) (i threads : ℕ) → AreAddressed w → AreAddressed (at_scheduler (new_at w i threads) (JoinSched threads))
go_join w i threads h = go_scheduler (new_at w i threads) (JoinSched threads) (λ c m e. other c m e) (record { to_client = h.to_client; from_client = h.from_client })
  where
    other : (c : ℕ) (m : ClientMessage) → JoinSched threads ≡ FromClient c m → is_client w c ≡ true
    other c m e = cc

go_alone : (w : World) (e : SchedEvent) → ((c : ℕ) (m : ClientMessage) → e ≡ FromClient c m → ⊥) → AreAddressed w → AreAddressed (at_scheduler w e)
go_alone w e n h = go_scheduler w e (λ c m s. absurd (n c m s)) h

no_leave : (i c : ℕ) (m : ClientMessage) → Leave i ≡ FromClient c m → ⊥
no_leave i c m e = cc

no_balance : (c : ℕ) (m : ClientMessage) → BalanceSched ≡ FromClient c m → ⊥
no_balance c m e = cc

no_evict : (c : ℕ) (m : ClientMessage) → EvictSched ≡ FromClient c m → ⊥
no_evict c m e = cc

no_replicate : (k i c : ℕ) (m : ClientMessage) → ReplicateSched k i ≡ FromClient c m → ⊥
no_replicate k i c m e = cc

go_step : (j : Job) (w : World) (e : Event) → enabled w e ≡ true → AreAddressed w → AreAddressed (world_step j w e)
unfolding world_step enabled
go_step j w (Want c ks) t h = go_client w c (WantKeys ks) (and_parts (is_client w c) (are_named w ks) t).0 h
go_step j w (Release c ks) t h = go_client w c (ReleaseKeys ks) (and_parts (is_client w c) (are_named w ks) t).0 h
go_step j w (Join threads) t h = go_join w (w.sched.last_worker + 1) threads h
go_step j w (Lose i) t h = record { to_client = h.to_client; from_client = h.from_client }
go_step j w (SeeLoss i) t h = let s = go_alone w (Leave i) (no_leave i) h in record { to_client = s.to_client; from_client = s.from_client }
go_step j w (Suspect i) t h = go_alone w (Leave i) (no_leave i) h
go_step j w (DeliverDown i) t h = go_take_down w i (w.down i) h
go_step j w (DeliverUp i) t h = go_take_up w i (w.up i) h
go_step j w (DeliverToClient c) t h = go_take_to_client w c (w.to_client c) refl h
go_step j w (DeliverFromClient c) t h = go_take_from_client w c (w.from_client c) refl h
go_step j w (Start i) t h = go_worker w i StartTask h
go_step j w (Finish i k) t h = go_worker w i (Done k (j.zero k)) h
go_step j w (SendGather a p) t h = go_ask_by w a p (and_parts (is_asker w a) _ t).0 h
go_step j w (ServeGather p a n) t h = go_serve w p (parcel_of a p n w.requests) h
go_step j w (ArriveGather a p n) t h = go_take_answer w (parcel_of a p n w.answers)
    (λ q e. subst (λ x. is_asker w x ≡ true) (sym (is_of a p n q (find_passes (is_parcel a p n) w.answers q e)).asker) (and_parts (is_asker w a) _ t).0) h
go_step j w (FailGather a p) t h = go_fail_ask w a p (open_ask w a p) (and_parts (is_asker w a) _ t).0 h
go_step j w Balance t h = go_alone w BalanceSched no_balance h
go_step j w Evict t h = go_alone w EvictSched no_evict h
go_step j w (Replicate k i) t h = go_alone w (ReplicateSched k i) (no_replicate k i) h
go_step j w (Spill i k) t h = record { to_client = h.to_client; from_client = h.from_client }
go_step j w (LoseSpilled i k) t h = go_worker w i (DataLost k) h

pub addressed_after : (met : Bool) (w : World) (e : Event) → enabled w e ≡ true
    → ((c : ℕ) → has_any (w.to_client c) ≡ true → is_client w c ≡ true) → ((c : ℕ) → has_any (w.from_client c) ≡ true → is_client w c ≡ true)
    → ((c : ℕ) → has_any ((world_after met w e).to_client c) ≡ true → is_client (world_after met w e) c ≡ true)
    × ((c : ℕ) → has_any ((world_after met w e).from_client c) ≡ true → is_client (world_after met w e) c ≡ true)
addressed_after met w e t to from =
    let h = go_step (record { setting = w.sched.setting; zero = λ k. met }) w e t (record { to_client = to; from_client = from }) in
    (h.to_client, h.from_client)
