-- What holds of a connected worker's facts and links after an event.
use Rattle.std.proofs.Common.{◌≡◌, ℕ, ◌+◌, ◌≤◌, Bool, true, false, cond, not, List, [], ◌∷◌, ◌++◌, Option, Some, None, refl, sym, ap, ◌∙◌, subst, is_some, ⊎_elim}
use Rattle.std.specs.List.{AllByRecursion}
use Rattle.std.proofs.lemmas.Bool.{true≢false, false≢true, eqb-true, and_parts, and_from, cases_lt}
use Rattle.std.proofs.Math.Dec.{eqb}
use Rattle.small_facts.proofs.Numbers.{eqb_turned}
use Rattle.cluster_msgs.specs.declared.messages.Down.{Down}
use Rattle.cluster_msgs.specs.declared.messages.Up.{Up}
use Rattle.cluster_msgs.specs.declared.messages.ToClient.{ToClient}
use Rattle.cluster_msgs.specs.declared.messages.FromClient.{FromClient as ClientMessage}
use Rattle.cluster_msgs.specs.declared.cores.SchedEvent.{SchedEvent}
use Rattle.cluster_msgs.specs.declared.cores.SchedEvent.TheVariants.{Join as JoinSched, Leave, FromWorker, FromClient, Balance as BalanceSched, Evict as EvictSched, Replicate as ReplicateSched}
use Rattle.cluster_msgs.specs.declared.cores.WorkerEvent.{WorkerEvent}
use Rattle.cluster_msgs.specs.declared.cores.WorkerEvent.TheVariants.{Down as Told, Start as StartTask, Done, Ask as AskPeer, Gathered, GatherFailed, DataLost}
use Rattle.cluster_msgs.specs.declared.events.Asker.{Asker}
use Rattle.cluster_msgs.specs.declared.events.Asker.TheVariants.{Worker, Client}
use Rattle.cluster_msgs.specs.declared.events.Event.{Event}
use Rattle.cluster_msgs.specs.declared.events.Event.TheVariants.{Want, Release, Join, Lose, SeeLoss, Suspect, DeliverDown, DeliverUp, DeliverToClient, DeliverFromClient, Start, Finish, SendGather, ServeGather, ArriveGather, FailGather, Balance, Evict, Replicate, Spill, LoseSpilled}
use Rattle.cluster_rules.specs.Functions.{put}
use Rattle.cluster_rules.specs.Sched.{Facts, connected}
use Rattle.cluster_rules.specs.SchedTable.{sched_takes}
use Rattle.cluster_rules.specs.SchedStep.{sched_step, mail}
use Rattle.cluster_rules.specs.Worker.{Ask, WorkerFacts, new_worker, has_any, would_start}
use Rattle.cluster_rules.specs.WorkerStep.{worker_step, worker_takes}
use Rattle.cluster_rules.specs.World.{Job, World, Parcel, shape_of, is_connected, is_client, is_asker, open_ask, is_parcel, parcel_of, without_parcel}
use Rattle.cluster_rules.specs.WorldStep.{sends, scheduled, worked, client_worked, at_scheduler, new_at, died, cut_off, take_down_first, take_up, take_up_first, take_to_client, take_from_client, ask_by, gathered_at, serve, take_answer, fail_ask, world_step}
use Rattle.cluster_rules.specs.Enabled.{enabled, may_ask}
use Rattle.cluster_rules.specs.Inside.{AreKeys, down_keys}
use Rattle.cluster_rules.proofs.InsideSched.{all_found}
use Rattle.cluster_rules.proofs.SchedFrame.{step_settles}
use Rattle.cluster_laws.proofs.Framed.{change_framed}
use Rattle.safety_laws.proofs.Turns.{down_there, key_there, keys_there, up_taken, letter_taken}
use Rattle.std.proofs.Common.{◌==◌}
use Rattle.safety_laws.proofs.Joint.{IsJoint}
use Rattle.safety_laws.proofs.Homes.{letter_from}

-- the event takes a message of the worker
abbrev pub speaks : ℕ → SchedEvent → Bool
speaks i (FromWorker x m) = x == i
speaks i (JoinSched threads) = false
speaks i (Leave v) = false
speaks i (FromClient c m) = false
speaks i BalanceSched = false
speaks i EvictSched = false
speaks i (ReplicateSched q v) = false

abbrev pub is_told : WorkerEvent → Bool
is_told (Told m) = true
is_told StartTask = false
is_told (Done k b) = false
is_told (AskPeer p) = false
is_told (Gathered p n found) = false
is_told (GatherFailed p n) = false
is_told (DataLost k) = false

abbrev pub Fact : Type 1
Fact = Facts → WorkerFacts → List Down → List Up → Type 0

abbrev pub OfWorker : Fact → World → ℕ → Type 0
OfWorker P v i = v.alive i ≡ true → is_connected v i ≡ true → P v.sched (v.workers i) (v.down i) (v.up i)

pub record IsKeptAt (w : World) (i : ℕ) (P : Fact) : Type 0 where
  pub quiet : (s : SchedEvent) → sched_takes w.sched s ≡ true → speaks i s ≡ false → connected w.sched i ≡ true → w.alive i ≡ true → connected (sched_step w.sched s).facts i ≡ true
      → P w.sched (w.workers i) (w.down i) (w.up i) → P (sched_step w.sched s).facts (w.workers i) (w.down i ++ mail i (sched_step w.sched s).down) (w.up i)
  pub heard : (m : Up) (ms : List Up) → w.up i ≡ m ∷ ms → sched_takes w.sched (FromWorker i m) ≡ true → connected w.sched i ≡ true → w.alive i ≡ true → connected (sched_step w.sched (FromWorker i m)).facts i ≡ true
      → P w.sched (w.workers i) (w.down i) (w.up i) → P (sched_step w.sched (FromWorker i m)).facts (w.workers i) (w.down i ++ mail i (sched_step w.sched (FromWorker i m)).down) ms
  pub own : (e : WorkerEvent) → is_told e ≡ false → worker_takes (w.workers i) e ≡ true → is_connected w i ≡ true → w.alive i ≡ true
      → P w.sched (w.workers i) (w.down i) (w.up i) → P w.sched (worker_step (w.workers i) e).facts (w.down i) (w.up i ++ sends (worker_step (w.workers i) e).out)
  pub told : (m : Down) (ms : List Down) → w.down i ≡ m ∷ ms → worker_takes (w.workers i) (Told m) ≡ true → is_connected w i ≡ true → w.alive i ≡ true
      → P w.sched (w.workers i) (w.down i) (w.up i) → P w.sched (worker_step (w.workers i) (Told m)).facts ms (w.up i ++ sends (worker_step (w.workers i) (Told m)).out)
  pub born : (threads : ℕ) → sched_takes w.sched (JoinSched threads) ≡ true → i ≡ w.sched.last_worker + 1
      → P (sched_step w.sched (JoinSched threads)).facts (new_worker (shape_of w) (w.sched.last_worker + 1) threads) (w.down i ++ mail i (sched_step w.sched (JoinSched threads)).down) (w.up i)

module _ (j : Job) (w : World) (joint : IsJoint j w) (i : ℕ) (P : Fact) (keeps : IsKeptAt w i P) (h : OfWorker P w i) where
  abbrev letters_from : (c : ℕ) → has_any (w.from_client c) ≡ true → is_client w c ≡ true
  letters_from = letter_from j w joint.set joint.inside joint.sound joint.home

  given : w.alive i ≡ true → i ≤ w.sched.last_worker
  given a = ⊎_elim (λ l. absurd (true≢false (sym a ∙ (joint.home.bare i l).alive))) (λ l. l) (cases_lt w.sched.last_worker i)

  was : (s : SchedEvent) → w.alive i ≡ true → connected (sched_step w.sched s).facts i ≡ true → connected w.sched i ≡ true
  was s a e = (change_framed w.sched s).threads i (ap (λ (t : ℕ → Option ℕ). is_some (t i)) (sym (step_settles w.sched s).threads) ∙ e) (given a)

  abbrev SchedAfter : SchedEvent → List Up → Type 0
  SchedAfter s u = w.alive i ≡ true → connected (sched_step w.sched s).facts i ≡ true → P (sched_step w.sched s).facts (w.workers i) (w.down i ++ mail i (sched_step w.sched s).down) u

  l_scheduler : (s : SchedEvent) → sched_takes w.sched s ≡ true → speaks i s ≡ false → SchedAfter s (w.up i)
  l_scheduler s t q a c = let b = was s a c in keeps.quiet s t q b a c (h a b)

  abbrev OwnAfter : ℕ → WorkerEvent → Type 0
  OwnAfter x e = w.alive i ≡ true → is_connected w i ≡ true
      → P w.sched (cond (i == x) (worker_step (w.workers x) e).facts (w.workers i)) (w.down i) (cond (i == x) (w.up x ++ sends (worker_step (w.workers x) e).out) (w.up i))

  l_own : (x : ℕ) (e : WorkerEvent) → is_told e ≡ false → worker_takes (w.workers x) e ≡ true → OwnAfter x e
  l_own x e o t a c = pick (eqb i x) refl
    where
      own : i ≡ x → P w.sched (worker_step (w.workers x) e).facts (w.down i) (w.up x ++ sends (worker_step (w.workers x) e).out)
      own s = subst (λ y. P w.sched (worker_step (w.workers y) e).facts (w.down i) (w.up y ++ sends (worker_step (w.workers y) e).out)) s
          (keeps.own e o (subst (λ y. worker_takes (w.workers y) e ≡ true) (sym s) t) c a (h a c))

      pick : (b : Bool) → eqb i x ≡ b → P w.sched (cond b (worker_step (w.workers x) e).facts (w.workers i)) (w.down i) (cond b (w.up x ++ sends (worker_step (w.workers x) e).out) (w.up i))
      pick true e = own (eqb-true i x e)
      pick false e = h a c

  l_told : (x : ℕ) (m : Down) (ms : List Down) → w.down x ≡ m ∷ ms → worker_takes (w.workers x) (Told m) ≡ true → w.alive i ≡ true → is_connected w i ≡ true
      → P w.sched (cond (i == x) (worker_step (w.workers x) (Told m)).facts (w.workers i)) (cond (i == x) ms (w.down i)) (cond (i == x) (w.up x ++ sends (worker_step (w.workers x) (Told m)).out) (w.up i))
  l_told x m ms e t a c = pick (eqb i x) refl
    where
      own : i ≡ x → P w.sched (worker_step (w.workers x) (Told m)).facts ms (w.up x ++ sends (worker_step (w.workers x) (Told m)).out)
      own s = subst (λ y. P w.sched (worker_step (w.workers y) (Told m)).facts ms (w.up y ++ sends (worker_step (w.workers y) (Told m)).out)) s
          (keeps.told m ms (ap w.down s ∙ e) (subst (λ y. worker_takes (w.workers y) (Told m) ≡ true) (sym s) t) c a (h a c))

      pick : (b : Bool) → eqb i x ≡ b → P w.sched (cond b (worker_step (w.workers x) (Told m)).facts (w.workers i)) (cond b ms (w.down i)) (cond b (w.up x ++ sends (worker_step (w.workers x) (Told m)).out) (w.up i))
      pick true q = own (eqb-true i x q)
      pick false q = h a c

  l_heard : (x : ℕ) (m : Up) (ms : List Up) → w.up x ≡ m ∷ ms → is_connected w x ≡ true → SchedAfter (FromWorker x m) (cond (i == x) ms (w.up i))
  l_heard x m ms e there a c = pick (eqb i x) refl
    where
      t : sched_takes w.sched (FromWorker x m) ≡ true
      t = up_taken j.setting.shape w joint.inside x m ms e there

      own : i ≡ x → P (sched_step w.sched (FromWorker x m)).facts (w.workers i) (w.down i ++ mail i (sched_step w.sched (FromWorker x m)).down) ms
      own s = subst (λ y. P (sched_step w.sched (FromWorker y m)).facts (w.workers i) (w.down i ++ mail i (sched_step w.sched (FromWorker y m)).down) ms) s
          (keeps.heard m ms (ap w.up s ∙ e) (subst (λ y. sched_takes w.sched (FromWorker y m) ≡ true) (sym s) t) (was (FromWorker x m) a c) a (subst (λ y. connected (sched_step w.sched (FromWorker y m)).facts i ≡ true) (sym s) c) (h a (was (FromWorker x m) a c)))

      pick : (b : Bool) → eqb i x ≡ b → P (sched_step w.sched (FromWorker x m)).facts (w.workers i) (w.down i ++ mail i (sched_step w.sched (FromWorker x m)).down) (cond b ms (w.up i))
      pick true q = own (eqb-true i x q)
      pick false q = l_scheduler (FromWorker x m) t (eqb_turned x i ∙ q) a c

  l_joined : (threads : ℕ) → sched_takes w.sched (JoinSched threads) ≡ true → OfWorker P (at_scheduler (new_at w (w.sched.last_worker + 1) threads) (JoinSched threads)) i
  unfolding scheduled
  l_joined threads t a c = pick (eqb i (w.sched.last_worker + 1)) refl
    where
      living : (b : Bool) → eqb i (w.sched.last_worker + 1) ≡ b → b ≡ false → w.alive i ≡ true
      living b e z = ap (λ x. cond x true (w.alive i)) (sym (e ∙ z)) ∙ a

      pick : (b : Bool) → eqb i (w.sched.last_worker + 1) ≡ b → P (sched_step w.sched (JoinSched threads)).facts (cond b (new_worker (shape_of w) (w.sched.last_worker + 1) threads) (w.workers i)) (w.down i ++ mail i (sched_step w.sched (JoinSched threads)).down) (w.up i)
      pick true e = keeps.born threads t (eqb-true i (w.sched.last_worker + 1) e)
      pick false e = l_scheduler (JoinSched threads) t refl (living false e refl) c

  l_gathered : (a : Asker) (p n : ℕ) (found : List ℕ) (qs : List Parcel) → AreKeys j.setting.shape found → OfWorker P (gathered_at (record w { answers = qs }) a p n found) i
  unfolding worker_takes worked client_worked
  l_gathered (Worker x) p n found qs ks = l_own x (Gathered p n found) refl (keys_there j.setting.shape (w.workers x).shape (joint.inside.workers x).shape found ks)
  l_gathered (Client c) p n found qs ks = h

  l_failed : (a : Asker) (p : ℕ) (o : Option Ask) → OfWorker P (fail_ask w a p o) i
  unfolding worker_takes worked client_worked
  l_failed a p None = h
  l_failed (Worker x) p (Some q) = l_own x (GatherFailed p q.number) refl refl
  l_failed (Client c) p (Some q) = h

  l_asks : (a : Asker) (p : ℕ) → may_ask w a p ≡ true → OfWorker P (ask_by w a p) i
  unfolding worker_takes worked client_worked
  l_asks (Worker x) p t = l_own x (AskPeer p) refl t
  l_asks (Client c) p t = h

  l_serves : (p : ℕ) (o : Option Parcel) → OfWorker P (serve w p o) i
  l_serves p None = h
  l_serves p (Some q) = h

  found_keys : (a : Asker) (p n : ℕ) (q : Parcel) → parcel_of a p n w.answers ≡ Some q → AreKeys j.setting.shape q.keys
  found_keys a p n q e = all_found (λ (x : Parcel). AreKeys j.setting.shape x.keys) (is_parcel a p n) w.answers q e joint.inside.answers

  l_answer : (a : Asker) (p n : ℕ) (o : Option Parcel) → parcel_of a p n w.answers ≡ o → OfWorker P (take_answer w o) i
  l_answer a p n None e = h
  l_answer a p n (Some q) e = l_gathered q.asker q.peer q.ask q.keys (without_parcel q.asker q.peer q.ask w.answers) (found_keys a p n q e)

  l_down : (x : ℕ) (ms : List Down) → w.down x ≡ ms → OfWorker P (take_down_first w x ms) i
  unfolding worker_takes worked
  l_down x [] e = h
  l_down x (m ∷ ms) e = l_told x m ms e (down_there j.setting.shape (w.workers x) (joint.inside.workers x).shape m (subst (λ l. AllByRecursion (λ y. AreKeys j.setting.shape (down_keys y)) l) e (joint.inside.down x)).0)

  l_dropped : (x : ℕ) (m : Up) (ms : List Up) → is_connected w x ≡ false → OfWorker P (record w { up = put w.up x ms }) i
  l_dropped x m ms gone a c = pick (eqb i x) refl
    where
      pick : (b : Bool) → eqb i x ≡ b → P w.sched (w.workers i) (w.down i) (cond b ms (w.up i))
      pick true q = absurd (true≢false (sym c ∙ ap (is_connected w) (eqb-true i x q) ∙ gone))
      pick false q = h a c

  l_up : (x : ℕ) (ms : List Up) → w.up x ≡ ms → OfWorker P (take_up_first w x ms) i
  unfolding scheduled
  l_up x [] e = h
  l_up x (m ∷ ms) e = pick (is_connected w x) refl
    where
      pick : (b : Bool) → is_connected w x ≡ b → OfWorker P (take_up (record w { up = put w.up x ms }) x m b) i
      pick true c = l_heard x m ms e c
      pick false c = l_dropped x m ms c

  l_news : (c : ℕ) (ms : List ToClient) → OfWorker P (take_to_client w c ms) i
  unfolding client_worked
  l_news c [] = h
  l_news c (m ∷ ms) = h

  l_letter : (c : ℕ) (ms : List ClientMessage) → w.from_client c ≡ ms → OfWorker P (take_from_client w c ms) i
  unfolding scheduled
  l_letter c [] e = h
  l_letter c (m ∷ ms) e = l_scheduler (FromClient c m) (letter_taken j.setting.shape w joint.inside c m ms e (letters_from c (ap has_any e))) refl

  l_plain : (s : SchedEvent) → sched_takes w.sched s ≡ true → speaks i s ≡ false → OfWorker P (at_scheduler w s) i
  unfolding scheduled
  l_plain s t q = l_scheduler s t q

  l_leaves : (x : ℕ) → is_connected w x ≡ true → OfWorker P (at_scheduler w (Leave x)) i
  unfolding sched_takes
  l_leaves x t = l_plain (Leave x) t refl

  l_lost : (x : ℕ) → w.alive x ≡ false → is_connected w x ≡ true → OfWorker P (cut_off (at_scheduler w (Leave x)) x) i
  unfolding scheduled
  l_lost x dead t a c = pick (eqb i x) refl (l_leaves x t a c)
    where
      pick : (b : Bool) → eqb i x ≡ b → P (at_scheduler w (Leave x)).sched (w.workers i) ((at_scheduler w (Leave x)).down i) ((at_scheduler w (Leave x)).up i)
          → P (at_scheduler w (Leave x)).sched (w.workers i) (cond b [] ((at_scheduler w (Leave x)).down i)) (cond b [] ((at_scheduler w (Leave x)).up i))
      pick true e p = absurd (true≢false (sym a ∙ ap w.alive (eqb-true i x e) ∙ dead))
      pick false e p = p

  l_died : (x : ℕ) → OfWorker P (died w x) i
  l_died x = pick (eqb i x)
    where
      pick : (b : Bool) → cond b false (w.alive i) ≡ true → is_connected w i ≡ true → P w.sched (cond b (record (w.workers x) { mem = λ q. false }) (w.workers i)) (w.down i) (w.up i)
      pick true a c = absurd (false≢true a)
      pick false a c = h a c

  dead_is : (x : ℕ) → not (w.alive x) ≡ true → w.alive x ≡ false
  dead_is x e = by (w.alive x) e
    where
      by : (b : Bool) → not b ≡ true → b ≡ false
      by true e = absurd (false≢true e)
      by false e = refl

  pub kept_step : (e : Event) → enabled w e ≡ true → OfWorker P (world_step j w e) i
  unfolding world_step enabled worker_takes worked client_worked
  kept_step (Want c ks) t = h
  kept_step (Release c ks) t = h
  kept_step (Join threads) t = l_joined threads t
  kept_step (Lose x) t = l_died x
  kept_step (SeeLoss x) t = let b = and_parts (not (w.alive x)) (is_connected w x) t in l_lost x (dead_is x b.0) b.1
  kept_step (Suspect x) t = l_leaves x t
  kept_step (DeliverDown x) t = l_down x (w.down x) refl
  kept_step (DeliverUp x) t = l_up x (w.up x) refl
  kept_step (DeliverToClient c) t = l_news c (w.to_client c)
  kept_step (DeliverFromClient c) t = l_letter c (w.from_client c) refl
  kept_step (Start x) t = l_own x StartTask refl (and_parts (w.alive x) (is_some (would_start (w.workers x))) t).1
  kept_step (Finish x q) t = let b = and_parts (w.alive x) ((w.workers x).running q) t in
      l_own x (Done q (j.zero q)) refl (and_from _ _ (key_there j.setting.shape (w.workers x).shape (joint.inside.workers x).shape q ((joint.inside.workers x).running q b.1)) b.1)
  kept_step (SendGather a p) t = l_asks a p (and_parts (is_asker w a) (may_ask w a p) t).1
  kept_step (ServeGather p a n) t = l_serves p (parcel_of a p n w.requests)
  kept_step (ArriveGather a p n) t = l_answer a p n (parcel_of a p n w.answers) refl
  kept_step (FailGather a p) t = l_failed a p (open_ask w a p)
  kept_step Balance t = l_plain BalanceSched t refl
  kept_step Evict t = l_plain EvictSched t refl
  kept_step (Replicate q x) t = l_plain (ReplicateSched q x) t refl
  kept_step (Spill x q) t = h
  kept_step (LoseSpilled x q) t = let b = and_parts (w.alive x) (w.spilled x q) t in
      l_own x (DataLost q) refl (and_from _ _ (key_there j.setting.shape (w.workers x).shape (joint.inside.workers x).shape q (joint.inside.spilled x q b.1)) (joint.home.spilled x q b.1))
