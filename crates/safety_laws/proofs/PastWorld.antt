-- What was started and what was given back, after every event of the world.
use Rattle.std.proofs.Common.{◌≡◌, ℕ, ◌+◌, Bool, true, false, cond, not, ◌&&◌, ◌||◌, List, [], ◌∷◌, ◌++◌, Option, Some, None, refl, sym, ap, ◌∙◌, subst, arith, is_some, ⊎_elim}
use Rattle.std.specs.List.{AllByRecursion}
use Rattle.std.proofs.lemmas.Bool.{false≢true, eqb-true, and_parts, and_from, or_cases, eq-eqb}
use Rattle.std.proofs.Math.Dec.{eqb}
use Rattle.std.proofs.Math.Bool.{or-false}
use Rattle.std.proofs.lemmas.Option.{none-some}
use Rattle.small_facts.proofs.Numbers.{eqb_turned}
use Rattle.small_facts.proofs.Truth.{and_first, and_second}
use Rattle.cluster_msgs.specs.declared.messages.Down.{Down}
use Rattle.cluster_msgs.specs.declared.messages.Up.{Up}
use Rattle.cluster_msgs.specs.declared.messages.ToClient.{ToClient}
use Rattle.cluster_msgs.specs.declared.messages.FromClient.{FromClient as ClientMessage}
use Rattle.cluster_msgs.specs.declared.cores.SchedEvent.{SchedEvent}
use Rattle.cluster_msgs.specs.declared.cores.SchedEvent.TheVariants.{Join as JoinSched, Leave, FromWorker, FromClient, Balance as BalanceSched, Evict as EvictSched, Replicate as ReplicateSched}
use Rattle.cluster_msgs.specs.declared.cores.WorkerEvent.{WorkerEvent}
use Rattle.cluster_msgs.specs.declared.cores.WorkerEvent.TheVariants.{Down as Told, Start as StartTask, Done, Ask as AskPeer, Gathered, GatherFailed, DataLost}
use Rattle.cluster_msgs.specs.declared.cores.ClientEvent.{ClientEvent}
use Rattle.cluster_msgs.specs.declared.cores.ClientEvent.TheVariants.{Want as WantKeys, Release as ReleaseKeys, FromScheduler, Ask as ClientAsk, Gathered as ClientGathered, GatherFailed as ClientGatherFailed}
use Rattle.cluster_msgs.specs.declared.events.Asker.{Asker}
use Rattle.cluster_msgs.specs.declared.events.Asker.TheVariants.{Worker, Client}
use Rattle.cluster_msgs.specs.declared.events.Event.{Event}
use Rattle.cluster_msgs.specs.declared.events.Event.TheVariants.{Want, Release, Join, Lose, SeeLoss, Suspect, DeliverDown, DeliverUp, DeliverToClient, DeliverFromClient, Start, Finish, SendGather, ServeGather, ArriveGather, FailGather, Balance, Evict, Replicate, Spill, LoseSpilled}
use Rattle.cluster_rules.specs.Functions.{put}
use Rattle.cluster_rules.specs.Sched.{Facts}
use Rattle.cluster_rules.specs.SchedStep.{sched_step, mail}
use Rattle.cluster_rules.specs.Worker.{Ask, WorkerFacts, new_worker, would_start, wstate, is_unstarted_state}
use Rattle.cluster_rules.specs.WorkerStep.{taken, worker_step, worker_takes}
use Rattle.cluster_rules.specs.World.{Job, World, Parcel, opening, shape_of, is_connected, is_asker, open_ask, is_parcel, parcel_of, without_parcel}
use Rattle.cluster_rules.specs.WorldStep.{sends, scheduled, worked, client_worked, at_scheduler, at_worker, at_client, new_at, died, cut_off, take_down_first, take_up, take_up_first, take_to_client, take_from_client, ask_by, gathered_at, serve, take_answer, fail_ask, world_step}
use Rattle.cluster_rules.specs.Enabled.{enabled, may_ask}
use Rattle.cluster_rules.specs.Inside.{AreKeys, down_keys, IsInsideWorld}
use Rattle.cluster_rules.proofs.InsideSched.{all_found}
use Rattle.cluster_laws.specs.Settled.{IsSettled}
use Rattle.pair_machine.specs.Pair.{is_at}
use Rattle.pair_moves.specs.Projection.{report_of, notes, reports, pair_of, IsNumbered}
use Rattle.pair_moves.proofs.WorkerMoves.{own_keeps, told_keeps, IsOwn, reports-append}
use Rattle.safety_laws.specs.Joint.{side_of, pair_at}
use Rattle.safety_laws.specs.Past.{Past, is_it, past_after, no_past}
use Rattle.safety_laws.proofs.Tale.{IsTale, less_tale, NotStarted, tale_closed, start_tale, pop_tale, post_tale}
use Rattle.safety_laws.proofs.Posts.{posts_fresh}
use Rattle.safety_laws.proofs.Running.{IsFrom, from_closed, told_from, told_runs, own_runs, start_runs}
use Rattle.cluster_rules.proofs.WorkerLemmas.{unstarted_state-is}
use Rattle.pair_machine.specs.Story.{hears_yes}
use Rattle.pair_moves.proofs.Settling.{notes-append}
use Rattle.safety_laws.proofs.Turns.{down_there, key_there, keys_there}
use Rattle.safety_laws.proofs.Homes.{IsHome}

-- of each worker and key
pub record IsPast (w : World) (past : Past) : Type 0 where
  pub tales : (i k : ℕ) → IsTale (past.started i k) (past.yielded i k) (pair_at w i k)
  pub runs : (i k a : ℕ) → past.started i k a ≡ true → (w.workers i).mine k ≡ Some a → (w.workers i).running k ≡ true

-- what is started and is the worker's runs
abbrev RunsIn : (ℕ → Bool) → World → ℕ → ℕ → Type 0
RunsIn st v i k = (a : ℕ) → st a ≡ true → (v.workers i).mine k ≡ Some a → (v.workers i).running k ≡ true

abbrev Both : (ℕ → Bool) → (ℕ → Bool) → World → ℕ → ℕ → Type 0
Both st yi v i k = IsTale st yi (pair_at v i k) × RunsIn st v i k

module _ (j : Job) (w : World) (inside : IsInsideWorld j.setting.shape w) (settled : IsSettled w.sched) (numbered : IsNumbered w.sched)
    (home : IsHome j.setting.shape j.setting.clients w.sched.last_worker w) (st yi : ℕ → Bool) (i k : ℕ) where
  t_scheduler : (v : World) (s : SchedEvent) → v.sched ≡ w.sched → Both st yi v i k → Both st yi (at_scheduler v s) i k
  unfolding scheduled
  t_scheduler v s same h = (subst (λ (f : Facts). IsTale st yi (pair_of f i k (side_of v i k)) → IsTale st yi (pair_of (sched_step f s).facts i k (record (side_of v i k) { down = v.down i ++ mail i (sched_step f s).down }))) (sym same) go h.0, h.1)
    where
      go : IsTale st yi (pair_of w.sched i k (side_of v i k)) → IsTale st yi (pair_of (sched_step w.sched s).facts i k (record (side_of v i k) { down = v.down i ++ mail i (sched_step w.sched s).down }))
      go t = subst (λ ns. IsTale st yi (record (pair_of (sched_step w.sched s).facts i k (side_of v i k)) { down = ns })) (sym (notes-append k (v.down i) (mail i (sched_step w.sched s).down)))
          (less_tale st yi (record (pair_of w.sched i k (side_of v i k)) { counter = (sched_step w.sched s).facts.counter; down = notes k (v.down i) ++ notes k (mail i (sched_step w.sched s).down) })
          (record (pair_of (sched_step w.sched s).facts i k (side_of v i k)) { down = notes k (v.down i) ++ notes k (mail i (sched_step w.sched s).down) })
          (record { tallies = λ a. omega arith; given = λ a. omega arith; yield = λ a e z. z; counter = refl })
          (post_tale st yi (pair_of w.sched i k (side_of v i k)) (sched_step w.sched s).facts.counter (notes k (mail i (sched_step w.sched s).down)) (posts_fresh w.sched s settled numbered i k) t))

  t_tale : (v : World) (x : ℕ) (e : WorkerEvent) → IsOwn (IsTale st yi) (NotStarted st) (tale_closed st yi) k e → worker_takes (v.workers x) e ≡ true → IsTale st yi (pair_at v i k) → IsTale st yi (pair_at (at_worker v x e) i k)
  unfolding worked
  t_tale v x e o t h = pick (eqb i x) refl
    where
      own : i ≡ x → IsTale st yi (pair_of v.sched i k (record { down = v.down i; seen = (worker_step (v.workers x) e).facts.seen; mine = (worker_step (v.workers x) e).facts.mine k; mem = (worker_step (v.workers x) e).facts.mem k; up = v.up x ++ sends (worker_step (v.workers x) e).out }))
      own s = subst (λ y. IsTale st yi (pair_of v.sched i k (record { down = v.down i; seen = (worker_step (v.workers x) e).facts.seen; mine = (worker_step (v.workers x) e).facts.mine k; mem = (worker_step (v.workers x) e).facts.mem k; up = v.up y ++ sends (worker_step (v.workers x) e).out }))) s
          (subst (λ rs. IsTale st yi (record (pair_at v i k) { seen = (worker_step (v.workers x) e).facts.seen; mine = (worker_step (v.workers x) e).facts.mine k; mem = (worker_step (v.workers x) e).facts.mem k; up = rs }))
          (sym (reports-append k (v.up i) (sends (worker_step (v.workers x) e).out)))
          (own_keeps (IsTale st yi) (NotStarted st) (tale_closed st yi) k (v.workers x) e o t (pair_at v i k) (subst (λ y. IsTale st yi (record (pair_at v i k) { seen = (v.workers y).seen; mem = (v.workers y).mem k; mine = (v.workers y).mine k })) s h)))

      pick : (b : Bool) → eqb i x ≡ b → IsTale st yi (pair_of v.sched i k (record { down = v.down i; seen = (cond b (worker_step (v.workers x) e).facts (v.workers i)).seen; mine = (cond b (worker_step (v.workers x) e).facts (v.workers i)).mine k; mem = (cond b (worker_step (v.workers x) e).facts (v.workers i)).mem k; up = cond b (v.up x ++ sends (worker_step (v.workers x) e).out) (v.up i) }))
      pick true e = own (eqb-true i x e)
      pick false e = h

  t_runs : (v : World) (x : ℕ) (e : WorkerEvent) → ((a : ℕ) → IsOwn (IsFrom a ((v.workers x).mine k ≡ Some a)) (λ _. Unit {0}) (from_closed a ((v.workers x).mine k ≡ Some a)) k e) → worker_takes (v.workers x) e ≡ true → RunsIn st v i k → RunsIn st (at_worker v x e) i k
  unfolding worked
  t_runs v x e o t h = pick (eqb i x) refl
    where
      runs : i ≡ x → (a : ℕ) → st a ≡ true → (worker_step (v.workers x) e).facts.mine k ≡ Some a → (worker_step (v.workers x) e).facts.running k ≡ true
      runs s a z m = let r = own_runs (v.workers x) e k a (o a) t m in r.1 (subst (λ y. (v.workers y).mine k ≡ Some a → (v.workers y).running k ≡ true) s (h a z) r.0)

      pick : (b : Bool) → eqb i x ≡ b → ((a : ℕ) → st a ≡ true → (cond b (worker_step (v.workers x) e).facts (v.workers i)).mine k ≡ Some a → (cond b (worker_step (v.workers x) e).facts (v.workers i)).running k ≡ true)
      pick true e = runs (eqb-true i x e)
      pick false e = h

  t_own : (v : World) (x : ℕ) (e : WorkerEvent) → IsOwn (IsTale st yi) (NotStarted st) (tale_closed st yi) k e → ((a : ℕ) → IsOwn (IsFrom a ((v.workers x).mine k ≡ Some a)) (λ _. Unit {0}) (from_closed a ((v.workers x).mine k ≡ Some a)) k e) → worker_takes (v.workers x) e ≡ true → Both st yi v i k → Both st yi (at_worker v x e) i k
  t_own v x e o o2 t h = (t_tale v x e o t h.0, t_runs v x e o2 t h.1)

  t_told : (x : ℕ) (m : Down) (ms : List Down) → w.down x ≡ m ∷ ms → worker_takes (w.workers x) (Told m) ≡ true → Both st yi w i k → Both st yi (at_worker (record w { down = put w.down x ms }) x (Told m)) i k
  unfolding worked
  t_told x m ms e t h = pick (eqb i x) refl
    where
      at : i ≡ x → IsTale st yi (record (pair_at w i k) { down = notes k (m ∷ ms); seen = (w.workers x).seen; mem = (w.workers x).mem k; mine = (w.workers x).mine k })
      at s = subst (λ y. IsTale st yi (record (pair_at w i k) { down = notes k (m ∷ ms); seen = (w.workers y).seen; mem = (w.workers y).mem k; mine = (w.workers y).mine k })) s
          (subst (λ l. IsTale st yi (record (pair_at w i k) { down = notes k l })) (ap w.down s ∙ e) h.0)

      running : i ≡ x → (a : ℕ) → st a ≡ true → (w.workers x).mine k ≡ Some a → (w.workers x).running k ≡ true
      running s a z = subst (λ y. (w.workers y).mine k ≡ Some a → (w.workers y).running k ≡ true) s (h.1 a z)

      idle : i ≡ x → is_unstarted_state (wstate (taken (w.workers x)) k) ≡ true → NotStarted st ((w.workers x).mine k)
      idle s u a q = by (st a) refl
        where
          stopped : not ((w.workers x).running k) ≡ true
          stopped = and_first (not ((w.workers x).running k)) _ (and_second (not ((w.workers x).mem k)) _ (sym (unstarted_state-is (taken (w.workers x)) k) ∙ u))

          by : (b : Bool) → st a ≡ b → b ≡ false
          by true z = absurd (false≢true (sym (ap not (running s a z q)) ∙ stopped))
          by false z = refl

      own : i ≡ x → IsTale st yi (pair_of w.sched i k (record { down = ms; seen = (worker_step (w.workers x) (Told m)).facts.seen; mine = (worker_step (w.workers x) (Told m)).facts.mine k; mem = (worker_step (w.workers x) (Told m)).facts.mem k; up = w.up x ++ sends (worker_step (w.workers x) (Told m)).out }))
      own s = subst (λ y. IsTale st yi (pair_of w.sched i k (record { down = ms; seen = (worker_step (w.workers x) (Told m)).facts.seen; mine = (worker_step (w.workers x) (Told m)).facts.mine k; mem = (worker_step (w.workers x) (Told m)).facts.mem k; up = w.up y ++ sends (worker_step (w.workers x) (Told m)).out }))) s
          (subst (λ rs. IsTale st yi (record (pair_at w i k) { down = notes k ms; seen = (worker_step (w.workers x) (Told m)).facts.seen; mine = (worker_step (w.workers x) (Told m)).facts.mine k; mem = (worker_step (w.workers x) (Told m)).facts.mem k; up = rs }))
          (sym (reports-append k (w.up i) (sends (worker_step (w.workers x) (Told m)).out)))
          (told_keeps (IsTale st yi) (NotStarted st) (tale_closed st yi) k (w.workers x) m t (idle s) (pair_at w i k) (notes k ms) (at s)))

      runs : i ≡ x → (a : ℕ) → st a ≡ true → (worker_step (w.workers x) (Told m)).facts.mine k ≡ Some a → (worker_step (w.workers x) (Told m)).facts.running k ≡ true
      runs s a z q = ap (λ (f : ℕ → Bool). f k) (told_runs (w.workers x) m) ∙ ⊎_elim (λ o. running s a z o) (λ g. absurd (let y = (at s).taken a z in omega (arith, g, y))) (told_from (w.workers x) m k a t q)

      pick : (b : Bool) → eqb i x ≡ b → IsTale st yi (pair_of w.sched i k (record { down = cond b ms (w.down i); seen = (cond b (worker_step (w.workers x) (Told m)).facts (w.workers i)).seen; mine = (cond b (worker_step (w.workers x) (Told m)).facts (w.workers i)).mine k; mem = (cond b (worker_step (w.workers x) (Told m)).facts (w.workers i)).mem k; up = cond b (w.up x ++ sends (worker_step (w.workers x) (Told m)).out) (w.up i) }))
          × ((a : ℕ) → st a ≡ true → (cond b (worker_step (w.workers x) (Told m)).facts (w.workers i)).mine k ≡ Some a → (cond b (worker_step (w.workers x) (Told m)).facts (w.workers i)).running k ≡ true)
      pick true q = (own (eqb-true i x q), runs (eqb-true i x q))
      pick false q = h

  -- a message is taken from a worker's link
  t_popped : (x : ℕ) (m : Up) (ms : List Up) → w.up x ≡ m ∷ ms → Both st yi w i k → Both st (λ a. yi a || (eqb x i && hears_yes (reports k (w.up i)) a)) (record w { up = put w.up x ms }) i k
  t_popped x m ms e h = pick (eqb i x) refl
    where
      or_false : (b : Bool) → (b || false) ≡ b
      or_false true = refl
      or_false false = refl

      pick : (b : Bool) → eqb i x ≡ b → IsTale st (λ a. yi a || (eqb x i && hears_yes (reports k (w.up i)) a)) (record (pair_at w i k) { up = reports k (cond b ms (w.up i)) }) × RunsIn st w i k
      pick true q = (
        subst (λ c. IsTale st (λ a. yi a || (c && hears_yes (reports k (w.up i)) a)) (record (pair_at w i k) { up = reports k ms })) (sym (eq-eqb x i (sym (eqb-true i x q))))
            (subst (λ l. IsTale st (λ a. yi a || hears_yes (reports k l) a) (record (pair_at w i k) { up = reports k ms })) (sym (ap w.up (eqb-true i x q) ∙ e))
            (pop_tale st yi (pair_at w i k) (report_of k m) (reports k ms) (subst (λ l. IsTale st yi (record (pair_at w i k) { up = reports k l })) (ap w.up (eqb-true i x q) ∙ e) h.0))),
        h.1,
      )
      pick false q = (subst (λ (f : ℕ → Bool). IsTale st f (pair_at w i k)) (λ y a. sym (ap (λ c. yi a || (c && hears_yes (reports k (w.up i)) a)) (eqb_turned x i ∙ q) ∙ or_false (yi a)) y) h.0, h.1)

  t_new : (n threads : ℕ) → Both st yi w i k → Both st yi (new_at w n threads) i k
  t_new n threads h = pick (eqb i n)
    where
      pick : (b : Bool) → IsTale st yi (pair_of w.sched i k (record { down = w.down i; seen = (cond b (new_worker (shape_of w) n threads) (w.workers i)).seen; mine = (cond b (new_worker (shape_of w) n threads) (w.workers i)).mine k; mem = (cond b (new_worker (shape_of w) n threads) (w.workers i)).mem k; up = w.up i }))
          × ((a : ℕ) → st a ≡ true → (cond b (new_worker (shape_of w) n threads) (w.workers i)).mine k ≡ Some a → (cond b (new_worker (shape_of w) n threads) (w.workers i)).running k ≡ true)
      pick true = (less_tale st yi (pair_at w i k) _ (record { tallies = λ a. omega arith; given = λ a. omega arith; yield = λ a e z. z; counter = refl }) h.0, λ a z m. absurd (none-some a m))
      pick false = h

  t_died : (x : ℕ) → Both st yi w i k → Both st yi (died w x) i k
  t_died x h = pick (eqb i x) refl
    where
      pick : (b : Bool) → eqb i x ≡ b → IsTale st yi (pair_of w.sched i k (record { down = w.down i; seen = (cond b (record (w.workers x) { mem = λ q. false }) (w.workers i)).seen; mine = (cond b (record (w.workers x) { mem = λ q. false }) (w.workers i)).mine k; mem = (cond b (record (w.workers x) { mem = λ q. false }) (w.workers i)).mem k; up = w.up i }))
          × ((a : ℕ) → st a ≡ true → (cond b (record (w.workers x) { mem = λ q. false }) (w.workers i)).mine k ≡ Some a → (cond b (record (w.workers x) { mem = λ q. false }) (w.workers i)).running k ≡ true)
      pick true e = subst (λ y. IsTale st yi (pair_of w.sched i k (record { down = w.down i; seen = (w.workers y).seen; mine = (w.workers y).mine k; mem = false; up = w.up i }))
          × ((a : ℕ) → st a ≡ true → (w.workers y).mine k ≡ Some a → (w.workers y).running k ≡ true)) (eqb-true i x e) (less_tale st yi (pair_at w i k) _ (record { tallies = λ a. omega arith; given = λ a. omega arith; yield = λ a e z. z; counter = refl }) h.0, h.1)
      pick false e = h

  t_cut_off : (v : World) (x : ℕ) → Both st yi v i k → Both st yi (cut_off v x) i k
  t_cut_off v x h = pick (eqb i x)
    where
      pick : (b : Bool) → IsTale st yi (record (pair_at v i k) { down = notes k (cond b [] (v.down i)); up = reports k (cond b [] (v.up i)) }) × RunsIn st v i k
      pick true = (less_tale st yi (pair_at v i k) _ (record { tallies = λ a. omega arith; given = λ a. omega arith; yield = λ a e z. refl; counter = refl }) h.0, h.1)
      pick false = h

  t_client : (v : World) (c : ℕ) (e : ClientEvent) → Both st yi v i k → Both st yi (at_client v c e) i k
  unfolding client_worked
  t_client v c e h = h

  keys_found : (a : Asker) (p n : ℕ) (q : Parcel) → parcel_of a p n w.answers ≡ Some q → AreKeys j.setting.shape q.keys
  keys_found a p n q e = all_found (λ (x : Parcel). AreKeys j.setting.shape x.keys) (is_parcel a p n) w.answers q e inside.answers

  t_gathered : (v : World) (a : Asker) (p n : ℕ) (found : List ℕ) → v.workers ≡ w.workers → AreKeys j.setting.shape found → Both st yi v i k → Both st yi (gathered_at v a p n found) i k
  unfolding worker_takes
  t_gathered v (Worker x) p n found same ks r = t_own v x (Gathered p n found) tt (λ a. tt) (keys_there j.setting.shape (v.workers x).shape (ap (λ (f : ℕ → WorkerFacts). (f x).shape) same ∙ (inside.workers x).shape) found ks) r
  t_gathered v (Client c) p n found same ks r = t_client v c (ClientGathered p n found) r

  t_failed : (a : Asker) (p : ℕ) (o : Option Ask) → Both st yi w i k → Both st yi (fail_ask w a p o) i k
  unfolding worker_takes
  t_failed a p None h = h
  t_failed (Worker x) p (Some q) h = t_own w x (GatherFailed p q.number) tt (λ a. tt) refl h
  t_failed (Client c) p (Some q) h = t_client w c (ClientGatherFailed p q.number) h

  t_asks : (a : Asker) (p : ℕ) → may_ask w a p ≡ true → Both st yi w i k → Both st yi (ask_by w a p) i k
  unfolding worker_takes
  t_asks (Worker x) p t h = t_own w x (AskPeer p) tt (λ a. tt) t h
  t_asks (Client c) p t h = t_client w c (ClientAsk p) h

  t_serves : (p : ℕ) (o : Option Parcel) → Both st yi w i k → Both st yi (serve w p o) i k
  t_serves p None h = h
  t_serves p (Some q) h = h

  t_answer : (a : Asker) (p n : ℕ) (o : Option Parcel) → parcel_of a p n w.answers ≡ o → Both st yi w i k → Both st yi (take_answer w o) i k
  t_answer a p n None e h = h
  t_answer a p n (Some q) e h = t_gathered (record w { answers = without_parcel q.asker q.peer q.ask w.answers }) q.asker q.peer q.ask q.keys refl (keys_found a p n q e) h

  t_down : (x : ℕ) (ms : List Down) → w.down x ≡ ms → Both st yi w i k → Both st yi (take_down_first w x ms) i k
  unfolding worker_takes
  t_down x [] e h = h
  t_down x (m ∷ ms) e h = t_told x m ms e (down_there j.setting.shape (w.workers x) (inside.workers x).shape m (subst (λ l. AllByRecursion (λ y. AreKeys j.setting.shape (down_keys y)) l) e (inside.down x)).0) h

  t_news : (c : ℕ) (ms : List ToClient) → Both st yi w i k → Both st yi (take_to_client w c ms) i k
  t_news c [] h = h
  t_news c (m ∷ ms) h = t_client (record w { to_client = put w.to_client c ms }) c (FromScheduler m) h

  t_letter : (c : ℕ) (ms : List ClientMessage) → Both st yi w i k → Both st yi (take_from_client w c ms) i k
  t_letter c [] h = h
  t_letter c (m ∷ ms) h = t_scheduler (record w { from_client = put w.from_client c ms }) (FromClient c m) refl h

-- a message from a worker
t_up : (j : Job) (w : World) (inside : IsInsideWorld j.setting.shape w) (settled : IsSettled w.sched) (numbered : IsNumbered w.sched) (home : IsHome j.setting.shape j.setting.clients w.sched.last_worker w) (st yi : ℕ → Bool) (i k x : ℕ) (ms : List Up) → w.up x ≡ ms
    → Both st yi w i k → Both st (λ a. yi a || (eqb x i && hears_yes (reports k (w.up i)) a)) (take_up_first w x ms) i k
t_up j w inside settled numbered home st yi i k x [] e h = (subst (λ (f : ℕ → Bool). IsTale st f (pair_at w i k)) (λ y a. sym (none a (eqb x i) refl) y) h.0, h.1)
  where
    none : (a : ℕ) (b : Bool) → eqb x i ≡ b → (yi a || (b && hears_yes (reports k (w.up i)) a)) ≡ yi a
    none a true q = ap (λ l. yi a || hears_yes (reports k l) a) (ap w.up (sym (eqb-true x i q)) ∙ e) ∙ or-false (yi a)
    none a false q = or-false (yi a)
t_up j w inside settled numbered home st yi i k x (m ∷ ms) e h = pick (is_connected w x)
  where
    yi2 : ℕ → Bool
    yi2 = λ a. yi a || (eqb x i && hears_yes (reports k (w.up i)) a)

    popped : Both st yi2 (record w { up = put w.up x ms }) i k
    popped = t_popped j w inside settled numbered home st yi i k x m ms e h

    pick : (b : Bool) → Both st yi2 (take_up (record w { up = put w.up x ms }) x m b) i k
    pick true = t_scheduler j w inside settled numbered home st yi2 i k (record w { up = put w.up x ms }) (FromWorker x m) refl popped
    pick false = popped

-- a start
t_start : (j : Job) (w : World) (inside : IsInsideWorld j.setting.shape w) (settled : IsSettled w.sched) (numbered : IsNumbered w.sched) (home : IsHome j.setting.shape j.setting.clients w.sched.last_worker w) (st yi : ℕ → Bool) (i k x : ℕ) → is_some (would_start (w.workers x)) ≡ true
    → Both st yi w i k → Both (λ a. st a || ((eqb x i && is_it (would_start (w.workers i)) k) && is_at a ((w.workers i).mine k))) yi (at_worker w x StartTask) i k
unfolding worker_takes worked
t_start j w inside settled numbered home st yi i k x t h = (t_tale j w inside settled numbered home st2 yi i k w x StartTask tt t (start_tale st yi (pair_at w i k) (eqb x i && is_it (would_start (w.workers i)) k) h.0), runs)
  where
    st2 : ℕ → Bool
    st2 = λ a. st a || ((eqb x i && is_it (would_start (w.workers i)) k) && is_at a ((w.workers i).mine k))

    it_is : (o : Option ℕ) → is_it o k ≡ true → o ≡ Some k
    it_is None e = absurd (false≢true e)
    it_is (Some q) e = ap Some (eqb-true q k e)

    now : eqb x i ≡ true → is_it (would_start (w.workers i)) k ≡ true → (at_worker w x StartTask).workers i ≡ (worker_step (w.workers x) StartTask).facts → ((at_worker w x StartTask).workers i).running k ≡ true
    now e s q = ap (λ (y : WorkerFacts). y.running k) q ∙ start_runs (w.workers x) k (ap (λ y. would_start (w.workers y)) (eqb-true x i e) ∙ it_is (would_start (w.workers i)) s)

    here : eqb x i ≡ true → (at_worker w x StartTask).workers i ≡ (worker_step (w.workers x) StartTask).facts
    here e = ap (λ b. cond b (worker_step (w.workers x) StartTask).facts (w.workers i)) (eqb_turned i x ∙ e)

    runs : (a : ℕ) → st2 a ≡ true → ((at_worker w x StartTask).workers i).mine k ≡ Some a → ((at_worker w x StartTask).workers i).running k ≡ true
    runs a z m = ⊎_elim (λ y. t_runs j w inside settled numbered home st yi i k w x StartTask (λ b. tt) t h.1 a y m)
        (λ y. let u = and_first (eqb x i && is_it (would_start (w.workers i)) k) (is_at a ((w.workers i).mine k)) y in now (and_first (eqb x i) (is_it (would_start (w.workers i)) k) u) (and_second (eqb x i) (is_it (would_start (w.workers i)) k) u) (here (and_first (eqb x i) (is_it (would_start (w.workers i)) k) u)))
        (or_cases (st a) ((eqb x i && is_it (would_start (w.workers i)) k) && is_at a ((w.workers i).mine k)) z)

-- ## Every event

module _ (j : Job) (w : World) (inside : IsInsideWorld j.setting.shape w) (settled : IsSettled w.sched) (numbered : IsNumbered w.sched)
    (home : IsHome j.setting.shape j.setting.clients w.sched.last_worker w) (past : Past) (h : IsPast w past) where
  at : (i k : ℕ) → Both (past.started i k) (past.yielded i k) w i k
  at i k = (h.tales i k, h.runs i k)

  both_step : (e : Event) → enabled w e ≡ true → (i k : ℕ) → Both ((past_after w e past).started i k) ((past_after w e past).yielded i k) (world_step j w e) i k
  unfolding world_step enabled worker_takes
  both_step (Want c ks) t i k = t_client j w inside settled numbered home (past.started i k) (past.yielded i k) i k w c (WantKeys ks) (at i k)
  both_step (Release c ks) t i k = t_client j w inside settled numbered home (past.started i k) (past.yielded i k) i k w c (ReleaseKeys ks) (at i k)
  both_step (Join threads) t i k = t_scheduler j w inside settled numbered home (past.started i k) (past.yielded i k) i k (new_at w (w.sched.last_worker + 1) threads) (JoinSched threads) refl
      (t_new j w inside settled numbered home (past.started i k) (past.yielded i k) i k (w.sched.last_worker + 1) threads (at i k))
  both_step (Lose x) t i k = t_died j w inside settled numbered home (past.started i k) (past.yielded i k) i k x (at i k)
  both_step (SeeLoss x) t i k = t_cut_off j w inside settled numbered home (past.started i k) (past.yielded i k) i k (at_scheduler w (Leave x)) x (t_scheduler j w inside settled numbered home (past.started i k) (past.yielded i k) i k w (Leave x) refl (at i k))
  both_step (Suspect x) t i k = t_scheduler j w inside settled numbered home (past.started i k) (past.yielded i k) i k w (Leave x) refl (at i k)
  both_step (DeliverDown x) t i k = t_down j w inside settled numbered home (past.started i k) (past.yielded i k) i k x (w.down x) refl (at i k)
  both_step (DeliverUp x) t i k = t_up j w inside settled numbered home (past.started i k) (past.yielded i k) i k x (w.up x) refl (at i k)
  both_step (DeliverToClient c) t i k = t_news j w inside settled numbered home (past.started i k) (past.yielded i k) i k c (w.to_client c) (at i k)
  both_step (DeliverFromClient c) t i k = t_letter j w inside settled numbered home (past.started i k) (past.yielded i k) i k c (w.from_client c) (at i k)
  both_step (Start x) t i k = t_start j w inside settled numbered home (past.started i k) (past.yielded i k) i k x (and_parts (w.alive x) (is_some (would_start (w.workers x))) t).1 (at i k)
  both_step (Finish x q) t i k = let b = and_parts (w.alive x) ((w.workers x).running q) t in
      t_own j w inside settled numbered home (past.started i k) (past.yielded i k) i k w x (Done q (j.zero q)) tt (λ a. tt) (and_from _ _ (key_there j.setting.shape (w.workers x).shape (inside.workers x).shape q ((inside.workers x).running q b.1)) b.1) (at i k)
  both_step (SendGather a p) t i k = t_asks j w inside settled numbered home (past.started i k) (past.yielded i k) i k a p (and_parts (is_asker w a) (may_ask w a p) t).1 (at i k)
  both_step (ServeGather p a n) t i k = t_serves j w inside settled numbered home (past.started i k) (past.yielded i k) i k p (parcel_of a p n w.requests) (at i k)
  both_step (ArriveGather a p n) t i k = t_answer j w inside settled numbered home (past.started i k) (past.yielded i k) i k a p n (parcel_of a p n w.answers) refl (at i k)
  both_step (FailGather a p) t i k = t_failed j w inside settled numbered home (past.started i k) (past.yielded i k) i k a p (open_ask w a p) (at i k)
  both_step Balance t i k = t_scheduler j w inside settled numbered home (past.started i k) (past.yielded i k) i k w BalanceSched refl (at i k)
  both_step Evict t i k = t_scheduler j w inside settled numbered home (past.started i k) (past.yielded i k) i k w EvictSched refl (at i k)
  both_step (Replicate q x) t i k = t_scheduler j w inside settled numbered home (past.started i k) (past.yielded i k) i k w (ReplicateSched q x) refl (at i k)
  both_step (Spill x q) t i k = at i k
  both_step (LoseSpilled x q) t i k = let b = and_parts (w.alive x) (w.spilled x q) t in
      t_own j w inside settled numbered home (past.started i k) (past.yielded i k) i k w x (DataLost q) tt (λ a. tt) (and_from _ _ (key_there j.setting.shape (w.workers x).shape (inside.workers x).shape q (inside.spilled x q b.1)) (home.spilled x q b.1)) (at i k)

  pub past_step : (e : Event) → enabled w e ≡ true → IsPast (world_step j w e) (past_after w e past)
  past_step e t = record { tales = λ i k. (both_step e t i k).0; runs = λ i k. (both_step e t i k).1 }

pub past_opening : (j : Job) → IsPast (opening j) no_past
past_opening j = record {
  tales = λ i k. record { once = λ a. omega arith; fresh = λ a l. refl; taken = λ a e. refl; unstarted = λ a e. refl; gone = λ a e. absurd (false≢true e); new_started = λ a l. refl; new_yielded = λ a l. refl };
  runs = λ i k a e. absurd (false≢true e);
}
