-- What holds of each pair of a worker and a key holds after every event of the world.
use Rattle.std.proofs.Common.{◌≡◌, ℕ, ◌+◌, ◌<◌, ◌≤◌, Bool, true, false, cond, not, ◌&&◌, List, [], ◌∷◌, ◌++◌, Option, Some, None, refl, sym, ap, ◌∙◌, subst, arith, is_some, ⊎_elim}
use Rattle.std.specs.List.{AllByRecursion}
use Rattle.std.proofs.lemmas.Bool.{true≢false, false≢true, eqb-true, and_parts, and_from, cases_lt, eq-eqb}
use Rattle.std.proofs.Math.Dec.{eqb}
use Rattle.std.proofs.lemmas.Option.{none-some}
use Rattle.small_facts.proofs.Numbers.{eqb_turned}
use Rattle.cluster_msgs.specs.Shape.{key_count}
use Rattle.cluster_msgs.specs.declared.messages.Down.{Down}
use Rattle.cluster_msgs.specs.declared.messages.Up.{Up}
use Rattle.cluster_msgs.specs.declared.messages.ToClient.{ToClient}
use Rattle.cluster_msgs.specs.declared.messages.FromClient.{FromClient as ClientMessage}
use Rattle.cluster_msgs.specs.declared.cores.SchedEvent.{SchedEvent}
use Rattle.cluster_msgs.specs.declared.cores.SchedEvent.TheVariants.{Join as JoinSched, Leave, FromWorker, FromClient, Balance as BalanceSched, Evict as EvictSched, Replicate as ReplicateSched}
use Rattle.cluster_msgs.specs.declared.cores.WorkerEvent.{WorkerEvent}
use Rattle.cluster_msgs.specs.declared.cores.WorkerEvent.TheVariants.{Down as Told, Start as StartTask, Done, Ask as AskPeer, Gathered, GatherFailed, DataLost}
use Rattle.cluster_msgs.specs.declared.cores.ClientEvent.{ClientEvent}
use Rattle.cluster_msgs.specs.declared.cores.ClientEvent.TheVariants.{Want as WantKeys, Release as ReleaseKeys, FromScheduler, Ask as ClientAsk, Gathered as ClientGathered, GatherFailed as ClientGatherFailed}
use Rattle.cluster_msgs.specs.declared.events.Asker.{Asker}
use Rattle.cluster_msgs.specs.declared.events.Asker.TheVariants.{Worker, Client}
use Rattle.cluster_msgs.specs.declared.events.Event.{Event}
use Rattle.cluster_msgs.specs.declared.events.Event.TheVariants.{Want, Release, Join, Lose, SeeLoss, Suspect, DeliverDown, DeliverUp, DeliverToClient, DeliverFromClient, Start, Finish, SendGather, ServeGather, ArriveGather, FailGather, Balance, Evict, Replicate, Spill, LoseSpilled}
use Rattle.cluster_rules.specs.Functions.{put}
use Rattle.cluster_rules.specs.Sched.{Facts, IsSound, keys, holds, connected, is_for}
use Rattle.cluster_rules.specs.SchedTable.{is_asked_back, change, sched_takes}
use Rattle.cluster_rules.specs.SchedStep.{sched_step, mail}
use Rattle.cluster_rules.specs.Worker.{Ask, WorkerFacts, new_worker, has_any, would_start}
use Rattle.cluster_rules.specs.WorkerStep.{worker_step, worker_takes}
use Rattle.cluster_rules.specs.World.{Job, World, Parcel, shape_of, is_connected, is_client, is_asker, open_ask, is_parcel, parcel_of, without_parcel}
use Rattle.cluster_rules.specs.WorldStep.{sends, scheduled, worked, client_worked, at_scheduler, at_worker, at_client, new_at, died, cut_off, take_down_first, take_up, take_up_first, take_to_client, take_from_client, ask_by, gathered_at, serve, take_answer, fail_ask, world_step}
use Rattle.cluster_rules.specs.Enabled.{enabled, may_ask}
use Rattle.cluster_rules.specs.Inside.{AreKeys, down_keys, IsInsideWorld}
use Rattle.cluster_rules.proofs.InsideSched.{all_found}
use Rattle.cluster_rules.proofs.SchedFrame.{step_settles}
use Rattle.cluster_rules.proofs.SoundStep.{sound_step}
use Rattle.cluster_laws.specs.Settled.{IsSettled}
use Rattle.pair_machine.specs.Pair.{Quiet, Pair, IsPair}
use Rattle.pair_machine.specs.Moves.{opening as opening_pair}
use Rattle.pair_moves.specs.Projection.{report_of, report_in, notes, reports, at_worker as at_the_worker, Side, pair_of, IsNumbered}
use Rattle.cluster_laws.proofs.Framed.{change_framed}
use Rattle.pair_moves.proofs.Events.{event_keeps}
use Rattle.pair_moves.proofs.WorkerMoves.{pair_closed, own_keeps, told_keeps, IsOwn, reports-append}
use Rattle.safety_laws.specs.Joint.{side_of, pair_at, IsPaired}
use Rattle.cluster_laws.proofs.SchedPart.{sched_after}
use Rattle.safety_laws.proofs.Turns.{nothing_sent, down_there, key_there, keys_there, up_taken, letter_taken}
use Rattle.safety_laws.proofs.Homes.{IsHome}

-- a message that says nothing of the key, in front of those under way
pub quiet_front : (p : Pair) → IsPair p → IsPair (record p { up = Quiet ∷ p.up })
quiet_front p s = record {
  places = s.places;
  heard_of = (tt, s.heard_of);
  placed = s.placed;
  agree = s.agree;
  apart = s.apart;
  once = λ a. let o = s.once a in omega arith;
  fresh = λ a l. let o = s.fresh a l in omega arith;
  unasked = λ a l. let o = s.unasked a l in omega arith;
  older = s.older;
  stolen = λ a e. let o = s.stolen a e in omega arith;
  clean = s.clean;
}

-- nothing of the key has been said yet
pair_born : (c : ℕ) → IsPair (record opening_pair { counter = c })
pair_born c = record {
  places = refl;
  heard_of = tt;
  placed = omega arith;
  agree = refl;
  apart = λ e. absurd (false≢true e);
  once = λ a. omega arith;
  fresh = λ a l. refl;
  unasked = λ a l. refl;
  older = λ a e. absurd (none-some a e);
  stolen = λ a e. absurd (none-some a e);
  clean = tt;
}

module _ (f : Facts) (sound : IsSound f) (settled : IsSettled f) (numbered : IsNumbered f) where
  -- a worker that is connected after an event was so before, or has just joined
  was_connected : (s : SchedEvent) (i : ℕ) → i ≤ f.last_worker → connected (sched_step f s).facts i ≡ true → connected f i ≡ true
  was_connected s i l e = (change_framed f s).threads i (ap (λ (t : ℕ → Option ℕ). is_some (t i)) (sym (step_settles f s).threads) ∙ e) l

  -- an event that takes no message of the worker
  quiet_event : (s : SchedEvent) → sched_takes f s ≡ true → (i k : ℕ) (side : Side) → k < keys f → report_in s i k ≡ Quiet → connected (sched_step f s).facts i ≡ true → IsPair (pair_of f i k side) → IsPair (pair_of (sched_step f s).facts i k (record side { down = side.down ++ mail i (sched_step f s).down }))
  quiet_event s t i k side low q c p = event_keeps f s sound settled numbered t i k side low c (subst (λ r. IsPair (record (pair_of f i k side) { up = r ∷ reports k side.up })) (sym q) (quiet_front (pair_of f i k side) p))

-- ## The world

-- what is known of a pair whose worker is connected afterwards
abbrev PairAfter : World → World → ℕ → ℕ → Type 0
PairAfter w v i k = v.alive i ≡ true → is_connected v i ≡ true → IsPair (pair_at v i k)

-- numbers that nobody has yet were sent nothing
pub record IsUnsent (f : Facts) : Type 0 where
  pub sent : (i : ℕ) → f.last_worker < i → f.sent i ≡ 0
  pub fence : (i k : ℕ) → f.last_worker < i → f.fence i k ≡ 0

module _ (j : Job) (w : World) (inside : IsInsideWorld j.setting.shape w) (sound : IsSound w.sched) (settled : IsSettled w.sched) (numbered : IsNumbered w.sched) (unsent : IsUnsent w.sched)
    (home : IsHome j.setting.shape j.setting.clients w.sched.last_worker w) (letter_from : (c : ℕ) → has_any (w.from_client c) ≡ true → is_client w c ≡ true) (h : IsPaired w) (i k : ℕ) (low : k < key_count (shape_of w)) where
  given : w.alive i ≡ true → i ≤ w.sched.last_worker
  given a = ⊎_elim (λ l. absurd (true≢false (sym a ∙ (home.bare i l).alive))) (λ l. l) (cases_lt w.sched.last_worker i)

  -- the scheduler's event, with the links as they are in v
  p_scheduler : (v : World) (s : SchedEvent) → v.sched ≡ w.sched → v.alive i ≡ w.alive i → sched_takes w.sched s ≡ true → report_in s i k ≡ Quiet → (is_connected w i ≡ true → w.alive i ≡ true → IsPair (pair_at v i k)) → PairAfter w (at_scheduler v s) i k
  unfolding scheduled
  p_scheduler v s same living t q p a c = subst (λ (f : Facts). connected (sched_step f s).facts i ≡ true → (is_connected w i ≡ true → w.alive i ≡ true → IsPair (pair_of f i k (side_of v i k)))
      → IsPair (pair_of (sched_step f s).facts i k (record (side_of v i k) { down = v.down i ++ mail i (sched_step f s).down })))
      (sym same)
      (λ d r. quiet_event w.sched sound settled numbered s t i k (side_of v i k) low q d (r (was_connected w.sched sound settled numbered s i (given (sym living ∙ a)) d) (sym living ∙ a)))
      c p

  -- a worker's own event
  p_own : (v : World) (x : ℕ) (e : WorkerEvent) → IsOwn IsPair (λ _. Unit {0}) (pair_closed (λ _. Unit {0})) k e → worker_takes (v.workers x) e ≡ true → PairAfter w v i k → PairAfter w (at_worker v x e) i k
  unfolding worked
  p_own v x e o t p a c = pick (eqb i x) refl
    where
      own : i ≡ x → IsPair (pair_of v.sched i k (record { down = v.down i; seen = (worker_step (v.workers x) e).facts.seen; mine = (worker_step (v.workers x) e).facts.mine k; mem = (worker_step (v.workers x) e).facts.mem k; up = v.up x ++ sends (worker_step (v.workers x) e).out }))
      own s = subst (λ y. IsPair (pair_of v.sched i k (record { down = v.down i; seen = (worker_step (v.workers x) e).facts.seen; mine = (worker_step (v.workers x) e).facts.mine k; mem = (worker_step (v.workers x) e).facts.mem k; up = v.up y ++ sends (worker_step (v.workers x) e).out }))) s
          (subst (λ rs. IsPair (record (pair_at v i k) { seen = (worker_step (v.workers x) e).facts.seen; mine = (worker_step (v.workers x) e).facts.mine k; mem = (worker_step (v.workers x) e).facts.mem k; up = rs }))
          (sym (reports-append k (v.up i) (sends (worker_step (v.workers x) e).out)))
          (own_keeps IsPair (λ _. Unit {0}) (pair_closed (λ _. Unit {0})) k (v.workers x) e o t (pair_at v i k) (subst (λ y. IsPair (record (pair_at v i k) { seen = (v.workers y).seen; mem = (v.workers y).mem k; mine = (v.workers y).mine k })) s (p a c))))

      pick : (b : Bool) → eqb i x ≡ b → IsPair (pair_of v.sched i k (record { down = v.down i; seen = (cond b (worker_step (v.workers x) e).facts (v.workers i)).seen; mine = (cond b (worker_step (v.workers x) e).facts (v.workers i)).mine k; mem = (cond b (worker_step (v.workers x) e).facts (v.workers i)).mem k; up = cond b (v.up x ++ sends (worker_step (v.workers x) e).out) (v.up i) }))
      pick true e = own (eqb-true i x e)
      pick false e = p a c

  -- a message that a worker takes
  p_told : (x : ℕ) (m : Down) (ms : List Down) → w.down x ≡ m ∷ ms → worker_takes (w.workers x) (Told m) ≡ true → PairAfter w (at_worker (record w { down = put w.down x ms }) x (Told m)) i k
  unfolding worked
  p_told x m ms e t a c = pick (eqb i x) refl
    where
      own : i ≡ x → IsPair (pair_of w.sched i k (record { down = ms; seen = (worker_step (w.workers x) (Told m)).facts.seen; mine = (worker_step (w.workers x) (Told m)).facts.mine k; mem = (worker_step (w.workers x) (Told m)).facts.mem k; up = w.up x ++ sends (worker_step (w.workers x) (Told m)).out }))
      own s = subst (λ y. IsPair (pair_of w.sched i k (record { down = ms; seen = (worker_step (w.workers x) (Told m)).facts.seen; mine = (worker_step (w.workers x) (Told m)).facts.mine k; mem = (worker_step (w.workers x) (Told m)).facts.mem k; up = w.up y ++ sends (worker_step (w.workers x) (Told m)).out }))) s
          (subst (λ rs. IsPair (record (pair_at w i k) { down = notes k ms; seen = (worker_step (w.workers x) (Told m)).facts.seen; mine = (worker_step (w.workers x) (Told m)).facts.mine k; mem = (worker_step (w.workers x) (Told m)).facts.mem k; up = rs }))
          (sym (reports-append k (w.up i) (sends (worker_step (w.workers x) (Told m)).out)))
          (told_keeps IsPair (λ _. Unit {0}) (pair_closed (λ _. Unit {0})) k (w.workers x) m t (λ _. tt) (pair_at w i k) (notes k ms)
          (subst (λ y. IsPair (record (pair_at w i k) { down = notes k (m ∷ ms); seen = (w.workers y).seen; mem = (w.workers y).mem k; mine = (w.workers y).mine k })) s
          (subst (λ l. IsPair (record (pair_at w i k) { down = notes k l })) (ap w.down s ∙ e) (h i k low a c)))))

      pick : (b : Bool) → eqb i x ≡ b → IsPair (pair_of w.sched i k (record { down = cond b ms (w.down i); seen = (cond b (worker_step (w.workers x) (Told m)).facts (w.workers i)).seen; mine = (cond b (worker_step (w.workers x) (Told m)).facts (w.workers i)).mine k; mem = (cond b (worker_step (w.workers x) (Told m)).facts (w.workers i)).mem k; up = cond b (w.up x ++ sends (worker_step (w.workers x) (Told m)).out) (w.up i) }))
      pick true q = own (eqb-true i x q)
      pick false q = h i k low a c

  -- a message that the scheduler takes
  p_heard : (x : ℕ) (m : Up) (ms : List Up) → w.up x ≡ m ∷ ms → is_connected w x ≡ true → PairAfter w (at_scheduler (record w { up = put w.up x ms }) (FromWorker x m)) i k
  unfolding scheduled
  p_heard x m ms e there a c = event_keeps w.sched (FromWorker x m) sound settled numbered (up_taken j.setting.shape w inside x m ms e there) i k (record (side_of w i k) { up = put w.up x ms i }) low c
      (pick (eqb i x) refl (h i k low a (was_connected w.sched sound settled numbered (FromWorker x m) i (given a) c)))
    where
      pick : (b : Bool) → eqb i x ≡ b → IsPair (pair_at w i k) → IsPair (record (pair_at w i k) { up = cond (eqb x i) (report_of k m) Quiet ∷ reports k (cond b ms (w.up i)) })
      pick true q p = subst (λ b. IsPair (record (pair_at w i k) { up = cond b (report_of k m) Quiet ∷ reports k ms })) (sym (eq-eqb x i (sym (eqb-true i x q)))) (subst (λ l. IsPair (record (pair_at w i k) { up = reports k l })) (ap w.up (eqb-true i x q) ∙ e) p)
      pick false q p = subst (λ b. IsPair (record (pair_at w i k) { up = cond b (report_of k m) Quiet ∷ reports k (w.up i) })) (sym (eqb_turned x i ∙ q)) (quiet_front (pair_at w i k) p)

  p_dropped : (x : ℕ) (m : Up) (ms : List Up) → is_connected w x ≡ false → PairAfter w (record w { up = put w.up x ms }) i k
  p_dropped x m ms gone a c = pick (eqb i x) refl
    where
      pick : (b : Bool) → eqb i x ≡ b → IsPair (record (pair_at w i k) { up = reports k (cond b ms (w.up i)) })
      pick true q = absurd (true≢false (sym c ∙ ap (is_connected w) (eqb-true i x q) ∙ gone))
      pick false q = h i k low a c

  -- a worker that joins
  p_joined : (threads : ℕ) → sched_takes w.sched (JoinSched threads) ≡ true → PairAfter w (at_scheduler (new_at w (w.sched.last_worker + 1) threads) (JoinSched threads)) i k
  unfolding scheduled
  p_joined threads t a c = pick (eqb i (w.sched.last_worker + 1)) refl
    where
      n : ℕ
      n = w.sched.last_worker + 1

      not_holding : n ≤ w.sched.last_worker → ⊥
      not_holding l = omega (arith, l)

      holds_none : (b : Bool) → holds w.sched n k ≡ b → b ≡ false
      holds_none true e = absurd (not_holding (sound.numbers n (sound.holders n k e)).1)
      holds_none false e = refl

      on_none : (o : Option (ℕ × ℕ)) → w.sched.on k ≡ o → at_the_worker n o ≡ None
      on_none None e = refl
      on_none (Some p) e = by (eqb p.0 n) refl
        where
          by : (b : Bool) → eqb p.0 n ≡ b → cond b (Some p.1) None ≡ None
          by true q = absurd (not_holding (sound.numbers n (sound.places n k (ap (is_for n) e ∙ q))).1)
          by false q = refl

      born : IsPair (pair_of w.sched n k (record { down = w.down n; seen = 0; mine = None; mem = false; up = w.up n }))
      born = let b = home.bare n (omega arith) in subst (λ (x : Pair). IsPair x)
          (λ q. record opening_pair {
            has = sym (holds_none (holds w.sched n k) refl) q;
            on = sym (on_none (w.sched.on k) refl) q;
            asked = is_some (sym (on_none (w.sched.on k) refl) q) && is_asked_back (w.sched.steal k);
            fence = sym (unsent.fence n k (omega arith)) q;
            sent = sym (unsent.sent n (omega arith)) q;
            counter = w.sched.counter;
            down = notes k (sym b.down q);
            up = reports k (sym b.up q);
          }) (pair_born w.sched.counter)

      event : (side : Side) → IsPair (pair_of w.sched i k side) → IsPair (pair_of (sched_step w.sched (JoinSched threads)).facts i k (record side { down = side.down ++ mail i (sched_step w.sched (JoinSched threads)).down }))
      event side p = quiet_event w.sched sound settled numbered (JoinSched threads) t i k side low refl c p

      living : (b : Bool) → eqb i n ≡ b → b ≡ false → w.alive i ≡ true
      living b e z = ap (λ x. cond x true (w.alive i)) (sym (e ∙ z)) ∙ a

      pick : (b : Bool) → eqb i n ≡ b → IsPair (pair_of (sched_step w.sched (JoinSched threads)).facts i k (record { down = w.down i ++ mail i (sched_step w.sched (JoinSched threads)).down; seen = (cond b (new_worker (shape_of w) n threads) (w.workers i)).seen; mine = (cond b (new_worker (shape_of w) n threads) (w.workers i)).mine k; mem = (cond b (new_worker (shape_of w) n threads) (w.workers i)).mem k; up = w.up i }))
      pick true e = event (record { down = w.down i; seen = 0; mine = None; mem = false; up = w.up i }) (subst (λ x. IsPair (pair_of w.sched x k (record { down = w.down x; seen = 0; mine = None; mem = false; up = w.up x }))) (sym (eqb-true i n e)) born)
      pick false e = event (side_of w i k) (h i k low (living false e refl) (was_connected w.sched sound settled numbered (JoinSched threads) i (given (living false e refl)) c))

  -- clients and gathers
  p_client : (v : World) (c : ℕ) (e : ClientEvent) → PairAfter w v i k → PairAfter w (at_client v c e) i k
  unfolding client_worked
  p_client v c e p a d = p a d

  same_pair : PairAfter w w i k
  same_pair a c = h i k low a c

  found_keys : (a : Asker) (p n : ℕ) (q : Parcel) → parcel_of a p n w.answers ≡ Some q → AreKeys j.setting.shape q.keys
  found_keys a p n q e = all_found (λ (x : Parcel). AreKeys j.setting.shape x.keys) (is_parcel a p n) w.answers q e inside.answers

  p_gathered : (v : World) (a : Asker) (p n : ℕ) (found : List ℕ) → v.workers ≡ w.workers → AreKeys j.setting.shape found → PairAfter w v i k → PairAfter w (gathered_at v a p n found) i k
  unfolding worker_takes
  p_gathered v (Worker x) p n found same ks r = p_own v x (Gathered p n found) tt (keys_there j.setting.shape (v.workers x).shape (ap (λ (f : ℕ → WorkerFacts). (f x).shape) same ∙ (inside.workers x).shape) found ks) r
  p_gathered v (Client c) p n found same ks r = p_client v c (ClientGathered p n found) r

  p_failed : (a : Asker) (p : ℕ) (o : Option Ask) → PairAfter w (fail_ask w a p o) i k
  unfolding worker_takes
  p_failed a p None = same_pair
  p_failed (Worker x) p (Some q) = p_own w x (GatherFailed p q.number) tt refl same_pair
  p_failed (Client c) p (Some q) = p_client w c (ClientGatherFailed p q.number) same_pair

  p_asks : (a : Asker) (p : ℕ) → may_ask w a p ≡ true → PairAfter w (ask_by w a p) i k
  unfolding worker_takes
  p_asks (Worker x) p t = p_own w x (AskPeer p) tt t same_pair
  p_asks (Client c) p t = p_client w c (ClientAsk p) same_pair

  p_serves : (p : ℕ) (o : Option Parcel) → PairAfter w (serve w p o) i k
  p_serves p None = same_pair
  p_serves p (Some q) = same_pair

  p_answer : (a : Asker) (p n : ℕ) (o : Option Parcel) → parcel_of a p n w.answers ≡ o → PairAfter w (take_answer w o) i k
  p_answer a p n None e = same_pair
  p_answer a p n (Some q) e = p_gathered (record w { answers = without_parcel q.asker q.peer q.ask w.answers }) q.asker q.peer q.ask q.keys refl (found_keys a p n q e) same_pair

  p_down : (x : ℕ) (ms : List Down) → w.down x ≡ ms → PairAfter w (take_down_first w x ms) i k
  unfolding worker_takes
  p_down x [] e = same_pair
  p_down x (m ∷ ms) e = p_told x m ms e (down_there j.setting.shape (w.workers x) (inside.workers x).shape m (subst (λ l. AllByRecursion (λ y. AreKeys j.setting.shape (down_keys y)) l) e (inside.down x)).0)

  p_up : (x : ℕ) (ms : List Up) → w.up x ≡ ms → PairAfter w (take_up_first w x ms) i k
  p_up x [] e = same_pair
  p_up x (m ∷ ms) e = pick (is_connected w x) refl
    where
      pick : (b : Bool) → is_connected w x ≡ b → PairAfter w (take_up (record w { up = put w.up x ms }) x m b) i k
      pick true c = p_heard x m ms e c
      pick false c = p_dropped x m ms c

  p_news : (c : ℕ) (ms : List ToClient) → PairAfter w (take_to_client w c ms) i k
  p_news c [] = same_pair
  p_news c (m ∷ ms) = p_client (record w { to_client = put w.to_client c ms }) c (FromScheduler m) same_pair

  p_letter : (c : ℕ) (ms : List ClientMessage) → w.from_client c ≡ ms → PairAfter w (take_from_client w c ms) i k
  p_letter c [] e = same_pair
  p_letter c (m ∷ ms) e = p_scheduler (record w { from_client = put w.from_client c ms }) (FromClient c m) refl refl (letter_taken j.setting.shape w inside c m ms e (letter_from c (ap has_any e))) refl (λ c a. h i k low a c)

  p_plain : (s : SchedEvent) → sched_takes w.sched s ≡ true → report_in s i k ≡ Quiet → PairAfter w (at_scheduler w s) i k
  p_plain s t q = p_scheduler w s refl refl t q (λ c a. h i k low a c)

  p_leaves : (x : ℕ) → is_connected w x ≡ true → PairAfter w (at_scheduler w (Leave x)) i k
  unfolding sched_takes
  p_leaves x t = p_plain (Leave x) t refl

  p_lost : (x : ℕ) → w.alive x ≡ false → is_connected w x ≡ true → PairAfter w (cut_off (at_scheduler w (Leave x)) x) i k
  unfolding scheduled
  p_lost x dead t a c = pick (eqb i x) refl (p_leaves x t a c)
    where
      pick : (b : Bool) → eqb i x ≡ b → IsPair (pair_at (at_scheduler w (Leave x)) i k) → IsPair (record (pair_at (at_scheduler w (Leave x)) i k) { down = notes k (cond b [] ((at_scheduler w (Leave x)).down i)); up = reports k (cond b [] ((at_scheduler w (Leave x)).up i)) })
      pick true e p = absurd (true≢false (sym a ∙ ap w.alive (eqb-true i x e) ∙ dead))
      pick false e p = p

  p_died : (x : ℕ) → PairAfter w (died w x) i k
  p_died x = pick (eqb i x)
    where
      pick : (b : Bool) → cond b false (w.alive i) ≡ true → is_connected w i ≡ true → IsPair (pair_of w.sched i k (record { down = w.down i; seen = (cond b (record (w.workers x) { mem = λ q. false }) (w.workers i)).seen; mine = (cond b (record (w.workers x) { mem = λ q. false }) (w.workers i)).mine k; mem = (cond b (record (w.workers x) { mem = λ q. false }) (w.workers i)).mem k; up = w.up i }))
      pick true a c = absurd (false≢true a)
      pick false a c = h i k low a c

  dead_is : (x : ℕ) → not (w.alive x) ≡ true → w.alive x ≡ false
  dead_is x e = by (w.alive x) e
    where
      by : (b : Bool) → not b ≡ true → b ≡ false
      by true e = absurd (false≢true e)
      by false e = refl

  pub paired_step : (e : Event) → enabled w e ≡ true → PairAfter w (world_step j w e) i k
  unfolding world_step enabled worker_takes
  paired_step (Want c ks) t = p_client w c (WantKeys ks) same_pair
  paired_step (Release c ks) t = p_client w c (ReleaseKeys ks) same_pair
  paired_step (Join threads) t = p_joined threads t
  paired_step (Lose x) t = p_died x
  paired_step (SeeLoss x) t = let b = and_parts (not (w.alive x)) (is_connected w x) t in p_lost x (dead_is x b.0) b.1
  paired_step (Suspect x) t = p_leaves x t
  paired_step (DeliverDown x) t = p_down x (w.down x) refl
  paired_step (DeliverUp x) t = p_up x (w.up x) refl
  paired_step (DeliverToClient c) t = p_news c (w.to_client c)
  paired_step (DeliverFromClient c) t = p_letter c (w.from_client c) refl
  paired_step (Start x) t = p_own w x StartTask tt (and_parts (w.alive x) (is_some (would_start (w.workers x))) t).1 same_pair
  paired_step (Finish x q) t = let b = and_parts (w.alive x) ((w.workers x).running q) t in
      p_own w x (Done q (j.zero q)) tt (and_from _ _ (key_there j.setting.shape (w.workers x).shape (inside.workers x).shape q ((inside.workers x).running q b.1)) b.1) same_pair
  paired_step (SendGather a p) t = p_asks a p (and_parts (is_asker w a) (may_ask w a p) t).1
  paired_step (ServeGather p a n) t = p_serves p (parcel_of a p n w.requests)
  paired_step (ArriveGather a p n) t = p_answer a p n (parcel_of a p n w.answers) refl
  paired_step (FailGather a p) t = p_failed a p (open_ask w a p)
  paired_step Balance t = p_plain BalanceSched t refl
  paired_step Evict t = p_plain EvictSched t refl
  paired_step (Replicate q x) t = p_plain (ReplicateSched q x) t refl
  paired_step (Spill x q) t = same_pair
  paired_step (LoseSpilled x q) t = let b = and_parts (w.alive x) (w.spilled x q) t in
      p_own w x (DataLost q) tt (and_from _ _ (key_there j.setting.shape (w.workers x).shape (inside.workers x).shape q (inside.spilled x q b.1)) (home.spilled x q b.1)) same_pair

-- ## What was sent

sent_step : (f : Facts) (s : SchedEvent) → IsSound f → sched_takes f s ≡ true → IsUnsent f → IsUnsent (sched_step f s).facts
sent_step f s sound t u = record {
  sent = λ i l. let n = nothing_sent f s i (apart i l (connected (sched_step f s).facts i) refl) in n.0 ∙ u.sent i (more i l);
  fence = λ i k l. let n = nothing_sent f s i (apart i l (connected (sched_step f s).facts i) refl) in n.1 k ∙ u.fence i k (more i l);
}
  where
    apart : (i : ℕ) → (sched_step f s).facts.last_worker < i → (b : Bool) → connected (sched_step f s).facts i ≡ b → b ≡ false
    apart i l true e = let m : i ≤ (sched_step f s).facts.last_worker = ((sound_step f sound s t).numbers i e).1 in absurd (omega (arith, l))
    apart i l false e = refl

    more : (i : ℕ) → (sched_step f s).facts.last_worker < i → f.last_worker < i
    more i l = let e : (sched_step f s).facts.last_worker ≡ (change f s).facts.last_worker = (step_settles f s).last_worker in omega (arith, l, (change_framed f s).last_worker)

pub unsent_after : (f : Facts) (o : Option SchedEvent) → IsSound f → ((s : SchedEvent) → o ≡ Some s → sched_takes f s ≡ true) → IsUnsent f → IsUnsent (sched_after f o)
unsent_after f None sound t u = u
unsent_after f (Some s) sound t u = sent_step f s sound (t s refl) u
