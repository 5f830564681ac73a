-- Who is there, and what each worker keeps, after every event of the world.
use Rattle.std.proofs.Common.{◌≡◌, ℕ, ◌+◌, ◌<◌, ◌≤◌, Bool, true, false, cond, not, ◌&&◌, List, [], ◌∷◌, ◌++◌, Option, Some, None, refl, sym, ap, ◌∙◌, subst, arith, is_some, inl, inr, ◌⊎◌}
use Rattle.std.specs.Prelude.{nat_le}
use Rattle.std.specs.List.{AllByRecursion}
use Rattle.std.proofs.lemmas.Bool.{true≢false, false≢true, eqb-true, and_parts, and_from}
use Rattle.std.proofs.lemmas.Bool.Decides.{nat_tests}
use Rattle.std.proofs.Math.Dec.{eqb}
use Rattle.small_facts.proofs.Lists.{cons_not_nil}
use Rattle.small_facts.proofs.Options.{find_passes}
use Rattle.cluster_msgs.specs.Shape.{Shape, key_count}
use Rattle.cluster_msgs.specs.declared.messages.Down.{Down}
use Rattle.cluster_msgs.specs.declared.messages.Up.{Up}
use Rattle.cluster_msgs.specs.declared.messages.ToClient.{ToClient}
use Rattle.cluster_msgs.specs.declared.messages.FromClient.{FromClient as ClientMessage}
use Rattle.cluster_msgs.specs.declared.cores.SchedEvent.{SchedEvent}
use Rattle.cluster_msgs.specs.declared.cores.SchedEvent.TheVariants.{Join as JoinSched, Leave, FromWorker, FromClient, Balance as BalanceSched, Evict as EvictSched, Replicate as ReplicateSched}
use Rattle.cluster_msgs.specs.declared.cores.WorkerEvent.{WorkerEvent}
use Rattle.cluster_msgs.specs.declared.cores.WorkerEvent.TheVariants.{Down as Told, Start as StartTask, Done, Ask as AskPeer, Gathered, GatherFailed, DataLost}
use Rattle.cluster_msgs.specs.declared.cores.ClientEvent.{ClientEvent}
use Rattle.cluster_msgs.specs.declared.cores.ClientEvent.TheVariants.{Want as WantKeys, Release as ReleaseKeys, FromScheduler, Ask as ClientAsk, Gathered as ClientGathered, GatherFailed as ClientGatherFailed}
use Rattle.cluster_msgs.specs.declared.events.Asker.{Asker}
use Rattle.cluster_msgs.specs.declared.events.Asker.TheVariants.{Worker, Client}
use Rattle.cluster_msgs.specs.declared.events.Event.{Event}
use Rattle.cluster_msgs.specs.declared.events.Event.TheVariants.{Want, Release, Join, Lose, SeeLoss, Suspect, DeliverDown, DeliverUp, DeliverToClient, DeliverFromClient, Start, Finish, SendGather, ServeGather, ArriveGather, FailGather, Balance, Evict, Replicate, Spill, LoseSpilled}
use Rattle.cluster_rules.specs.Functions.{put}
use Rattle.cluster_rules.specs.Sched.{Facts, Setting, IsSound, connected}
use Rattle.cluster_rules.specs.SchedTable.{change, joined, sched_takes}
use Rattle.cluster_rules.specs.SchedStep.{sched_step, mail}
use Rattle.cluster_rules.proofs.SchedFrame.{step_settles}
use Rattle.cluster_rules.proofs.SoundStep.{sound_step}
use Rattle.cluster_laws.proofs.Framed.{change_framed}
use Rattle.cluster_rules.specs.Worker.{Ask, new_worker, has_any, would_start}
use Rattle.cluster_rules.specs.WorkerStep.{worker_step, worker_takes}
use Rattle.cluster_rules.specs.WorkerKept.{IsKept}
use Rattle.cluster_rules.specs.Client.{client_step}
use Rattle.cluster_rules.specs.World.{Job, World, Parcel, opening, shape_of, is_connected, is_client, is_asker, open_ask, is_parcel, parcel_of, without_parcel, same_asker}
use Rattle.cluster_rules.specs.WorldStep.{sends, scheduled, worked, client_worked, client_sends, at_scheduler, at_worker, at_client, new_at, died, cut_off, take_down_first, take_up, take_up_first, take_to_client, take_from_client, ask_by, gathered_at, serve, take_answer, fail_ask, spill, world_step}
use Rattle.cluster_rules.specs.Enabled.{enabled, may_ask, are_named}
use Rattle.cluster_rules.specs.Inside.{AreKeys, down_keys, IsInsideWorld}
use Rattle.cluster_rules.proofs.InsideSched.{all_found}
use Rattle.cluster_rules.proofs.WorkerLemmas.{at_one, kept_at_first, kept_by_event}
use Rattle.safety_laws.proofs.Turns.{down_there, key_there, keys_there, up_taken, letter_taken, nothing_posted}
use Rattle.safety_laws.proofs.Mine.{mine_inside}

-- a number that no worker has yet
pub record IsBare (w : World) (x : ℕ) : Type 0 where
  pub alive : w.alive x ≡ false
  pub down : w.down x ≡ []
  pub up : w.up x ≡ []
  pub spilled : (k : ℕ) → w.spilled x k ≡ false

-- numbers up to this one were given, and there are so many clients
pub record IsHome (g : Shape) (clients last : ℕ) (w : World) : Type 0 where
  pub kept : (i : ℕ) → w.alive i ≡ true → IsKept (w.workers i)
  pub bare : (x : ℕ) → last < x → IsBare w x
  pub letters : (c : ℕ) → has_any (w.from_client c) ≡ true → (nat_le 1 c && nat_le c clients) ≡ true
  pub spilled : (i k : ℕ) → w.spilled i k ≡ true → (w.workers i).mem k ≡ true
  pub mine : (i k : ℕ) → key_count g ≤ k → (w.workers i).mine k ≡ None

-- a number that is alive was given
pub alive_given : (g : Shape) (clients last : ℕ) (w : World) → IsHome g clients last w → (x i : ℕ) → last < x → w.alive i ≡ true → eqb x i ≡ false
alive_given g clients last w h x i l a = pick (eqb x i) refl
  where
    pick : (b : Bool) → eqb x i ≡ b → b ≡ false
    pick true e = absurd (true≢false (sym a ∙ ap w.alive (sym (eqb-true x i e)) ∙ (h.bare x l).alive))
    pick false e = refl

module _ (g : Shape) (clients last : ℕ) where
  abbrev H : World → Type 0
  H w = IsHome g clients last w

  h_scheduler : (w : World) (s : SchedEvent) → ((x : ℕ) → last < x → mail x (sched_step w.sched s).down ≡ []) → H w → H (at_scheduler w s)
  unfolding scheduled
  h_scheduler w s none h = record {
    kept = h.kept;
    bare = λ x l. let b = h.bare x l in record { alive = b.alive; down = ap (λ ms. ms ++ mail x (sched_step w.sched s).down) b.down ∙ none x l; up = b.up; spilled = b.spilled };
    letters = h.letters;
    spilled = h.spilled;
    mine = h.mine;
  }

  h_worker : (w : World) (i : ℕ) (e : WorkerEvent) → w.alive i ≡ true → (w.workers i).shape ≡ g → worker_takes (w.workers i) e ≡ true → H w → H (at_worker w i e)
  unfolding worked
  h_worker w i e a same t h = record {
    kept = at_one i (λ b x. w.alive x ≡ true → IsKept (cond b (worker_step (w.workers i) e).facts (w.workers x))) (λ _. kept_by_event (w.workers i) e t (h.kept i a)) h.kept;
    bare = λ x l. let b = h.bare x l in let n = alive_given g clients last w h x i l a in record {
      alive = b.alive;
      down = b.down;
      up = ap (λ c. cond c (w.up i ++ sends (worker_step (w.workers i) e).out) (w.up x)) n ∙ b.up;
      spilled = λ k. ap (λ c. cond c (λ q. w.spilled i q && (worker_step (w.workers i) e).facts.mem q) (w.spilled x) k) n ∙ b.spilled k;
    };
    letters = h.letters;
    spilled = λ x k. at_one i (λ b y. cond b (λ q. w.spilled i q && (worker_step (w.workers i) e).facts.mem q) (w.spilled y) k ≡ true → (cond b (worker_step (w.workers i) e).facts (w.workers y)).mem k ≡ true)
        (λ m. (and_parts (w.spilled i k) ((worker_step (w.workers i) e).facts.mem k) m).1) (λ y. h.spilled y k) x;
    mine = λ x k l. at_one i (λ b y. (cond b (worker_step (w.workers i) e).facts (w.workers y)).mine k ≡ None) (mine_inside (w.workers i) e k t (subst (λ (s : Shape). key_count s ≤ k) (sym same) l) (h.mine i k l)) (λ y. h.mine y k l) x;
  }

  -- a client that is there, or one that says nothing
  h_client : (w : World) (c : ℕ) (e : ClientEvent) → ((nat_le 1 c && nat_le c clients) ≡ true) ⊎ ((client_step (w.clients c) e).out ≡ []) → H w → H (at_client w c e)
  unfolding client_worked
  h_client w c e t h = record {
    kept = h.kept;
    bare = λ x l. let b = h.bare x l in record { alive = b.alive; down = b.down; up = b.up; spilled = b.spilled };
    letters = at_one c (λ b x. has_any (cond b (w.from_client c ++ client_sends (client_step (w.clients c) e).out) (w.from_client x)) ≡ true → (nat_le 1 x && nat_le x clients) ≡ true) (λ m. said m t) h.letters;
    spilled = h.spilled;
    mine = h.mine;
  }
    where
      any_nil : (ms : List ClientMessage) → has_any (ms ++ []) ≡ true → has_any ms ≡ true
      any_nil [] m = m
      any_nil (x ∷ xs) m = refl

      said : has_any (w.from_client c ++ client_sends (client_step (w.clients c) e).out) ≡ true → ((nat_le 1 c && nat_le c clients) ≡ true) ⊎ ((client_step (w.clients c) e).out ≡ []) → (nat_le 1 c && nat_le c clients) ≡ true
      said m (inl i) = i
      said m (inr n) = h.letters c (any_nil (w.from_client c) (ap (λ o. has_any (w.from_client c ++ client_sends o)) (sym n) ∙ m))

  h_new_at : (w : World) (i threads : ℕ) → IsHome g clients last w → last < i → ((x : ℕ) → i < x → last < x) → IsHome g clients i (new_at w i threads)
  h_new_at w i threads h new more = record {
    kept = at_one i (λ b x. cond b true (w.alive x) ≡ true → IsKept (cond b (new_worker (shape_of w) i threads) (w.workers x))) (λ _. kept_at_first (shape_of w) i threads) h.kept;
    bare = λ x l. let b = h.bare x (more x l) in record { alive = ap (λ c. cond c true (w.alive x)) (above x l) ∙ b.alive; down = b.down; up = b.up; spilled = b.spilled };
    letters = h.letters;
    spilled = λ x k. at_one i (λ b y. w.spilled y k ≡ true → (cond b (new_worker (shape_of w) i threads) (w.workers y)).mem k ≡ true) (λ m. absurd (true≢false (sym m ∙ (h.bare i new).spilled k))) (λ y. h.spilled y k) x;
    mine = λ x k l. at_one i (λ b y. (cond b (new_worker (shape_of w) i threads) (w.workers y)).mine k ≡ None) refl (λ y. h.mine y k l) x;
  }
    where
      above : (x : ℕ) → i < x → eqb x i ≡ false
      above x l = grind (arith, nat_tests)

  h_died : (w : World) (i : ℕ) → w.alive i ≡ true → H w → H (died w i)
  h_died w i a h = record {
    kept = at_one i (λ b x. cond b false (w.alive x) ≡ true → IsKept (cond b (record (w.workers i) { mem = λ k. false }) (w.workers x))) (λ m. absurd (false≢true m)) h.kept;
    bare = λ x l. let b = h.bare x l in let n = alive_given g clients last w h x i l a in record { alive = ap (λ c. cond c false (w.alive x)) n ∙ b.alive; down = b.down; up = b.up; spilled = λ k. ap (λ c. cond c (λ q. false) (w.spilled x) k) n ∙ b.spilled k };
    letters = h.letters;
    spilled = λ x k. at_one i (λ b y. cond b (λ q. false) (w.spilled y) k ≡ true → (cond b (record (w.workers i) { mem = λ q. false }) (w.workers y)).mem k ≡ true) (λ m. absurd (false≢true m)) (λ y. h.spilled y k) x;
    mine = λ x k l. at_one i (λ b y. (cond b (record (w.workers i) { mem = λ q. false }) (w.workers y)).mine k ≡ None) (h.mine i k l) (λ y. h.mine y k l) x;
  }

  h_cut_off : (w : World) (i : ℕ) → H w → H (cut_off w i)
  h_cut_off w i h = record {
    kept = h.kept;
    bare = λ x l. let b = h.bare x l in record { alive = b.alive; down = none (eqb x i) b.down; up = none (eqb x i) b.up; spilled = b.spilled };
    letters = h.letters;
    spilled = h.spilled;
    mine = h.mine;
  }
    where
      none : {A : Type 0} {ms : List A} (b : Bool) → ms ≡ [] → cond b [] ms ≡ []
      none true e = refl
      none false e = e

  h_spill : (w : World) (i k : ℕ) → w.alive i ≡ true → (w.workers i).mem k ≡ true → H w → H (spill w i k)
  h_spill w i k a m h = record {
    kept = h.kept;
    bare = λ x l. let b = h.bare x l in record { alive = b.alive; down = b.down; up = b.up; spilled = λ q. ap (λ c. cond c (put (w.spilled i) k true) (w.spilled x) q) (alive_given g clients last w h x i l a) ∙ b.spilled q };
    letters = h.letters;
    spilled = λ x q. at_one i (λ b y. cond b (put (w.spilled i) k true) (w.spilled y) q ≡ true → (w.workers y).mem q ≡ true)
        (at_one k (λ b z. cond b true (w.spilled i z) ≡ true → (w.workers i).mem z ≡ true) (λ _. m) (λ z. h.spilled i z) q) (λ y. h.spilled y q) x;
    mine = h.mine;
  }

  -- a message that is taken from a link
  h_down_less : (w : World) (i : ℕ) (m : Down) (ms : List Down) → w.down i ≡ m ∷ ms → H w → H (record w { down = put w.down i ms })
  h_down_less w i m ms e h = record {
    kept = h.kept;
    bare = λ x l. let b = h.bare x l in record { alive = b.alive; down = at_one i (λ c y. w.down y ≡ [] → cond c ms (w.down y) ≡ []) (λ n. absurd (cons_not_nil m ms (sym e ∙ n))) (λ y n. n) x b.down; up = b.up; spilled = b.spilled };
    letters = h.letters;
    spilled = h.spilled;
    mine = h.mine;
  }

  h_up_less : (w : World) (i : ℕ) (m : Up) (ms : List Up) → w.up i ≡ m ∷ ms → H w → H (record w { up = put w.up i ms })
  h_up_less w i m ms e h = record {
    kept = h.kept;
    bare = λ x l. let b = h.bare x l in record { alive = b.alive; down = b.down; up = at_one i (λ c y. w.up y ≡ [] → cond c ms (w.up y) ≡ []) (λ n. absurd (cons_not_nil m ms (sym e ∙ n))) (λ y n. n) x b.up; spilled = b.spilled };
    letters = h.letters;
    spilled = h.spilled;
    mine = h.mine;
  }

  h_letter_less : (w : World) (c : ℕ) (m : ClientMessage) (ms : List ClientMessage) → w.from_client c ≡ m ∷ ms → H w → H (record w { from_client = put w.from_client c ms })
  h_letter_less w c m ms e h = record {
    kept = h.kept;
    bare = λ x l. let b = h.bare x l in record { alive = b.alive; down = b.down; up = b.up; spilled = b.spilled };
    letters = at_one c (λ b y. has_any (cond b ms (w.from_client y)) ≡ true → (nat_le 1 y && nat_le y clients) ≡ true) (λ _. h.letters c (ap has_any e)) h.letters;
    spilled = h.spilled;
    mine = h.mine;
  }

  -- what touches none of this
  h_same : (w v : World) → v.alive ≡ w.alive → v.down ≡ w.down → v.up ≡ w.up → v.spilled ≡ w.spilled → v.from_client ≡ w.from_client → v.workers ≡ w.workers → H w → H v
  h_same w v a d u s f k h = subst (λ (x : World). H x) (λ i. record v { alive = sym a i; down = sym d i; up = sym u i; spilled = sym s i; from_client = sym f i; workers = sym k i }) (record { kept = h.kept; bare = λ x l. let b = h.bare x l in record { alive = b.alive; down = b.down; up = b.up; spilled = b.spilled }; letters = h.letters; spilled = h.spilled; mine = h.mine })

-- more numbers were given
home_more : (g : Shape) (clients last more : ℕ) (w : World) → last ≤ more → IsHome g clients last w → IsHome g clients more w
home_more g clients last more w l h = record { kept = h.kept; bare = λ x m. h.bare x (omega (arith, l, m)); letters = h.letters; spilled = h.spilled; mine = h.mine }

home_scheduled : (g : Shape) (clients n : ℕ) (w : World) (s : SchedEvent) → IsSound w.sched → sched_takes w.sched s ≡ true → n ≤ (sched_step w.sched s).facts.last_worker → IsHome g clients n w → IsHome g clients (sched_step w.sched s).facts.last_worker (at_scheduler w s)
home_scheduled g clients n w s sound t l h = h_scheduler g clients (sched_step w.sched s).facts.last_worker w s
    (λ x m. nothing_posted w.sched s x (none x (connected (sched_step w.sched s).facts x) refl m)) (home_more g clients n (sched_step w.sched s).facts.last_worker w l h)
  where
    after : IsSound (sched_step w.sched s).facts
    after = sound_step w.sched sound s t

    none : (x : ℕ) (b : Bool) → connected (sched_step w.sched s).facts x ≡ b → (sched_step w.sched s).facts.last_worker < x → b ≡ false
    none x true e m = let u : x ≤ (sched_step w.sched s).facts.last_worker = (after.numbers x e).1 in absurd (omega (arith, m))
    none x false e m = refl

pub last_more : (f : Facts) (s : SchedEvent) → f.last_worker ≤ (sched_step f s).facts.last_worker
last_more f s = let e : (sched_step f s).facts.last_worker ≡ (change f s).facts.last_worker = (step_settles f s).last_worker in omega (arith, (change_framed f s).last_worker)

last_joined : (f : Facts) (threads : ℕ) → f.last_worker + 1 ≤ (sched_step f (JoinSched threads)).facts.last_worker
unfolding joined
last_joined f threads = let e : (sched_step f (JoinSched threads)).facts.last_worker ≡ f.last_worker + 1 = (step_settles f (JoinSched threads)).last_worker in omega arith

module _ (j : Job) where
  abbrev Home : World → Type 0
  Home w = IsHome j.setting.shape j.setting.clients w.sched.last_worker w

  module _ (w : World) (set : w.sched.setting ≡ j.setting) (inside : IsInsideWorld j.setting.shape w) (sound : IsSound w.sched) (h : Home w) where
    client_of : (c : ℕ) → is_client w c ≡ true → (nat_le 1 c && nat_le c j.setting.clients) ≡ true
    client_of c e = subst (λ (s : Setting). (nat_le 1 c && nat_le c s.clients) ≡ true) set e

    pub letter_from : (c : ℕ) → has_any (w.from_client c) ≡ true → is_client w c ≡ true
    letter_from c e = subst (λ (s : Setting). (nat_le 1 c && nat_le c s.clients) ≡ true) (sym set) (h.letters c e)

    leaves : (i : ℕ) → is_connected w i ≡ true → sched_takes w.sched (Leave i) ≡ true
    unfolding sched_takes
    leaves i e = e

    step_scheduler : (s : SchedEvent) → sched_takes w.sched s ≡ true → Home (at_scheduler w s)
    unfolding scheduled
    step_scheduler s t = home_scheduled j.setting.shape j.setting.clients w.sched.last_worker w s sound t (last_more w.sched s) h

    step_worker : (i : ℕ) (e : WorkerEvent) → w.alive i ≡ true → worker_takes (w.workers i) e ≡ true → Home (at_worker w i e)
    unfolding worked
    step_worker i e a t = h_worker j.setting.shape j.setting.clients w.sched.last_worker w i e a (inside.workers i).shape t h

    step_client : (c : ℕ) (e : ClientEvent) → is_client w c ≡ true → Home (at_client w c e)
    unfolding client_worked
    step_client c e t = h_client j.setting.shape j.setting.clients w.sched.last_worker w c e (inl (client_of c t)) h

    step_down : (i : ℕ) (ms : List Down) → w.down i ≡ ms → w.alive i ≡ true → Home (take_down_first w i ms)
    unfolding worked worker_takes
    step_down i [] e a = h
    step_down i (m ∷ ms) e a = h_worker j.setting.shape j.setting.clients w.sched.last_worker (record w { down = put w.down i ms }) i (Told m) a (inside.workers i).shape
        (down_there j.setting.shape (w.workers i) (inside.workers i).shape m (subst (λ l. AllByRecursion (λ x. AreKeys j.setting.shape (down_keys x)) l) e (inside.down i)).0)
        (h_down_less j.setting.shape j.setting.clients w.sched.last_worker w i m ms e h)

    step_up : (i : ℕ) (ms : List Up) → w.up i ≡ ms → Home (take_up_first w i ms)
    unfolding scheduled
    step_up i [] e = h
    step_up i (m ∷ ms) e = pick (is_connected w i) refl
      where
        less : IsHome j.setting.shape j.setting.clients w.sched.last_worker (record w { up = put w.up i ms })
        less = h_up_less j.setting.shape j.setting.clients w.sched.last_worker w i m ms e h

        pick : (b : Bool) → is_connected w i ≡ b → Home (take_up (record w { up = put w.up i ms }) i m b)
        pick true c = home_scheduled j.setting.shape j.setting.clients w.sched.last_worker (record w { up = put w.up i ms }) (FromWorker i m) sound (up_taken j.setting.shape w inside i m ms e c) (last_more w.sched (FromWorker i m)) less
        pick false c = less

    step_letter : (c : ℕ) (ms : List ClientMessage) → w.from_client c ≡ ms → Home (take_from_client w c ms)
    unfolding scheduled
    step_letter c [] e = h
    step_letter c (m ∷ ms) e = home_scheduled j.setting.shape j.setting.clients w.sched.last_worker (record w { from_client = put w.from_client c ms }) (FromClient c m) sound (letter_taken j.setting.shape w inside c m ms e (letter_from c (ap has_any e))) (last_more w.sched (FromClient c m))
        (h_letter_less j.setting.shape j.setting.clients w.sched.last_worker w c m ms e h)

    step_news : (c : ℕ) (ms : List ToClient) → Home (take_to_client w c ms)
    unfolding client_worked client_step
    step_news c [] = h
    step_news c (m ∷ ms) = h_client j.setting.shape j.setting.clients w.sched.last_worker (record w { to_client = put w.to_client c ms }) c (FromScheduler m) (inr refl)
        (h_same j.setting.shape j.setting.clients w.sched.last_worker w (record w { to_client = put w.to_client c ms }) refl refl refl refl refl refl h)

    step_asks : (a : Asker) (p : ℕ) → is_asker w a ≡ true → may_ask w a p ≡ true → Home (ask_by w a p)
    unfolding worker_takes
    step_asks (Worker i) p t u = step_worker i (AskPeer p) t u
    step_asks (Client c) p t u = step_client c (ClientAsk p) t

    step_fails : (a : Asker) (p : ℕ) (o : Option Ask) → is_asker w a ≡ true → Home (fail_ask w a p o)
    unfolding worker_takes
    step_fails a p None t = h
    step_fails (Worker i) p (Some q) t = step_worker i (GatherFailed p q.number) t refl
    step_fails (Client c) p (Some q) t = step_client c (ClientGatherFailed p q.number) t

    step_serves : (p : ℕ) (o : Option Parcel) → Home (serve w p o)
    step_serves p None = h
    step_serves p (Some q) = h_same j.setting.shape j.setting.clients w.sched.last_worker w (serve w p (Some q)) refl refl refl refl refl refl h

    pub found_asker : (a : Asker) (p n : ℕ) (qs : List Parcel) (q : Parcel) → parcel_of a p n qs ≡ Some q → is_asker w a ≡ true → is_asker w q.asker ≡ true
    found_asker a p n qs q e t = same a q.asker (and_parts (same_asker q.asker a) _ (find_passes (is_parcel a p n) qs q e)).0 t
      where
        same : (a b : Asker) → same_asker b a ≡ true → is_asker w a ≡ true → is_asker w b ≡ true
        same (Worker i) (Worker x) s t = ap w.alive (eqb-true x i s) ∙ t
        same (Client c) (Client d) s t = ap (is_client w) (eqb-true d c s) ∙ t
        same (Worker i) (Client d) s t = absurd (false≢true s)
        same (Client c) (Worker x) s t = absurd (false≢true s)

    step_answer : (a : Asker) (p n : ℕ) (o : Option Parcel) → parcel_of a p n w.answers ≡ o → is_asker w a ≡ true → Home (take_answer w o)
    unfolding worker_takes worked client_worked
    step_answer a p n None e t = h
    step_answer a p n (Some q) e t = by q.asker (found_asker a p n w.answers q e t)
      where
        less : World
        less = record w { answers = without_parcel q.asker q.peer q.ask w.answers }

        home : IsHome j.setting.shape j.setting.clients w.sched.last_worker less
        home = h_same j.setting.shape j.setting.clients w.sched.last_worker w less refl refl refl refl refl refl h

        found_keys : AreKeys j.setting.shape q.keys
        found_keys = all_found (λ (x : Parcel). AreKeys j.setting.shape x.keys) (is_parcel a p n) w.answers q e inside.answers

        gathers : (i : ℕ) → w.alive i ≡ true → Home (at_worker less i (Gathered q.peer q.ask q.keys))
        gathers i a = h_worker j.setting.shape j.setting.clients w.sched.last_worker less i (Gathered q.peer q.ask q.keys) a (inside.workers i).shape
            (keys_there j.setting.shape (w.workers i).shape (inside.workers i).shape q.keys found_keys) home

        got : (c : ℕ) → is_client w c ≡ true → Home (at_client less c (ClientGathered q.peer q.ask q.keys))
        got c a = h_client j.setting.shape j.setting.clients w.sched.last_worker less c (ClientGathered q.peer q.ask q.keys) (inl (client_of c a)) home

        by : (b : Asker) → is_asker w b ≡ true → Home (gathered_at less b q.peer q.ask q.keys)
        by (Worker i) a = gathers i a
        by (Client c) a = got c a

    pub home_step : (e : Event) → enabled w e ≡ true → Home (world_step j w e)
    unfolding world_step enabled worker_takes scheduled
    home_step (Want c ks) t = step_client c (WantKeys ks) (and_parts (is_client w c) (are_named w ks) t).0
    home_step (Release c ks) t = step_client c (ReleaseKeys ks) (and_parts (is_client w c) (are_named w ks) t).0
    home_step (Join threads) t = home_scheduled j.setting.shape j.setting.clients (w.sched.last_worker + 1) (new_at w (w.sched.last_worker + 1) threads) (JoinSched threads) sound t (last_joined w.sched threads)
        (h_new_at j.setting.shape j.setting.clients w.sched.last_worker w (w.sched.last_worker + 1) threads h (omega arith) (λ x l. omega (arith, l)))
    home_step (Lose i) t = h_died j.setting.shape j.setting.clients w.sched.last_worker w i t h
    home_step (SeeLoss i) t = h_cut_off j.setting.shape j.setting.clients (sched_step w.sched (Leave i)).facts.last_worker (at_scheduler w (Leave i)) i (step_scheduler (Leave i) (leaves i (and_parts (not (w.alive i)) (is_connected w i) t).1))
    home_step (Suspect i) t = step_scheduler (Leave i) (leaves i t)
    home_step (DeliverDown i) t = step_down i (w.down i) refl (and_parts (w.alive i) (has_any (w.down i)) t).0
    home_step (DeliverUp i) t = step_up i (w.up i) refl
    home_step (DeliverToClient c) t = step_news c (w.to_client c)
    home_step (DeliverFromClient c) t = step_letter c (w.from_client c) refl
    home_step (Start i) t = let a = and_parts (w.alive i) (is_some (would_start (w.workers i))) t in step_worker i StartTask a.0 a.1
    home_step (Finish i k) t = let a = and_parts (w.alive i) ((w.workers i).running k) t in
        step_worker i (Done k (j.zero k)) a.0 (and_from _ _ (key_there j.setting.shape (w.workers i).shape (inside.workers i).shape k ((inside.workers i).running k a.1)) a.1)
    home_step (SendGather a p) t = let b = and_parts (is_asker w a) (may_ask w a p) t in step_asks a p b.0 b.1
    home_step (ServeGather p a n) t = step_serves p (parcel_of a p n w.requests)
    home_step (ArriveGather a p n) t = step_answer a p n (parcel_of a p n w.answers) refl (and_parts (is_asker w a) _ t).0
    home_step (FailGather a p) t = step_fails a p (open_ask w a p) (and_parts (is_asker w a) _ t).0
    home_step Balance t = step_scheduler BalanceSched t
    home_step Evict t = step_scheduler EvictSched t
    home_step (Replicate k i) t = step_scheduler (ReplicateSched k i) t
    home_step (Spill i k) t = let a = and_parts (w.alive i) ((w.workers i).mem k && not (w.spilled i k)) t in h_spill j.setting.shape j.setting.clients w.sched.last_worker w i k a.0 (and_parts ((w.workers i).mem k) (not (w.spilled i k)) a.1).0 h
    home_step (LoseSpilled i k) t = let a = and_parts (w.alive i) (w.spilled i k) t in
        step_worker i (DataLost k) a.0 (and_from _ _ (key_there j.setting.shape (w.workers i).shape (inside.workers i).shape k (inside.spilled i k a.1)) (h.spilled i k a.1))

pub home_opening : (j : Job) → IsHome j.setting.shape j.setting.clients 0 (opening j)
home_opening j = record {
  kept = λ i a. absurd (false≢true a);
  bare = λ x l. record { alive = refl; down = refl; up = refl; spilled = λ k. refl };
  letters = λ c e. absurd (false≢true e);
  spilled = λ i k e. absurd (false≢true e);
  mine = λ i k l. refl;
}
