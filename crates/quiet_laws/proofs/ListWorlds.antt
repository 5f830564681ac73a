-- No message lists more keys than there are, after every event of the world.
use Rattle.std.proofs.Common.{◌≡◌, ℕ, zero, suc, ◌+◌, ◌≤◌, ◌<◌, Bool, true, false, cond, List, [], ◌∷◌, ◌++◌, length, Option, Some, None, refl, sym, ap, subst, arith, max}
use Rattle.std.specs.List.{AllByRecursion}
use Rattle.std.proofs.lemmas.Bool.{ltb-true}
use Rattle.small_facts.proofs.Every.{all_join}
use Rattle.cluster_msgs.specs.Shape.{Shape, IsShape, key_count}
use Rattle.cluster_msgs.specs.declared.messages.Down.{Down}
use Rattle.cluster_msgs.specs.declared.messages.Down.TheVariants.{ComputeTask, FreeKeys, StealRequest, RemoveReplicas, AcquireReplicas, RefreshWhoHas}
use Rattle.cluster_msgs.specs.declared.messages.Up.{Up}
use Rattle.cluster_msgs.specs.declared.messages.Up.TheVariants.{TaskFinished, TaskErred, AddKeys, MissingData, RequestRefreshWhoHas, ReleaseWorkerData, StealResponse}
use Rattle.cluster_msgs.specs.declared.messages.ToClient.{ToClient}
use Rattle.cluster_msgs.specs.declared.messages.FromClient.{FromClient as ClientMessage}
use Rattle.cluster_msgs.specs.declared.cores.SchedEvent.{SchedEvent}
use Rattle.cluster_msgs.specs.declared.cores.SchedEvent.TheVariants.{Join as JoinSched, Leave, FromWorker, FromClient, Balance as BalanceSched, Evict as EvictSched, Replicate as ReplicateSched}
use Rattle.cluster_msgs.specs.declared.cores.WorkerEvent.{WorkerEvent}
use Rattle.cluster_msgs.specs.declared.cores.WorkerEvent.TheVariants.{Down as Told, Start as StartTask, Done, Ask as AskPeer, Gathered, GatherFailed, DataLost}
use Rattle.cluster_msgs.specs.declared.cores.ClientEvent.{ClientEvent}
use Rattle.cluster_msgs.specs.declared.cores.ClientEvent.TheVariants.{Want as WantKeys, Release as ReleaseKeys, FromScheduler, Ask as ClientAsk, Gathered as ClientGathered, GatherFailed as ClientGatherFailed}
use Rattle.cluster_msgs.specs.declared.events.Asker.{Asker}
use Rattle.cluster_msgs.specs.declared.events.Asker.TheVariants.{Worker, Client}
use Rattle.cluster_msgs.specs.declared.events.Event.{Event}
use Rattle.cluster_msgs.specs.declared.events.Event.TheVariants.{Want, Release, Join, Lose, SeeLoss, Suspect, DeliverDown, DeliverUp, DeliverToClient, DeliverFromClient, Start, Finish, SendGather, ServeGather, ArriveGather, FailGather, Balance, Evict, Replicate, Spill, LoseSpilled}
use Rattle.cluster_rules.specs.Functions.{put}
use Rattle.cluster_rules.specs.SchedStep.{sched_step, mail}
use Rattle.cluster_rules.specs.Worker.{Ask}
use Rattle.cluster_rules.specs.WorkerStep.{worker_step}
use Rattle.cluster_rules.specs.Inside.{IsKey, AreKeys, named_keys, down_keys, IsInsideWorld}
use Rattle.cluster_rules.specs.SchedTable.{up_keys}
use Rattle.cluster_rules.specs.World.{Job, IsJob, World, Parcel, opening, shape_of, is_connected, open_ask, parcel_of, without_parcel}
use Rattle.cluster_rules.specs.WorldStep.{sends, scheduled, worked, client_worked, at_scheduler, at_worker, at_client, new_at, cut_off, take_down_first, take_up, take_up_first, take_to_client, take_from_client, ask_by, gathered_at, serve, take_answer, fail_ask, world_step}
use Rattle.cluster_rules.specs.Runs.{LegalFrom, legal, run_from, reached}
use Rattle.cluster_rules.proofs.WorkerLemmas.{at_one}
use Rattle.cluster_laws.proofs.Framed.{change_framed}
use Rattle.safety_laws.proofs.Joint.{IsJoint, joint_step, joint_opening, joint_after}
use Rattle.safety_laws.proofs.Responsive.{responsive_after}
use Rattle.quiet_measure.specs.Measure.{measure}
use Rattle.quiet_measure.specs.Asks.{AreAsks}
use Rattle.quiet_laws.proofs.AskSteps.{asks_step, asks_opening, asks_after}
use Rattle.quiet_measure.specs.Bounded.{down_length, up_length, IsBounded, most_events}
use Rattle.quiet_measure.proofs.Scheduled.{stays_within}
use Rattle.quiet_laws.proofs.SchedLists.{down_short, mail_short}
use Rattle.quiet_laws.proofs.ListRows.{step_short}

-- ## One event

module _ (j : Job) (graph : IsShape j.setting.shape) (n : ℕ) (one : 1 ≤ n) (few : key_count j.setting.shape ≤ n) where
  pub record AreShort (w : World) : Type 0 where
    pub down : (i : ℕ) → AllByRecursion (λ m. down_length m ≤ n) (w.down i)
    pub up : (i : ℕ) → AllByRecursion (λ m. up_length m ≤ n) (w.up i)

  -- what each worker that acts keeps to
  record Fits (w : World) : Type 0 where
    shape : w.sched.setting.shape ≡ j.setting.shape
    keys : (i : ℕ) → key_count (w.workers i).shape ≤ n
    asks : (i : ℕ) → AllByRecursion (λ (q : Ask). length q.items ≤ n) (w.workers i).asks

  sh_scheduler : (w : World) (s : SchedEvent) → w.sched.setting.shape ≡ j.setting.shape → AreShort w → AreShort (at_scheduler w s)
  unfolding scheduled
  sh_scheduler w s e h = record {
    down = λ i. all_join (λ m. down_length m ≤ n) (w.down i) (mail i (sched_step w.sched s).down) (h.down i)
        (mail_short j.setting.shape graph n one few i (sched_step w.sched s).down (down_short j.setting.shape graph n one few w.sched s e (change_framed w.sched s).setting));
    up = h.up;
  }

  sh_worker : (w : World) (i : ℕ) (e : WorkerEvent) → Fits w → AreShort w → AreShort (at_worker w i e)
  unfolding worked
  sh_worker w i e f h = record {
    down = h.down;
    up = at_one i (λ b x. AllByRecursion (λ m. up_length m ≤ n) (cond b (w.up i ++ sends (worker_step (w.workers i) e).out) (w.up x)))
        (all_join (λ m. up_length m ≤ n) (w.up i) (sends (worker_step (w.workers i) e).out) (h.up i) (step_short n one (w.workers i) e (f.keys i) (f.asks i))) h.up;
  }

  sh_client : (w : World) (c : ℕ) (e : ClientEvent) → AreShort w → AreShort (at_client w c e)
  unfolding client_worked
  sh_client w c e h = record { down = h.down; up = h.up }

  sh_gathered : (w : World) (a : Asker) (p k : ℕ) (found : List ℕ) → Fits w → AreShort w → AreShort (gathered_at w a p k found)
  sh_gathered w (Worker i) p k found f h = sh_worker w i (Gathered p k found) f h
  sh_gathered w (Client c) p k found f h = sh_client w c (ClientGathered p k found) h

  sh_failed : (w : World) (a : Asker) (p : ℕ) (o : Option Ask) → Fits w → AreShort w → AreShort (fail_ask w a p o)
  sh_failed w a p None f h = h
  sh_failed w (Worker i) p (Some q) f h = sh_worker w i (GatherFailed p q.number) f h
  sh_failed w (Client c) p (Some q) f h = sh_client w c (ClientGatherFailed p q.number) h

  sh_asks : (w : World) (a : Asker) (p : ℕ) → Fits w → AreShort w → AreShort (ask_by w a p)
  sh_asks w (Worker i) p f h = sh_worker w i (AskPeer p) f h
  sh_asks w (Client c) p f h = sh_client w c (ClientAsk p) h

  sh_serves : (w : World) (p : ℕ) (o : Option Parcel) → AreShort w → AreShort (serve w p o)
  sh_serves w p None h = h
  sh_serves w p (Some q) h = record { down = h.down; up = h.up }

  sh_answer : (w : World) (o : Option Parcel) → Fits w → AreShort w → AreShort (take_answer w o)
  sh_answer w None f h = h
  sh_answer w (Some q) f h = sh_gathered (record w { answers = without_parcel q.asker q.peer q.ask w.answers }) q.asker q.peer q.ask q.keys (record { shape = f.shape; keys = f.keys; asks = f.asks }) (record { down = h.down; up = h.up })

  sh_down : (w : World) (i : ℕ) (ms : List Down) → w.down i ≡ ms → Fits w → AreShort w → AreShort (take_down_first w i ms)
  sh_down w i [] e f h = h
  sh_down w i (m ∷ ms) e f h = sh_worker (record w { down = put w.down i ms }) i (Told m) (record { shape = f.shape; keys = f.keys; asks = f.asks })
      (record { down = at_one i (λ b x. AllByRecursion (λ m. down_length m ≤ n) (cond b ms (w.down x))) (subst (AllByRecursion (λ m. down_length m ≤ n)) e (h.down i)).1 h.down; up = h.up })

  sh_up : (w : World) (i : ℕ) (ms : List Up) → w.up i ≡ ms → Fits w → AreShort w → AreShort (take_up_first w i ms)
  sh_up w i [] e f h = h
  sh_up w i (m ∷ ms) e f h = pick (is_connected w i)
    where
      less : AreShort (record w { up = put w.up i ms })
      less = record { down = h.down; up = at_one i (λ b x. AllByRecursion (λ m. up_length m ≤ n) (cond b ms (w.up x))) (subst (AllByRecursion (λ m. up_length m ≤ n)) e (h.up i)).1 h.up }

      pick : (b : Bool) → AreShort (take_up (record w { up = put w.up i ms }) i m b)
      pick true = sh_scheduler (record w { up = put w.up i ms }) (FromWorker i m) f.shape less
      pick false = less

  sh_news : (w : World) (c : ℕ) (ms : List ToClient) → AreShort w → AreShort (take_to_client w c ms)
  sh_news w c [] h = h
  sh_news w c (m ∷ ms) h = sh_client (record w { to_client = put w.to_client c ms }) c (FromScheduler m) (record { down = h.down; up = h.up })

  sh_letter : (w : World) (c : ℕ) (ms : List ClientMessage) → Fits w → AreShort w → AreShort (take_from_client w c ms)
  sh_letter w c [] f h = h
  sh_letter w c (m ∷ ms) f h = sh_scheduler (record w { from_client = put w.from_client c ms }) (FromClient c m) f.shape (record { down = h.down; up = h.up })

  sh_cut : (w : World) (i : ℕ) → AreShort w → AreShort (cut_off w i)
  sh_cut w i h = record {
    down = at_one i (λ b x. AllByRecursion (λ m. down_length m ≤ n) (cond b [] (w.down x))) tt h.down;
    up = at_one i (λ b x. AllByRecursion (λ m. up_length m ≤ n) (cond b [] (w.up x))) tt h.up;
  }

  short_step : (w : World) (e : Event) → Fits w → AreShort w → AreShort (world_step j w e)
  unfolding world_step
  short_step w (Want c ks) f h = sh_client w c (WantKeys ks) h
  short_step w (Release c ks) f h = sh_client w c (ReleaseKeys ks) h
  short_step w (Join threads) f h = sh_scheduler (new_at w (w.sched.last_worker + 1) threads) (JoinSched threads) f.shape (record { down = h.down; up = h.up })
  short_step w (Lose i) f h = record { down = h.down; up = h.up }
  short_step w (SeeLoss i) f h = sh_cut (at_scheduler w (Leave i)) i (sh_scheduler w (Leave i) f.shape h)
  short_step w (Suspect i) f h = sh_scheduler w (Leave i) f.shape h
  short_step w (DeliverDown i) f h = sh_down w i (w.down i) refl f h
  short_step w (DeliverUp i) f h = sh_up w i (w.up i) refl f h
  short_step w (DeliverToClient c) f h = sh_news w c (w.to_client c) h
  short_step w (DeliverFromClient c) f h = sh_letter w c (w.from_client c) f h
  short_step w (Start i) f h = sh_worker w i StartTask f h
  short_step w (Finish i k) f h = sh_worker w i (Done k (j.zero k)) f h
  short_step w (SendGather a p) f h = sh_asks w a p f h
  short_step w (ServeGather p a k) f h = sh_serves w p (parcel_of a p k w.requests) h
  short_step w (ArriveGather a p k) f h = sh_answer w (parcel_of a p k w.answers) f h
  short_step w (FailGather a p) f h = sh_failed w a p (open_ask w a p) f h
  short_step w Balance f h = sh_scheduler w BalanceSched f.shape h
  short_step w Evict f h = sh_scheduler w EvictSched f.shape h
  short_step w (Replicate k i) f h = sh_scheduler w (ReplicateSched k i) f.shape h
  short_step w (Spill i k) f h = record { down = h.down; up = h.up }
  short_step w (LoseSpilled i k) f h = sh_worker w i (DataLost k) f h

  shorter : (a b : ℕ) (xs : List Ask) → a ≤ b → AllByRecursion (λ (q : Ask). length q.items ≤ a) xs → AllByRecursion (λ (q : Ask). length q.items ≤ b) xs
  shorter a b [] l h = tt
  shorter a b (x ∷ xs) l h = (let m : length x.items ≤ a = h.0 in omega arith, shorter a b xs l h.1)

  fits : (w : World) → IsJoint j w → AreAsks w → Fits w
  fits w g a = record {
    shape = g.inside.shape;
    keys = λ i. subst (λ (s : Shape). key_count s ≤ n) (sym (g.inside.workers i).shape) few;
    asks = λ i. shorter (key_count (shape_of w)) n (w.workers i).asks (subst (λ (s : Shape). key_count s ≤ n) (sym g.inside.shape) few) (a.short (Worker i));
  }

  short_from : IsJob j → (w : World) (es : List Event) → LegalFrom j w es → IsJoint j w → AreAsks w → AreShort w → AreShort (run_from j w es)
  short_from job w [] l g a h = h
  short_from job w (e ∷ es) l g a h = short_from job (world_step j w e) es l.1 (joint_step j job w e l.0 g) (asks_step j w e l.0 g a) (short_step w e (fits w g a) h)

  pub short_after : IsJob j → (es : List Event) → legal j es → AreShort (reached j es)
  short_after job es l = short_from job (opening j) es l (joint_opening j job) (asks_opening j) (record { down = λ i. tt; up = λ i. tt })

-- ## A list that names a key names no more than there are

no_key : (g : Shape) (k : ℕ) → key_count g ≡ 0 → IsKey g k → ⊥
no_key g k z v = let l : k < key_count g = ltb-true k (key_count g) v in omega arith

list_fits : (g : Shape) (ks : List ℕ) (m : ℕ) → length ks ≡ m → AreKeys g ks → m ≤ max 1 (key_count g) → m ≤ key_count g
list_fits g ks m e v l = by (key_count g) refl
  where
    none : (xs : List ℕ) → key_count g ≡ 0 → AreKeys g xs → length xs ≡ 0
    none [] z v = refl
    none (x ∷ xs) z v = absurd (no_key g x z v.0)

    by : (n : ℕ) → key_count g ≡ n → m ≤ key_count g
    by zero z = let x : length ks ≡ 0 = none ks z v in omega (arith, e, x)
    by (suc n) z = omega (arith, l, z)

named_length : (who : List (ℕ × List (ℕ × ℕ))) → length (named_keys who) ≡ length who
named_length [] = refl
named_length (p ∷ who) = ap (λ m. suc m) (named_length who)

down_fits : (g : Shape) (m : Down) → AreKeys g (down_keys m) → down_length m ≤ max 1 (key_count g) → down_length m ≤ key_count g
down_fits g (ComputeTask k a who) v l = list_fits g (named_keys who) (length who) (named_length who) v.1 l
down_fits g (FreeKeys ks) v l = list_fits g ks (length ks) refl v l
down_fits g (StealRequest k a) v l = omega arith
down_fits g (RemoveReplicas ks) v l = list_fits g ks (length ks) refl v l
down_fits g (AcquireReplicas who) v l = list_fits g (named_keys who) (length who) (named_length who) v l
down_fits g (RefreshWhoHas who) v l = list_fits g (named_keys who) (length who) (named_length who) v l

up_fits : (g : Shape) (m : Up) → AreKeys g (up_keys m) → up_length m ≤ max 1 (key_count g) → up_length m ≤ key_count g
up_fits g (AddKeys seen ks) v l = list_fits g ks (length ks) refl v l
up_fits g (TaskFinished seen k a) v l = omega arith
up_fits g (TaskErred seen k a) v l = omega arith
up_fits g (ReleaseWorkerData seen k) v l = omega arith
up_fits g (MissingData seen k x c) v l = omega arith
up_fits g (RequestRefreshWhoHas seen k) v l = omega arith
up_fits g (StealResponse seen k a agreed) v l = omega arith

all_from_both : {A : Type 0} (P Q R : A → Type 0) → ((x : A) → P x → Q x → R x) → (xs : List A) → AllByRecursion P xs → AllByRecursion Q xs → AllByRecursion R xs
all_from_both P Q R f [] a b = tt
all_from_both P Q R f (x ∷ xs) a b = (f x a.0 b.0, all_from_both P Q R f xs a.1 b.1)

-- ## After every legal list

pub bounded_after : (j : Job) → IsJob j → (es : List Event) → legal j es → IsBounded (reached j es)
bounded_after j job es l = record {
  sound = joint.sound;
  inside = inside;
  down = λ i. all_from_both (λ m. AreKeys (shape_of w) (down_keys m)) (λ m. down_length m ≤ max 1 (key_count (shape_of w))) (λ m. down_length m ≤ key_count (shape_of w)) (down_fits (shape_of w)) (w.down i) (inside.down i)
      (subst (λ (g : Shape). AllByRecursion (λ m. down_length m ≤ max 1 (key_count g)) (w.down i)) (sym joint.inside.shape) (short.down i));
  up = λ i. all_from_both (λ m. AreKeys (shape_of w) (up_keys m)) (λ m. up_length m ≤ max 1 (key_count (shape_of w))) (λ m. up_length m ≤ key_count (shape_of w)) (up_fits (shape_of w)) (w.up i) (inside.up i)
      (subst (λ (g : Shape). AllByRecursion (λ m. up_length m ≤ max 1 (key_count g)) (w.up i)) (sym joint.inside.shape) (short.up i));
  items = asks.short;
  differ = asks.differ;
  answered = (responsive_after j job es l).answered;
}
  where
    w : World
    w = reached j es

    joint : IsJoint j w
    joint = joint_after j job es l

    inside : IsInsideWorld (shape_of w) w
    inside = subst (λ (g : Shape). IsInsideWorld g w) (sym joint.inside.shape) joint.inside

    asks : AreAsks w
    asks = asks_after j job es l

    short : AreShort j job.shape (max 1 (key_count j.setting.shape)) (omega arith) (omega arith) w
    short = short_after j job.shape (max 1 (key_count j.setting.shape)) (omega arith) (omega arith) job es l

pub within_after : (j : Job) → IsJob j → (es : List Event) → legal j es → measure (reached j es) ≤ most_events (reached j es)
within_after j job es l = stays_within (reached j es) (bounded_after j job es l)
