-- What the world's events change, and what its progress events are.
use Rattle.std.proofs.Common.{◌≡◌, ℕ, zero, suc, ◌+◌, ◌<◌, ◌≤◌, Bool, true, false, not, List, [], ◌∷◌, ◌++◌, Option, Some, None, refl, sym, ap, ◌∙◌, subst, arith, cond, filter, map}
use Rattle.std.specs.Prelude.{◌==◌, slice_get}
use Rattle.std.specs.List.{flat_map, range_with_len, AllByRecursion}
use Rattle.std.proofs.lemmas.Bool.{true≢false, false≢true, leb-true, and_parts, eqb-true, eqb-false}
use Rattle.std.proofs.lemmas.Option.{same_Some}
use Rattle.small_facts.proofs.Every.{all_of_map}
use Rattle.cluster_msgs.specs.Shape.{key_count}
use Rattle.cluster_msgs.specs.declared.messages.Down.{Down}
use Rattle.cluster_msgs.specs.declared.messages.Up.{Up}
use Rattle.cluster_msgs.specs.declared.messages.ToClient.{ToClient}
use Rattle.cluster_msgs.specs.declared.messages.FromClient.{FromClient as ClientMessage}
use Rattle.cluster_msgs.specs.declared.events.Asker.{Asker}
use Rattle.cluster_msgs.specs.declared.events.Asker.TheVariants.{Worker, Client}
use Rattle.cluster_msgs.specs.declared.events.Event.{Event}
use Rattle.cluster_msgs.specs.declared.events.Event.TheVariants.{Want, Release, SeeLoss, Suspect, DeliverDown, DeliverUp, DeliverToClient, DeliverFromClient, Start, Finish, SendGather, ServeGather, ArriveGather, FailGather, Balance, Evict, Spill, LoseSpilled, Replicate}
use Rattle.cluster_rules.specs.Functions.{put}
use Rattle.cluster_rules.specs.Derived.{below}
use Rattle.cluster_rules.specs.SchedStep.{Stepped, mail}
use Rattle.cluster_rules.specs.Worker.{Ask, has_any}
use Rattle.cluster_rules.specs.WorkerStep.{WorkerStep}
use Rattle.cluster_rules.specs.Client.{ClientStep}
use Rattle.cluster_rules.specs.World.{Job, World, Parcel, shape_of, is_connected, is_client, all_workers, all_clients, open_ask}
use Rattle.cluster_rules.specs.WorldStep.{letters, scheduled, worked, client_worked, take_up_first, take_down_first, take_to_client, take_from_client, fail_ask, world_step}
use Rattle.cluster_rules.specs.Enabled.{enabled, progress, progress_kinds, connected_workers, quiet_askers, is_quiet_asker}
use Rattle.cluster_laws.specs.WorldFrame.{OnlyScheduler, OnlyWorker, OnlyClient, NothingMoves}

-- the scheduler alone
pub only_scheduled : (w : World) (s : Stepped) → OnlyScheduler w (scheduled w s)
unfolding scheduled
only_scheduled w s = record {
  clients = refl;
  workers = refl;
  alive = refl;
  spilled = refl;
  up = refl;
  from_client = refl;
  requests = refl;
  answers = refl;
  down = λ i. (mail i s.down, refl);
  to_client = λ c. (letters c s.clients, refl);
}

pub suspect_is : (j : Job) (w : World) (i : ℕ) → OnlyScheduler w (world_step j w (Suspect i))
unfolding world_step
suspect_is j w i = only_scheduled w _

pub balance_is : (j : Job) (w : World) → OnlyScheduler w (world_step j w Balance)
unfolding world_step
balance_is j w = only_scheduled w _

pub evict_is : (j : Job) (w : World) → OnlyScheduler w (world_step j w Evict)
unfolding world_step
evict_is j w = only_scheduled w _

pub replicate_is : (j : Job) (w : World) (k i : ℕ) → OnlyScheduler w (world_step j w (Replicate k i))
unfolding world_step
replicate_is j w k i = only_scheduled w _

pub from_client_is : (j : Job) (w : World) (c : ℕ) (m : ClientMessage) (ms : List ClientMessage) → w.from_client c ≡ m ∷ ms → OnlyScheduler (record w { from_client = put w.from_client c ms }) (world_step j w (DeliverFromClient c))
unfolding world_step
from_client_is j w c m ms e = subst (λ l. OnlyScheduler (record w { from_client = put w.from_client c ms }) (take_from_client w c l)) (sym e) (only_scheduled _ _)

pub up_is : (j : Job) (w : World) (i : ℕ) (m : Up) (ms : List Up) → w.up i ≡ m ∷ ms → is_connected w i ≡ true → OnlyScheduler (record w { up = put w.up i ms }) (world_step j w (DeliverUp i))
unfolding world_step
up_is j w i m ms e c = subst (λ l. OnlyScheduler (record w { up = put w.up i ms }) (take_up_first w i l)) (sym e) (rw c (only_scheduled _ _))

pub dropped_is : (j : Job) (w : World) (i : ℕ) (m : Up) (ms : List Up) → w.up i ≡ m ∷ ms → is_connected w i ≡ false → world_step j w (DeliverUp i) ≡ record w { up = put w.up i ms }
unfolding world_step
dropped_is j w i m ms e c = subst (λ l. take_up_first w i l ≡ record w { up = put w.up i ms }) (sym e) (rw c refl)

-- one worker alone
pub only_worked : (w : World) (i : ℕ) (s : WorkerStep) → OnlyWorker i w (worked w i s)
unfolding worked
only_worked w i s = record {
  sched = refl;
  clients = refl;
  alive = refl;
  down = refl;
  to_client = refl;
  from_client = refl;
  answers = refl;
  workers = λ x e. rw e refl;
  spilled = λ x e. rw e refl;
  up = λ x e. rw e refl;
}

pub start_is : (j : Job) (w : World) (i : ℕ) → OnlyWorker i w (world_step j w (Start i))
unfolding world_step
start_is j w i = only_worked w i _

pub finish_is : (j : Job) (w : World) (i k : ℕ) → OnlyWorker i w (world_step j w (Finish i k))
unfolding world_step
finish_is j w i k = only_worked w i _

pub lose_spilled_is : (j : Job) (w : World) (i k : ℕ) → OnlyWorker i w (world_step j w (LoseSpilled i k))
unfolding world_step
lose_spilled_is j w i k = only_worked w i _

pub spill_is : (j : Job) (w : World) (i k : ℕ) → OnlyWorker i w (world_step j w (Spill i k))
unfolding world_step
spill_is j w i k = record {
  sched = refl;
  clients = refl;
  alive = refl;
  down = refl;
  to_client = refl;
  from_client = refl;
  answers = refl;
  workers = λ x e. refl;
  spilled = λ x e. rw e refl;
  up = λ x e. refl;
}

pub send_is : (j : Job) (w : World) (i p : ℕ) → OnlyWorker i w (world_step j w (SendGather (Worker i) p))
unfolding world_step
send_is j w i p = only_worked w i _

pub fail_is : (j : Job) (w : World) (i p : ℕ) → OnlyWorker i w (world_step j w (FailGather (Worker i) p))
unfolding world_step
fail_is j w i p = pick (open_ask w (Worker i) p)
  where
    pick : (o : Option Ask) → OnlyWorker i w (fail_ask w (Worker i) p o)
    pick None = record {
      sched = refl;
      clients = refl;
      alive = refl;
      down = refl;
      to_client = refl;
      from_client = refl;
      answers = refl;
      workers = λ x e. refl;
      spilled = λ x e. refl;
      up = λ x e. refl;
    }
    pick (Some a) = only_worked w i _

pub down_is : (j : Job) (w : World) (i : ℕ) (m : Down) (ms : List Down) → w.down i ≡ m ∷ ms → OnlyWorker i (record w { down = put w.down i ms }) (world_step j w (DeliverDown i))
unfolding world_step
down_is j w i m ms e = subst (λ l. OnlyWorker i (record w { down = put w.down i ms }) (take_down_first w i l)) (sym e) (only_worked _ i _)

-- one client alone
pub only_client_worked : (w : World) (c : ℕ) (s : ClientStep) → OnlyClient c w (client_worked w c s)
unfolding client_worked
only_client_worked w c s = record {
  sched = refl;
  workers = refl;
  alive = refl;
  spilled = refl;
  down = refl;
  up = refl;
  to_client = refl;
  answers = refl;
  clients = λ x e. rw e refl;
  from_client = λ x e. rw e refl;
}

pub want_is : (j : Job) (w : World) (c : ℕ) (ks : List ℕ) → OnlyClient c w (world_step j w (Want c ks))
unfolding world_step
want_is j w c ks = only_client_worked w c _

pub release_is : (j : Job) (w : World) (c : ℕ) (ks : List ℕ) → OnlyClient c w (world_step j w (Release c ks))
unfolding world_step
release_is j w c ks = only_client_worked w c _

pub client_send_is : (j : Job) (w : World) (c p : ℕ) → OnlyClient c w (world_step j w (SendGather (Client c) p))
unfolding world_step
client_send_is j w c p = only_client_worked w c _

pub client_fail_is : (j : Job) (w : World) (c p : ℕ) → OnlyClient c w (world_step j w (FailGather (Client c) p))
unfolding world_step
client_fail_is j w c p = pick (open_ask w (Client c) p)
  where
    pick : (o : Option Ask) → OnlyClient c w (fail_ask w (Client c) p o)
    pick None = record {
      sched = refl;
      workers = refl;
      alive = refl;
      spilled = refl;
      down = refl;
      up = refl;
      to_client = refl;
      answers = refl;
      clients = λ x e. refl;
      from_client = λ x e. refl;
    }
    pick (Some a) = only_client_worked w c _

pub to_client_is : (j : Job) (w : World) (c : ℕ) (m : ToClient) (ms : List ToClient) → w.to_client c ≡ m ∷ ms → OnlyClient c (record w { to_client = put w.to_client c ms }) (world_step j w (DeliverToClient c))
unfolding world_step
to_client_is j w c m ms e = subst (λ l. OnlyClient c (record w { to_client = put w.to_client c ms }) (take_to_client w c l)) (sym e) (only_client_worked _ c _)

-- a member of a filtered list passes
pub filter_get : {A : Type 0} (t : A → Bool) (xs : List A) (n : ℕ) (x : A) → slice_get (filter t xs) n ≡ Some x → t x ≡ true
filter_get {A} t [] n x h = absurd (no n h)
  where
    no : (n : ℕ) → slice_get {X = A} [] n ≡ Some x → ⊥
    no zero h = cc
    no (suc n) h = cc
filter_get {A} t (y ∷ xs) n x h = pick (t y) refl (λ m e. filter_get t xs m x e) h
  where
    here : t y ≡ true → (m : ℕ) → ((m : ℕ) → slice_get (filter t xs) m ≡ Some x → t x ≡ true) → slice_get (y ∷ filter t xs) m ≡ Some x → t x ≡ true
    here e zero r h = subst (λ z. t z ≡ true) (same_Some y x h) e
    here e (suc m) r h = r m h

    pick : (b : Bool) → t y ≡ b → ((m : ℕ) → slice_get (filter t xs) m ≡ Some x → t x ≡ true) → slice_get (cond b (y ∷ filter t xs) (filter t xs)) n ≡ Some x → t x ≡ true
    pick true e r h = here e n r h
    pick false e r h = r n h

-- what holds of a whole list holds of its parts, and of what it is made of
pub all_left : {A : Type 0} (P : A → Type 0) (xs ys : List A) → AllByRecursion P (xs ++ ys) → AllByRecursion P xs
all_left P [] ys h = tt
all_left P (x ∷ xs) ys h = (h.0, all_left P xs ys h.1)

pub all_right : {A : Type 0} (P : A → Type 0) (xs ys : List A) → AllByRecursion P (xs ++ ys) → AllByRecursion P ys
all_right P [] ys h = h
all_right P (x ∷ xs) ys h = all_right P xs ys h.1

pub all_filter : {A : Type 0} (P : A → Type 0) (p : A → Bool) (xs : List A) → AllByRecursion P (filter p xs) → AllByRecursion (λ x. p x ≡ true → P x) xs
all_filter P p [] h = tt
all_filter P p (x ∷ xs) h = pick (p x) refl h (all_filter P p xs)
  where
    pick : (b : Bool) → p x ≡ b → AllByRecursion P (cond b (x ∷ filter p xs) (filter p xs)) → (AllByRecursion P (filter p xs) → AllByRecursion (λ x. p x ≡ true → P x) xs)
        → (p x ≡ true → P x) × AllByRecursion (λ x. p x ≡ true → P x) xs
    pick true e h r = (λ _. h.0, r h.1)
    pick false e h r = (λ z. absurd (false≢true (sym e ∙ z)), r h)

pub all_flat_map : {A B : Type 0} (P : B → Type 0) (f : A → List B) (xs : List A) → AllByRecursion P (flat_map f xs) → AllByRecursion (λ x. AllByRecursion P (f x)) xs
all_flat_map P f [] h = tt
all_flat_map P f (x ∷ xs) h = (all_left P (f x) (flat_map f xs) h, all_flat_map P f xs (all_right P (f x) (flat_map f xs) h))

-- where the filtered list is empty, nothing passes
pub nothing_passes : {A : Type 0} (t : A → Bool) (xs : List A) → has_any (filter t xs) ≡ false → AllByRecursion (λ x. t x ≡ false) xs
nothing_passes t [] h = tt
nothing_passes t (x ∷ xs) h = pick (t x) refl (nothing_passes t xs) h
  where
    pick : (b : Bool) → t x ≡ b → (has_any (filter t xs) ≡ false → AllByRecursion (λ x. t x ≡ false) xs) → has_any (cond b (x ∷ filter t xs) (filter t xs)) ≡ false → (t x ≡ false) × AllByRecursion (λ x. t x ≡ false) xs
    pick true e r h = absurd (true≢false h)
    pick false e r h = (e, r h)

-- at one number of a range
pub at_range : (P : ℕ → Type 0) (a n k : ℕ) → AllByRecursion P (range_with_len a n) → a ≤ k → k < a + n → P k
at_range P a zero k h l u = absurd (omega arith)
at_range P a (suc n) k h l u = pick (a == k) refl (λ v. at_range P (a + 1) n k h.1 v (omega arith))
  where
    above : (a ≡ k → ⊥) → a + 1 ≤ k
    above ne = omega (arith, ne)

    pick : (b : Bool) → (a == k) ≡ b → (a + 1 ≤ k → P k) → P k
    pick true e r = subst P (eqb-true a k e) h.0
    pick false e r = r (above (eqb-false a k e))

pub progress_enabled : (w : World) (n : ℕ) (e : Event) → slice_get (progress w) n ≡ Some e → enabled w e ≡ true
unfolding progress
progress_enabled w n e h = filter_get (enabled w) (flat_map (λ es. es) (progress_kinds w)) n e h

-- at one worker, connected worker, client or asker
abbrev Idle : World → Event → Type 0
Idle w e = enabled w e ≡ false

worker_in : (w : World) (P : ℕ → Type 0) (i : ℕ) → AllByRecursion P (all_workers w) → 1 ≤ i → i ≤ w.sched.last_worker → P i
worker_in w P i h l u = at_range P 1 w.sched.last_worker i h l (omega arith)

connected_in : (w : World) (P : ℕ → Type 0) (i : ℕ) → AllByRecursion P (connected_workers w) → 1 ≤ i → i ≤ w.sched.last_worker → is_connected w i ≡ true → P i
connected_in w P i h l u c = worker_in w (λ x. is_connected w x ≡ true → P x) i (all_filter P (is_connected w) (all_workers w) h) l u c

client_in : (w : World) (P : ℕ → Type 0) (c : ℕ) → AllByRecursion P (all_clients w) → is_client w c ≡ true → P c
client_in w P c h g = let r = and_parts _ _ g in at_range P 1 w.sched.setting.clients c h (leb-true _ _ r.0) (bound (leb-true _ _ r.1))
  where
    bound : c ≤ w.sched.setting.clients → c < 1 + w.sched.setting.clients
    bound l = omega arith

asking_worker : (w : World) (P : Asker → Type 0) (i : ℕ) → AllByRecursion P (quiet_askers w) → 1 ≤ i → i ≤ w.sched.last_worker → is_connected w i ≡ true → P (Worker i)
asking_worker w P i h l u c = connected_in w (λ x. P (Worker x)) i (all_of_map P (λ x. Worker x) (connected_workers w) (all_left P (map (λ x. Worker x) (connected_workers w)) (map (λ x. Client x) (all_clients w)) h)) l u c

asking_client : (w : World) (P : Asker → Type 0) (c : ℕ) → AllByRecursion P (quiet_askers w) → is_client w c ≡ true → P (Client c)
asking_client w P c h g = client_in w (λ x. P (Client x)) c (all_of_map P (λ x. Client x) (all_clients w) (all_right P (map (λ x. Worker x) (connected_workers w)) (map (λ x. Client x) (all_clients w)) h)) g

pub key_low : (k : ℕ) → 0 ≤ k
key_low k = omega arith

key_high : (w : World) (k : ℕ) → k < key_count (shape_of w) → k < 0 + key_count (shape_of w)
key_high w k h = omega arith

nothing_of : (w : World) → AllByRecursion (λ es. AllByRecursion (Idle w) es) (progress_kinds w) → NothingMoves w
nothing_of w kinds = record {
  see_loss = λ i l u. worker_in w (λ i. Idle w (SeeLoss i)) i (all_of_map (Idle w) (λ i. SeeLoss i) _ kinds.0) l u;
  down = λ i l u c. connected_in w (λ i. Idle w (DeliverDown i)) i (all_of_map (Idle w) (λ i. DeliverDown i) _ kinds.1.0) l u c;
  up = λ i l u c. connected_in w (λ i. Idle w (DeliverUp i)) i (all_of_map (Idle w) (λ i. DeliverUp i) _ kinds.1.1.0) l u c;
  to_client = λ c g. client_in w (λ c. Idle w (DeliverToClient c)) c (all_of_map (Idle w) (λ c. DeliverToClient c) _ kinds.1.1.1.0) g;
  from_client = λ c g. client_in w (λ c. Idle w (DeliverFromClient c)) c (all_of_map (Idle w) (λ c. DeliverFromClient c) _ kinds.1.1.1.1.0) g;
  start = λ i l u c. connected_in w (λ i. Idle w (Start i)) i (all_of_map (Idle w) (λ i. Start i) _ kinds.1.1.1.1.1.0) l u c;
  finish = λ i k l u c m. at_range (λ k. Idle w (Finish i k)) 0 (key_count (shape_of w)) k (all_of_map (Idle w) (λ k. Finish i k) _
      (connected_in w (λ i. AllByRecursion (Idle w) (map (λ k. Finish i k) (below (key_count (shape_of w))))) i (all_flat_map (Idle w) (λ i. map (λ k. Finish i k) (below (key_count (shape_of w)))) _ kinds.1.1.1.1.1.1.0) l u c)) (key_low k) (key_high w k m);
  send = λ i p l u c m v. worker_in w (λ p. Idle w (SendGather (Worker i) p)) p (all_of_map (Idle w) (λ p. SendGather (Worker i) p) _
      (asking_worker w (λ a. AllByRecursion (Idle w) (map (λ p. SendGather a p) (all_workers w))) i (all_flat_map (Idle w) (λ a. map (λ p. SendGather a p) (all_workers w)) _ kinds.1.1.1.1.1.1.1.0) l u c)) m v;
  client_sends = λ c p g m v. worker_in w (λ p. Idle w (SendGather (Client c) p)) p (all_of_map (Idle w) (λ p. SendGather (Client c) p) _
      (asking_client w (λ a. AllByRecursion (Idle w) (map (λ p. SendGather a p) (all_workers w))) c (all_flat_map (Idle w) (λ a. map (λ p. SendGather a p) (all_workers w)) _ kinds.1.1.1.1.1.1.1.0) g)) m v;
  serve = all_of_map (Idle w) (λ (q : Parcel). ServeGather q.peer q.asker q.ask) w.requests kinds.1.1.1.1.1.1.1.1.0;
  arrive = all_filter (λ (q : Parcel). Idle w (ArriveGather q.asker q.peer q.ask)) (λ (q : Parcel). is_quiet_asker w q.asker) w.answers (all_of_map (Idle w) (λ (q : Parcel). ArriveGather q.asker q.peer q.ask) _ kinds.1.1.1.1.1.1.1.1.1.0);
  fail = λ i p l u c m v d. worker_in w (λ p. not (w.alive p) ≡ true → Idle w (FailGather (Worker i) p)) p (all_filter (λ p. Idle w (FailGather (Worker i) p)) (λ p. not (w.alive p)) (all_workers w) (all_of_map (Idle w) (λ p. FailGather (Worker i) p) _
      (asking_worker w (λ a. AllByRecursion (Idle w) (map (λ p. FailGather a p) (filter (λ p. not (w.alive p)) (all_workers w)))) i (all_flat_map (Idle w) (λ a. map (λ p. FailGather a p) (filter (λ p. not (w.alive p)) (all_workers w))) _ kinds.1.1.1.1.1.1.1.1.1.1.0) l u c))) m v (ap not d);
  client_fails = λ c p g m v d. worker_in w (λ p. not (w.alive p) ≡ true → Idle w (FailGather (Client c) p)) p (all_filter (λ p. Idle w (FailGather (Client c) p)) (λ p. not (w.alive p)) (all_workers w) (all_of_map (Idle w) (λ p. FailGather (Client c) p) _
      (asking_client w (λ a. AllByRecursion (Idle w) (map (λ p. FailGather a p) (filter (λ p. not (w.alive p)) (all_workers w)))) c (all_flat_map (Idle w) (λ a. map (λ p. FailGather a p) (filter (λ p. not (w.alive p)) (all_workers w))) _ kinds.1.1.1.1.1.1.1.1.1.1.0) g))) m v (ap not d);
}

pub nothing_moves : (w : World) → has_any (progress w) ≡ false → NothingMoves w
unfolding progress
nothing_moves w h = nothing_of w (all_flat_map (Idle w) (λ es. es) (progress_kinds w) (nothing_passes (enabled w) (flat_map (λ es. es) (progress_kinds w)) h))
