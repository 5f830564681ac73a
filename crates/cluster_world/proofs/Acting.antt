-- Actions of the scheduler and of the nodes, as steps of a cluster.
use Rattle.std.proofs.Common.{◌≡◌, ℕ, ◌+◌, ◌<◌, ◌≤◌, Bool, true, false, ◌&&◌, List, [], ◌∷◌, Option, Some, None, Result, Ok, Err, OnOk, is_ok, refl, sym, ap, ◌∙◌, subst, arith, cond, drop, length, is_some, find}
use Rattle.std.specs.Prelude.{nat_lt, nat_le, slice_get}
use Rattle.std.specs.List.{filter_map, AllByRecursion}
use Rattle.std.proofs.lemmas.Bool.{false≢true, and_parts, ltb-true, ltb-false}
use Rattle.std.proofs.lemmas.List.{get_or_past}
use Rattle.std.proofs.lemmas.Result.{err_from_is_err_and}
use Rattle.std.specs.Result.{IsErrAnd}
use Rattle.std.proofs.lemmas.Option.{slice_get_past, none-some, same_Some}
use Rattle.worker_core.specs.Core.{Core as WorkerState}
use Rattle.cluster_msgs.specs.declared.messages.Message.{Message}
use Rattle.cluster_msgs.specs.declared.cores.SchedEvent.{SchedEvent}
use Rattle.cluster_msgs.specs.declared.events.Asker.{Asker}
use Rattle.cluster_msgs.specs.declared.events.Asker.TheVariants.{Worker, Client}
use Rattle.cluster_msgs.specs.declared.events.Event.TheVariants.{Want, Release, Join, Lose, SeeLoss, DeliverDown, DeliverUp, DeliverToClient, DeliverFromClient, Start, SendGather, ServeGather, ArriveGather, FailGather, Spill, LoseSpilled}
use Rattle.cluster_rules.specs.Sched.{Facts, IsSound, workers}
use Rattle.cluster_rules.specs.SchedTable.{sched_takes}
use Rattle.cluster_rules.specs.SchedStep.{sched_step}
use Rattle.cluster_msgs.specs.Shape.{Shape, key_count}
use Rattle.std.specs.Option.{option_map}
use Rattle.cluster_rules.specs.Derived.{below}
use Rattle.cluster_rules.specs.Inside.{IsKey}
use Rattle.cluster_rules.specs.Worker.{Ask, has_any, would_start, running_count, wstate, is_ready_state, worker_keys}
use Rattle.cluster_rules.proofs.InsideWorker.{found_in, keys_below}
use Rattle.cluster_rules.specs.World.{World, shape_of, is_client, is_asker, is_connected, open_ask}
use Rattle.cluster_rules.specs.Enabled.{are_named, enabled, front}
use Rattle.fact_rows.specs.Rows.{read}
use Rattle.message_queues.specs.Queues.{waiting}
use Rattle.cluster_laws.specs.Blocks.{Cluster}
use Rattle.scheduler_core.specs.Cores.{Core, facts}
use Rattle.cluster_nodes.specs.declared.nodes.Nodes.{Nodes}
use Rattle.cluster_nodes.specs.Kept.{IsNodes, HasSameNodes, HasAsker, TookFew}
use Rattle.cluster_nodes.specs.Nodes.{world_of, cluster_of, workers_of, worker_of, if_alive}
use Rattle.cluster_world.specs.declared.state.State.{State}
use Rattle.cluster_world.specs.Worlds.{world, setting}
use Rattle.cluster_world.specs.Kept.{CoresTookFew, IsJoint, IsSame, IsKept}
use Rattle.cluster_world.specs.Outcomes.{IsTurned}
use Rattle.cluster_laws.proofs.Framed.{joins_by, step_last}
use Rattle.cluster_world.proofs.Telling.{alive_there, alive_is, client_number}

pub on_ok3 : {A E P Q R S : Type 0} (r : Result A E) → (P → Q → R → S) → OnOk r P → OnOk r Q → OnOk r R → OnOk r S
on_ok3 (Ok a) f p q s = f p q s
on_ok3 (Err e) f p q s = tt

pub on_ok4 : {A E P Q R S T : Type 0} (r : Result A E) → (P → Q → R → S → T) → OnOk r P → OnOk r Q → OnOk r R → OnOk r S → OnOk r T
on_ok4 (Ok a) f p q s t = f p q s t
on_ok4 (Err e) f p q s t = tt

-- an answer that is Ok where another one is
pub passed : {A B E F : Type 0} (P : Type 0) (out : Result A E) (r : Result B F) → is_ok out ≡ is_ok r → OnOk r P → OnOk out P
passed P (Ok a) (Ok b) e p = p
passed P (Ok a) (Err x) e p = absurd (false≢true (sym e))
passed P (Err x) r e p = tt

pub took : {B F P : Type 0} (r : Result B F) → true ≡ is_ok r → OnOk r P → P
took (Ok b) e p = p
took (Err x) e p = absurd (false≢true (sym e))

-- what the exit of a `?` returns
pub exits : {T E : Type 0} (P : Type 0) (Q : E → Type 0) (r : Result T E) → IsErrAnd r Q → OnOk r P
exits P Q r h = let p = err_from_is_err_and r h in subst (λ x. OnOk x P) (sym p.1) tt

module _ {J B F : Type 0} where
  pub turned_to : (old new : State J B F) (c d : Cluster B) → c ≡ d → IsTurned old new c → IsTurned old new d
  turned_to old new c d e h = subst (λ x. IsTurned old new x) e h

  pub on_turned : {A E : Type 0} (old new : State J B F) (r : Result A E) (c d : Cluster B) → c ≡ d → OnOk r (IsTurned old new c) → OnOk r (IsTurned old new d)
  on_turned old new (Ok a) c d e h = turned_to old new c d e h
  on_turned old new (Err x) c d e h = tt

  -- the nodes alone changed
  pub nodes_turned : (old : State J B F) → IsJoint old → (n : Nodes B) (to : Facts → Cluster B) → ((f : Facts) → cluster_of f n ≡ to f) → IsNodes n → HasSameNodes old.nodes n → ((b : ℕ) → TookFew b old.nodes → TookFew (b + 1) n) → IsTurned old (record old { nodes = n }) (to (facts old.sched))
  nodes_turned old j n to e k h few = record { cluster = e (facts old.sched); nodes = k; shape = h.shape; workers = h.workers ∙ j.workers; clients = h.clients; more = omega (arith, h.workers); few = λ b f. (few b f.0, omega (arith, f.1)) }

  -- one turn after another
  pub turned_after : (old mid new : State J B F) (c d : Cluster B) → mid.nodes.shape ≡ old.nodes.shape → length mid.nodes.clients.items ≡ length old.nodes.clients.items → length old.nodes.workers.items ≤ length mid.nodes.workers.items → ((b : ℕ) → CoresTookFew b old → CoresTookFew b mid) → c ≡ d → IsTurned mid new c → IsTurned old new d
  turned_after old mid new c d g k l few e t = record { cluster = t.cluster ∙ e; nodes = t.nodes; shape = t.shape ∙ g; workers = t.workers; clients = t.clients ∙ k; more = omega (arith, l, t.more); few = λ b f. t.few b (few b f) }

  pub on_after : {A E : Type 0} (old mid new : State J B F) (r : Result A E) (c d : Cluster B) → mid.nodes.shape ≡ old.nodes.shape → length mid.nodes.clients.items ≡ length old.nodes.clients.items → length old.nodes.workers.items ≤ length mid.nodes.workers.items → ((b : ℕ) → CoresTookFew b old → CoresTookFew b mid) → c ≡ d → OnOk r (IsTurned mid new c) → OnOk r (IsTurned old new d)
  on_after old mid new (Ok a) c d g k l few e t = turned_after old mid new c d g k l few e t
  on_after old mid new (Err x) c d g k l few e t = tt

  pub kept_nodes : (old : State J B F) (n : Nodes B) → IsKept old (record old { nodes = n })
  kept_nodes old n = record { same = record { job = refl; course = refl; events = refl; clients = refl; setting = refl }; feed = refl }

  pub kept_sched : (old : State J B F) (n : Nodes B) (core : Core) → (facts core).setting ≡ setting old → IsKept old (record old { sched = core; nodes = n })
  kept_sched old n core e = record { same = record { job = refl; course = refl; events = refl; clients = refl; setting = e }; feed = refl }

  pub same_both : (old mid new : State J B F) → IsSame old mid → IsSame mid new → IsSame old new
  same_both old mid new k l = record { job = l.job ∙ k.job; course = l.course ∙ k.course; events = l.events ∙ k.events; clients = l.clients ∙ k.clients; setting = l.setting ∙ k.setting }

  pub kept_both : (old mid new : State J B F) → IsKept old mid → IsKept mid new → IsKept old new
  kept_both old mid new k l = record { same = same_both old mid new k.same l.same; feed = l.feed ∙ k.feed }

-- what waits somewhere has its link
waiting_there : {M : Type 0} (of : Message → Option M) (qs : List (List Message)) (i : ℕ) → has_any (filter_map of (waiting qs i)) ≡ true → i < length qs
waiting_there of qs i e = pick (nat_lt i (length qs)) refl
  where
    pick : (b : Bool) → nat_lt i (length qs) ≡ b → i < length qs
    pick true h = ltb-true i (length qs) h
    pick false h = absurd (false≢true (sym (ap (λ l. has_any (filter_map of l)) (get_or_past qs i [] (ltb-false i (length qs) h))) ∙ e))

module _ {J B F : Type 0} (s : State J B F) (j : IsJoint s) where
  abbrev w : World
  w = world s

  -- whom enabled events name
  pub can_want : (x : ℕ) (ks : List ℕ) → enabled w (Want x ks) ≡ true → is_client w x ≡ true
  unfolding enabled
  can_want x ks e = (and_parts (is_client w x) (are_named w ks) e).0

  pub can_release : (x : ℕ) (ks : List ℕ) → enabled w (Release x ks) ≡ true → is_client w x ≡ true
  unfolding enabled
  can_release x ks e = (and_parts (is_client w x) (are_named w ks) e).0

  pub can_lose : (i : ℕ) → enabled w (Lose i) ≡ true → w.alive i ≡ true
  unfolding enabled
  can_lose i e = e

  pub can_see : (i : ℕ) → enabled w (SeeLoss i) ≡ true → is_connected w i ≡ true
  unfolding enabled
  can_see i e = (and_parts _ (is_connected w i) e).1

  pub can_take_down : (i : ℕ) → enabled w (DeliverDown i) ≡ true → w.alive i ≡ true
  unfolding enabled
  can_take_down i e = (and_parts (w.alive i) _ e).0

  pub can_take_up : (i : ℕ) → enabled w (DeliverUp i) ≡ true → i < length s.nodes.workers.items
  unfolding enabled world_of
  can_take_up i e = let h = waiting_there _ s.nodes.up i e in omega (arith, h, j.nodes.sized.up)

  pub has_up : (i : ℕ) → enabled w (DeliverUp i) ≡ true → has_any (w.up i) ≡ true
  unfolding enabled
  has_up i e = e

  pub has_message : (x : ℕ) → enabled w (DeliverFromClient x) ≡ true → has_any (w.from_client x) ≡ true
  unfolding enabled
  has_message x e = e

  pub can_hear : (x : ℕ) → enabled w (DeliverToClient x) ≡ true → is_client w x ≡ true
  unfolding enabled
  can_hear x e = j.orderly.to_client x e

  pub can_be_heard : (x : ℕ) → enabled w (DeliverFromClient x) ≡ true → is_client w x ≡ true
  unfolding enabled
  can_be_heard x e = j.orderly.from_client x e

  pub can_start : (i : ℕ) → enabled w (Start i) ≡ true → (w.alive i ≡ true) × (is_some (would_start (w.workers i)) ≡ true)
  unfolding enabled
  can_start i e = and_parts (w.alive i) _ e

  pub can_send : (a : Asker) (p : ℕ) → enabled w (SendGather a p) ≡ true → is_asker w a ≡ true
  unfolding enabled
  can_send a p e = (and_parts (is_asker w a) _ e).0

  pub can_serve : (p : ℕ) (a : Asker) (n : ℕ) → enabled w (ServeGather p a n) ≡ true → w.alive p ≡ true
  unfolding enabled
  can_serve p a n e = (and_parts (w.alive p) _ e).0

  pub can_arrive : (a : Asker) (p n : ℕ) → enabled w (ArriveGather a p n) ≡ true → is_asker w a ≡ true
  unfolding enabled
  can_arrive a p n e = (and_parts (is_asker w a) _ e).0

  pub can_fail : (a : Asker) (p : ℕ) → enabled w (FailGather a p) ≡ true → (is_asker w a ≡ true) × (is_some (open_ask w a p) ≡ true)
  unfolding enabled
  can_fail a p e = and_parts (is_asker w a) _ e

  pub can_spill : (i k : ℕ) → enabled w (Spill i k) ≡ true → (w.alive i ≡ true) × ((w.workers i).mem k ≡ true)
  unfolding enabled
  can_spill i k e = let p = and_parts (w.alive i) _ e in (p.0, (and_parts ((w.workers i).mem k) _ p.1).0)

  pub can_lose_spilled : (i k : ℕ) → enabled w (LoseSpilled i k) ≡ true → w.alive i ≡ true
  unfolding enabled
  can_lose_spilled i k e = (and_parts (w.alive i) _ e).0

  -- their places
  pub worker_number : (i : ℕ) → w.alive i ≡ true → i < length s.nodes.workers.items
  worker_number i e = alive_there s j.nodes i e

  pub connected_number : IsSound (facts s.sched) → (i : ℕ) → is_connected w i ≡ true → i < length s.nodes.workers.items
  unfolding world_of
  connected_number sound i e = let h = (sound.numbers i e).1 in omega (arith, h, j.workers)

  pub client_place : (x : ℕ) → is_client w x ≡ true → x < length s.nodes.clients.items
  client_place x e = client_number s x j.clients e

  pub asker_place : (a : Asker) → is_asker w a ≡ true → HasAsker s.nodes a
  asker_place (Worker i) e = (alive_there s j.nodes i e, alive_is s i e)
  asker_place (Client x) e = client_place x e

  pub can_join : (threads : ℕ) → enabled w (Join threads) ≡ true → length s.nodes.workers.items ≤ 1024
  unfolding enabled sched_takes world_of
  can_join threads e =
      let n = length (workers (facts s.sched)) in
      let p = (and_parts (nat_le 1 threads && nat_le threads 16) (nat_lt n 64 && nat_lt (facts s.sched).last_worker 1024) e).1 in
      let h = ltb-true (facts s.sched).last_worker 1024 (and_parts (nat_lt n 64) (nat_lt (facts s.sched).last_worker 1024) p).1 in
      omega (arith, h, j.workers)

  -- the nodes are those that the scheduler counts after an event that isn't a join
  pub workers_stay : (e : SchedEvent) → joins_by e ≡ 0 → length s.nodes.workers.items ≡ (sched_step (facts s.sched) e).facts.last_worker + 1
  workers_stay e h = let l = step_last (facts s.sched) e in let n = j.workers in omega (arith, l, h, n)

  -- the number that joins next has no blocks
  pub newcomer : (k : ℕ) → (w.workers (w.sched.last_worker + 1)).mem k ≡ false
  unfolding world_of workers_of
  newcomer k = bare (read s.nodes.alive false n) (slice_get s.nodes.workers.items n) (slice_get_past s.nodes.workers.items n (omega (arith, j.workers)))
    where
      n : ℕ
      n = (facts s.sched).last_worker + 1

      bare : (b : Bool) (o : Option WorkerState) → o ≡ None → (if_alive b (worker_of (setting s).shape n o)).mem k ≡ false
      bare true o e = ap (λ z. (worker_of (setting s).shape n z).mem k) e
      bare false o e = refl

  -- the graph of the world is that of the nodes
  graph_is : shape_of w ≡ s.nodes.shape
  unfolding world_of
  graph_is = sym j.shape

  key_of : (k : ℕ) → IsKey (shape_of w) k → k < key_count s.nodes.shape
  key_of k h = ltb-true k (key_count s.nodes.shape) (subst (λ (g : Shape). nat_lt k (key_count g) ≡ true) graph_is h)

  -- keys that are there
  pub held_key : (i k : ℕ) → (w.workers i).mem k ≡ true → k < key_count s.nodes.shape
  held_key i k e = key_of k ((j.orderly.inside.workers i).mem k e)

  pub start_key : (i k : ℕ) → would_start (w.workers i) ≡ Some k → k < key_count s.nodes.shape
  unfolding would_start
  start_key i k e = key_of k (in_range (nat_lt (running_count (w.workers i)) (w.workers i).threads) e)
    where
      keys : AllByRecursion (IsKey (shape_of w)) (worker_keys (w.workers i))
      keys = subst (λ (g : Shape). AllByRecursion (IsKey (shape_of w)) (below (key_count g))) (sym (j.orderly.inside.workers i).shape) (keys_below (shape_of w))

      in_range : (b : Bool) → cond b (find (λ q. is_ready_state (wstate (w.workers i) q)) (worker_keys (w.workers i))) None ≡ Some k → IsKey (shape_of w) k
      in_range true e = found_in (IsKey (shape_of w)) (λ q. is_ready_state (wstate (w.workers i) q)) (worker_keys (w.workers i)) k e keys
      in_range false e = absurd (none-some k e)

-- an open ask by its number
pub open_there : (o : Option Ask) (n : ℕ) → option_map (λ (a : Ask). a.number) o ≡ Some n → (a : Ask) × (o ≡ Some a) × (a.number ≡ n)
open_there None n e = absurd (none-some n e)
open_there (Some a) n e = (a, refl, same_Some a.number n e)

-- what is under a condition that holds
pub under : {A : Type 0} (b : Bool) (o : Option A) (r : Option A) → r ≡ cond b o None → b ≡ true → o ≡ r
under true o r e h = sym e
under false o r e h = absurd (false≢true h)

pub none_under : (o : Option Ask) → option_map (λ (a : Ask). a.number) o ≡ None → o ≡ None
none_under None e = refl
none_under (Some a) e = absurd (none-some a.number (sym e))

pub is_none_there : {A Q : Type 0} (o : Option A) → o ≡ None → is_some o ≡ true → Q
is_none_there o e h = absurd (false≢true (sym (ap (λ x. is_some x) e) ∙ h))

-- the front of a list, and the rest
pub front_is : {A : Type 0} (m : A) (ms : List A) → Some m ≡ front ms → ms ≡ m ∷ drop 1 ms
front_is m [] e = absurd (none-some m (sym e))
front_is m (x ∷ ms) e = ap (λ y. y ∷ ms) (sym (same_Some m x e))

pub no_front : {A Q : Type 0} (ms : List A) → None ≡ front ms → has_any ms ≡ true → Q
no_front [] e h = absurd (false≢true h)
no_front (x ∷ ms) e h = absurd (none-some x e)
