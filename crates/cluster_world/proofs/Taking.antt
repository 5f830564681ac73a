-- An enabled event is one that the core takes that is handed it, in a world whose cores took no more events than it did.
use Rattle.std.proofs.Common.{◌≡◌, ℕ, ◌<◌, ◌≤◌, Bool, true, false, List, [], ◌∷◌, Option, Some, None, refl, sym, ap, ◌∙◌, subst, arith, drop, is_some}
use Rattle.std.specs.Prelude.{IsSomeAnd}
use Rattle.std.proofs.lemmas.Bool.{false≢true, and_parts}
use Rattle.cluster_msgs.specs.declared.messages.Down.{Down}
use Rattle.cluster_msgs.specs.declared.messages.Up.{Up}
use Rattle.cluster_msgs.specs.declared.messages.ToClient.{ToClient}
use Rattle.cluster_msgs.specs.declared.messages.FromClient.{FromClient as ClientMessage}
use Rattle.cluster_msgs.specs.declared.cores.SchedEvent.TheVariants as sched
use Rattle.cluster_msgs.specs.declared.cores.WorkerEvent.TheVariants as work
use Rattle.cluster_msgs.specs.declared.cores.ClientEvent.TheVariants as client
use Rattle.cluster_msgs.specs.declared.events.Asker.{Asker}
use Rattle.cluster_msgs.specs.declared.events.Asker.TheVariants.{Worker, Client}
use Rattle.cluster_msgs.specs.declared.events.Event.TheVariants.{Want, Release, Join, Suspect, SendGather, Balance, Evict, Replicate, LoseSpilled}
use Rattle.cluster_rules.specs.SchedTable.{sched_takes}
use Rattle.cluster_rules.specs.Worker.{would_start}
use Rattle.cluster_rules.specs.WorkerStep.{worker_takes}
use Rattle.cluster_rules.specs.Client.{client_takes}
use Rattle.cluster_rules.specs.World.{World, Parcel, is_client, is_asker, is_connected, parcel_of}
use Rattle.cluster_rules.specs.Enabled.{are_named, may_ask, enabled, front}
use Rattle.scheduler_core.specs.Cores.{facts}
use Rattle.cluster_nodes.specs.Kept.{TookFew}
use Rattle.cluster_nodes.specs.Nodes.{world_of}
use Rattle.cluster_nodes.specs.Turns.{IsRefusedBy}
use Rattle.cluster_world.specs.declared.state.State.{State}
use Rattle.cluster_world.specs.Worlds.{world}
use Rattle.cluster_rules.specs.Runs.{event_limit}
use Rattle.cluster_world.specs.Kept.{IsJoint}
use Rattle.cluster_world.proofs.Acting.{front_is}
use Rattle.cluster_world.proofs.Orderliness as orderly

module _ {J B F : Type 0} (s : State J B F) (j : IsJoint s) where
  abbrev w : World
  w = world s

  -- a client
  pub takes_want : (x : ℕ) (ks mine : List ℕ) → mine ≡ ks → enabled w (Want x ks) ≡ true → client_takes (w.clients x) (client.Want mine) ≡ true
  unfolding enabled
  takes_want x ks mine m e = subst (λ l. client_takes (w.clients x) (client.Want l) ≡ true) (sym m) (orderly.want_taken w j.orderly x ks (and_parts (is_client w x) (are_named w ks) e).1)

  pub takes_release : (x : ℕ) (ks mine : List ℕ) → mine ≡ ks → enabled w (Release x ks) ≡ true → client_takes (w.clients x) (client.Release mine) ≡ true
  unfolding enabled
  takes_release x ks mine m e = subst (λ l. client_takes (w.clients x) (client.Release l) ≡ true) (sym m) (orderly.release_taken w j.orderly x ks (and_parts (is_client w x) (are_named w ks) e).1)

  pub client_takes_ask : (x p : ℕ) → enabled w (SendGather (Client x) p) ≡ true → client_takes (w.clients x) (client.Ask p) ≡ true
  unfolding enabled client_takes
  client_takes_ask x p e = (and_parts (is_asker w (Client x)) (may_ask w (Client x) p) e).1

  pub client_takes_failure : (x p n : ℕ) → client_takes (w.clients x) (client.GatherFailed p n) ≡ true
  unfolding client_takes
  client_takes_failure x p n = refl

  pub takes_news : (x : ℕ) → IsSomeAnd (front (w.to_client x)) (λ m. client_takes (w.clients x) (client.FromScheduler m) ≡ false) → ⊥
  takes_news x h = by (w.to_client x) refl h
    where
      by : (ms : List ToClient) → w.to_client x ≡ ms → IsSomeAnd (front ms) (λ m. client_takes (w.clients x) (client.FromScheduler m) ≡ false) → ⊥
      by [] e h = h
      by (m ∷ ms) e h = false≢true (sym h ∙ orderly.told_taken w j.orderly x m ms e)

  -- a worker
  pub takes_down : (i : ℕ) → IsSomeAnd (front (w.down i)) (λ m. worker_takes (w.workers i) (work.Down m) ≡ false) → ⊥
  takes_down i h = by (w.down i) refl h
    where
      by : (ms : List Down) → w.down i ≡ ms → IsSomeAnd (front ms) (λ m. worker_takes (w.workers i) (work.Down m) ≡ false) → ⊥
      by [] e h = h
      by (m ∷ ms) e h = false≢true (sym h ∙ orderly.down_taken w j.orderly i m ms e)

  pub takes_start : (i k : ℕ) → would_start (w.workers i) ≡ Some k → worker_takes (w.workers i) work.Start ≡ true
  unfolding worker_takes
  takes_start i k e = ap (λ (o : Option ℕ). is_some o) e

  pub takes_ask : (i p : ℕ) → enabled w (SendGather (Worker i) p) ≡ true → worker_takes (w.workers i) (work.Ask p) ≡ true
  unfolding enabled worker_takes
  takes_ask i p e = (and_parts (is_asker w (Worker i)) (may_ask w (Worker i) p) e).1

  pub takes_failure : (i p n : ℕ) → worker_takes (w.workers i) (work.GatherFailed p n) ≡ true
  unfolding worker_takes
  takes_failure i p n = refl

  pub takes_lost : (i k : ℕ) → enabled w (LoseSpilled i k) ≡ true → worker_takes (w.workers i) (work.DataLost k) ≡ true
  unfolding enabled
  takes_lost i k e = orderly.lost_taken w j.orderly i k (and_parts (w.alive i) (w.spilled i k) e).1

  pub takes_done : (i k : ℕ) (zero : Bool) → (w.workers i).running k ≡ true → worker_takes (w.workers i) (work.Done k zero) ≡ true
  takes_done i k zero e = orderly.done_taken w j.orderly i k zero e

  -- either of them
  pub takes_answer : (a : Asker) (p n : ℕ) → IsSomeAnd (parcel_of a p n w.answers) (λ q. IsRefusedBy w a p n q.keys) → ⊥
  takes_answer a p n h = by (parcel_of a p n w.answers) refl h
    where
      taken : (b : Asker) (q : Parcel) → parcel_of a p n w.answers ≡ Some q → IsRefusedBy w b p n q.keys → ⊥
      taken (Worker i) q e h = false≢true (sym h ∙ orderly.gathered_taken w j.orderly i p n a q e)
      taken (Client x) q e h = false≢true (sym h ∙ orderly.got_taken w j.orderly x p n a q e)

      by : (o : Option Parcel) → parcel_of a p n w.answers ≡ o → IsSomeAnd o (λ q. IsRefusedBy w a p n q.keys) → ⊥
      by None e h = h
      by (Some q) e h = taken a q e h

  -- the scheduler
  pub takes_join : (threads : ℕ) → enabled w (Join threads) ≡ true → sched_takes (facts s.sched) (sched.Join threads) ≡ true
  unfolding enabled world_of
  takes_join threads e = e

  pub takes_leave : (i : ℕ) → is_connected w i ≡ true → sched_takes (facts s.sched) (sched.Leave i) ≡ true
  unfolding sched_takes world_of
  takes_leave i e = e

  pub takes_suspect : (i : ℕ) → enabled w (Suspect i) ≡ true → sched_takes (facts s.sched) (sched.Leave i) ≡ true
  unfolding enabled sched_takes world_of
  takes_suspect i e = e

  pub takes_up : (i : ℕ) (m : Up) → Some m ≡ front (w.up i) → is_connected w i ≡ true → sched_takes (facts s.sched) (sched.FromWorker i m) ≡ true
  unfolding world_of
  takes_up i m e l = orderly.up_taken w j.orderly i m (drop 1 (w.up i)) (front_is m (w.up i) e) l

  pub takes_message : (x : ℕ) (m : ClientMessage) → Some m ≡ front (w.from_client x) → sched_takes (facts s.sched) (sched.FromClient x m) ≡ true
  unfolding world_of
  takes_message x m e = orderly.message_taken w j.orderly x m (drop 1 (w.from_client x)) (front_is m (w.from_client x) e)

  pub takes_balance : enabled w Balance ≡ true → sched_takes (facts s.sched) sched.Balance ≡ true
  unfolding enabled world_of
  takes_balance e = e

  pub takes_evict : enabled w Evict ≡ true → sched_takes (facts s.sched) sched.Evict ≡ true
  unfolding enabled world_of
  takes_evict e = e

  pub takes_replicate : (k i : ℕ) → enabled w (Replicate k i) ≡ true → sched_takes (facts s.sched) (sched.Replicate k i) ≡ true
  unfolding enabled world_of
  takes_replicate k i e = e

  -- while the world may take an event, each core may
  pub has_room : s.events < event_limit → s.sched.taken < event_limit
  has_room r = let h = j.few.1 in omega (arith, r, h)

  pub not_spent : s.events < event_limit → ((n : ℕ) → TookFew n s.nodes → event_limit ≤ n) → ⊥
  not_spent r f = let h = f s.events j.few.0 in omega (arith, r, h)
