-- A world stays orderly, and in an orderly world whoever is handed an enabled event takes it.
use Rattle.std.proofs.Common.{◌≡◌, ℕ, ◌+◌, Bool, true, false, List, [], ◌∷◌, Some, refl, sym, ap, subst}
use Rattle.std.specs.Prelude.{nat_lt}
use Rattle.std.specs.List.{list_all, AllByRecursion}
use Rattle.std.proofs.lemmas.Bool.{false≢true, and_from, and_parts}
use Rattle.cluster_msgs.specs.Shape.{Shape, IsShape, key_count}
use Rattle.cluster_msgs.specs.declared.messages.Down.{Down}
use Rattle.cluster_msgs.specs.declared.messages.Up.{Up}
use Rattle.cluster_msgs.specs.declared.messages.ToClient.{ToClient}
use Rattle.cluster_msgs.specs.declared.messages.ToClient.TheVariants.{KeyInMemory, LostData, ClientTaskErred}
use Rattle.cluster_msgs.specs.declared.messages.FromClient.{FromClient as ClientMessage}
use Rattle.cluster_msgs.specs.declared.cores.SchedEvent.TheVariants.{FromWorker, FromClient}
use Rattle.cluster_msgs.specs.declared.cores.WorkerEvent.TheVariants.{Down as Told, Done, Gathered, DataLost}
use Rattle.cluster_msgs.specs.declared.cores.ClientEvent.TheVariants.{Want as WantKeys, Release as ReleaseKeys, FromScheduler, Gathered as ClientGathered}
use Rattle.cluster_msgs.specs.declared.events.Asker.{Asker}
use Rattle.cluster_msgs.specs.declared.events.Event.{Event}
use Rattle.cluster_rules.specs.Sched.{Setting, connected}
use Rattle.cluster_rules.specs.SchedTable.{up_keys, client_keys, sched_takes}
use Rattle.cluster_rules.specs.Worker.{has_any}
use Rattle.cluster_rules.specs.WorkerStep.{worker_takes}
use Rattle.cluster_rules.specs.Client.{ClientFacts, are_client_keys, can_hear, client_takes}
use Rattle.cluster_rules.specs.World.{Job, World, Parcel, opening, shape_of, is_parcel, parcel_of}
use Rattle.cluster_rules.specs.Enabled.{are_named, enabled}
use Rattle.cluster_rules.specs.Inside.{AreKeys, named_keys, down_keys, news_keys, IsInsideWorld}
use Rattle.cluster_rules.proofs.InsideSched.{all_found}
use Rattle.cluster_laws.specs.Moves.{world_after}
use Rattle.cluster_world.specs.Orderly.{IsOrderly}
use Rattle.cluster_laws.proofs.InsideWorld.{inside_after}
use Rattle.cluster_world.proofs.Spills.{held_after}
use Rattle.cluster_world.proofs.Letters.{addressed_after}
use Rattle.safety_laws.proofs.Turns.{same_setting}
use Rattle.safety_laws.proofs.Turns.{keys_there, key_there, down_there}

pub orderly_opening : (j : Job) → IsOrderly (opening j)
orderly_opening j = record {
  inside = record {
    shape = refl;
    workers = λ i. record { shape = refl; mem = λ k e. absurd (false≢true e); running = λ k e. absurd (false≢true e); asks = tt };
    clients = λ c. record { shape = refl; asks = tt };
    spilled = λ i k e. absurd (false≢true e);
    down = λ i. tt;
    up = λ i. tt;
    to_client = λ c. tt;
    from_client = λ c. tt;
    requests = tt;
    answers = tt;
  };
  spilled = λ i k e. absurd (false≢true e);
  to_client = λ c e. absurd (false≢true e);
  from_client = λ c e. absurd (false≢true e);
}

-- where nothing is spilled at the number that joins next
pub orderly_after : (met : Bool) (w : World) (e : Event) → IsShape (shape_of w) → enabled w e ≡ true → ((k : ℕ) → w.spilled (w.sched.last_worker + 1) k ≡ false) → IsOrderly w → IsOrderly (world_after met w e)
orderly_after met w e low t bare h =
    let same = same_setting (record { setting = w.sched.setting; zero = λ k. met }) w e in
    let go = addressed_after met w e t h.to_client h.from_client in
    record {
      inside = subst (λ (s : Setting). IsInsideWorld s.shape (world_after met w e)) (sym same) (inside_after met w e low t h.inside);
      spilled = held_after met w e t bare h.spilled;
      to_client = go.0;
      from_client = go.1;
    }

named_there : (g s : Shape) → s ≡ g → (who : List (ℕ × List (ℕ × ℕ))) → AreKeys g (named_keys who) → list_all (λ (p : ℕ × List (ℕ × ℕ)). nat_lt p.0 (key_count s)) who ≡ true
named_there g s e [] h = refl
named_there g s e (p ∷ ps) h = and_from _ _ (subst (λ (x : Shape). nat_lt p.0 (key_count x) ≡ true) (sym e) h.0) (named_there g s e ps h.1)

hear_there : (g : Shape) (c : ClientFacts) → c.shape ≡ g → (m : ToClient) → AreKeys g (news_keys m) → can_hear c m ≡ true
hear_there g c e (KeyInMemory k holders) h = keys_there g c.shape e (k ∷ []) h
hear_there g c e (LostData k) h = keys_there g c.shape e (k ∷ []) h
hear_there g c e (ClientTaskErred k blame) h = keys_there g c.shape e (k ∷ blame ∷ []) h

module _ (w : World) (h : IsOrderly w) where
  -- workers
  pub down_taken : (i : ℕ) (m : Down) (ms : List Down) → w.down i ≡ m ∷ ms → worker_takes (w.workers i) (Told m) ≡ true
  unfolding worker_takes
  down_taken i m ms e = down_there (shape_of w) (w.workers i) (h.inside.workers i).shape m (subst (λ l. AllByRecursion (λ m. AreKeys (shape_of w) (down_keys m)) l) e (h.inside.down i)).0

  pub done_taken : (i k : ℕ) (z : Bool) → (w.workers i).running k ≡ true → worker_takes (w.workers i) (Done k z) ≡ true
  unfolding worker_takes
  done_taken i k z e = and_from _ _ (key_there (shape_of w) (w.workers i).shape (h.inside.workers i).shape k ((h.inside.workers i).running k e)) e

  pub lost_taken : (i k : ℕ) → w.spilled i k ≡ true → worker_takes (w.workers i) (DataLost k) ≡ true
  unfolding worker_takes
  lost_taken i k e = and_from _ _ (key_there (shape_of w) (w.workers i).shape (h.inside.workers i).shape k (h.inside.spilled i k e)) (h.spilled i k e)

  answer_keys : (a : Asker) (p n : ℕ) (q : Parcel) → parcel_of a p n w.answers ≡ Some q → AreKeys (shape_of w) q.keys
  answer_keys a p n q e = all_found (λ (q : Parcel). AreKeys (shape_of w) q.keys) (is_parcel a p n) w.answers q e h.inside.answers

  pub gathered_taken : (i p n : ℕ) (a : Asker) (q : Parcel) → parcel_of a p n w.answers ≡ Some q → worker_takes (w.workers i) (Gathered p n q.keys) ≡ true
  unfolding worker_takes
  gathered_taken i p n a q e = keys_there (shape_of w) (w.workers i).shape (h.inside.workers i).shape q.keys (answer_keys a p n q e)

  -- clients
  pub told_taken : (c : ℕ) (m : ToClient) (ms : List ToClient) → w.to_client c ≡ m ∷ ms → client_takes (w.clients c) (FromScheduler m) ≡ true
  unfolding client_takes
  told_taken c m ms e = hear_there (shape_of w) (w.clients c) (h.inside.clients c).shape m (subst (λ l. AllByRecursion (λ m. AreKeys (shape_of w) (news_keys m)) l) e (h.inside.to_client c)).0

  named_keys_there : (c : ℕ) (ks : List ℕ) → are_named w ks ≡ true → are_client_keys (w.clients c) ks ≡ true
  named_keys_there c ks e = subst (λ (s : Shape). list_all (λ k. nat_lt k (key_count s)) ks ≡ true) (sym (h.inside.clients c).shape) (and_parts (has_any ks) _ e).1

  pub want_taken : (c : ℕ) (ks : List ℕ) → are_named w ks ≡ true → client_takes (w.clients c) (WantKeys ks) ≡ true
  unfolding client_takes
  want_taken c ks e = named_keys_there c ks e

  pub release_taken : (c : ℕ) (ks : List ℕ) → are_named w ks ≡ true → client_takes (w.clients c) (ReleaseKeys ks) ≡ true
  unfolding client_takes
  release_taken c ks e = named_keys_there c ks e

  pub got_taken : (c p n : ℕ) (a : Asker) (q : Parcel) → parcel_of a p n w.answers ≡ Some q → client_takes (w.clients c) (ClientGathered p n q.keys) ≡ true
  unfolding client_takes
  got_taken c p n a q e = keys_there (shape_of w) (w.clients c).shape (h.inside.clients c).shape q.keys (answer_keys a p n q e)

  -- the scheduler
  pub up_taken : (i : ℕ) (m : Up) (ms : List Up) → w.up i ≡ m ∷ ms → connected w.sched i ≡ true → sched_takes w.sched (FromWorker i m) ≡ true
  unfolding sched_takes
  up_taken i m ms e l = and_from _ _ l (keys_there (shape_of w) (shape_of w) refl (up_keys m) (subst (λ l. AllByRecursion (λ m. AreKeys (shape_of w) (up_keys m)) l) e (h.inside.up i)).0)

  pub message_taken : (c : ℕ) (m : ClientMessage) (ms : List ClientMessage) → w.from_client c ≡ m ∷ ms → sched_takes w.sched (FromClient c m) ≡ true
  unfolding sched_takes
  message_taken c m ms e = and_from _ _ (h.from_client c (ap has_any e)) (keys_there (shape_of w) (shape_of w) refl (client_keys m) (subst (λ l. AllByRecursion (λ m. AreKeys (shape_of w) (client_keys m)) l) e (h.inside.from_client c)).0)
