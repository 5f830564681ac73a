-- Each event of the world is one event of the scheduler, or leaves the scheduler alone.
use Rattle.std.proofs.Common.{◌≡◌, ℕ, ◌+◌, length, Bool, true, false, cond, not, List, [], ◌∷◌, Option, Some, None, refl, sym, ap, ◌∙◌, subst}
use Rattle.std.specs.Prelude.{nat_lt}
use Rattle.std.specs.List.{list_all, AllByRecursion}
use Rattle.std.specs.Option.{option_map}
use Rattle.std.proofs.lemmas.Bool.{and_parts, and_from}
use Rattle.std.proofs.Math.Nat.{add-zero}
use Rattle.std.proofs.lemmas.Option.{none-some, same_Some}
use Rattle.cluster_msgs.specs.Shape.{Shape, key_count}
use Rattle.cluster_msgs.specs.declared.messages.Down.{Down}
use Rattle.cluster_msgs.specs.declared.messages.Down.TheVariants.{ComputeTask, FreeKeys, StealRequest, RemoveReplicas, AcquireReplicas, RefreshWhoHas}
use Rattle.cluster_msgs.specs.declared.messages.Up.{Up}
use Rattle.cluster_msgs.specs.declared.messages.FromClient.{FromClient as ClientMessage}
use Rattle.cluster_msgs.specs.declared.cores.SchedEvent.{SchedEvent}
use Rattle.cluster_msgs.specs.declared.cores.SchedEvent.TheVariants.{Join as JoinSched, Leave, FromWorker, FromClient, Balance as BalanceSched, Evict as EvictSched, Replicate as ReplicateSched}
use Rattle.cluster_msgs.specs.declared.events.Event.{Event}
use Rattle.cluster_msgs.specs.declared.events.Event.TheVariants.{Want, Release, Join, Lose, SeeLoss, Suspect, DeliverDown, DeliverUp, DeliverToClient, DeliverFromClient, Start, Finish, SendGather, ServeGather, ArriveGather, FailGather, Balance, Evict, Replicate, Spill, LoseSpilled}
use Rattle.cluster_rules.specs.Sched.{Facts, keys, connected, workers}
use Rattle.cluster_rules.specs.SchedTable.{up_keys, client_keys, sched_takes}
use Rattle.cluster_rules.specs.SchedTable.{change}
use Rattle.cluster_rules.specs.Functions.{from_one}
use Rattle.cluster_rules.specs.Derived.{below, is_in}
use Rattle.cluster_rules.specs.SchedStep.{Stages, sched_step, mail, settle, posted, finish_step, place_all, place_keys, drop_bad, drop_has, drop_on, down_messages, fence_after, to_worker}
use Rattle.cluster_rules.proofs.SchedFrame.{IsPlacing, placing_keys, count_to-mail, step_settles}
use Rattle.cluster_laws.proofs.Framed.{change_framed}
use Rattle.cluster_laws.proofs.SchedPart.{sched_after, sched_is}
use Rattle.cluster_rules.specs.Worker.{WorkerFacts, has_any}
use Rattle.cluster_rules.specs.WorkerStep.{takes_down}
use Rattle.cluster_rules.specs.World.{Job, World, shape_of, is_connected, is_client}
use Rattle.cluster_rules.specs.WorldStep.{world_step}
use Rattle.cluster_rules.specs.Enabled.{enabled, front}
use Rattle.cluster_rules.specs.Inside.{IsKey, AreKeys, named_keys, down_keys, IsInsideWorld}
use Rattle.cluster_rules.specs.Runs.{sched_event}
use Rattle.cluster_laws.proofs.OrderLemmas.{mail-down}
use Rattle.cluster_rules.proofs.WorkerLemmas.{in_filter}

-- ## No event changes the setting

setting_after : (f : Facts) (o : Option SchedEvent) → (sched_after f o).setting ≡ f.setting
setting_after f None = refl
setting_after f (Some s) = (step_settles f s).setting ∙ (change_framed f s).setting

pub same_setting : (j : Job) (w : World) (e : Event) → (world_step j w e).sched.setting ≡ w.sched.setting
same_setting j w e = ap (λ (f : Facts). f.setting) (sched_is j w e) ∙ setting_after w.sched (sched_event w e)

-- ## Whoever is handed an enabled event takes it

-- keys of the graph are keys of whoever has that graph
pub keys_there : (g s : Shape) → s ≡ g → (ks : List ℕ) → AreKeys g ks → list_all (λ k. nat_lt k (key_count s)) ks ≡ true
keys_there g s e [] h = refl
keys_there g s e (k ∷ ks) h = and_from _ _ (subst (λ (x : Shape). nat_lt k (key_count x) ≡ true) (sym e) h.0) (keys_there g s e ks h.1)

named_there : (g s : Shape) → s ≡ g → (who : List (ℕ × List (ℕ × ℕ))) → AreKeys g (named_keys who) → list_all (λ (p : ℕ × List (ℕ × ℕ)). nat_lt p.0 (key_count s)) who ≡ true
named_there g s e [] h = refl
named_there g s e (p ∷ ps) h = and_from _ _ (subst (λ (x : Shape). nat_lt p.0 (key_count x) ≡ true) (sym e) h.0) (named_there g s e ps h.1)

pub key_there : (g s : Shape) → s ≡ g → (k : ℕ) → IsKey g k → nat_lt k (key_count s) ≡ true
key_there g s e k h = subst (λ (x : Shape). nat_lt k (key_count x) ≡ true) (sym e) h

pub down_there : (g : Shape) (w : WorkerFacts) → w.shape ≡ g → (m : Down) → AreKeys g (down_keys m) → takes_down w m ≡ true
down_there g w e (ComputeTask k a who) h = and_from _ _ (key_there g w.shape e k h.0) (named_there g w.shape e who h.1)
down_there g w e (FreeKeys ks) h = keys_there g w.shape e ks h
down_there g w e (StealRequest k a) h = key_there g w.shape e k h.0
down_there g w e (RemoveReplicas ks) h = keys_there g w.shape e ks h
down_there g w e (AcquireReplicas who) h = named_there g w.shape e who h
down_there g w e (RefreshWhoHas who) h = named_there g w.shape e who h

module _ (g : Shape) (w : World) (h : IsInsideWorld g w) where
  pub up_taken : (i : ℕ) (m : Up) (ms : List Up) → w.up i ≡ m ∷ ms → connected w.sched i ≡ true → sched_takes w.sched (FromWorker i m) ≡ true
  unfolding sched_takes
  up_taken i m ms e l = and_from _ _ l (keys_there g (shape_of w) h.shape (up_keys m) (subst (λ l. AllByRecursion (λ m. AreKeys g (up_keys m)) l) e (h.up i)).0)

  pub letter_taken : (c : ℕ) (m : ClientMessage) (ms : List ClientMessage) → w.from_client c ≡ m ∷ ms → is_client w c ≡ true → sched_takes w.sched (FromClient c m) ≡ true
  unfolding sched_takes
  letter_taken c m ms e l = and_from _ _ l (keys_there g (shape_of w) h.shape (client_keys m) (subst (λ l. AllByRecursion (λ m. AreKeys g (client_keys m)) l) e (h.from_client c)).0)

  up_event : (i : ℕ) (s : SchedEvent) (ms : List Up) (b : Bool) → w.up i ≡ ms → is_connected w i ≡ b → cond b (option_map (λ m. FromWorker i m) (front ms)) None ≡ Some s → sched_takes w.sched s ≡ true
  up_event i s [] true u c e = absurd (none-some s e)
  up_event i s (m ∷ ms) true u c e = subst (λ x. sched_takes w.sched x ≡ true) (same_Some (FromWorker i m) s e) (up_taken i m ms u c)
  up_event i s ms false u c e = absurd (none-some s e)

  letter_event : (c : ℕ) (s : SchedEvent) (ms : List ClientMessage) → w.from_client c ≡ ms → ((m : ClientMessage) (ns : List ClientMessage) → ms ≡ m ∷ ns → is_client w c ≡ true) → option_map (λ m. FromClient c m) (front ms) ≡ Some s → sched_takes w.sched s ≡ true
  letter_event c s [] u l e = absurd (none-some s e)
  letter_event c s (m ∷ ms) u l e = subst (λ x. sched_takes w.sched x ≡ true) (same_Some (FromClient c m) s e) (letter_taken c m ms u (l m ms refl))

  pub event_taken : ((c : ℕ) → has_any (w.from_client c) ≡ true → is_client w c ≡ true) → (e : Event) (s : SchedEvent) → enabled w e ≡ true → sched_event w e ≡ Some s → sched_takes w.sched s ≡ true
  unfolding enabled sched_takes
  event_taken l (Join threads) s t e = subst (λ x. sched_takes w.sched x ≡ true) (same_Some (JoinSched threads) s e) t
  event_taken l (SeeLoss i) s t e = subst (λ x. sched_takes w.sched x ≡ true) (same_Some (Leave i) s e) (and_parts (not (w.alive i)) (is_connected w i) t).1
  event_taken l (Suspect i) s t e = subst (λ x. sched_takes w.sched x ≡ true) (same_Some (Leave i) s e) t
  event_taken l (DeliverUp i) s t e = up_event i s (w.up i) (is_connected w i) refl refl e
  event_taken l (DeliverFromClient c) s t e = letter_event c s (w.from_client c) refl (λ m ms q. l c t) e
  event_taken l Balance s t e = subst (λ x. sched_takes w.sched x ≡ true) (same_Some BalanceSched s e) t
  event_taken l Evict s t e = subst (λ x. sched_takes w.sched x ≡ true) (same_Some EvictSched s e) t
  event_taken l (Replicate k i) s t e = subst (λ x. sched_takes w.sched x ≡ true) (same_Some (ReplicateSched k i) s e) t
  event_taken l (Want c ks) s t e = absurd (none-some s e)
  event_taken l (Release c ks) s t e = absurd (none-some s e)
  event_taken l (Lose i) s t e = absurd (none-some s e)
  event_taken l (DeliverDown i) s t e = absurd (none-some s e)
  event_taken l (DeliverToClient c) s t e = absurd (none-some s e)
  event_taken l (Start i) s t e = absurd (none-some s e)
  event_taken l (Finish i k) s t e = absurd (none-some s e)
  event_taken l (SendGather a p) s t e = absurd (none-some s e)
  event_taken l (ServeGather p a n) s t e = absurd (none-some s e)
  event_taken l (ArriveGather a p n) s t e = absurd (none-some s e)
  event_taken l (FailGather a p) s t e = absurd (none-some s e)
  event_taken l (Spill i k) s t e = absurd (none-some s e)
  event_taken l (LoseSpilled i k) s t e = absurd (none-some s e)

-- ## A worker that isn't connected gets no message

pub nothing_posted : (f : Facts) (s : SchedEvent) (i : ℕ) → connected (sched_step f s).facts i ≡ false → mail i (sched_step f s).down ≡ []
unfolding sched_step finish_step settle posted place_all
nothing_posted f s i e = mail-down t i ∙ ap (λ b. cond b (mail i (to_worker t i)) []) (none (is_in i (workers t.placed)) refl)
  where
    t : Stages
    t = settle f (change f s)

    none : (b : Bool) → is_in i (workers t.placed) ≡ b → b ≡ false
    none true h = sym (in_filter (connected t.placed) (from_one t.placed.last_worker) i h) ∙ e
    none false h = refl

pub nothing_sent : (f : Facts) (s : SchedEvent) (i : ℕ) → connected (sched_step f s).facts i ≡ false → ((sched_step f s).facts.sent i ≡ f.sent i) × ((k : ℕ) → (sched_step f s).facts.fence i k ≡ f.fence i k)
unfolding sched_step finish_step settle posted place_all drop_bad drop_has drop_on
nothing_sent f s i e = (
  ap (λ n. t.placed.sent i + n) (count_to-mail i (down_messages t) ∙ ap length none) ∙ add-zero (t.placed.sent i) ∙ ap (λ (x : ℕ → ℕ). x i) sent,
  λ k. ap (λ ms. fence_after k (t.placed.sent i) ms (t.placed.fence i k)) none ∙ ap (λ (x : ℕ → ℕ → ℕ). x i k) fence,
)
  where
    o : Facts
    o = drop_on (drop_has (drop_bad (change f s).facts))

    t : Stages
    t = settle f (change f s)

    p0 : IsPlacing o (place_keys o (below (keys o)))
    p0 = placing_keys o (below (keys o))

    sent : t.placed.sent ≡ f.sent
    sent = p0.sent ∙ (change_framed f s).sent

    fence : t.placed.fence ≡ f.fence
    fence = p0.fence ∙ (change_framed f s).fence

    none : mail i (down_messages t) ≡ []
    none = nothing_posted f s i e
