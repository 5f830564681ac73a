-- Each progress event of a calm world lowers the measure.
use Rattle.std.proofs.Common.{◌≡◌, ℕ, ◌<◌, ◌≤◌, Bool, true, false, not, List, [], ◌∷◌, refl, sym, subst, arith, ⊎_elim, filter, map}
use Rattle.std.specs.List.{Contains, AllByRecursion, flat_map}
use Rattle.std.proofs.lemmas.List.Elements.{Contains-append_cases}
use Rattle.std.proofs.lemmas.Bool.{false≢true, and_parts, and_from}
use Rattle.small_facts.proofs.Every.{all_weaker}
use Rattle.cluster_msgs.specs.Shape.{key_count}
use Rattle.cluster_msgs.specs.declared.messages.Down.{Down}
use Rattle.cluster_msgs.specs.declared.messages.Down.TheVariants.{ComputeTask, FreeKeys, StealRequest, RemoveReplicas, AcquireReplicas, RefreshWhoHas}
use Rattle.cluster_msgs.specs.declared.events.Asker.{Asker}
use Rattle.cluster_msgs.specs.declared.events.Asker.TheVariants.{Worker, Client}
use Rattle.cluster_msgs.specs.declared.events.Event.{Event}
use Rattle.cluster_msgs.specs.declared.events.Event.TheVariants.{SeeLoss, DeliverDown, DeliverUp, DeliverToClient, DeliverFromClient, Start, Finish, SendGather, ServeGather, ArriveGather, FailGather}
use Rattle.cluster_rules.specs.Derived.{below}
use Rattle.cluster_rules.specs.Sched.{deps}
use Rattle.cluster_rules.specs.Worker.{has_any}
use Rattle.cluster_rules.specs.World.{Job, World, Parcel, shape_of, all_workers, all_clients, is_connected, is_client, is_asker, same_asker}
use Rattle.cluster_rules.specs.WorldStep.{world_step}
use Rattle.cluster_rules.specs.Enabled.{enabled, progress, progress_kinds, connected_workers, quiet_askers, is_quiet_asker}
use Rattle.cluster_rules.proofs.Members.{filter_from, flat_map_from, map_from, range_from}
use Rattle.cluster_rules.proofs.ChoiceLemmas.{contains_cases, contains_none}
use Rattle.cluster_rules.specs.Inside.{IsInsideWorld}
use Rattle.safety_laws.proofs.Joint.{IsJoint}
use Rattle.safety_laws.proofs.Lively.{same_asker_is}
use Rattle.quiet_measure.specs.Measure.{Falls}
use Rattle.quiet_measure.specs.Turns.{IsKeptAsker, IsFirst, NamesOthers, NamesDeps, IsVainInTime, MayGather, next_ask_of}
use Rattle.quiet_measure.proofs.News.{deliver_to_client_falls}
use Rattle.quiet_measure.proofs.Start.{start_falls}
use Rattle.quiet_measure.proofs.Finish.{finish_falls}
use Rattle.quiet_measure.proofs.Asked.{deliver_steal_request_falls}
use Rattle.quiet_laws.proofs.Every.{up_falls, letter_falls}
use Rattle.quiet_laws.proofs.SeenLoss.{see_loss_falls}
use Rattle.std.specs.Prelude.{nat_le}
use Rattle.quiet_laws.specs.Calm.{GivesUpBefore, IsCalm}
use Rattle.quiet_laws.proofs.Serve.{serve_gather_falls}
use Rattle.quiet_measure.proofs.Freed.{free_falls}
use Rattle.quiet_measure.proofs.Listed.{refresh_falls, acquire_falls}
use Rattle.quiet_measure.proofs.Removed.{remove_falls}
use Rattle.quiet_measure.proofs.Given.{task_falls}
use Rattle.quiet_measure.proofs.Gathers.{send_falls, arrive_falls, fail_falls}

module _ (j : Job) (w : World) (joint : IsJoint j w) (calm : IsCalm w) where
  inside : IsInsideWorld (shape_of w) w
  inside = subst (λ g. IsInsideWorld g w) (sym joint.inside.shape) joint.inside

  first : (i : ℕ) (m : Down) (ms : List Down) → w.down i ≡ m ∷ ms → w.alive i ≡ true → is_connected w i ≡ true → IsFirst w i m ms
  first i m ms e alive there = record { first = e; sound = joint.sound; inside = inside; kept = joint.home.kept i alive; id = calm.asks.ids i alive; there = there; alive = alive }

  down : (i : ℕ) → is_connected w i ≡ true → enabled w (DeliverDown i) ≡ true → Falls w (world_step j w (DeliverDown i))
  unfolding enabled
  down i there t = by (w.down i) refl (and_parts (w.alive i) (has_any (w.down i)) t).1
    where
      alive : w.alive i ≡ true
      alive = (and_parts (w.alive i) (has_any (w.down i)) t).0

      others : (m : Down) (ms : List Down) → w.down i ≡ m ∷ ms → NamesOthers i m
      others m ms e = (subst (λ l. AllByRecursion (NamesOthers i) l) e (calm.others i alive there)).0

      whole : (m : Down) (ms : List Down) → w.down i ≡ m ∷ ms → NamesDeps (deps w.sched) m
      whole m ms e = (subst (λ l. AllByRecursion (NamesDeps (deps w.sched)) l) e (calm.whole i alive there)).0

      vain : (m : Down) (ms : List Down) → w.down i ≡ m ∷ ms → IsVainInTime w i m
      vain m ms e k q v d = (subst (λ l. GivesUpBefore k q ((w.workers i).mem q, (w.workers i).mine q) l) e (calm.vain i k q alive there d)).0 v

      by : (l : List Down) → w.down i ≡ l → has_any l ≡ true → Falls w (world_step j w (DeliverDown i))
      by [] e h = absurd (false≢true h)
      by (ComputeTask k a who ∷ ms) e h = task_falls j w i k a who ms (first i (ComputeTask k a who) ms e alive there) (whole (ComputeTask k a who) ms e)
      by (FreeKeys ks ∷ ms) e h = free_falls j w i ks ms (first i (FreeKeys ks) ms e alive there)
      by (StealRequest k a ∷ ms) e h = deliver_steal_request_falls j w i k a ms e joint.sound (joint.home.kept i alive) there alive
      by (RemoveReplicas ks ∷ ms) e h = remove_falls j w i ks ms (first i (RemoveReplicas ks) ms e alive there)
      by (AcquireReplicas who ∷ ms) e h = acquire_falls j w i who ms (first i (AcquireReplicas who) ms e alive there)
      by (RefreshWhoHas who ∷ ms) e h = refresh_falls j w i who ms (first i (RefreshWhoHas who) ms e alive there) (others (RefreshWhoHas who) ms e) (vain (RefreshWhoHas who) ms e)

  up : (i : ℕ) → is_connected w i ≡ true → enabled w (DeliverUp i) ≡ true → Falls w (world_step j w (DeliverUp i))
  unfolding enabled
  up i there t = up_falls j w joint calm.old calm.fenced i there t

  letter : (c : ℕ) → enabled w (DeliverFromClient c) ≡ true → Falls w (world_step j w (DeliverFromClient c))
  unfolding enabled
  letter c t = letter_falls j w joint calm.old calm.fenced c t

  gathers : (a : Asker) → is_asker w a ≡ true → is_quiet_asker w a ≡ true → MayGather w a
  gathers a alive quiet = record {
    sound = joint.sound;
    inside = inside;
    kept = kept a alive;
    quiet = quiet;
    fresh = all_weaker (λ (q : Parcel). q.ask < next_ask_of w q.asker) (λ (q : Parcel). same_asker q.asker a ≡ true → q.ask < next_ask_of w a) (λ q l s. subst (λ b. q.ask < next_ask_of w b) (same_asker_is q.asker a s) l) w.answers calm.asks.answered;
    differ = calm.asks.differ a;
    some = λ p q e. calm.asks.some a p q e;
  }
    where
      kept : (a : Asker) → is_asker w a ≡ true → IsKeptAsker w a
      kept (Worker i) t = joint.home.kept i t
      kept (Client c) t = tt

  quiet_from : (a : Asker) → Contains (quiet_askers w) a → is_quiet_asker w a ≡ true
  quiet_from a m = ⊎_elim
      (λ l. let p = map_from (λ i. Worker i) (connected_workers w) a l in subst (λ b. is_quiet_asker w b ≡ true) p.2 (filter_from (is_connected w) (all_workers w) p.0 p.1).1)
      (λ l. let p = map_from (λ c. Client c) (all_clients w) a l in subst (λ b. is_quiet_asker w b ≡ true) p.2 refl)
      (Contains-append_cases (map (λ i. Worker i) (connected_workers w)) (map (λ c. Client c) (all_clients w)) a m)

  send : (a : Asker) (p : ℕ) → is_quiet_asker w a ≡ true → enabled w (SendGather a p) ≡ true → Falls w (world_step j w (SendGather a p))
  unfolding enabled
  send a p q t = send_falls j w a p (gathers a (and_parts (is_asker w a) _ t).0 q) t

  arrive : (a : Asker) (p n : ℕ) → is_quiet_asker w a ≡ true → enabled w (ArriveGather a p n) ≡ true → Falls w (world_step j w (ArriveGather a p n))
  unfolding enabled
  arrive a p n q t = arrive_falls j w a p n (gathers a (and_parts (is_asker w a) _ t).0 q) t

  fail : (a : Asker) (p : ℕ) → is_quiet_asker w a ≡ true → not (w.alive p) ≡ true → enabled w (FailGather a p) ≡ true → Falls w (world_step j w (FailGather a p))
  unfolding enabled
  fail a p q d t = fail_falls j w a p (gathers a (and_parts (is_asker w a) _ t).0 q) (flip (w.alive p) d) t
    where
      flip : (b : Bool) → not b ≡ true → b ≡ false
      flip true e = absurd (false≢true e)
      flip false e = refl

  see : (i : ℕ) → enabled w (SeeLoss i) ≡ true → Falls w (world_step j w (SeeLoss i))
  unfolding enabled
  see i t = let p = and_parts (not (w.alive i)) (is_connected w i) t in see_loss_falls j w joint calm.old calm.fenced i (flip (w.alive i) p.0) p.1
    where
      flip : (b : Bool) → not b ≡ true → b ≡ false
      flip true e = absurd (false≢true e)
      flip false e = refl

  begin : (i : ℕ) → is_connected w i ≡ true → enabled w (Start i) ≡ true → Falls w (world_step j w (Start i))
  unfolding enabled
  begin i there t = start_falls j w i joint.sound (joint.home.kept i (and_parts (w.alive i) _ t).0) there t

  finish : (i k : ℕ) → is_connected w i ≡ true → k < key_count (shape_of w) → enabled w (Finish i k) ≡ true → Falls w (world_step j w (Finish i k))
  unfolding enabled
  finish i k there l t = finish_falls j w i k joint.sound (joint.home.kept i (and_parts (w.alive i) _ t).0) there (subst (λ g. k < key_count g) (sym (inside.workers i).shape) l) t

  connected_of : (i : ℕ) → Contains (connected_workers w) i → is_connected w i ≡ true
  connected_of i m = (filter_from (is_connected w) (all_workers w) i m).1

  client_of : (c : ℕ) → Contains (all_clients w) c → is_client w c ≡ true
  client_of c m = let r = range_from 1 w.sched.setting.clients c m in and_from (nat_le 1 c) (nat_le c w.sched.setting.clients) (le_true 1 c r.0) (le_true c w.sched.setting.clients (let z = r.1 in omega (arith, z)))
    where
      le_true : (n m : ℕ) → n ≤ m → nat_le n m ≡ true
      le_true n m l = grind (arith, l)

  abbrev L1 : List Event
  L1 = map (λ i. SeeLoss i) (all_workers w)

  abbrev L2 : List Event
  L2 = map (λ i. DeliverDown i) (connected_workers w)

  abbrev L3 : List Event
  L3 = map (λ i. DeliverUp i) (connected_workers w)

  abbrev L4 : List Event
  L4 = map (λ c. DeliverToClient c) (all_clients w)

  abbrev L5 : List Event
  L5 = map (λ c. DeliverFromClient c) (all_clients w)

  abbrev L6 : List Event
  L6 = map (λ i. Start i) (connected_workers w)

  abbrev L7 : List Event
  L7 = flat_map (λ i. map (λ k. Finish i k) (below (key_count (shape_of w)))) (connected_workers w)

  abbrev L8 : List Event
  L8 = flat_map (λ a. map (λ p. SendGather a p) (all_workers w)) (quiet_askers w)

  abbrev L9 : List Event
  L9 = map (λ (q : Parcel). ServeGather q.peer q.asker q.ask) w.requests

  abbrev L10 : List Event
  L10 = map (λ (q : Parcel). ArriveGather q.asker q.peer q.ask) (filter (λ q. is_quiet_asker w q.asker) w.answers)

  abbrev L11 : List Event
  L11 = flat_map (λ a. map (λ p. FailGather a p) (filter (λ p. not (w.alive p)) (all_workers w))) (quiet_askers w)

  abbrev R11 : List (List Event)
  R11 = L11 ∷ []

  abbrev R10 : List (List Event)
  R10 = L10 ∷ R11

  abbrev R9 : List (List Event)
  R9 = L9 ∷ R10

  abbrev R8 : List (List Event)
  R8 = L8 ∷ R9

  abbrev R7 : List (List Event)
  R7 = L7 ∷ R8

  abbrev R6 : List (List Event)
  R6 = L6 ∷ R7

  abbrev R5 : List (List Event)
  R5 = L5 ∷ R6

  abbrev R4 : List (List Event)
  R4 = L4 ∷ R5

  abbrev R3 : List (List Event)
  R3 = L3 ∷ R4

  abbrev R2 : List (List Event)
  R2 = L2 ∷ R3

  abbrev R1 : List (List Event)
  R1 = L1 ∷ R2

  abbrev Goal : Event → Type 0
  Goal e = enabled w e ≡ true → Falls w (world_step j w e)

  go : (f e : Event) → f ≡ e → Goal f → Goal e
  go f e q g = subst Goal q g

  split : (x : List Event) (xs : List (List Event)) (es : List Event) (e : Event) → Contains (x ∷ xs) es → Contains es e → (Contains x e → Goal e) → (Contains xs es → Goal e) → Goal e
  split x xs es e m c f g = ⊎_elim (λ q. f (subst (λ l. Contains l e) (sym q) c)) g (contains_cases x xs es m)

  in1 : (e : Event) → Contains L1 e → Goal e
  in1 e m = let s = map_from (λ i. SeeLoss i) (all_workers w) e m in go (SeeLoss s.0) e s.2 (see s.0)

  in2 : (e : Event) → Contains L2 e → Goal e
  in2 e m = let s = map_from (λ i. DeliverDown i) (connected_workers w) e m in go (DeliverDown s.0) e s.2 (down s.0 (connected_of s.0 s.1))

  in3 : (e : Event) → Contains L3 e → Goal e
  in3 e m = let s = map_from (λ i. DeliverUp i) (connected_workers w) e m in go (DeliverUp s.0) e s.2 (up s.0 (connected_of s.0 s.1))

  in4 : (e : Event) → Contains L4 e → Goal e
  in4 e m = let s = map_from (λ c. DeliverToClient c) (all_clients w) e m in go (DeliverToClient s.0) e s.2 (λ t. deliver_to_client_falls j w s.0 t (client_of s.0 s.1))

  in5 : (e : Event) → Contains L5 e → Goal e
  in5 e m = let s = map_from (λ c. DeliverFromClient c) (all_clients w) e m in go (DeliverFromClient s.0) e s.2 (letter s.0)

  in6 : (e : Event) → Contains L6 e → Goal e
  in6 e m = let s = map_from (λ i. Start i) (connected_workers w) e m in go (Start s.0) e s.2 (begin s.0 (connected_of s.0 s.1))

  in7 : (e : Event) → Contains L7 e → Goal e
  in7 e m = let r = flat_map_from (λ i. map (λ k. Finish i k) (below (key_count (shape_of w)))) (connected_workers w) e m in let s = map_from (λ k. Finish r.0 k) (below (key_count (shape_of w))) e r.2 in
      go (Finish r.0 s.0) e s.2 (finish r.0 s.0 (connected_of r.0 r.1) (let z = (range_from 0 (key_count (shape_of w)) s.0 s.1).1 in omega (arith, z)))

  in8 : (e : Event) → Contains L8 e → Goal e
  in8 e m = let r = flat_map_from (λ a. map (λ p. SendGather a p) (all_workers w)) (quiet_askers w) e m in let s = map_from (λ p. SendGather r.0 p) (all_workers w) e r.2 in
      go (SendGather r.0 s.0) e s.2 (send r.0 s.0 (quiet_from r.0 r.1))

  in9 : (e : Event) → Contains L9 e → Goal e
  in9 e m = let s = map_from (λ (q : Parcel). ServeGather q.peer q.asker q.ask) w.requests e m in
      go (ServeGather s.0.peer s.0.asker s.0.ask) e s.2 (λ t. serve_gather_falls j w s.0.peer s.0.asker s.0.ask joint.sound joint.paired calm.asks.requests t)

  in10 : (e : Event) → Contains L10 e → Goal e
  in10 e m = let s = map_from (λ (q : Parcel). ArriveGather q.asker q.peer q.ask) (filter (λ q. is_quiet_asker w q.asker) w.answers) e m in
      go (ArriveGather s.0.asker s.0.peer s.0.ask) e s.2 (arrive s.0.asker s.0.peer s.0.ask (filter_from (λ (q : Parcel). is_quiet_asker w q.asker) w.answers s.0 s.1).1)

  in11 : (e : Event) → Contains L11 e → Goal e
  in11 e m = let r = flat_map_from (λ a. map (λ p. FailGather a p) (filter (λ p. not (w.alive p)) (all_workers w))) (quiet_askers w) e m in let s = map_from (λ p. FailGather r.0 p) (filter (λ p. not (w.alive p)) (all_workers w)) e r.2 in
      go (FailGather r.0 s.0) e s.2 (fail r.0 s.0 (quiet_from r.0 r.1) (filter_from (λ p. not (w.alive p)) (all_workers w) s.0 s.1).1)

  at : (e : Event) (es : List Event) → Contains (progress_kinds w) es → Contains es e → Goal e
  at e es m c =
      split L1 R2 es e m c (in1 e) (λ n2.
      split L2 R3 es e n2 c (in2 e) (λ n3.
      split L3 R4 es e n3 c (in3 e) (λ n4.
      split L4 R5 es e n4 c (in4 e) (λ n5.
      split L5 R6 es e n5 c (in5 e) (λ n6.
      split L6 R7 es e n6 c (in6 e) (λ n7.
      split L7 R8 es e n7 c (in7 e) (λ n8.
      split L8 R9 es e n8 c (in8 e) (λ n9.
      split L9 R10 es e n9 c (in9 e) (λ n10.
      split L10 R11 es e n10 c (in10 e) (λ n11.
      split L11 [] es e n11 c (in11 e) (λ n12.
      absurd (contains_none es n12))))))))))))

  pub calm_falls : (e : Event) → Contains (progress w) e → Falls w (world_step j w e)
  unfolding progress
  calm_falls e m =
      let p = filter_from (enabled w) (flat_map (λ es. es) (progress_kinds w)) e m in
      let q = flat_map_from (λ (es : List Event). es) (progress_kinds w) e p.0 in
      at e q.0 q.1 q.2 p.1
