-- What holds of asks, after every event of the world.
use Rattle.std.proofs.Common.{◌≡◌, ℕ, ◌+◌, ◌≤◌, ◌<◌, Bool, true, false, cond, not, List, [], ◌∷◌, length, Option, Some, None, refl, sym, ap, ◌∙◌, subst, arith, suc, inl, inr, ◌⊎◌, ⊎_elim, is_none, filter, take, length-take, min}
use Rattle.std.proofs.Math.Dec.{eqb}
use Rattle.std.specs.Prelude.{nat_lt}
use Rattle.std.specs.List.{AllByRecursion, filter_map, cons_option, range_with_len}
use Rattle.std.proofs.lemmas.List.FromFn.{length-range_with_len}
use Rattle.std.proofs.lemmas.Bool.{true≢false, eqb-true, eq-eqb, and_parts}
use Rattle.std.proofs.lemmas.Option.{same_Some}
use Rattle.small_facts.proofs.Every.{all_of_filter, all_weaker}
use Rattle.small_facts.proofs.Lists.{filter_fewer}
use Rattle.small_facts.proofs.Options.{some_not_none, none_from_is_none}
use Rattle.cluster_msgs.specs.Shape.{Shape, key_count}
use Rattle.cluster_msgs.specs.declared.messages.Down.{Down}
use Rattle.cluster_msgs.specs.declared.messages.Up.{Up}
use Rattle.cluster_msgs.specs.declared.messages.ToClient.{ToClient}
use Rattle.cluster_msgs.specs.declared.messages.FromClient.{FromClient as ClientMessage}
use Rattle.cluster_msgs.specs.declared.cores.SchedEvent.TheVariants.{Join as JoinSched, Leave, FromWorker, FromClient, Balance as BalanceSched, Evict as EvictSched, Replicate as ReplicateSched}
use Rattle.cluster_msgs.specs.declared.cores.WorkerEvent.TheVariants.{Down as Told, Start as StartTask, Done, Ask as AskPeer, Gathered, GatherFailed, DataLost}
use Rattle.cluster_msgs.specs.declared.cores.ClientEvent.TheVariants.{Want as WantKeys, Release as ReleaseKeys, FromScheduler, Ask as ClientAsk, Gathered as ClientGathered, GatherFailed as ClientGatherFailed}
use Rattle.cluster_msgs.specs.declared.events.Asker.{Asker}
use Rattle.cluster_msgs.specs.declared.events.Asker.TheVariants.{Worker, Client}
use Rattle.cluster_msgs.specs.declared.events.Event.{Event}
use Rattle.cluster_msgs.specs.declared.events.Event.TheVariants.{Want, Release, Join, Lose, SeeLoss, Suspect, DeliverDown, DeliverUp, DeliverToClient, DeliverFromClient, Start, Finish, SendGather, ServeGather, ArriveGather, FailGather, Balance, Evict, Replicate, Spill, LoseSpilled}
use Rattle.cluster_rules.specs.Functions.{put, from_one}
use Rattle.cluster_rules.specs.Sched.{Facts}
use Rattle.cluster_rules.specs.Worker.{Ask, WorkerFacts, ask_to, with_ask, wstate, is_fetch_state, item_at, fetchable, ask_items, first_fit, would_ask, has_any}
use Rattle.cluster_rules.specs.WorkerStep.{worker_step, worker_row, ask_peer, keys_of, unasked_keys}
use Rattle.cluster_rules.specs.Client.{ClientFacts, client_step, client_ask, client_fetchable, is_open, client_would_ask}
use Rattle.cluster_rules.specs.World.{Job, IsJob, World, Parcel, opening, shape_of, is_connected, is_asker, open_ask, same_asker, parcel_of, is_parcel, without_parcel, with_parcel}
use Rattle.cluster_rules.specs.WorldStep.{scheduled, worked, client_worked, at_scheduler, at_worker, at_client, new_at, cut_off, take_down_first, take_up, take_up_first, take_to_client, take_from_client, ask_by, gathered_at, take_answer, fail_ask, world_step}
use Rattle.cluster_rules.specs.Enabled.{enabled, may_ask}
use Rattle.cluster_rules.proofs.WorkerLemmas.{at_one}
use Rattle.safety_laws.proofs.ClientWorld.{distinct_with}
use Rattle.safety_laws.proofs.Joint.{IsJoint, joint_step, joint_opening}
use Rattle.cluster_rules.specs.Runs.{LegalFrom, legal, run_from, reached}
use Rattle.safety_laws.proofs.Lively.{same_asker_is}
use Rattle.quiet_measure.specs.Turns.{next_ask_of, asks_of, PeersDiffer}
use Rattle.quiet_measure.specs.Asks.{IsOfAsk, IsNumbered, AreAsks}
use Rattle.quiet_measure.proofs.Asked.{asking_requests}
use Rattle.quiet_measure.proofs.Asks.{ask_with}
use Rattle.quiet_measure.proofs.Send.{some_item}
use Rattle.quiet_laws.proofs.AskWorlds.{open_is, Steady, steady_then, steady_links, steady_self, steady_scheduler, steady_worker, steady_client, steady_keeps, all_with, serve_keeps, joins, steady_died}

-- ## An asker asks a peer

pub record Sends (w v : World) (a : Asker) (p : ℕ) (items : List (ℕ × ℕ)) : Type 0 where
  pub asks : asks_of v a ≡ with_ask (record { peer = p; number = next_ask_of w a; items = items }) (asks_of w a)
  pub next : next_ask_of v a ≡ next_ask_of w a + 1
  pub others : (b : Asker) → same_asker b a ≡ false → (asks_of v b ≡ asks_of w b) × (next_ask_of v b ≡ next_ask_of w b)
  pub requests : v.requests ≡ with_parcel (record { asker = a; peer = p; ask = next_ask_of w a; keys = keys_of items }) w.requests
  pub answers : v.answers ≡ w.answers
  pub sched : v.sched ≡ w.sched
  pub alive : v.alive ≡ w.alive
  pub ids : (i : ℕ) → (v.workers i).id ≡ (w.workers i).id
  pub first : (i : ℕ) → w.sched.last_worker < i → (v.workers i).next_ask ≡ (w.workers i).next_ask
  pub free : ask_to (asks_of w a) p ≡ None
  pub some : has_any items ≡ true
  pub short : length items ≤ key_count (shape_of w)

all_from_both : {A : Type 0} (P Q R : A → Type 0) → ((x : A) → P x → Q x → R x) → (xs : List A) → AllByRecursion P xs → AllByRecursion Q xs → AllByRecursion R xs
all_from_both P Q R f [] a b = tt
all_from_both P Q R f (x ∷ xs) a b = (f x a.0 b.0, all_from_both P Q R f xs a.1 b.1)

all_with_ask : (Q : Ask → Type 0) (a : Ask) (xs : List Ask) → Q a → AllByRecursion Q xs → AllByRecursion Q (with_ask a xs)
all_with_ask Q a [] h g = (h, tt)
all_with_ask Q a (b ∷ bs) h g = pick (nat_lt a.peer b.peer) (all_with_ask Q a bs h g.1)
  where
    pick : (t : Bool) → AllByRecursion Q (with_ask a bs) → AllByRecursion Q (cond t (a ∷ b ∷ bs) (b ∷ with_ask a bs))
    pick true r = (h, g)
    pick false r = (g.0, r)

module _ (w v : World) (a : Asker) (p : ℕ) (items : List (ℕ × ℕ)) (s : Sends w v a p items) (h : AreAsks w) where
  abbrev new : Ask
  new = record { peer = p; number = next_ask_of w a; items = items }

  -- an open ask was so before, or it is the new one
  data_of : (b : Asker) (r : ℕ) (q : Ask) → open_ask v b r ≡ Some q → ((b ≡ a) × (q ≡ new)) ⊎ (open_ask w b r ≡ Some q)
  data_of b r q e = by (same_asker b a) refl
    where
      new_or : (c : Bool) → cond c (Some new) (ask_to (asks_of w a) r) ≡ Some q → (q ≡ new) ⊎ (ask_to (asks_of w a) r ≡ Some q)
      new_or true z = inl (sym (same_Some new q z))
      new_or false z = inr z

      by : (c : Bool) → same_asker b a ≡ c → ((b ≡ a) × (q ≡ new)) ⊎ (open_ask w b r ≡ Some q)
      by true t =
          let same : b ≡ a = same_asker_is b a t in
          let z : cond (eqb p r) (Some new) (ask_to (asks_of w a) r) ≡ Some q =
          sym (ask_with new (asks_of w a) r s.free) ∙ ap (λ l. ask_to l r) (sym s.asks) ∙ ap (λ x. ask_to (asks_of v x) r) (sym same) ∙ sym (open_is v b r) ∙ e in
          ⊎_elim (λ n. inl (same, n)) (λ o. inr (open_is w b r ∙ ap (λ x. ask_to (asks_of w x) r) same ∙ o)) (new_or (eqb p r) z)
      by false t = inr (open_is w b r ∙ ap (λ l. ask_to l r) (sym (s.others b t).0) ∙ sym (open_is v b r) ∙ e)

  number : (q : Parcel) → IsNumbered w q → IsNumbered v q
  number q l = by (same_asker q.asker a) refl
    where
      by : (c : Bool) → same_asker q.asker a ≡ c → q.ask < next_ask_of v q.asker
      by true t =
          let same : q.asker ≡ a = same_asker_is q.asker a t in
          let x : next_ask_of v q.asker ≡ next_ask_of w a + 1 = ap (next_ask_of v) same ∙ s.next in
          let y : next_ask_of w q.asker ≡ next_ask_of w a = ap (next_ask_of w) same in
          omega (arith, l, x, y)
      by false t = let x : next_ask_of v q.asker ≡ next_ask_of w q.asker = (s.others q.asker t).1 in omega (arith, l, x)

  of_old : (q : Parcel) → IsOfAsk w q → IsNumbered w q → IsOfAsk v q
  of_old q f l b o m = ⊎_elim
      (λ n. absurd (let x : b.number ≡ next_ask_of w a = ap (λ (y : Ask). y.number) n.1 in let y : next_ask_of w q.asker ≡ next_ask_of w a = ap (next_ask_of w) n.0 in omega (arith, l, m, x, y)))
      (λ r. f b r m) (data_of q.asker q.peer b o)

  of_new : IsOfAsk v (record { asker = a; peer = p; ask = next_ask_of w a; keys = keys_of items })
  of_new b o m =
      let z : Some new ≡ Some b = sym (ap (λ c. cond c (Some new) (ask_to (asks_of w a) p)) (eq-eqb p p refl)) ∙ sym (ask_with new (asks_of w a) p s.free) ∙ ap (λ l. ask_to l p) (sym s.asks) ∙ sym (open_is v a p) ∙ o in
      ap (λ (y : Ask). keys_of y.items) (sym (same_Some new b z))

  at_each : (Q : List Ask → Type 0) → Q (with_ask new (asks_of w a)) → ((b : Asker) → Q (asks_of w b)) → (b : Asker) → Q (asks_of v b)
  at_each Q here there b = by (same_asker b a) refl
    where
      by : (c : Bool) → same_asker b a ≡ c → Q (asks_of v b)
      by true t = subst (λ x. Q (asks_of v x)) (sym (same_asker_is b a t)) (subst Q (sym s.asks) here)
      by false t = subst Q (sym (s.others b t).0) (there b)

  pub sends_keep : AreAsks v
  sends_keep = record {
    ids = λ i t. s.ids i ∙ h.ids i (ap (λ (f : ℕ → Bool). f i) (sym s.alive) ∙ t);
    first = λ i l. let m : w.sched.last_worker < i = subst (λ (f : Facts). f.last_worker < i) s.sched l in let e : (v.workers i).next_ask ≡ (w.workers i).next_ask = s.first i m in let k : (w.workers i).next_ask ≤ 1 = h.first i m in omega arith;
    requests = subst (AllByRecursion (IsOfAsk v)) (sym s.requests) (all_with (IsOfAsk v) _ w.requests of_new (all_from_both (IsOfAsk w) (IsNumbered w) (IsOfAsk v) of_old w.requests h.requests h.sent));
    sent = subst (AllByRecursion (IsNumbered v)) (sym s.requests) (all_with (IsNumbered v) (record { asker = a; peer = p; ask = next_ask_of w a; keys = keys_of items }) w.requests (let e : next_ask_of v a ≡ next_ask_of w a + 1 = s.next in omega arith) (all_weaker (IsNumbered w) (IsNumbered v) number w.requests h.sent));
    answered = subst (AllByRecursion (IsNumbered v)) (sym s.answers) (all_weaker (IsNumbered w) (IsNumbered v) number w.answers h.answered);
    differ = at_each PeersDiffer (distinct_with new (asks_of w a) s.free (h.differ a)) h.differ;
    some = λ b r q e. ⊎_elim (λ n. ap (λ (y : Ask). has_any y.items) n.1 ∙ s.some) (λ o. h.some b r q o) (data_of b r q e);
    short = λ b. subst (λ (f : Facts). AllByRecursion (λ (q : Ask). length q.items ≤ key_count f.setting.shape) (asks_of v b)) (sym s.sched)
        (at_each (AllByRecursion (λ (q : Ask). length q.items ≤ key_count (shape_of w))) (all_with_ask (λ (q : Ask). length q.items ≤ key_count (shape_of w)) new (asks_of w a) s.short (h.short a)) h.short b);
  }

-- ## The items of an ask

map_fewer : {A B : Type 0} (f : A → Option B) (xs : List A) → length (filter_map f xs) ≤ length xs
map_fewer f [] = omega arith
map_fewer {B = B} f (x ∷ xs) = pick (f x) (filter_map f xs) (map_fewer f xs)
  where
    pick : (o : Option B) (ys : List B) → length ys ≤ length xs → length (cons_option o ys) ≤ suc (length xs)
    pick None ys l = omega arith
    pick (Some y) ys l = omega arith

items_few : (g : Shape) (F : ℕ → Option (ℕ × ℕ)) (t : ℕ → Bool) (n : ℕ) → length (ask_items g (filter_map F (filter t (range_with_len 0 n)))) ≤ n
unfolding ask_items
items_few g F t n =
    few (length (filter (first_fit g (filter_map F (filter t (range_with_len 0 n)))) (from_one (min 16 (length (filter_map F (filter t (range_with_len 0 n))))))))
  where
    few : (m : ℕ) → length (take m (filter_map F (filter t (range_with_len 0 n)))) ≤ n
    few m =
        let a : length (filter t (range_with_len 0 n)) ≤ length (range_with_len 0 n) = filter_fewer t (range_with_len 0 n) in
        let b : length (filter_map F (filter t (range_with_len 0 n))) ≤ length (filter t (range_with_len 0 n)) = map_fewer F (filter t (range_with_len 0 n)) in
        let c : length (range_with_len 0 n) ≡ n = length-range_with_len 0 n in
        omega (arith, a, b, c, length-take m (filter_map F (filter t (range_with_len 0 n))))

-- ## The events

module _ (j : Job) (w : World) (joint : IsJoint j w) (h : AreAsks w) where
  worker_asks : (i p : ℕ) → w.alive i ≡ true → would_ask (w.workers i) p ≡ true → AreAsks (at_worker w i (AskPeer p))
  unfolding worker_step worker_row ask_peer worked would_ask fetchable
  worker_asks i p alive may = sends_keep w (at_worker w i (AskPeer p)) (Worker i) p items (record {
    asks = ap (λ b. (cond b F (w.workers i)).asks) (eq-eqb i i refl);
    next = ap (λ b. (cond b F (w.workers i)).next_ask) (eq-eqb i i refl);
    others = others;
    requests = asking_requests (with_parcel (record { asker = Worker i; peer = p; ask = (w.workers i).next_ask; keys = keys_of items }) w.requests) i (w.workers i).seen (unasked_keys (record (w.workers i) { asks = with_ask (record { peer = p; number = (w.workers i).next_ask; items = items }) (w.workers i).asks; next_ask = (w.workers i).next_ask + 1 }));
    answers = refl;
    sched = refl;
    alive = refl;
    ids = λ x. at_one i (λ b y. (cond b F (w.workers y)).id ≡ (w.workers y).id) refl (λ y. refl) x;
    first = λ x l. first x l (eqb x i) refl;
    free = none_from_is_none (ask_to (w.workers i).asks p) parts.0;
    some = some_item (w.workers i).shape (fetchable (w.workers i) p) parts.1;
    short = subst (λ (g : Shape). length items ≤ key_count g) ((joint.inside.workers i).shape ∙ sym joint.inside.shape)
        (items_few (w.workers i).shape (λ k. item_at p k ((w.workers i).holders k)) (λ k. is_fetch_state (wstate (w.workers i) k)) (key_count (w.workers i).shape));
  }) h
    where
      items : List (ℕ × ℕ)
      items = ask_items (w.workers i).shape (fetchable (w.workers i) p)

      F : WorkerFacts
      F = (worker_step (w.workers i) (AskPeer p)).facts

      parts : (is_none (ask_to (w.workers i).asks p) ≡ true) × (has_any (fetchable (w.workers i) p) ≡ true)
      parts = and_parts (is_none (ask_to (w.workers i).asks p)) (has_any (fetchable (w.workers i) p)) may

      others : (b : Asker) → same_asker b (Worker i) ≡ false → (asks_of (at_worker w i (AskPeer p)) b ≡ asks_of w b) × (next_ask_of (at_worker w i (AskPeer p)) b ≡ next_ask_of w b)
      others (Worker x) t = (ap (λ b. (cond b F (w.workers x)).asks) t, ap (λ b. (cond b F (w.workers x)).next_ask) t)
      others (Client c) t = (refl, refl)

      first : (x : ℕ) → w.sched.last_worker < x → (b : Bool) → eqb x i ≡ b → (cond b F (w.workers x)).next_ask ≡ (w.workers x).next_ask
      first x l true e = absurd (true≢false (sym alive ∙ ap w.alive (sym (eqb-true x i e)) ∙ (joint.home.bare x l).alive))
      first x l false e = refl

  client_asks : (c p : ℕ) → client_would_ask (w.clients c) p ≡ true → AreAsks (at_client w c (ClientAsk p))
  unfolding client_step client_ask client_worked client_would_ask client_fetchable
  client_asks c p may = sends_keep w (at_client w c (ClientAsk p)) (Client c) p items (record {
    asks = ap (λ b. (cond b F (w.clients c)).asks) (eq-eqb c c refl);
    next = ap (λ b. (cond b F (w.clients c)).next_ask) (eq-eqb c c refl);
    others = others;
    requests = refl;
    answers = refl;
    sched = refl;
    alive = refl;
    ids = λ x. refl;
    first = λ x l. refl;
    free = none_from_is_none (ask_to (w.clients c).asks p) parts.0;
    some = some_item (w.clients c).shape (client_fetchable (w.clients c) p) parts.1;
    short = subst (λ (g : Shape). length items ≤ key_count g) ((joint.inside.clients c).shape ∙ sym joint.inside.shape)
        (items_few (w.clients c).shape (λ k. item_at p k ((w.clients c).located k)) (is_open (w.clients c)) (key_count (w.clients c).shape));
  }) h
    where
      items : List (ℕ × ℕ)
      items = ask_items (w.clients c).shape (client_fetchable (w.clients c) p)

      F : ClientFacts
      F = (client_step (w.clients c) (ClientAsk p)).facts

      parts : (is_none (ask_to (w.clients c).asks p) ≡ true) × (has_any (client_fetchable (w.clients c) p) ≡ true)
      parts = and_parts (is_none (ask_to (w.clients c).asks p)) (has_any (client_fetchable (w.clients c) p)) may

      others : (b : Asker) → same_asker b (Client c) ≡ false → (asks_of (at_client w c (ClientAsk p)) b ≡ asks_of w b) × (next_ask_of (at_client w c (ClientAsk p)) b ≡ next_ask_of w b)
      others (Client x) t = (ap (λ b. (cond b F (w.clients x)).asks) t, ap (λ b. (cond b F (w.clients x)).next_ask) t)
      others (Worker x) t = (refl, refl)

  steady : (v : World) → Steady w v → AreAsks v
  steady v s = steady_keeps w v s h

  asks_sent : (a : Asker) (p : ℕ) → is_asker w a ≡ true → may_ask w a p ≡ true → AreAsks (ask_by w a p)
  asks_sent (Worker i) p t m = worker_asks i p t m
  asks_sent (Client c) p t m = client_asks c p m

  links : (v : World) → v.workers ≡ w.workers → v.clients ≡ w.clients → v.alive ≡ w.alive → v.sched ≡ w.sched → v.requests ≡ w.requests → v.answers ≡ w.answers → Steady w v
  links v a b c s r n = steady_links w v a b c (subst (λ (f : Facts). w.sched.last_worker ≤ f.last_worker) (sym s) (omega arith)) (ap (λ (f : Facts). f.setting) s) r (λ u x. subst (AllByRecursion (IsNumbered u)) (sym n) x)

  down : (i : ℕ) (ms : List Down) → Steady w (take_down_first w i ms)
  down i [] = steady_self w
  down i (m ∷ ms) = steady_then w (record w { down = put w.down i ms }) _ (links (record w { down = put w.down i ms }) refl refl refl refl refl refl) (steady_worker (record w { down = put w.down i ms }) i (Told m) tt)

  up : (i : ℕ) (ms : List Up) → Steady w (take_up_first w i ms)
  up i [] = steady_self w
  up i (m ∷ ms) = pick (is_connected w i)
    where
      pick : (b : Bool) → Steady w (take_up (record w { up = put w.up i ms }) i m b)
      pick true = steady_then w (record w { up = put w.up i ms }) _ (links (record w { up = put w.up i ms }) refl refl refl refl refl refl) (steady_scheduler (record w { up = put w.up i ms }) (FromWorker i m))
      pick false = links (record w { up = put w.up i ms }) refl refl refl refl refl refl

  news : (c : ℕ) (ms : List ToClient) → Steady w (take_to_client w c ms)
  news c [] = steady_self w
  news c (m ∷ ms) = steady_then w (record w { to_client = put w.to_client c ms }) _ (links (record w { to_client = put w.to_client c ms }) refl refl refl refl refl refl) (steady_client (record w { to_client = put w.to_client c ms }) c (FromScheduler m) tt)

  letter : (c : ℕ) (ms : List ClientMessage) → Steady w (take_from_client w c ms)
  letter c [] = steady_self w
  letter c (m ∷ ms) = steady_then w (record w { from_client = put w.from_client c ms }) _ (links (record w { from_client = put w.from_client c ms }) refl refl refl refl refl refl) (steady_scheduler (record w { from_client = put w.from_client c ms }) (FromClient c m))

  answer : (o : Option Parcel) → Steady w (take_answer w o)
  answer None = steady_self w
  answer (Some q) = steady_then w less _ (steady_links w less refl refl refl (omega arith) refl refl (λ u n. all_of_filter (IsNumbered u) (λ x. not (is_parcel q.asker q.peer q.ask x)) w.answers n)) (by q.asker)
    where
      less : World
      less = record w { answers = without_parcel q.asker q.peer q.ask w.answers }

      by : (a : Asker) → Steady less (gathered_at less a q.peer q.ask q.keys)
      by (Worker i) = steady_worker less i (Gathered q.peer q.ask q.keys) tt
      by (Client c) = steady_client less c (ClientGathered q.peer q.ask q.keys) tt

  failed : (a : Asker) (p : ℕ) (o : Option Ask) → Steady w (fail_ask w a p o)
  failed a p None = steady_self w
  failed (Worker i) p (Some q) = steady_worker w i (GatherFailed p q.number) tt
  failed (Client c) p (Some q) = steady_client w c (ClientGatherFailed p q.number) tt

  loses : (i : ℕ) → Steady w (cut_off (at_scheduler w (Leave i)) i)
  unfolding scheduled
  loses i = steady_then w (at_scheduler w (Leave i)) _ (steady_scheduler w (Leave i)) (steady_links (at_scheduler w (Leave i)) (cut_off (at_scheduler w (Leave i)) i) refl refl refl (omega arith) refl refl (λ u n. n))

pub asks_step : (j : Job) (w : World) (e : Event) → enabled w e ≡ true → IsJoint j w → AreAsks w → AreAsks (world_step j w e)
unfolding world_step enabled
asks_step j w (Want c ks) t g h = steady j w g h _ (steady_client w c (WantKeys ks) tt)
asks_step j w (Release c ks) t g h = steady j w g h _ (steady_client w c (ReleaseKeys ks) tt)
asks_step j w (Join threads) t g h = steady_keeps (new_at w (w.sched.last_worker + 1) threads) _ (steady_scheduler (new_at w (w.sched.last_worker + 1) threads) (JoinSched threads)) (joins w threads h)
asks_step j w (Lose i) t g h = steady j w g h _ (steady_died w i)
asks_step j w (SeeLoss i) t g h = steady j w g h _ (loses j w g h i)
asks_step j w (Suspect i) t g h = steady j w g h _ (steady_scheduler w (Leave i))
asks_step j w (DeliverDown i) t g h = steady j w g h _ (down j w g h i (w.down i))
asks_step j w (DeliverUp i) t g h = steady j w g h _ (up j w g h i (w.up i))
asks_step j w (DeliverToClient c) t g h = steady j w g h _ (news j w g h c (w.to_client c))
asks_step j w (DeliverFromClient c) t g h = steady j w g h _ (letter j w g h c (w.from_client c))
asks_step j w (Start i) t g h = steady j w g h _ (steady_worker w i StartTask tt)
asks_step j w (Finish i k) t g h = steady j w g h _ (steady_worker w i (Done k (j.zero k)) tt)
asks_step j w (SendGather a p) t g h = let x = and_parts (is_asker w a) (may_ask w a p) t in asks_sent j w g h a p x.0 x.1
asks_step j w (ServeGather p a n) t g h = serve_keeps w p a n (parcel_of a p n w.requests) refl h
asks_step j w (ArriveGather a p n) t g h = steady j w g h _ (answer j w g h (parcel_of a p n w.answers))
asks_step j w (FailGather a p) t g h = steady j w g h _ (failed j w g h a p (open_ask w a p))
asks_step j w Balance t g h = steady j w g h _ (steady_scheduler w BalanceSched)
asks_step j w Evict t g h = steady j w g h _ (steady_scheduler w EvictSched)
asks_step j w (Replicate k i) t g h = steady j w g h _ (steady_scheduler w (ReplicateSched k i))
asks_step j w (Spill i k) t g h = steady j w g h _ (links j w g h _ refl refl refl refl refl refl)
asks_step j w (LoseSpilled i k) t g h = steady j w g h _ (steady_worker w i (DataLost k) tt)

pub asks_opening : (j : Job) → AreAsks (opening j)
asks_opening j = record {
  ids = λ i t. refl;
  first = λ i l. omega arith;
  requests = tt;
  sent = tt;
  answered = tt;
  differ = differ;
  some = some;
  short = short;
}
  where
    differ : (a : Asker) → PeersDiffer (asks_of (opening j) a)
    differ (Worker i) = tt
    differ (Client c) = tt

    some : (a : Asker) (p : ℕ) (q : Ask) → open_ask (opening j) a p ≡ Some q → has_any q.items ≡ true
    some (Worker i) p q e = absurd (some_not_none q (sym e))
    some (Client c) p q e = absurd (some_not_none q (sym e))

    short : (a : Asker) → AllByRecursion (λ (q : Ask). length q.items ≤ key_count j.setting.shape) (asks_of (opening j) a)
    short (Worker i) = tt
    short (Client c) = tt

asks_from : (j : Job) → IsJob j → (w : World) (es : List Event) → LegalFrom j w es → IsJoint j w → AreAsks w → AreAsks (run_from j w es)
asks_from j job w [] l g h = h
asks_from j job w (e ∷ es) l g h = asks_from j job (world_step j w e) es l.1 (joint_step j job w e l.0 g) (asks_step j w e l.0 g h)

pub asks_after : (j : Job) → IsJob j → (es : List Event) → legal j es → AreAsks (reached j es)
asks_after j job es l = asks_from j job (opening j) es l (joint_opening j job) (asks_opening j)
