-- A client asks a peer.
use Rattle.std.proofs.Common.{◌≡◌, ℕ, ◌+◌, ◌*◌, ◌≤◌, ◌<◌, Bool, true, false, cond, not, ◌&&◌, ◌||◌, List, [], ◌∷◌, length, Some, refl, sym, ap, ◌∙◌, arith, is_none, filter, min}
use Rattle.std.proofs.Math.Dec.{eqb}
use Rattle.std.proofs.lemmas.Bool.{eqb-true, ne_eqb, and_parts}
use Rattle.small_facts.proofs.Options.{some_not_none, none_from_is_none}
use Rattle.cluster_msgs.specs.declared.cores.ClientInstruction.TheVariants.{Gather}
use Rattle.cluster_msgs.specs.declared.cores.ClientEvent.TheVariants.{Ask as AskPeer}
use Rattle.cluster_msgs.specs.declared.events.Asker.{Asker}
use Rattle.cluster_msgs.specs.declared.events.Asker.TheVariants.{Worker, Client}
use Rattle.cluster_rules.specs.Functions.{from_one, total}
use Rattle.cluster_rules.specs.Derived.{is_in}
use Rattle.cluster_rules.specs.Sched.{Facts}
use Rattle.cluster_rules.specs.Worker.{Ask, ask_to, with_ask, is_asked_for, has_any, item_at, ask_items, first_fit}
use Rattle.cluster_rules.specs.WorkerStep.{keys_of}
use Rattle.cluster_rules.specs.Client.{ClientFacts, ClientStep, client_keys, is_open, client_fetchable, client_would_ask, client_ask, client_step}
use Rattle.cluster_rules.specs.World.{World, Parcel, is_client, open_ask, same_asker}
use Rattle.cluster_rules.specs.WorldStep.{client_sends, client_requested, at_client}
use Rattle.quiet_measure.specs.Weights.{bit, sum_of, is_current, is_stale, list_weight, known_weight, ask_weight, client_core_weight}
use Rattle.quiet_measure.specs.Measure.{is_missed, missed_in, letter_disturbs, disturbances, deaths, Falls}
use Rattle.quiet_measure.specs.Turns.{MayGather}
use Rattle.quiet_measure.proofs.Sums.{total_at_most}
use Rattle.quiet_measure.proofs.Falling.{same_most}
use Rattle.quiet_measure.proofs.Start.{less_known}
use Rattle.quiet_measure.proofs.KeyByKey.{total_sum}
use Rattle.quiet_measure.proofs.Asks.{sum_with, asked_with, ask_with, sum_where, length_with}
use Rattle.quiet_measure.proofs.Send.{item_weight, picked, some_item, some_length, copy_stale, names_are}
use Rattle.quiet_measure.proofs.ClientTurn.{then_asks, client_gather_falls}

-- what is known of a key, where it is of use
abbrev pub knows : Facts → (ℕ → ℕ) → ClientFacts → ℕ → ℕ
knows f d c q = known_weight f d q (is_open c q) (c.located q)

pub knows_closed : (f : Facts) (d : ℕ → ℕ) (q : ℕ) (b : Bool) (hs : List (ℕ × ℕ)) → b ≡ false → known_weight f d q b hs ≤ 0
knows_closed f d q b hs e = same_most _ _ (ap (λ x. cond (x && has_any hs) (list_weight d q (is_stale f q hs)) 0) e)

module _ (f : Facts) (d : ℕ → ℕ) (c : ClientFacts) (p : ℕ) where
  abbrev items : List (ℕ × ℕ)
  items = ask_items c.shape (client_fetchable c p)

  abbrev new_ask : Ask
  new_ask = record { peer = p; number = c.next_ask; items = items }

  abbrev pub asked_peer : ClientFacts
  asked_peer = record c { asks = with_ask new_ask c.asks; next_ask = c.next_ask + 1 }

  located_some : (k : ℕ) (x : ℕ × ℕ) → item_at p k (c.located k) ≡ Some x → has_any (c.located k) ≡ true
  located_some k x e = by (c.located k) e
    where
      by : (hs : List (ℕ × ℕ)) → item_at p k hs ≡ Some x → has_any hs ≡ true
      by [] e = absurd (some_not_none x (sym e))
      by (h ∷ hs) e = refl

  pays : (k : ℕ) → is_open c k ≡ true → (x : ℕ × ℕ) → item_at p k (c.located k) ≡ Some x → (x.0 ≡ k) × (item_weight f d p x + 3 ≤ knows f d c k)
  pays k t x e =
      let s = copy_stale f p k (c.located k) x e in
      (s.0, by s.0 s.1)
    where
      value : knows f d c k ≡ list_weight d k (is_stale f k (c.located k))
      value = ap (λ b. cond (b && has_any (c.located k)) (list_weight d k (is_stale f k (c.located k))) 0) t ∙ ap (λ b. cond (true && b) (list_weight d k (is_stale f k (c.located k))) 0) (located_some k x e)

      by : x.0 ≡ k → bit (not (is_current f p x.0 x.1)) ≤ bit (is_stale f k (c.located k)) → item_weight f d p x + 3 ≤ knows f d c k
      by s l = let same : d x.0 ≡ d k = ap d s in omega (arith, l, same, value)

  one : (q : ℕ) → knows f d asked_peer q + cond (is_in q (keys_of items)) (knows f d c q) 0 ≤ knows f d c q
  one q = by (is_in q (keys_of items)) refl
    where
      flown : (b : Bool) → (b && not true) ≡ false
      flown true = refl
      flown false = refl

      by : (b : Bool) → is_in q (keys_of items) ≡ b → knows f d asked_peer q + cond b (knows f d c q) 0 ≤ knows f d c q
      by true e =
          let z : knows f d asked_peer q ≤ 0 = knows_closed f d q (is_open asked_peer q) (c.located q)
          (ap (λ b. (c.wants q && not (c.got q)) && not b) (asked_with new_ask c.asks q ∙ ap (λ b. b || is_asked_for c.asks q) (names_are items q ∙ e)) ∙ flown (c.wants q && not (c.got q))) in
          omega arith
      by false e =
          let l : knows f d asked_peer q ≤ knows f d c q = less_known f d q (is_open asked_peer q) (is_open c q) (c.located q)
          (λ x. sym (ap (λ b. (c.wants q && not (c.got q)) && not b) (asked_with new_ask c.asks q ∙ ap (λ b. b || is_asked_for c.asks q) (names_are items q ∙ e))) ∙ x) in
          omega arith

  three_each : (xs : List (ℕ × ℕ)) → sum_of (λ x. item_weight f d p x + 3) xs ≡ sum_of (item_weight f d p) xs + 3 * length xs
  three_each [] = refl
  three_each (x ∷ xs) = let r : sum_of (λ x. item_weight f d p x + 3) xs ≡ sum_of (item_weight f d p) xs + 3 * length xs = three_each xs in omega arith

  paid : sum_of (λ x. item_weight f d p x + 3) items ≤ total (λ q. cond (is_in q (keys_of items)) (knows f d c q) 0) (client_keys c)
  unfolding ask_items client_fetchable
  paid = picked (λ k. item_at p k (c.located k)) (is_open c) (λ x. item_weight f d p x + 3) (knows f d c) pays
      (length (filter (first_fit c.shape (client_fetchable c p)) (from_one (min 16 (length (client_fetchable c p)))))) (client_keys c)

  pub client_send_core : has_any (client_fetchable c p) ≡ true → client_core_weight f d asked_peer + 3 ≤ client_core_weight f d c
  unfolding client_core_weight
  client_send_core some =
      let a : total (λ q. knows f d asked_peer q + cond (is_in q (keys_of items)) (knows f d c q) 0) (client_keys c) ≤ total (knows f d c) (client_keys c) = total_at_most _ _ (client_keys c) one in
      let b : total (λ q. knows f d asked_peer q + cond (is_in q (keys_of items)) (knows f d c q) 0) (client_keys c) ≡ total (knows f d asked_peer) (client_keys c) + total (λ q. cond (is_in q (keys_of items)) (knows f d c q) 0) (client_keys c) =
      total_sum (knows f d asked_peer) (λ q. cond (is_in q (keys_of items)) (knows f d c q) 0) (client_keys c) in
      let s : sum_of (ask_weight f d) (with_ask new_ask c.asks) ≡ sum_of (item_weight f d p) items + sum_of (ask_weight f d) c.asks = sum_with (ask_weight f d) new_ask c.asks in
      let e : sum_of (λ x. item_weight f d p x + 3) items ≡ sum_of (item_weight f d p) items + 3 * length items = three_each items in
      let n : 1 ≤ length items = some_length items (some_item c.shape (client_fetchable c p) some) in
      omega (arith, a, b, s, e, n, paid)

-- ## The event

module _ (w : World) (i p : ℕ) (may : MayGather w (Client i)) (there : is_client w i ≡ true) (asks : client_would_ask (w.clients i) p ≡ true) where
  abbrev C : ClientFacts
  C = w.clients i

  abbrev step : ClientStep
  step = record { facts = asked_peer w.sched (λ x. 0) C p; out = Gather p C.next_ask (keys_of (ask_items C.shape (client_fetchable C p))) ∷ [] }

  abbrev news : Ask
  news = record { peer = p; number = C.next_ask; items = ask_items C.shape (client_fetchable C p) }

  parts : (is_none (ask_to C.asks p) ≡ true) × (has_any (client_fetchable C p) ≡ true)
  unfolding client_would_ask
  parts = and_parts (is_none (ask_to C.asks p)) (has_any (client_fetchable C p)) asks

  answer : (q : Parcel) (a : Asker) (r : ℕ) → (same_asker a (Client i) ≡ true → q.ask < C.next_ask) → missed_in w q (then_asks w i step w.answers a r) ≤ missed_in w q (open_ask w a r)
  answer q (Worker x) r h = same_most _ _ refl
  answer q (Client x) r h = by (eqb x i) refl h
    where
      apart : q.ask < C.next_ask → missed_in w q (Some news) ≤ 0
      apart l = same_most _ _ (ap (λ b. cond b (sum_of (λ j. bit (is_missed w q j)) (ask_items C.shape (client_fetchable C p))) 0) (ne_eqb C.next_ask q.ask (λ s. absurd (omega arith))))

      still : (b : Bool) → (q.ask < C.next_ask) → missed_in w q (cond b (Some news) (ask_to C.asks r)) ≤ missed_in w q (ask_to C.asks r)
      still true l = omega (arith, apart l)
      still false l = omega arith

      by : (b : Bool) → eqb x i ≡ b → (eqb x i ≡ true → q.ask < C.next_ask) → missed_in w q (ask_to (cond b step.facts (w.clients x)).asks r) ≤ missed_in w q (ask_to (w.clients x).asks r)
      by false e h = omega arith
      by true e h =
          let a : missed_in w q (ask_to step.facts.asks r) ≡ missed_in w q (cond (eqb p r) (Some news) (ask_to C.asks r)) = ap (missed_in w q) (ask_with news C.asks r (none_from_is_none (ask_to C.asks p) parts.0)) in
          let b : missed_in w q (ask_to C.asks r) ≡ missed_in w q (ask_to (w.clients x).asks r) = ap (λ n. missed_in w q (ask_to (w.clients n).asks r)) (sym (eqb-true x i e)) in
          omega (arith, a, b, still (eqb p r) (h e))

  calm : sum_of (letter_disturbs w) (client_sends step.out) + sum_of (λ (q : Parcel). missed_in w q (then_asks w i step w.answers q.asker q.peer)) w.answers ≤ sum_of (λ (q : Parcel). missed_in w q (open_ask w q.asker q.peer)) w.answers
  calm = let l : sum_of (λ (q : Parcel). missed_in w q (then_asks w i step w.answers q.asker q.peer)) w.answers ≤ sum_of (λ (q : Parcel). missed_in w q (open_ask w q.asker q.peer)) w.answers =
      sum_where (λ (q : Parcel). same_asker q.asker (Client i) ≡ true → q.ask < C.next_ask) _ _ w.answers may.fresh (λ (q : Parcel) h. answer q q.asker q.peer h) in
      omega arith

  less : (d : ℕ → ℕ) → (client_core_weight w.sched d step.facts + 0) + (2 * length (client_requested (Client i) w.requests step.out) + length w.answers) + 1 ≤ client_core_weight w.sched d C + (2 * length w.requests + length w.answers)
  less d =
      let a : client_core_weight w.sched d step.facts + 3 ≤ client_core_weight w.sched d C = client_send_core w.sched d C p parts.1 in
      let n : length (client_requested (Client i) w.requests step.out) ≡ 1 + length w.requests = length_with _ w.requests in
      omega arith

  pub client_asks : Falls w (at_client w i (AskPeer p))
  unfolding client_step client_ask
  client_asks = client_gather_falls w i step w.answers calm there (less (deaths w.sched (disturbances w)))
