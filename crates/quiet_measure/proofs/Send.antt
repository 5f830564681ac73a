-- A worker asks a peer.
use Rattle.std.proofs.Common.{◌≡◌, ℕ, zero, suc, ◌+◌, ◌*◌, ◌≤◌, ◌<◌, Bool, true, false, cond, not, ◌&&◌, ◌||◌, List, [], ◌∷◌, length, Option, Some, None, refl, sym, ap, ◌∙◌, subst, arith, is_some, is_none, filter, find, take, min}
use Rattle.std.proofs.Math.Dec.{eqb}
use Rattle.std.specs.Prelude.{option_map}
use Rattle.std.specs.List.{list_any, filter_map, cons_option, range_with_len, Contains}
use Rattle.std.proofs.lemmas.Bool.{false≢true, eqb-true, eq-eqb, ne_eqb, and_parts, and_from}
use Rattle.std.proofs.lemmas.Option.{same_Some}
use Rattle.small_facts.proofs.Options.{some_not_none, none_from_is_none}
use Rattle.cluster_msgs.specs.Shape.{Shape}
use Rattle.cluster_rules.specs.Functions.{from_one, total}
use Rattle.cluster_rules.specs.Derived.{is_in}
use Rattle.cluster_rules.specs.Sched.{Facts}
use Rattle.cluster_rules.specs.Worker.{Ask, WorkerFacts, worker_keys, ask_to, with_ask, names_key, awaited, is_wanted, flying, has_any, wstate, is_fetch_state, item_at, fetchable, ask_items, first_fit, would_ask}
use Rattle.cluster_rules.specs.WorkerStep.{WorkerStep, keys_of, ask_peer, worker_row, worker_step, seek_missing, unasked_keys}
use Rattle.cluster_rules.specs.World.{World, Parcel, open_ask, same_asker}
use Rattle.cluster_rules.specs.WorldStep.{sends, requested, at_worker}
use Rattle.cluster_msgs.specs.declared.events.Asker.{Asker}
use Rattle.cluster_msgs.specs.declared.events.Asker.TheVariants.{Worker, Client}
use Rattle.cluster_msgs.specs.declared.cores.Instruction.TheVariants.{Gather}
use Rattle.cluster_msgs.specs.declared.cores.WorkerEvent.TheVariants.{Ask as AskPeer}
use Rattle.cluster_rules.proofs.ChoiceLemmas.{contains_head}
use Rattle.cluster_rules.proofs.Members.{filter_to}
use Rattle.cluster_rules.proofs.WorkerLemmas.{fetch_state-is}
use Rattle.quiet_measure.specs.Weights.{sum_of, bit, is_current, is_stale, list_weight, ask_weight, is_sought, question, core_weight}
use Rattle.quiet_measure.specs.Measure.{is_missed, missed_in, up_disturbs, disturbances, deaths, Falls}
use Rattle.quiet_measure.specs.Turns.{MayGather}
use Rattle.quiet_measure.proofs.Sums.{total_at_most}
use Rattle.quiet_measure.proofs.Falling.{same_most}
use Rattle.quiet_measure.proofs.KeyByKey.{whole, worth, seeks, seek_by, seek_less, seek_closed, is_bare, sought_less, total_sum, whole_is}
use Rattle.quiet_measure.proofs.Asks.{sum_with, asked_with, ask_with, sum_where, length_with}
use Rattle.quiet_measure.proofs.Gather.{then_asks, gather_falls, whole_kept}

-- ## Which keys an ask takes

-- an item weighs what its key is to be worth
abbrev pub item_weight : Facts → (ℕ → ℕ) → ℕ → ℕ × ℕ → ℕ
item_weight f d p i = 7 * (d i.0 + bit (not (is_current f p i.0 i.1)))

-- the members of a list that pass and give an item, up to some number of them
module _ (F : ℕ → Option (ℕ × ℕ)) (t : ℕ → Bool) (g : ℕ × ℕ → ℕ) (h : ℕ → ℕ) (pays : (k : ℕ) → t k ≡ true → (x : ℕ × ℕ) → F k ≡ Some x → (x.0 ≡ k) × (g x ≤ h k)) where
  abbrev taken_of : ℕ → List ℕ → List (ℕ × ℕ)
  taken_of n ks = take n (filter_map F (filter t ks))

  wider : (n : ℕ) (a : ℕ) (xs : List (ℕ × ℕ)) (q : ℕ) → cond (is_in q (keys_of xs)) (h q) 0 ≤ cond (eqb a q || is_in q (keys_of xs)) (h q) 0
  wider n a xs q = by (eqb a q) (is_in q (keys_of xs))
    where
      by : (b c : Bool) → cond c (h q) 0 ≤ cond (b || c) (h q) 0
      by true true = omega arith
      by true false = omega arith
      by false c = omega arith

  pub picked : (n : ℕ) (ks : List ℕ) → sum_of g (taken_of n ks) ≤ total (λ q. cond (is_in q (keys_of (taken_of n ks))) (h q) 0) ks
  picked zero [] = omega arith
  picked (suc n) [] = omega arith
  picked n (k ∷ ks) = pick (t k) refl n (λ m. picked m ks)
    where
      pass : (b : Bool) → sum_of g (taken_of n ks) ≤ total (λ q. cond (is_in q (keys_of (taken_of n ks))) (h q) 0) ks
          → sum_of g (taken_of n ks) ≤ cond (is_in k (keys_of (taken_of n ks))) (h k) 0 + total (λ q. cond (is_in q (keys_of (taken_of n ks))) (h q) 0) ks
      pass b l = omega arith

      at : (o : Option (ℕ × ℕ)) → F k ≡ o → t k ≡ true → (n : ℕ) → ((m : ℕ) → sum_of g (taken_of m ks) ≤ total (λ q. cond (is_in q (keys_of (taken_of m ks))) (h q) 0) ks)
          → sum_of g (take n (cons_option o (filter_map F (filter t ks)))) ≤ cond (is_in k (keys_of (take n (cons_option o (filter_map F (filter t ks)))))) (h k) 0 + total (λ q. cond (is_in q (keys_of (take n (cons_option o (filter_map F (filter t ks)))))) (h q) 0) ks
      at None e p n again = let l : sum_of g (taken_of n ks) ≤ total (λ q. cond (is_in q (keys_of (taken_of n ks))) (h q) 0) ks = again n in omega arith
      at (Some x) e p zero again = omega arith
      at (Some x) e p (suc n) again =
          let r = pays k p x e in
          let l : sum_of g (taken_of n ks) ≤ total (λ q. cond (is_in q (keys_of (taken_of n ks))) (h q) 0) ks = again n in
          let m : total (λ q. cond (is_in q (keys_of (taken_of n ks))) (h q) 0) ks ≤ total (λ q. cond (eqb x.0 q || is_in q (keys_of (taken_of n ks))) (h q) 0) ks = total_at_most _ _ ks (wider n x.0 (taken_of n ks)) in
          let here : cond (eqb x.0 k || is_in k (keys_of (taken_of n ks))) (h k) 0 ≡ h k = ap (λ b. cond (b || is_in k (keys_of (taken_of n ks))) (h k) 0) (eq-eqb x.0 k r.0) in
          let y : g x ≤ h k = r.1 in
          omega (arith, l, m, here, y)

      pick : (b : Bool) → t k ≡ b → (n : ℕ) → ((m : ℕ) → sum_of g (taken_of m ks) ≤ total (λ q. cond (is_in q (keys_of (taken_of m ks))) (h q) 0) ks)
          → sum_of g (take n (filter_map F (cond b (k ∷ filter t ks) (filter t ks)))) ≤ cond (is_in k (keys_of (take n (filter_map F (cond b (k ∷ filter t ks) (filter t ks)))))) (h k) 0 + total (λ q. cond (is_in q (keys_of (take n (filter_map F (cond b (k ∷ filter t ks) (filter t ks)))))) (h q) 0) ks
      pick true e n again = at (F k) refl e n again
      pick false e n again = let l : sum_of g (taken_of n ks) ≤ total (λ q. cond (is_in q (keys_of (taken_of n ks))) (h q) 0) ks = again n in omega arith

-- an ask takes at least one key
pub some_item : (s : Shape) (is : List (ℕ × ℕ)) → has_any is ≡ true → has_any (ask_items s is) ≡ true
unfolding ask_items
some_item s [] e = absurd (false≢true e)
some_item s (x ∷ is) e = by (length (filter (first_fit s (x ∷ is)) (from_one (min 16 (length (x ∷ is)))))) (one_fits (min 16 (length (x ∷ is))) (least (length is)))
  where
    least : (n : ℕ) → 1 ≤ min 16 (suc n)
    least n = omega arith

    first : (n : ℕ) → 1 ≤ n → Contains (range_with_len 1 n) 1
    first zero l = absurd (omega arith)
    first (suc n) l = contains_head 1 (range_with_len (1 + 1) n)

    one_fits : (n : ℕ) → 1 ≤ n → 1 ≤ length (filter (first_fit s (x ∷ is)) (from_one n))
    one_fits n l = at (filter_to (first_fit s (x ∷ is)) (from_one n) 1 (first n l) refl)
      where
        at : Contains (filter (first_fit s (x ∷ is)) (from_one n)) 1 → 1 ≤ length (filter (first_fit s (x ∷ is)) (from_one n))
        at (j, m, q) = omega arith

    by : (n : ℕ) → 1 ≤ n → has_any (take n (x ∷ is)) ≡ true
    by zero l = absurd (omega arith)
    by (suc n) l = refl

pub some_length : {A : Type 0} (xs : List A) → has_any xs ≡ true → 1 ≤ length xs
some_length [] e = absurd (false≢true e)
some_length (x ∷ xs) e = omega arith

-- the copy that is asked for is one of the list
pub copy_stale : (f : Facts) (p k : ℕ) (hs : List (ℕ × ℕ)) (x : ℕ × ℕ) → item_at p k hs ≡ Some x → (x.0 ≡ k) × (bit (not (is_current f p x.0 x.1)) ≤ bit (is_stale f k hs))
copy_stale f p k [] x e = absurd (some_not_none x (sym e))
copy_stale f p k (h ∷ hs) x e = pick (eqb h.0 p) refl e (λ r. copy_stale f p k hs x r)
  where
    more : (a b : Bool) → bit b ≤ bit (a || b)
    more true true = omega arith
    more true false = omega arith
    more false b = omega arith

    first : (a b : Bool) → bit a ≤ bit (a || b)
    first true b = omega arith
    first false true = omega arith
    first false false = omega arith

    pick : (b : Bool) → eqb h.0 p ≡ b → option_map (λ c. (k, c)) (option_map (λ (h : ℕ × ℕ). h.1) (cond b (Some h) (find (λ (h : ℕ × ℕ). eqb h.0 p) hs))) ≡ Some x → (item_at p k hs ≡ Some x → (x.0 ≡ k) × (bit (not (is_current f p x.0 x.1)) ≤ bit (is_stale f k hs)))
        → (x.0 ≡ k) × (bit (not (is_current f p x.0 x.1)) ≤ bit (not (is_current f h.0 k h.1) || is_stale f k hs))
    pick true q r again =
        let same : (k, h.1) ≡ x = same_Some _ _ r in (
          ap (λ (y : ℕ × ℕ). y.0) (sym same),
          subst (λ (y : ℕ × ℕ). bit (not (is_current f p y.0 y.1)) ≤ bit (not (is_current f h.0 k h.1) || is_stale f k hs)) same
              (subst (λ z. bit (not (is_current f z k h.1)) ≤ bit (not (is_current f h.0 k h.1) || is_stale f k hs)) (eqb-true h.0 p q) (first (not (is_current f h.0 k h.1)) (is_stale f k hs))),
        )
    pick false q r again = let z = again r in (z.0, omega (arith, z.1, more (not (is_current f h.0 k h.1)) (is_stale f k hs)))

pub names_are : (xs : List (ℕ × ℕ)) (q : ℕ) → list_any (λ (i : ℕ × ℕ). eqb i.0 q) xs ≡ is_in q (keys_of xs)
names_are [] q = refl
names_are (x ∷ xs) q = ap (λ b. eqb x.0 q || b) (names_are xs q)

-- ## The worker's ask

module _ (f : Facts) (d : ℕ → ℕ) (w : WorkerFacts) (p : ℕ) where
  abbrev items : List (ℕ × ℕ)
  items = ask_items w.shape (fetchable w p)

  abbrev new_ask : Ask
  new_ask = record { peer = p; number = w.next_ask; items = items }

  abbrev pub asked_peer : WorkerFacts
  asked_peer = record w { asks = with_ask new_ask w.asks; next_ask = w.next_ask + 1 }

  -- an item and three more are what its key was worth
  pays : (k : ℕ) → is_fetch_state (wstate w k) ≡ true → (x : ℕ × ℕ) → item_at p k (w.holders k) ≡ Some x → (x.0 ≡ k) × (item_weight f d p x + 3 ≤ seeks f d w k)
  pays k t x e =
      let c = copy_stale f p k (w.holders k) x e in
      (c.0, by c.0 c.1)
    where
      tests : (not (w.mem k) && (not (w.running k) && (not (flying w k) && (not (is_some (w.mine k)) && (is_wanted w k && has_any (w.holders k)))))) ≡ true
      tests = sym (fetch_state-is w k) ∙ t

      unflown : (not (flying w k) && (not (is_some (w.mine k)) && (is_wanted w k && has_any (w.holders k)))) ≡ true
      unflown = (and_parts (not (w.running k)) _ (and_parts (not (w.mem k)) _ tests).1).1

      ends : (is_wanted w k ≡ true) × (has_any (w.holders k) ≡ true)
      ends = and_parts (is_wanted w k) (has_any (w.holders k)) (and_parts (not (is_some (w.mine k))) _ (and_parts (not (flying w k)) _ unflown).1).1

      sought : is_sought w k ≡ true
      sought = and_from (is_wanted w k) (not (flying w k)) ends.0 (and_parts (not (flying w k)) _ unflown).0

      value : seeks f d w k ≡ list_weight d k (is_stale f k (w.holders k))
      value = ap (λ b. seek_by f d k b (is_bare w k) (w.holders k)) sought ∙ ap (λ b. cond true (cond b (list_weight d k (is_stale f k (w.holders k))) (cond (is_bare w k) (7 * d k + 5) 0)) 0) ends.1

      by : x.0 ≡ k → bit (not (is_current f p x.0 x.1)) ≤ bit (is_stale f k (w.holders k)) → item_weight f d p x + 3 ≤ seeks f d w k
      by s l = let same : d x.0 ≡ d k = ap d s in omega (arith, l, same, value)

  still_awaited : (q : ℕ) → awaited asked_peer q ≡ awaited w q
  unfolding awaited
  still_awaited q = refl

  flies : (q : ℕ) → flying asked_peer q ≡ (names_key q new_ask || flying w q)
  unfolding flying
  flies q = asked_with new_ask w.asks q

  one : (q : ℕ) → worth f d asked_peer q + cond (is_in q (keys_of items)) (seeks f d w q) 0 ≤ worth f d w q
  one q = by (is_in q (keys_of items)) refl
    where
      flown : (b : Bool) → (b && not true) ≡ false
      flown true = refl
      flown false = refl

      by : (b : Bool) → is_in q (keys_of items) ≡ b → worth f d asked_peer q + cond b (seeks f d w q) 0 ≤ worth f d w q
      by true e =
          let z : seeks f d asked_peer q ≡ 0 = seek_closed f d q (is_sought asked_peer q) (is_bare asked_peer q) (w.holders q)
          (ap (λ b. is_wanted asked_peer q && not b) (flies q ∙ ap (λ b. b || flying w q) (names_are items q ∙ e)) ∙ flown (is_wanted asked_peer q)) in
          omega arith
      by false e =
          let l : seeks f d asked_peer q ≤ seeks f d w q = seek_less f d q (is_sought asked_peer q) (is_sought w q) (is_bare asked_peer q) (w.holders q)
          (sought_less w asked_peer q (λ x. sym (still_awaited q) ∙ x) refl refl (flies q ∙ ap (λ b. b || flying w q) (names_are items q ∙ e))) in
          omega arith

  three_each : (xs : List (ℕ × ℕ)) → sum_of (λ x. item_weight f d p x + 3) xs ≡ sum_of (item_weight f d p) xs + 3 * length xs
  three_each [] = refl
  three_each (x ∷ xs) = let r : sum_of (λ x. item_weight f d p x + 3) xs ≡ sum_of (item_weight f d p) xs + 3 * length xs = three_each xs in omega arith

  paid : sum_of (λ x. item_weight f d p x + 3) items ≤ total (λ q. cond (is_in q (keys_of items)) (seeks f d w q) 0) (worker_keys w)
  unfolding ask_items fetchable
  paid = picked (λ k. item_at p k (w.holders k)) (λ k. is_fetch_state (wstate w k)) (λ x. item_weight f d p x + 3) (seeks f d w) pays
      (length (filter (first_fit w.shape (fetchable w p)) (from_one (min 16 (length (fetchable w p)))))) (worker_keys w)

  pub send_whole : has_any (fetchable w p) ≡ true → whole f d asked_peer + 3 ≤ whole f d w
  send_whole some =
      let a : total (λ q. worth f d asked_peer q + cond (is_in q (keys_of items)) (seeks f d w q) 0) (worker_keys w) ≤ total (worth f d w) (worker_keys w) = total_at_most _ _ (worker_keys w) one in
      let b : total (λ q. worth f d asked_peer q + cond (is_in q (keys_of items)) (seeks f d w q) 0) (worker_keys w) ≡ total (worth f d asked_peer) (worker_keys w) + total (λ q. cond (is_in q (keys_of items)) (seeks f d w q) 0) (worker_keys w) =
      total_sum (worth f d asked_peer) (λ q. cond (is_in q (keys_of items)) (seeks f d w q) 0) (worker_keys w) in
      let c : sum_of (ask_weight f d) (with_ask new_ask w.asks) ≡ sum_of (item_weight f d p) items + sum_of (ask_weight f d) w.asks = sum_with (ask_weight f d) new_ask w.asks in
      let e : sum_of (λ x. item_weight f d p x + 3) items ≡ sum_of (item_weight f d p) items + 3 * length items = three_each items in
      let n : 1 ≤ length items = some_length items (some_item w.shape (fetchable w p) some) in
      omega (arith, a, b, c, e, n, paid)

-- ## The event

module _ (w : World) (i p : ℕ) (may : MayGather w (Worker i)) (alive : w.alive i ≡ true) (asks : would_ask (w.workers i) p ≡ true) where
  abbrev W : WorkerFacts
  W = w.workers i

  abbrev step : WorkerStep
  step = record { facts = asked_peer w.sched (λ x. 0) W p; out = Gather p W.next_ask (keys_of (ask_items W.shape (fetchable W p))) ∷ [] }

  abbrev news : Ask
  news = record { peer = p; number = W.next_ask; items = ask_items W.shape (fetchable W p) }

  parts : (is_none (ask_to W.asks p) ≡ true) × (has_any (fetchable W p) ≡ true)
  unfolding would_ask
  parts = and_parts (is_none (ask_to W.asks p)) (has_any (fetchable W p)) asks

  answer : (q : Parcel) (a : Asker) (r : ℕ) → (same_asker a (Worker i) ≡ true → q.ask < W.next_ask) → missed_in w q (then_asks w i step w.answers a r) ≤ missed_in w q (open_ask w a r)
  answer q (Client c) r h = same_most _ _ refl
  answer q (Worker x) r h = by (eqb x i) refl h
    where
      apart : q.ask < W.next_ask → missed_in w q (Some news) ≤ 0
      apart l = same_most _ _ (ap (λ b. cond b (sum_of (λ j. bit (is_missed w q j)) (ask_items W.shape (fetchable W p))) 0) (ne_eqb W.next_ask q.ask (λ s. absurd (omega arith))))

      there : (b : Bool) → (q.ask < W.next_ask) → missed_in w q (cond b (Some news) (ask_to W.asks r)) ≤ missed_in w q (ask_to W.asks r)
      there true l = omega (arith, apart l)
      there false l = omega arith

      by : (b : Bool) → eqb x i ≡ b → (eqb x i ≡ true → q.ask < W.next_ask) → missed_in w q (ask_to (cond b (seek_missing step).facts (w.workers x)).asks r) ≤ missed_in w q (ask_to (w.workers x).asks r)
      by false e h = omega arith
      by true e h =
          let a : missed_in w q (ask_to (seek_missing step).facts.asks r) ≡ missed_in w q (cond (eqb p r) (Some news) (ask_to W.asks r)) = ap (missed_in w q) (ask_with news W.asks r (none_from_is_none (ask_to W.asks p) parts.0)) in
          let b : missed_in w q (ask_to W.asks r) ≡ missed_in w q (ask_to (w.workers x).asks r) = ap (λ n. missed_in w q (ask_to (w.workers n).asks r)) (sym (eqb-true x i e)) in
          omega (arith, a, b, there (eqb p r) (h e))

  calm : sum_of (up_disturbs w i) (sends step.out) + sum_of (λ (q : Parcel). missed_in w q (then_asks w i step w.answers q.asker q.peer)) w.answers ≤ sum_of (λ (q : Parcel). missed_in w q (open_ask w q.asker q.peer)) w.answers
  calm = let l : sum_of (λ (q : Parcel). missed_in w q (then_asks w i step w.answers q.asker q.peer)) w.answers ≤ sum_of (λ (q : Parcel). missed_in w q (open_ask w q.asker q.peer)) w.answers =
      sum_where (λ (q : Parcel). same_asker q.asker (Worker i) ≡ true → q.ask < W.next_ask) _ _ w.answers may.fresh (λ (q : Parcel) h. answer q q.asker q.peer h) in
      omega arith

  less : (d : ℕ → ℕ) → (whole w.sched d step.facts + 0) + (2 * length (requested (Worker i) w.requests step.out) + length w.answers) + 1 ≤ core_weight w.sched d W + (2 * length w.requests + length w.answers)
  less d =
      let a : whole w.sched d step.facts + 3 ≤ whole w.sched d W = send_whole w.sched d W p parts.1 in
      let b : core_weight w.sched d W + total (question d) (unasked_keys W) ≡ whole w.sched d W = whole_is w.sched d W in
      let z : total (question d) (unasked_keys W) ≡ 0 = ap (total (question d)) (whole_kept W may.kept) in
      let n : length (requested (Worker i) w.requests step.out) ≡ 1 + length w.requests = length_with _ w.requests in
      omega arith

  pub worker_sends : Falls w (at_worker w i (AskPeer p))
  unfolding worker_step worker_row ask_peer
  worker_sends = gather_falls w i step w.answers calm alive may.quiet (may.sound.numbers i may.quiet).0 (may.sound.numbers i may.quiet).1 (omega arith) (less (deaths w.sched (disturbances w)))
