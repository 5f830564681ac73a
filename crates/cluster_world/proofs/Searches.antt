-- A search over events in their order: event by event, and over the kinds of progress events.
use Rattle.std.proofs.Common.{◌≡◌, ℕ, zero, suc, ◌+◌, ◌-◌, ◌<◌, ◌≤◌, Bool, true, false, not, ◌&&◌, List, [], ◌∷◌, ◌++◌, Option, Some, None, refl, sym, ap, ◌∙◌, arith, cond, filter, map, length, take, ⊎_elim}
use Rattle.std.specs.Prelude.{◌↔◌, is_none, nat_lt, min, slice_get}
use Rattle.std.specs.List.{flat_map, filter_map, range_with_len}
use Rattle.std.proofs.lemmas.Bool.{false≢true, ltb-true, ltb-false, cases_lt}
use Rattle.std.proofs.lemmas.Option.{slice_get_past, none-some, same_Some}
use Rattle.std.proofs.lemmas.List.{append-nil, take_all, length-map, map_push}
use Rattle.std.proofs.lemmas.Grind.{flat_map-append}
use Rattle.std.proofs.Math.Bool.{and-false}
use Rattle.std.proofs.Math.Dec.{eqb-suc-zero}
use Rattle.small_facts.proofs.Lists.{filter_nothing}
use Rattle.small_facts.proofs.Ranges.{range_push}
use Rattle.cluster_msgs.specs.Shape.{key_count}
use Rattle.cluster_msgs.specs.declared.events.Asker.{Asker}
use Rattle.cluster_msgs.specs.declared.events.Asker.TheVariants.{Worker, Client}
use Rattle.cluster_msgs.specs.declared.events.Event.{Event}
use Rattle.cluster_msgs.specs.declared.events.Event.TheVariants as event
use Rattle.cluster_rules.specs.Derived.{below}
use Rattle.cluster_rules.specs.Functions.{from_one}
use Rattle.cluster_rules.specs.World.{World, Parcel, shape_of, all_workers, all_clients, is_connected}
use Rattle.cluster_rules.specs.Inside.{IsInsideWorker}
use Rattle.cluster_rules.specs.Worker.{WorkerFacts, wstate, is_fetch_state, worker_keys, item_at, ask_to, has_any, fetchable, would_ask}
use Rattle.cluster_rules.specs.Enabled.{enabled, connected_workers, quiet_askers, is_quiet_asker, progress_kinds}
use Rattle.worker_core.specs.Runs.{IsNextRun}
use Rattle.cluster_world.specs.declared.search.Search.{Search}
use Rattle.cluster_world.specs.declared.search.Search.TheVariants.{Passing, Found}
use Rattle.cluster_world.specs.declared.progress.Kind.TheVariants as kind
use Rattle.cluster_world.specs.Searching.{IsNextFinish, next, searched, is_found, node_events, finish_events, ask_events, asks_of, worker_asks, name_of, serve_events, answer_events, found, left}

-- events one by one
module _ (on : Event → Bool) where
  pub searched_append : (s : Search) (xs ys : List Event) → searched on s (xs ++ ys) ≡ searched on (searched on s xs) ys
  searched_append s [] ys = refl
  searched_append s (x ∷ xs) ys = searched_append (next s (on x) x) xs ys

  pub searched_found : (x : Event) (es : List Event) → searched on (Found x) es ≡ Found x
  searched_found x [] = refl
  searched_found x (e ∷ es) = searched_found x es

  searched_last : {A : Type 0} (s : Search) (f : A → List Event) (xs : List A) (x : A) → searched on s (flat_map f (xs ++ x ∷ [])) ≡ searched on (searched on s (flat_map f xs)) (f x)
  searched_last s f xs x =
      ap (λ es. searched on s es) (flat_map-append f xs (x ∷ [])) ∙ searched_append s (flat_map f xs) (f x ++ [])
      ∙ ap (λ es. searched on (searched on s (flat_map f xs)) es) (append-nil (f x))

  -- a loop over numbers from 1
  pub searched_more : (s : Search) (f : ℕ → List Event) (n : ℕ) → searched on s (flat_map f (range_with_len 1 (n + 1))) ≡ searched on (searched on s (flat_map f (range_with_len 1 n))) (f (n + 1))
  searched_more s f n =
      let e : 1 + n ≡ n + 1 = omega arith in
      ap (λ l. searched on s (flat_map f l)) (range_push 1 n) ∙ searched_last s f (range_with_len 1 n) (1 + n) ∙ ap (λ k. searched on (searched on s (flat_map f (range_with_len 1 n))) (f k)) e

  -- a loop over keys
  pub searched_key : (s : Search) (f : ℕ → Event) (n : ℕ) → searched on s (map f (range_with_len 0 (n + 1))) ≡ next (searched on s (map f (range_with_len 0 n))) (on (f n)) (f n)
  searched_key s f n =
      let e : 0 + n ≡ n = omega arith in
      ap (λ l. searched on s (map f l)) (range_push 0 n ∙ ap (λ k. range_with_len 0 n ++ k ∷ []) e) ∙ ap (λ es. searched on s es) (map_push f (range_with_len 0 n) n) ∙ searched_append s (map f (range_with_len 0 n)) (f n ∷ [])

  -- what isn't enabled is passed over
  kept : (s : Search) (e : Event) → next s false e ≡ s
  kept (Passing n) e = refl
  kept (Found x) e = refl

  over : (s : Search) (f : ℕ → Event) (n d : ℕ) → ((k : ℕ) → n ≤ k → k < n + d → on (f k) ≡ false) → searched on s (map f (range_with_len 0 n)) ≡ searched on s (map f (range_with_len 0 (n + d)))
  over s f n zero none = ap (λ m. searched on s (map f (range_with_len 0 m))) (let e : n ≡ n + 0 = omega arith in e)
  over s f n (suc d) none =
      let e : n + d + 1 ≡ n + suc d = omega arith in
      over s f n d (λ k l m. none k l (omega arith))
      ∙ sym (kept (searched on s (map f (range_with_len 0 (n + d)))) (f (n + d)))
      ∙ ap (λ b. next (searched on s (map f (range_with_len 0 (n + d)))) b (f (n + d))) (sym (none (n + d) (omega arith) (omega arith)))
      ∙ sym (searched_key s f (n + d))
      ∙ ap (λ m. searched on s (map f (range_with_len 0 m))) e

  pub passed_over : (s : Search) (f : ℕ → Event) (n m : ℕ) → n ≤ m → ((k : ℕ) → n ≤ k → k < m → on (f k) ≡ false) → searched on s (map f (range_with_len 0 n)) ≡ searched on s (map f (range_with_len 0 m))
  passed_over s f n m l none =
      over s f n (m - n) (λ k g h. none k g (omega arith))
      ∙ ap (λ j. searched on s (map f (range_with_len 0 j))) (let e : n + (m - n) ≡ m = omega arith in e)

  -- the next one that is enabled
  pub found_next : (s : Search) (f : ℕ → Event) (n m : ℕ) → n ≤ m → on (f m) ≡ true → ((k : ℕ) → n ≤ k → k < m → on (f k) ≡ false)
      → next (searched on s (map f (range_with_len 0 n))) true (f m) ≡ searched on s (map f (range_with_len 0 (m + 1)))
  found_next s f n m l e none =
      ap (λ t. next t true (f m)) (passed_over s f n m l none)
      ∙ ap (λ b. next (searched on s (map f (range_with_len 0 m))) b (f m)) (sym e)
      ∙ sym (searched_key s f m)

  -- a loop over what is under way
  pub searched_place : {A : Type 0} (s : Search) (f : A → List Event) (xs : List A) (n : ℕ) (x : A) → Some x ≡ slice_get xs n → searched on s (flat_map f (take (n + 1) xs)) ≡ searched on (searched on s (flat_map f (take n xs))) (f x)
  searched_place s f xs n x e = let u : n + 1 ≡ suc n = omega arith in ap (λ l. searched on s (flat_map f l)) (ap (λ k. take k xs) u ∙ take_more xs n x e) ∙ searched_last s f (take n xs) x
    where
      take_more : {A : Type 0} (xs : List A) (n : ℕ) (x : A) → Some x ≡ slice_get xs n → take (suc n) xs ≡ take n xs ++ x ∷ []
      take_more [] n x e = absurd (none-some x (sym e))
      take_more (y ∷ xs) zero x e = ap (λ z. z ∷ []) (sym (same_Some x y e))
      take_more (y ∷ xs) (suc n) x e = ap (λ l. y ∷ l) (take_more xs n x e)

pub searched_places : {A B : Type 0} (on : Event → Bool) (s : Search) (h : B → A) (f : A → List Event) (xs : List B) (n : ℕ) → n ≡ length xs → searched on s (flat_map f (take n (map h xs))) ≡ searched on s (flat_map f (map h xs))
searched_places on s h f xs n e = let l = length-map xs h in let m : length (map h xs) ≤ n = omega (arith, l) in ap (λ l. searched on s (flat_map f l)) (take_all n (map h xs) m)

-- lists of events, kind by kind
searched_lists : (Event → Bool) → Search → List (List Event) → Search
searched_lists on s [] = s
searched_lists on s (l ∷ ls) = searched_lists on (searched on s l) ls

listed : (on : Event → Bool) (s : Search) (ls : List (List Event)) → searched on s (flat_map (λ es. es) ls) ≡ searched_lists on s ls
unfolding searched_lists
listed on s [] = refl
listed on s (l ∷ ls) = searched_append on s l (flat_map (λ es. es) ls) ∙ listed on (searched on s l) ls

module _ {A B : Type 0} where
  singles : (f : A → B) (xs : List A) → flat_map (λ x. f x ∷ []) xs ≡ map f xs
  singles f [] = refl
  singles f (x ∷ xs) = ap (λ l. f x ∷ l) (singles f xs)

  where_not : (p : A → Bool) (f : A → B) (xs : List A) → flat_map (λ x. cond (not (p x)) [] (f x ∷ [])) xs ≡ map f (filter p xs)
  where_not p f [] = refl
  where_not p f (x ∷ xs) = pick (p x) (where_not p f xs)
    where
      pick : (b : Bool) → flat_map (λ x. cond (not (p x)) [] (f x ∷ [])) xs ≡ map f (filter p xs) → cond (not b) [] (f x ∷ []) ++ flat_map (λ x. cond (not (p x)) [] (f x ∷ [])) xs ≡ map f (cond b (x ∷ filter p xs) (filter p xs))
      pick true e = ap (λ l. f x ∷ l) e
      pick false e = e

  unless : (p : A → Bool) (f : A → B) (xs : List A) → flat_map (λ x. cond (p x) [] (f x ∷ [])) xs ≡ map f (filter (λ x. not (p x)) xs)
  unless p f [] = refl
  unless p f (x ∷ xs) = pick (p x) (unless p f xs)
    where
      pick : (b : Bool) → flat_map (λ x. cond (p x) [] (f x ∷ [])) xs ≡ map f (filter (λ x. not (p x)) xs) → cond b [] (f x ∷ []) ++ flat_map (λ x. cond (p x) [] (f x ∷ [])) xs ≡ map f (cond (not b) (x ∷ filter (λ x. not (p x)) xs) (filter (λ x. not (p x)) xs))
      pick true e = e
      pick false e = ap (λ l. f x ∷ l) e

  parts : (p : A → Bool) (g : A → List B) (xs : List A) → flat_map (λ x. cond (p x) (g x) []) xs ≡ flat_map g (filter p xs)
  parts p g [] = refl
  parts p g (x ∷ xs) = pick (p x) (parts p g xs)
    where
      pick : (b : Bool) → flat_map (λ x. cond (p x) (g x) []) xs ≡ flat_map g (filter p xs) → cond b (g x) [] ++ flat_map (λ x. cond (p x) (g x) []) xs ≡ flat_map g (cond b (x ∷ filter p xs) (filter p xs))
      pick true e = ap (λ l. g x ++ l) e
      pick false e = e

over_map : {A B C : Type 0} (h : A → B) (f : B → List C) (xs : List A) → flat_map f (map h xs) ≡ flat_map (λ x. f (h x)) xs
over_map h f [] = refl
over_map h f (x ∷ xs) = ap (λ l. f (h x) ++ l) (over_map h f xs)

module _ (w : World) where
  finishes_are : flat_map (finish_events w) (all_workers w) ≡ flat_map (λ i. map (λ k. event.Finish i k) (below (key_count (shape_of w)))) (connected_workers w)
  finishes_are = parts (is_connected w) (λ i. map (λ k. event.Finish i k) (below (key_count (shape_of w)))) (all_workers w)

  sends_are : flat_map (asks_of w false) (quiet_askers w) ≡ flat_map (λ a. map (λ p. event.SendGather a p) (all_workers w)) (quiet_askers w)
  sends_are = λ t. flat_map (λ a. singles (λ p. event.SendGather a p) (all_workers w) t) (quiet_askers w)

  fails_are : flat_map (asks_of w true) (quiet_askers w) ≡ flat_map (λ a. map (λ p. event.FailGather a p) (filter (λ p. not (w.alive p)) (all_workers w))) (quiet_askers w)
  fails_are = λ t. flat_map (λ a. unless w.alive (λ p. event.FailGather a p) (all_workers w) t) (quiet_askers w)

  serves_are : flat_map serve_events (map name_of w.requests) ≡ map (λ (q : Parcel). event.ServeGather q.peer q.asker q.ask) w.requests
  serves_are = over_map name_of serve_events w.requests ∙ singles (λ (q : Parcel). event.ServeGather q.peer q.asker q.ask) w.requests

  arrives_are : flat_map (answer_events w) (map name_of w.answers) ≡ map (λ (q : Parcel). event.ArriveGather q.asker q.peer q.ask) (filter (λ q. is_quiet_asker w q.asker) w.answers)
  arrives_are = over_map name_of (answer_events w) w.answers ∙ parts (λ (q : Parcel). is_quiet_asker w q.asker) (λ q. event.ArriveGather q.asker q.peer q.ask ∷ []) w.answers ∙ singles (λ (q : Parcel). event.ArriveGather q.asker q.peer q.ask) (filter (λ q. is_quiet_asker w q.asker) w.answers)

  -- what workers ask, then what clients ask
  pub askers_are : (on : Event → Bool) (s : Search) (failing : Bool) → searched on (searched on s (flat_map (worker_asks w failing) (all_workers w))) (flat_map (λ c. asks_of w failing (Client c)) (all_clients w)) ≡ searched on s (flat_map (asks_of w failing) (quiet_askers w))
  askers_are on s failing =
      let a = parts (is_connected w) (λ i. asks_of w failing (Worker i)) (all_workers w) ∙ sym (over_map (λ i. Worker i) (asks_of w failing) (connected_workers w)) in
      let b = sym (over_map (λ c. Client c) (asks_of w failing) (all_clients w)) in
      (λ t. searched on (searched on s (a t)) (b t))
      ∙ sym (searched_append on s (flat_map (asks_of w failing) (map (λ i. Worker i) (connected_workers w))) (flat_map (asks_of w failing) (map (λ c. Client c) (all_clients w))))
      ∙ ap (λ es. searched on s es) (sym (flat_map-append (asks_of w failing) (map (λ i. Worker i) (connected_workers w)) (map (λ c. Client c) (all_clients w))))

  -- all kinds
  pub kinds_are : (on : Event → Bool) (s a b c d e f g h i j : Search)
      → a ≡ searched on s (flat_map (node_events w kind.SeeLoss) (all_workers w))
      → b ≡ searched on a (flat_map (node_events w kind.DeliverDown) (all_workers w))
      → c ≡ searched on b (flat_map (node_events w kind.DeliverUp) (all_workers w))
      → d ≡ searched on c (flat_map (node_events w kind.DeliverToClient) (all_clients w))
      → e ≡ searched on d (flat_map (node_events w kind.DeliverFromClient) (all_clients w))
      → f ≡ searched on e (flat_map (node_events w kind.Start) (all_workers w))
      → g ≡ searched on f (flat_map (finish_events w) (all_workers w))
      → h ≡ searched on g (flat_map (asks_of w false) (quiet_askers w))
      → i ≡ searched on h (flat_map serve_events (map name_of w.requests))
      → j ≡ searched on i (flat_map (answer_events w) (map name_of w.answers))
      → searched on j (flat_map (asks_of w true) (quiet_askers w)) ≡ searched on s (flat_map (λ es. es) (progress_kinds w))
  unfolding searched_lists
  kinds_are on s a b c d e f g h i j pa pb pc pd pe pf pg ph pi pj =
      let go = λ (s : Search) (es : List Event). searched on s es in
      let qa = pa ∙ ap (go s) (singles (λ i. event.SeeLoss i) (all_workers w)) in
      let qb = pb ∙ (λ t. go (qa t) (where_not (is_connected w) (λ i. event.DeliverDown i) (all_workers w) t)) in
      let qc = pc ∙ (λ t. go (qb t) (where_not (is_connected w) (λ i. event.DeliverUp i) (all_workers w) t)) in
      let qd = pd ∙ (λ t. go (qc t) (singles (λ c. event.DeliverToClient c) (all_clients w) t)) in
      let qe = pe ∙ (λ t. go (qd t) (singles (λ c. event.DeliverFromClient c) (all_clients w) t)) in
      let qf = pf ∙ (λ t. go (qe t) (where_not (is_connected w) (λ i. event.Start i) (all_workers w) t)) in
      let qg = pg ∙ (λ t. go (qf t) (finishes_are t)) in
      let qh = ph ∙ (λ t. go (qg t) (sends_are t)) in
      let qi = pi ∙ (λ t. go (qh t) (serves_are t)) in
      let qj = pj ∙ (λ t. go (qi t) (arrives_are t)) in
      (λ t. go (qj t) (fails_are t)) ∙ sym (listed on s (progress_kinds w))

-- what is found stays
pub found_stays : (on : Event → Bool) (s : Search) (es : List Event) → is_found s ≡ true → s ≡ searched on s es
found_stays on (Passing n) es h = absurd (false≢true h)
found_stays on (Found e) es h = sym (searched_found on e es)

-- where none is enabled, none is found
pub none_on : {A : Type 0} (on : Event → Bool) (s : Search) (f : A → Event) (xs : List A) → ((x : A) → on (f x) ≡ false) → searched on s (flat_map (λ x. f x ∷ []) xs) ≡ s
none_on on s f [] h = refl
none_on on s f (x ∷ xs) h = ap (λ b. searched on (next s b (f x)) (flat_map (λ x. f x ∷ []) xs)) (h x) ∙ ap (λ r. searched on r (flat_map (λ x. f x ∷ []) xs)) (kept on s (f x)) ∙ none_on on s f xs h

-- no ask fails where all workers are alive
none_fail : (w : World) (a : Asker) (n : ℕ) → ((k : ℕ) → k < n → w.alive (k + 1) ≡ true) → flat_map (ask_events w true a) (range_with_len 1 n) ≡ []
none_fail w a zero h = refl
none_fail w a (suc n) h =
    let u : suc n ≡ n + 1 = omega arith in
    ap (λ m. flat_map (ask_events w true a) (range_with_len 1 m)) u ∙ ap (flat_map (ask_events w true a)) (range_push 1 n) ∙ flat_map-append (ask_events w true a) (range_with_len 1 n) ((1 + n) ∷ [])
    ∙ (λ t. none_fail w a n (λ k l. h k (omega arith)) t ++ last t)
  where
    last : flat_map (ask_events w true a) ((1 + n) ∷ []) ≡ []
    last = let v : 1 + n ≡ n + 1 = omega arith in ap (λ b. cond b [] (event.FailGather a (1 + n) ∷ []) ++ []) (ap w.alive v ∙ h n (omega arith))

pub none_fails : (w : World) (askers : List Asker) → ((n : ℕ) → n < w.sched.last_worker → w.alive (n + 1) ≡ true) → flat_map (asks_of w true) askers ≡ []
none_fails w [] h = refl
none_fails w (a ∷ askers) h = λ t. none_fail w a w.sched.last_worker h t ++ none_fails w askers h t

pub one_more_alive : (alive : ℕ → Bool) (n : ℕ) (now : Bool) → ((k : ℕ) → k < n → alive (k + 1) ≡ true) → now ≡ alive (n + 1) → now ≡ true → (k : ℕ) → k < n + 1 → alive (k + 1) ≡ true
one_more_alive alive n now h e d k l = ⊎_elim (λ m. h k m) (λ m. let u : k ≡ n = omega arith in ap (λ z. alive (z + 1)) u ∙ sym e ∙ d) (cases_lt k n)

pub no_questions : (w : WorkerFacts) → ((k : ℕ) → is_fetch_state (wstate w k) ≡ false) → (p : ℕ) → would_ask w p ≡ false
unfolding would_ask fetchable
no_questions w h p = ap (λ l. is_none (ask_to w.asks p) && has_any (filter_map (λ k. item_at p k (w.holders k)) l)) (filter_nothing (λ k. is_fetch_state (wstate w k)) (worker_keys w) h) ∙ and-false (is_none (ask_to w.asks p))

pub asks_none : (alive b : Bool) (w f : WorkerFacts) → alive ≡ true → w ≡ f → (b ≡ false) ↔ ((k : ℕ) → is_fetch_state (wstate f k) ≡ false) → b ≡ false → (p : ℕ) → (alive && would_ask w p) ≡ false
asks_none alive b w f a e h n p = (λ t. a t && would_ask (e t) p) ∙ no_questions f (h.0 n) p

-- up to this number
pub up_to : (on : Event → Bool) (f : ℕ → List Event) (s r : Search) (n m : ℕ) → n ≡ m → r ≡ searched on s (flat_map f (from_one n)) → r ≡ searched on s (flat_map f (from_one m))
up_to on f s r n m e h = h ∙ ap (λ x. searched on s (flat_map f (from_one x))) e

-- what a search answers: the enabled event of its number
pub found_is_at : (on : Event → Bool) (es : List Event) (n : ℕ) → found (searched on (Passing n) es) ≡ slice_get (filter on es) n
found_is_at on [] n = refl
found_is_at on (e ∷ es) n = pick (on e) n (λ k. found_is_at on es k)
  where
    pick : (b : Bool) (n : ℕ) → ((k : ℕ) → found (searched on (Passing k) es) ≡ slice_get (filter on es) k) → found (searched on (next (Passing n) b e) es) ≡ slice_get (cond b (e ∷ filter on es) (filter on es)) n
    pick false n r = r n
    pick true zero r = ap found (searched_found on e es)
    pick true (suc n) r = let u : suc n - 1 ≡ n = omega arith in ap (λ z. found (searched on (cond z (Found e) (Passing (suc n - 1))) es)) (eqb-suc-zero n) ∙ ap (λ m. found (searched on (Passing m) es)) u ∙ r n

-- what is left to be passed
left_is : (on : Event → Bool) (es : List Event) (n m : ℕ) → searched on (Passing n) es ≡ Passing m → m + length (filter on es) ≡ n
left_is on [] n m h = let e = passing_is n m h in omega (arith, e)
  where
    passing_is : (n m : ℕ) → Passing n ≡ Passing m → n ≡ m
    passing_is n m h = cc
left_is on (e ∷ es) n m h = pick (on e) n h (λ k. left_is on es k m)
  where
    not_found : (e : Event) (m : ℕ) → Found e ≡ Passing m → ⊥
    not_found e m h = cc

    pick : (b : Bool) (n : ℕ) → searched on (next (Passing n) b e) es ≡ Passing m → ((k : ℕ) → searched on (Passing k) es ≡ Passing m → m + length (filter on es) ≡ k) → m + length (cond b (e ∷ filter on es) (filter on es)) ≡ n
    pick false n h r = r n h
    pick true zero h r = absurd (not_found e m (sym (searched_found on e es) ∙ h))
    pick true (suc n) h r = let u : suc n - 1 ≡ n = omega arith in let i = r n (ap (λ k. searched on (Passing k) es) (sym u) ∙ sym (ap (λ z. searched on (cond z (Found e) (Passing (suc n - 1))) es) (eqb-suc-zero n)) ∙ h) in omega (arith, i)

-- what is found stands past so many
many_left : (on : Event → Bool) (es : List Event) (n : ℕ) (x : Event) → searched on (Passing n) es ≡ Found x → n < length (filter on es)
many_left on es n x h = pick (nat_lt n (length (filter on es))) refl
  where
    there : slice_get (filter on es) n ≡ Some x
    there = sym (found_is_at on es n) ∙ ap found h

    pick : (b : Bool) → nat_lt n (length (filter on es)) ≡ b → n < length (filter on es)
    pick true e = ltb-true n (length (filter on es)) e
    pick false e = absurd (none-some x (sym (slice_get_past (filter on es) n (ltb-false n (length (filter on es)) e)) ∙ there))

-- how many events a search has passed
pub passed_is : (on : Event → Bool) (es : List Event) (n : ℕ) (s : Search) → s ≡ searched on (Passing n) es → left s + min (length (filter on es)) n ≡ n
passed_is on es n (Passing m) h = let e = left_is on es n m (sym h) in omega (arith, e)
passed_is on es n (Found x) h = let l = many_left on es n x (sym h) in omega (arith, l)

-- the tasks that can finish at a worker that is alive are those that it runs
pub next_finish : (w : World) (i first : ℕ) (f : WorkerFacts) (o : Option ℕ) → w.alive i ≡ true → w.workers i ≡ f → IsInsideWorker (shape_of w) (w.workers i) → IsNextRun f first o → IsNextFinish w i first o
unfolding enabled
next_finish w i first f None a e inside h = λ k l. (λ t. a t && (e t).running k) ∙ h k l
next_finish w i first f (Some key) a e inside h = record {
  past = h.past;
  there = ltb-true key (key_count (shape_of w)) (inside.running key (ap (λ (g : WorkerFacts). g.running key) e ∙ h.runs));
  finishes = (λ t. a t && (e t).running key) ∙ h.runs;
  before = λ k l m. (λ t. a t && (e t).running k) ∙ h.before k l m;
}

pub none_finish : (w : World) (i first : ℕ) → w.alive i ≡ false → IsNextFinish w i first None
unfolding enabled
none_finish w i first a = λ k l. ap (λ b. b && (w.workers i).running k) a
