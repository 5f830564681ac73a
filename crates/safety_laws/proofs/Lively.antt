-- Where a client waits for a key, and a worker is alive and connected, some progress event is enabled.
use Rattle.std.proofs.Common.{◌≡◌, ℕ, zero, suc, ◌+◌, ◌*◌, ◌<◌, ◌≤◌, Bool, true, false, cond, not, ◌&&◌, ◌||◌, List, [], ◌∷◌, Option, Some, None, refl, sym, ap, ◌∙◌, subst, arith, is_some, is_none, find, filter, inl, inr, ◌⊎◌, ⊎_elim}
use Rattle.std.specs.Prelude.{nat_lt, nat_le, unwrap_or}
use Rattle.std.specs.List.{list_any, list_all, filter_map, cons_option, AllByRecursion}
use Rattle.std.specs.Option.{option_map}
use Rattle.std.proofs.lemmas.Bool.{true≢false, false≢true, eqb-true, and_parts, and_from, or_cases, ltb-true, lt-ltb, leb-true, cases_lt, not-true, eq-eqb, false_from_ne_true, not_from_false}
use Rattle.std.proofs.Math.Dec.{eqb}
use Rattle.std.proofs.Math.Bool.{or-true}
use Rattle.small_facts.proofs.Lists.{cons_not_nil}
use Rattle.small_facts.proofs.Options.{find_passes, none_from_is_some, some_not_none}
use Rattle.cluster_msgs.specs.Shape.{Shape, key_count, deps_of}
use Rattle.cluster_msgs.specs.declared.events.Asker.{Asker}
use Rattle.cluster_msgs.specs.declared.events.Asker.TheVariants.{Worker, Client}
use Rattle.cluster_msgs.specs.declared.events.Event.TheVariants.{ServeGather, ArriveGather, FailGather}
use Rattle.cluster_rules.specs.Functions.{count, from_one}
use Rattle.cluster_rules.specs.Derived.{below, is_in, reach}
use Rattle.cluster_rules.specs.Sched.{Facts, keys, deps, holds, held, erred, wanted, need, ready, fed, open_key, connected, workers, is_for, full, threads_of}
use Rattle.cluster_rules.specs.Policies.{candidates, candidates_by, or_else}
use Rattle.cluster_rules.specs.Worker.{Ask, WorkerFacts, worker_keys, flying, pending, awaited, is_wanted, is_fed, wstate, has_any, is_ready_state, is_fetch_state, is_missing_state, running_count, would_start, fetchable, item_at, ask_to, would_ask, is_asked_for}
use Rattle.cluster_rules.specs.Client.{ClientFacts, client_keys, is_unfinished, is_open, client_fetchable, client_would_ask}
use Rattle.cluster_rules.specs.World.{Job, World, Parcel, shape_of, is_connected, is_client, is_asker, open_ask, is_parcel, parcel_of, same_asker, unfinished, Drained}
use Rattle.cluster_rules.specs.Enabled.{enabled, is_quiet_asker, progress}
use Rattle.cluster_laws.specs.WorldFrame.{NothingMoves}
use Rattle.cluster_rules.specs.Runs.{IsLively}
use Rattle.cluster_msgs.specs.declared.messages.FromClient.{FromClient as ClientMessage}
use Rattle.cluster_rules.proofs.DerivedLemmas.{reach-is}
use Rattle.cluster_rules.proofs.SchedLemmas.{erred-is, need-past}
use Rattle.cluster_rules.proofs.SchedFrame.{in_range}
use Rattle.cluster_rules.proofs.NothingLemmas.{full-nowhere}
use Rattle.cluster_rules.proofs.InsideSched.{all_found}
use Rattle.cluster_laws.proofs.WorldLemmas.{nothing_moves}
use Rattle.cluster_rules.proofs.WorkerLemmas.{filter_in, ready_state-is, fetch_state-is, missing_state-is}
use Rattle.cluster_laws.proofs.Placed.{no_candidates}
use Rattle.cluster_laws.proofs.Fewer.{reach_next}
use Rattle.safety_laws.specs.Lively.{IsAnswered, IsRefreshing, questions, refreshes, IsNumber, AreNumbers, AreNamed, AreServed, IsServed, HaveThreads, wants_at_last, names_want, misses, is_news}
use Rattle.safety_laws.proofs.Joint.{IsJoint, drained_agrees}
use Rattle.pair_moves.proofs.HoldRows.{any_where}

-- ## Lists

empty : {A : Type 0} (xs : List A) → has_any xs ≡ false → xs ≡ []
empty [] e = refl
empty (x ∷ xs) e = absurd (true≢false e)

some_any : {A : Type 0} (xs : List A) → (xs ≡ [] → ⊥) → has_any xs ≡ true
some_any [] n = absurd (n refl)
some_any (x ∷ xs) n = refl

-- a member that passes is found
found_some : (p : ℕ → Bool) (x : ℕ) (xs : List ℕ) → is_in x xs ≡ true → p x ≡ true → find p xs ≡ None → ⊥
found_some p x [] i e n = false≢true i
found_some p x (y ∷ ys) i e n = pick (p y) refl (or_cases (eqb y x) (is_in x ys) i) n (λ j m. found_some p x ys j e m)
  where
    pick : (b : Bool) → p y ≡ b → (eqb y x ≡ true) ⊎ (is_in x ys ≡ true) → cond b (Some y) (find p ys) ≡ None → (is_in x ys ≡ true → find p ys ≡ None → ⊥) → ⊥
    pick true q o m rest = some_not_none y m
    pick false q (inl o) m rest = true≢false (sym e ∙ ap p (sym (eqb-true y x o)) ∙ q)
    pick false q (inr o) m rest = rest o m

-- two sides of a conjunction that fails
and_fails : (a b : Bool) → (a && b) ≡ false → a ≡ true → b ≡ false
and_fails true b e h = e
and_fails false b e h = absurd (false≢true h)

-- strong induction
below_all : (P : ℕ → Type 0) → ((k : ℕ) → ((d : ℕ) → d < k → P d) → P k) → (n k : ℕ) → k < n → P k
below_all P step zero k l = absurd (omega (arith, l))
below_all P step (suc n) k l = step k (λ d m. below_all P step n d (omega (arith, l, m)))

pub by_numbers : (P : ℕ → Type 0) → ((k : ℕ) → ((d : ℕ) → d < k → P d) → P k) → (k : ℕ) → P k
by_numbers P step k = below_all P step (k + 1) k (omega arith)

some_of : {A : Type 0} (o : Option A) → is_some o ≡ true → (x : A) × (o ≡ Some x)
some_of None e = absurd (false≢true e)
some_of (Some x) e = (x, refl)

-- what some member gives
any_filter_map : {B : Type 0} (g : ℕ → Option B) (k : ℕ) (ks : List ℕ) → is_in k ks ≡ true → is_some (g k) ≡ true → has_any (filter_map g ks) ≡ true
any_filter_map g k [] i e = absurd (false≢true i)
any_filter_map {B} g k (x ∷ xs) i e = pick (g x) refl (or_cases (eqb x k) (is_in k xs) i) (λ j. any_filter_map g k xs j e)
  where
    pick : (o : Option B) → g x ≡ o → (eqb x k ≡ true) ⊎ (is_in k xs ≡ true) → (is_in k xs ≡ true → has_any (filter_map g xs) ≡ true) → has_any (cons_option o (filter_map g xs)) ≡ true
    pick (Some y) q s rest = refl
    pick None q (inl s) rest = absurd (false≢true (sym (ap is_some q) ∙ ap (λ n. is_some (g n)) (eqb-true x k s) ∙ e))
    pick None q (inr s) rest = rest s

none_counted : (p : ℕ → Bool) → ((x : ℕ) → p x ≡ false) → (xs : List ℕ) → count p xs ≡ 0
none_counted p n [] = refl
none_counted p n (x ∷ xs) = ap (λ b. cond b 1 0 + count p xs) (n x) ∙ ap (λ m. 0 + m) (none_counted p n xs)

pub all_from : (p : ℕ → Bool) (xs : List ℕ) → ((x : ℕ) → is_in x xs ≡ true → p x ≡ true) → list_all p xs ≡ true
all_from p [] h = refl
all_from p (x ∷ xs) h = and_from (p x) (list_all p xs) (h x (ap (λ b. b || is_in x xs) (eq-eqb x x refl))) (all_from p xs (λ y i. h y (ap (λ b. eqb x y || b) i ∙ or-true (eqb x y))))

under : (k d : ℕ) (ds : List ℕ) → AllByRecursion (λ x. x < k) ds → is_in d ds ≡ true → d < k
under k d [] l i = absurd (false≢true i)
under k d (x ∷ xs) l i = ⊎_elim (λ e. subst (λ y. y < k) (eqb-true x d e) l.0) (λ m. under k d xs l.1 m) (or_cases (eqb x d) (is_in d xs) i)

pub same_asker_is : (a b : Asker) → same_asker a b ≡ true → a ≡ b
same_asker_is (Worker v) (Worker u) e = ap Worker (eqb-true v u e)
same_asker_is (Client c) (Client d) e = ap Client (eqb-true c d e)
same_asker_is (Worker v) (Client d) e = absurd (false≢true e)
same_asker_is (Client c) (Worker u) e = absurd (false≢true e)

-- a holder that is named can be asked
item_there : (k : ℕ) (x : ℕ × ℕ) (xs : List (ℕ × ℕ)) → is_some (item_at x.0 k (x ∷ xs)) ≡ true
item_there k x xs = ap (λ b. is_some {T = ℕ × ℕ} (option_map (λ c. (k, c)) (option_map (λ (y : ℕ × ℕ). y.1) (cond b (Some x) (find (λ y. eqb y.0 x.0) xs))))) (eq-eqb x.0 x.0 refl)

-- ## Nothing moves

module _ (j : Job) (w : World) (h : IsJoint j w) (answered : IsAnswered w) (refreshing : IsRefreshing w) (named : AreNamed w) (threads : HaveThreads w) (still : NothingMoves w) where
  alive_of : (i : ℕ) → is_connected w i ≡ true → w.alive i ≡ true
  unfolding enabled
  alive_of i c = by (w.alive i) refl
    where
      by : (b : Bool) → w.alive i ≡ b → b ≡ true
      by true e = refl
      by false e = absurd (false≢true (sym (still.see_loss i (h.sound.numbers i c).0 (h.sound.numbers i c).1) ∙ and_from (not (w.alive i)) (is_connected w i) (not_from_false (w.alive i) e) c))

  drained : (i : ℕ) → is_connected w i ≡ true → Drained w i
  unfolding enabled
  drained i c = record {
    alive = alive_of i c;
    connected = c;
    down = empty (w.down i) (and_fails (w.alive i) (has_any (w.down i)) (still.down i (h.sound.numbers i c).0 (h.sound.numbers i c).1 c) (alive_of i c));
    up = empty (w.up i) (still.up i (h.sound.numbers i c).0 (h.sound.numbers i c).1 c);
  }

  -- an ask of one who is quiet
  no_ask : (a : Asker) (p : ℕ) (q : Ask) → is_asker w a ≡ true → is_quiet_asker w a ≡ true → (w.alive p ≡ false → enabled w (FailGather a p) ≡ false) → open_ask w a p ≡ Some q → ⊥
  unfolding enabled
  no_ask a p q asker quiet fails opened = ⊎_elim (λ e. requested (some_of (parcel_of a p q.number w.requests) e)) (λ e. came (some_of (parcel_of a p q.number w.answers) e)) (answered a p q asker opened)
    where
      failing : w.alive p ≡ false → ⊥
      failing d = false≢true (sym (fails d) ∙ and_from (is_asker w a) (is_some (open_ask w a p)) asker (ap is_some opened))

      names : (r : Parcel) (rs : List Parcel) → parcel_of a p q.number rs ≡ Some r → (r.asker ≡ a) × ((r.peer ≡ p) × (r.ask ≡ q.number))
      names r rs e = let t = and_parts (same_asker r.asker a) (eqb r.peer p && eqb r.ask q.number) (find_passes (is_parcel a p q.number) rs r e) in let u = and_parts (eqb r.peer p) (eqb r.ask q.number) t.1 in
          (same_asker_is r.asker a t.0, (eqb-true r.peer p u.0, eqb-true r.ask q.number u.1))

      requested : (r : Parcel) × (parcel_of a p q.number w.requests ≡ Some r) → ⊥
      requested (r, e) = failing (false_from_ne_true (w.alive p) (λ l.
          let n = names r w.requests e in
          let z = all_found (λ (x : Parcel). enabled w (ServeGather x.peer x.asker x.ask) ≡ false) (is_parcel a p q.number) w.requests r e still.serve in
          false≢true (sym z ∙ and_from (w.alive r.peer) (is_some (parcel_of r.asker r.peer r.ask w.requests)) (ap w.alive n.1.0 ∙ l)
          (ap (λ x. is_some (parcel_of x r.peer r.ask w.requests)) n.0 ∙ ap (λ x. is_some (parcel_of a x r.ask w.requests)) n.1.0 ∙ ap (λ x. is_some (parcel_of a p x w.requests)) n.1.1 ∙ ap is_some e))))

      came : (r : Parcel) × (parcel_of a p q.number w.answers ≡ Some r) → ⊥
      came (r, e) =
          let n = names r w.answers e in
          let z = all_found (λ (x : Parcel). is_quiet_asker w x.asker ≡ true → enabled w (ArriveGather x.asker x.peer x.ask) ≡ false) (is_parcel a p q.number) w.answers r e still.arrive in
          false≢true (sym (z (ap (is_quiet_asker w) n.0 ∙ quiet)) ∙ and_from (is_asker w r.asker) (is_some (parcel_of r.asker r.peer r.ask w.answers)) (ap (is_asker w) n.0 ∙ asker)
          (ap (λ x. is_some (parcel_of x r.peer r.ask w.answers)) n.0 ∙ ap (λ x. is_some (parcel_of a x r.ask w.answers)) n.1.0 ∙ ap (λ x. is_some (parcel_of a p x w.answers)) n.1.1 ∙ ap is_some e))

  first_ask : (q : Ask) (qs : List Ask) → ask_to (q ∷ qs) q.peer ≡ Some q
  first_ask q qs = ap (λ b. cond b (Some q) (find (λ (x : Ask). eqb x.peer q.peer) qs)) (eq-eqb q.peer q.peer refl)

  no_asks : (i : ℕ) → is_connected w i ≡ true → (w.workers i).asks ≡ []
  no_asks i c = by (w.workers i).asks refl
    where
      by : (qs : List Ask) → (w.workers i).asks ≡ qs → qs ≡ []
      by [] e = refl
      by (q ∷ qs) e = let n = (subst (λ l. AllByRecursion (λ (x : Ask). IsNumber w.sched.last_worker x.peer) l) e (named.asks i)).0 in
          absurd (no_ask (Worker i) q.peer q (alive_of i c) c (λ d. still.fail i q.peer (h.sound.numbers i c).0 (h.sound.numbers i c).1 c n.0 n.1 d) (ap (λ l. ask_to l q.peer) e ∙ first_ask q qs))

  no_client_asks : (c : ℕ) → is_client w c ≡ true → (w.clients c).asks ≡ []
  no_client_asks c t = by (w.clients c).asks refl
    where
      by : (qs : List Ask) → (w.clients c).asks ≡ qs → qs ≡ []
      by [] e = refl
      by (q ∷ qs) e = let n = (subst (λ l. AllByRecursion (λ (x : Ask). IsNumber w.sched.last_worker x.peer) l) e (named.client_asks c)).0 in
          absurd (no_ask (Client c) q.peer q t refl (λ d. still.client_fails c q.peer t n.0 n.1 d) (ap (λ l. ask_to l q.peer) e ∙ first_ask q qs))

  -- ## A connected worker

  module _ (i : ℕ) (c : is_connected w i ≡ true) where
    abbrev W : WorkerFacts
    W = w.workers i

    graph : W.shape ≡ shape_of w
    graph = (h.inside.workers i).shape ∙ sym h.inside.shape

    stopped : (k : ℕ) → W.running k ≡ false
    unfolding enabled
    stopped k = false_from_ne_true (W.running k) (λ r. let l : k < key_count j.setting.shape = ltb-true k (key_count j.setting.shape) ((h.inside.workers i).running k r) in
        false≢true (sym (still.finish i k (h.sound.numbers i c).0 (h.sound.numbers i c).1 c (subst (λ (g : Shape). k < key_count g) (sym h.inside.shape) l)) ∙ and_from (w.alive i) (W.running k) (alive_of i c) r))

    grounded : (k : ℕ) → flying W k ≡ false
    unfolding flying
    grounded k = ap (λ l. is_asked_for l k) (no_asks i c)

    in_keys : (k : ℕ) → k < key_count W.shape → is_in k (worker_keys W) ≡ true
    in_keys k l = in_range 0 (key_count W.shape) k (omega arith) (omega (arith, l))

    not_ready : (k : ℕ) → k < key_count W.shape → is_ready_state (wstate W k) ≡ false
    unfolding enabled would_start running_count
    not_ready k l = false_from_ne_true (is_ready_state (wstate W k)) (λ r. found_some (λ x. is_ready_state (wstate W x)) k (worker_keys W) (in_keys k l) r
        (sym (ap (λ b. cond b (find (λ x. is_ready_state (wstate W x)) (worker_keys W)) None) free) ∙ none_from_is_some (would_start W) (and_fails (w.alive i) (is_some (would_start W)) (still.start i (h.sound.numbers i c).0 (h.sound.numbers i c).1 c) (alive_of i c))))
      where
        free : nat_lt (count W.running (worker_keys W)) W.threads ≡ true
        free = lt-ltb (count W.running (worker_keys W)) W.threads (let z : count W.running (worker_keys W) ≡ 0 = none_counted W.running stopped (worker_keys W) in let t : 1 ≤ W.threads = threads i (alive_of i c) in omega arith)

    not_fetch : (k : ℕ) → k < key_count W.shape → is_fetch_state (wstate W k) ≡ false
    unfolding enabled would_ask fetchable
    not_fetch k l = false_from_ne_true (is_fetch_state (wstate W k)) (λ r. by r (W.holders k) refl (holding r))
      where
        holding : is_fetch_state (wstate W k) ≡ true → has_any (W.holders k) ≡ true
        holding r = (and_parts (is_wanted W k) (has_any (W.holders k)) (and_parts (not (is_some (W.mine k))) _ (and_parts (not (flying W k)) _ (and_parts (not (W.running k)) _ (and_parts (not (W.mem k)) _ (sym (fetch_state-is W k) ∙ r)).1).1).1).1).1

        by : is_fetch_state (wstate W k) ≡ true → (hs : List (ℕ × ℕ)) → W.holders k ≡ hs → has_any (W.holders k) ≡ true → ⊥
        by r [] e a = false≢true (sym (ap has_any e) ∙ a)
        by r (x ∷ xs) e a =
            let n = (subst (AreNumbers w.sched.last_worker) e (named.holders i k)).0 in
            false≢true (sym (still.send i x.0 (h.sound.numbers i c).0 (h.sound.numbers i c).1 c n.0 n.1) ∙ and_from (w.alive i) (would_ask W x.0) (alive_of i c)
            (and_from (is_none (ask_to W.asks x.0)) (has_any (fetchable W x.0)) (ap (λ l. is_none (ask_to l x.0)) (no_asks i c))
            (any_filter_map (λ q. item_at x.0 q (W.holders q)) k (filter (λ q. is_fetch_state (wstate W q)) (worker_keys W)) (filter_in (λ q. is_fetch_state (wstate W q)) (worker_keys W) k (in_keys k l) r)
            (ap (λ l. is_some (item_at x.0 k l)) e ∙ item_there k x xs))))

    not_missing : (k : ℕ) → k < key_count W.shape → is_missing_state (wstate W k) ≡ false
    not_missing k l = false_from_ne_true (is_missing_state (wstate W k)) (λ r. let d = drained i c in
        false≢true (sym (ap (λ ms. list_any (questions k) ms || list_any (refreshes k) (w.down i)) d.up ∙ ap (λ ms. list_any (refreshes k) ms) d.down) ∙ refreshing i k (alive_of i c) c ((h.home.kept i (alive_of i c)).missing k l r)))

    -- a wanted key is fetched or missing
    not_wanted : (k : ℕ) → k < key_count W.shape → W.mem k ≡ false → W.mine k ≡ None → is_wanted W k ≡ true → ⊥
    not_wanted k l m o u = by (has_any (W.holders k)) refl
      where
        rest : (b : Bool) → b ≡ true → (not (W.mem k) && (not (W.running k) && (not (flying W k) && (not (is_some (W.mine k)) && (is_wanted W k && b))))) ≡ true
        rest b e = and_from _ _ (not_from_false (W.mem k) m) (and_from _ _ (not_from_false (W.running k) (stopped k)) (and_from _ _ (not_from_false (flying W k) (grounded k)) (and_from _ _ (ap (λ x. not (is_some x)) o) (and_from _ _ u e))))

        by : (b : Bool) → has_any (W.holders k) ≡ b → ⊥
        by true e = false≢true (sym (not_fetch k l) ∙ fetch_state-is W k ∙ rest (has_any (W.holders k)) e)
        by false e = false≢true (sym (not_missing k l) ∙ missing_state-is W k ∙ rest (not (has_any (W.holders k))) (not_from_false (has_any (W.holders k)) e))

    no_task : (k : ℕ) → W.mine k ≡ None
    unfolding awaited
    no_task = by_numbers (λ k. W.mine k ≡ None) (λ k before. ⊎_elim (λ l. there k before l (W.mine k) refl) (λ l. h.home.mine i k (subst (λ (g : Shape). key_count g ≤ k) (h.inside.workers i).shape l)) (cases_lt k (key_count W.shape)))
      where
        there : (k : ℕ) → ((d : ℕ) → d < k → W.mine d ≡ None) → k < key_count W.shape → (o : Option ℕ) → W.mine k ≡ o → o ≡ None
        there k before l None e = refl
        there k before l (Some a) e = absurd (false≢true (sym (not_ready k l) ∙ ready_state-is W k ∙ ready))
          where
            absent : W.mem k ≡ false
            absent = false_from_ne_true (W.mem k) (λ m. some_not_none a (sym e ∙ ((h.home.kept i (alive_of i c)).keys.at k).no_task m))

            pends : pending W k ≡ true
            pends = and_from (is_some (W.mine k)) (not (W.running k)) (ap is_some e) (not_from_false (W.running k) (stopped k))

            low : (d : ℕ) → is_in d (deps_of W.shape k) ≡ true → d < k
            low d m = under k d (deps_of W.shape k) (subst (λ (g : Shape). AllByRecursion (λ x. x < k) (deps_of g k)) (sym graph) (h.sound.shape.below k)) m

            here : (d : ℕ) → is_in d (deps_of W.shape k) ≡ true → W.mem d ≡ true
            here d m = by (W.mem d) refl
              where
                by : (b : Bool) → W.mem d ≡ b → b ≡ true
                by true q = refl
                by false q = absurd (not_wanted d (omega (arith, low d m, l)) q (before d (low d m))
                    (and_from (not (W.mem d)) (W.sought d || awaited W d) (not_from_false (W.mem d) q)
                    (ap (λ b. W.sought d || b) (any_where (λ x. pending W x && is_in d (deps_of W.shape x)) k (worker_keys W) (in_keys k l) (and_from (pending W k) (is_in d (deps_of W.shape k)) pends m)) ∙ or-true (W.sought d))))

            ready : (not (W.mem k) && (not (W.running k) && (not (flying W k) && (is_some (W.mine k) && is_fed W k)))) ≡ true
            ready = and_from _ _ (not_from_false (W.mem k) absent) (and_from _ _ (not_from_false (W.running k) (stopped k)) (and_from _ _ (not_from_false (flying W k) (grounded k)) (and_from _ _ (ap is_some e) (all_from W.mem (deps_of W.shape k) here))))

  -- ## The scheduler

  abbrev F : Facts
  F = w.sched

  no_place : (k : ℕ) → F.on k ≡ None
  no_place k = by (F.on k) refl
    where
      by : (o : Option (ℕ × ℕ)) → F.on k ≡ o → o ≡ None
      by None e = refl
      by (Some p) e = let c = h.sound.places p.0 k (ap (is_for p.0) e ∙ eq-eqb p.0 p.0 refl) in
          absurd (some_not_none p.1 (sym (((drained_agrees j w h p.0 (drained p.0 c)).mine k p.1).1 e) ∙ no_task p.0 c k))

  -- with a connected worker each ready key has a candidate
  module _ (v : ℕ) (c : is_connected w v ≡ true) where
    in_workers : is_in v (workers F) ≡ true
    in_workers = filter_in (connected F) (from_one F.last_worker) v (in_range 1 F.last_worker v (h.sound.numbers v c).0 (let n = (h.sound.numbers v c).1 in omega (arith, n))) c

    no_member : (xs : List ℕ) → xs ≡ [] → is_in v xs ≡ true → ⊥
    no_member xs e i = false≢true (sym (ap (is_in v) e) ∙ i)

    not_full : full F v ≡ false
    not_full = full-nowhere F (λ u k. ap (is_for u) (no_place k)) v (some_threads (F.threads v) refl c)
      where
        some_threads : (o : Option ℕ) → F.threads v ≡ o → is_some (F.threads v) ≡ true → 0 < threads_of F v * F.setting.saturation
        some_threads None e t = absurd (false≢true (sym (ap is_some e) ∙ t))
        some_threads (Some n) e t = subst (λ o. 0 < unwrap_or o 0 * F.setting.saturation) (sym e) (product n F.setting.saturation (h.sound.threads v n e).0 h.sound.saturation.0)
          where
            product : (x y : ℕ) → 1 ≤ x → 1 ≤ y → 0 < x * y
            product x y a b = grind arith

    candidate : (ds : List ℕ) → candidates_by F ds ≡ [] → ⊥
    candidate [] e = no_member (filter (λ u. not (full F u)) (workers F)) e (filter_in (λ u. not (full F u)) (workers F) v in_workers (not_from_false (full F v) not_full))
    candidate (d ∷ ds) e = by (filter (λ u. list_any (holds F u) (d ∷ ds)) (workers F)) e
      where
        by : (xs : List ℕ) → or_else xs (workers F) ≡ [] → ⊥
        by [] q = no_member (workers F) q in_workers
        by (x ∷ xs) q = cons_not_nil x xs q

    no_ready : (k : ℕ) → ready F k ≡ true → ⊥
    unfolding candidates
    no_ready k r = candidate (deps F k) (no_candidates F k (h.settled.waiting_have_no_place k r (no_place k)))

    -- no key is needed and open
    all_closed : (k : ℕ) → need F k ≡ true → open_key F k ≡ true → ⊥
    unfolding ready need
    all_closed = by_numbers (λ k. need F k ≡ true → open_key F k ≡ true → ⊥) (λ k before n o. no_ready k
        (and_from (need F k && open_key F k) (fed F k) (and_from (need F k) (open_key F k) n o) (all_from (held F) (deps F k) (λ d m. fed_by k before n o d m))))
      where
        erring : (k : ℕ) → open_key F k ≡ true → (F.bad k || list_any (erred F) (deps F k)) ≡ false
        erring k o = let p = and_parts (not (held F k)) (not (erred F k)) o in and_fails (not (held F k)) (F.bad k || list_any (erred F) (deps F k)) (sym (erred-is F h.sound k) ∙ not-true (erred F k) p.1) p.0

        none_erred : (k d : ℕ) → open_key F k ≡ true → is_in d (deps F k) ≡ true → erred F d ≡ false
        none_erred k d o m = false_from_ne_true (erred F d) (λ e. false≢true (sym (erring k o) ∙ ap (λ b. F.bad k || b) (any_where (erred F) d (deps F k) m e) ∙ or-true (F.bad k)))

        inside_keys : (k d : ℕ) → is_in d (deps F k) ≡ true → need F k ≡ true → is_in k (below (keys F)) ≡ true
        inside_keys k d m n = ⊎_elim (λ l. in_range 0 (keys F) k (omega arith) (omega (arith, l))) (λ l. absurd (false≢true (sym (need-past F h.sound k l) ∙ n))) (cases_lt k (keys F))

        fed_by : (k : ℕ) → ((d : ℕ) → d < k → need F d ≡ true → open_key F d ≡ true → ⊥) → need F k ≡ true → open_key F k ≡ true → (d : ℕ) → is_in d (deps F k) ≡ true → held F d ≡ true
        fed_by k before n o d m = by (held F d) refl
          where
            by : (b : Bool) → held F d ≡ b → b ≡ true
            by true e = refl
            by false e = absurd (before d (under k d (deps F k) (h.sound.shape.below k) m)
                (reach_next (deps F) (keys F) (wanted F) (open_key F) h.sound.shape.below k d (inside_keys k d m n) n o m)
                (and_from (not (held F d)) (not (erred F d)) (not_from_false (held F d) e) (not_from_false (erred F d) (none_erred k d o m))))

    -- ## The client

    waits : AreServed w → (cl k : ℕ) → unfinished w cl k ≡ true → ⊥
    unfolding enabled client_would_ask client_fetchable need wanted
    waits served cl k u = by (erred F k) refl (held F k) refl
      where
        C : ClientFacts
        C = w.clients cl

        there : is_client w cl ≡ true
        there = (and_parts (is_client w cl) (is_unfinished C k) u).0

        mine : is_unfinished C k ≡ true
        mine = (and_parts (is_client w cl) (is_unfinished C k) u).1

        wants : C.wants k ≡ true
        wants = (and_parts (C.wants k) (not (C.got k) && is_none (C.failed k)) mine).0

        lacks : (C.got k ≡ false) × (is_some (C.failed k) ≡ false)
        lacks = let p = and_parts (not (C.got k)) (is_none (C.failed k)) (and_parts (C.wants k) (not (C.got k) && is_none (C.failed k)) mine).1 in (not-true (C.got k) p.0, none (C.failed k) p.1)
          where
            none : (o : Option ℕ) → is_none o ≡ true → is_some o ≡ false
            none None e = refl
            none (Some x) e = absurd (false≢true e)

        s : IsServed w cl k
        s = served cl k there

        news : w.to_client cl ≡ []
        news = empty (w.to_client cl) (still.to_client cl there)

        letters : w.from_client cl ≡ []
        letters = empty (w.from_client cl) (still.from_client cl there)

        counted : F.want cl k ≡ true
        counted = sym (ap (λ ms. wants_at_last k ms (F.want cl k)) letters) ∙ s.want ∙ wants

        no_letters : (t : ClientMessage → Bool) → list_any t (w.from_client cl) ≡ false
        no_letters t = ap (list_any t) letters

        no_news : list_any (is_news k) (w.to_client cl) ≡ false
        no_news = ap (list_any (is_news k)) news

        inside_graph : k < key_count C.shape
        inside_graph = ⊎_elim (λ l. subst (λ (g : Shape). k < key_count g) (h.inside.shape ∙ sym (h.inside.clients cl).shape) l) (λ l. absurd (false≢true (sym (h.sound.want cl k l) ∙ counted))) (cases_lt k (keys F))

        opens : is_open C k ≡ true
        opens = and_from (C.wants k && not (C.got k)) (not (is_asked_for C.asks k)) (and_from (C.wants k) (not (C.got k)) wants (not_from_false (C.got k) lacks.0)) (ap (λ l. not (is_asked_for l k)) (no_client_asks cl there))

        asks : (hs : List (ℕ × ℕ)) → C.located k ≡ hs → has_any (C.located k) ≡ true → ⊥
        asks [] e a = false≢true (sym (ap has_any e) ∙ a)
        asks (x ∷ xs) e a =
            let n = (subst (AreNumbers w.sched.last_worker) e (named.located cl k)).0 in
            false≢true (sym (still.client_sends cl x.0 there n.0 n.1) ∙ and_from (is_client w cl) (client_would_ask C x.0) there
            (and_from (is_none (ask_to C.asks x.0)) (has_any (client_fetchable C x.0)) (ap (λ l. is_none (ask_to l x.0)) (no_client_asks cl there))
            (any_filter_map (λ q. item_at x.0 q (C.located q)) k (filter (is_open C) (client_keys C)) (filter_in (is_open C) (client_keys C) k (in_range 0 (key_count C.shape) k (omega arith) (omega (arith, inside_graph))) opens)
            (ap (λ l. is_some (item_at x.0 k l)) e ∙ item_there k x xs))))

        located : held F k ≡ true → ⊥
        located hd = ⊎_elim (λ g. false≢true (sym lacks.0 ∙ g))
            (λ r. ⊎_elim (λ a. asks (C.located k) refl a) (λ r2. ⊎_elim (λ a. false≢true (sym (ap (λ l. is_asked_for l k) (no_client_asks cl there)) ∙ a)) (λ m. false≢true (sym (no_letters (misses k)) ∙ m)) (or_cases (is_asked_for C.asks k) (list_any (misses k) (w.from_client cl)) r2))
            (or_cases (has_any (C.located k)) (is_asked_for C.asks k || list_any (misses k) (w.from_client cl)) r))
            (or_cases (C.got k) (has_any (C.located k) || (is_asked_for C.asks k || list_any (misses k) (w.from_client cl))) (s.held_known counted wants hd (no_letters (names_want k)) no_news))

        blamed : erred F k ≡ true → ⊥
        blamed e = ⊎_elim (λ g. false≢true (sym lacks.0 ∙ g)) (λ f. false≢true (sym lacks.1 ∙ f)) (or_cases (C.got k) (is_some (C.failed k)) (s.erred_known counted wants e (no_letters (names_want k)) no_news))

        needed : need F k ≡ true
        needed = reach-is (deps F) (keys F) (wanted F) (open_key F) h.sound.shape.below k ∙ ap (λ b. b || list_any (λ x. is_in k (deps F x) && (open_key F x && reach (deps F) (keys F) (wanted F) (open_key F) x)) (below (keys F))) start
          where
            start : wanted F k ≡ true
            start = let p = and_parts (nat_le 1 cl) (nat_le cl F.setting.clients) there in any_where (λ x. F.want x k) cl (from_one F.setting.clients) (in_range 1 F.setting.clients cl (leb-true 1 cl p.0) (let n = leb-true cl F.setting.clients p.1 in omega (arith, n))) counted

        by : (b : Bool) → erred F k ≡ b → (d : Bool) → held F k ≡ d → ⊥
        by true e d q = blamed e
        by false e true q = located q
        by false e false q = all_closed k needed (and_from (not (held F k)) (not (erred F k)) (not_from_false (held F k) q) (not_from_false (erred F k) e))

pub lively : (j : Job) (w : World) → IsJoint j w → IsAnswered w → IsRefreshing w → AreNamed w → HaveThreads w → AreServed w → IsLively w
lively j w h answered refreshing named threads served c k i u a con = by (has_any (progress w)) refl
  where
    by : (b : Bool) → has_any (progress w) ≡ b → b ≡ true
    by true e = refl
    by false e = absurd (waits j w h answered refreshing named threads (nothing_moves w e) i con served c k u)
