-- An answer comes to a worker, or its ask fails.
use Rattle.std.proofs.Common.{◌≡◌, ℕ, ◌+◌, ◌*◌, ◌≤◌, Bool, true, false, cond, not, ◌&&◌, ◌||◌, List, [], ◌∷◌, ◌++◌, length, Option, Some, None, refl, sym, ap, ◌∙◌, subst, arith, filter, fold, append-nil}
use Rattle.std.proofs.Math.Dec.{eqb}
use Rattle.std.specs.List.{list_any}
use Rattle.std.proofs.lemmas.Bool.{false≢true, eqb-true, eq-eqb, or_parts, and_parts}
use Rattle.small_facts.proofs.Options.{find_passes}
use Rattle.cluster_msgs.specs.declared.messages.Up.TheVariants.{TaskFinished, MissingData}
use Rattle.cluster_msgs.specs.declared.cores.Instruction.{Instruction}
use Rattle.cluster_msgs.specs.declared.cores.Instruction.TheVariants.{Send, Keep}
use Rattle.cluster_msgs.specs.declared.cores.WorkerEvent.TheVariants.{Gathered, GatherFailed}
use Rattle.cluster_msgs.specs.declared.events.Asker.{Asker}
use Rattle.cluster_msgs.specs.declared.events.Asker.TheVariants.{Worker, Client}
use Rattle.cluster_rules.specs.Functions.{put, total}
use Rattle.cluster_rules.specs.Derived.{is_in}
use Rattle.cluster_rules.specs.Sched.{Facts}
use Rattle.cluster_rules.specs.Worker.{Ask, WorkerFacts, worker_keys, ask_to, without_ask, names_key, awaited, is_wanted, flying, wstate, is_missing_state}
use Rattle.cluster_rules.specs.WorkerStep.{WorkerStep, quiet, after_out, each_key, into_mem, Arrivals, arrive_as, arrive, add_message, arrived, keys_of, lose_holders, not_found, answered_ask, gathered_by, gathered, worker_row, worker_step, seek_missing, unasked_keys}
use Rattle.cluster_rules.specs.World.{World, Parcel, open_ask, same_asker, parcel_of, without_parcel, is_parcel}
use Rattle.cluster_rules.specs.WorldStep.{sends, requested, worked, at_worker}
use Rattle.quiet_measure.specs.Weights.{bit, sum_of, is_current, question, up_weight, task_weight, ask_weight, core_weight}
use Rattle.quiet_measure.specs.Measure.{is_wrongful, counts_loss, is_missed, missed_in, up_disturbs, disturbances, deaths, Falls}
use Rattle.quiet_measure.specs.Turns.{PeersDiffer, MayGather}
use Rattle.quiet_measure.proofs.Sums.{total_at_most, sum_append, sum_at_most}
use Rattle.quiet_measure.proofs.Falling.{same_most}
use Rattle.quiet_measure.proofs.Asked.{sends_append}
use Rattle.quiet_measure.proofs.KeyByKey.{whole, whole_is, worth, seeks, sought_less, seeks_less}
use Rattle.quiet_measure.proofs.Told.{AsksNoPeer, no_peer, no_peers}
use Rattle.quiet_measure.proofs.Removed.{add_calm, add_alone}
use Rattle.quiet_measure.proofs.Asks.{sum_without, ask_without, asked_without, sum_answered, length_sum}
use Rattle.quiet_measure.proofs.Gather.{then_asks, gather_falls, whole_kept}
use Rattle.quiet_measure.proofs.Send.{item_weight, names_are, some_length}
use Rattle.quiet_measure.proofs.Gained.{IsBacked, backed, left, step_weight, arrived_weight, missed_all}

-- ## What goes out

gone_asks : (r : Arrivals) (ks : List ℕ) → (fold arrive r ks).facts.asks ≡ r.facts.asks
gone_asks r [] = refl
gone_asks r (k ∷ ks) = gone_asks (arrive r k) ks ∙ by (r.facts.mine k)
  where
    want : (b : Bool) → (cond b (record { facts = into_mem r.facts k; out = r.out ++ Keep k ∷ []; added = r.added ++ k ∷ [] }) r).facts.asks ≡ r.facts.asks
    want true = refl
    want false = refl

    by : (o : Option ℕ) → (arrive_as r k o).facts.asks ≡ r.facts.asks
    by (Some a) = refl
    by None = want (is_wanted r.facts k)

gone_alone : (r : Arrivals) (ks : List ℕ) → AsksNoPeer r.out → AsksNoPeer (fold arrive r ks).out
gone_alone r [] h = h
gone_alone r (k ∷ ks) h = gone_alone (arrive r k) ks (by (r.facts.mine k))
  where
    want : (b : Bool) → AsksNoPeer (cond b (record { facts = into_mem r.facts k; out = r.out ++ Keep k ∷ []; added = r.added ++ k ∷ [] }) r).out
    want true = no_peers r.out (Keep k ∷ []) h (record { same = λ i qs is. refl })
    want false = h

    by : (o : Option ℕ) → AsksNoPeer (arrive_as r k o).out
    by (Some a) = no_peers r.out (Keep k ∷ Send (TaskFinished r.facts.seen k a) ∷ []) h (record { same = λ i qs is. refl })
    by None = want (is_wanted r.facts k)

module _ (w : World) (i : ℕ) (alive : w.alive i ≡ true) where
  abbrev stirs : List Instruction → ℕ
  stirs out = sum_of (up_disturbs w i) (sends out)

  stirs_both : (xs ys : List Instruction) → stirs (xs ++ ys) ≡ stirs xs + stirs ys
  stirs_both xs ys = ap (sum_of (up_disturbs w i)) (sends_append xs ys) ∙ sum_append (up_disturbs w i) (sends xs) (sends ys)

  gone_calm : (r : Arrivals) (ks : List ℕ) → stirs (fold arrive r ks).out ≡ stirs r.out
  gone_calm r [] = refl
  gone_calm r (k ∷ ks) = gone_calm (arrive r k) ks ∙ by (r.facts.mine k)
    where
      plain : (m : ℕ) → m ≡ 0 → stirs r.out + m ≡ stirs r.out
      plain m e = omega arith

      want : (b : Bool) → stirs (cond b (record { facts = into_mem r.facts k; out = r.out ++ Keep k ∷ []; added = r.added ++ k ∷ [] }) r).out ≡ stirs r.out
      want true = stirs_both r.out (Keep k ∷ []) ∙ plain 0 refl
      want false = refl

      by : (o : Option ℕ) → stirs (arrive_as r k o).out ≡ stirs r.out
      by (Some a) = stirs_both r.out (Keep k ∷ Send (TaskFinished r.facts.seen k a) ∷ []) ∙ plain _ (ap (λ b. bit (not b) + 0) alive)
      by None = want (is_wanted r.facts k)

  arrived_calm : (v : WorkerFacts) (ks : List ℕ) → stirs (arrived v ks).out ≡ 0
  unfolding arrived
  arrived_calm v ks =
      let r : Arrivals = fold arrive (record { facts = v; out = []; added = [] }) ks in
      let a : stirs (r.out ++ add_message r.facts.seen r.added) ≡ stirs r.out + stirs (add_message r.facts.seen r.added) = stirs_both r.out (add_message r.facts.seen r.added) in
      let b : stirs (add_message r.facts.seen r.added) ≡ 0 = add_calm w i r.facts.seen r.added alive in
      let c : stirs r.out ≡ 0 = gone_calm (record { facts = v; out = []; added = [] }) ks in
      omega arith

  -- a copy that wasn't there is told of
  missed_calm : (p : ℕ) (s : WorkerStep) (is : List (ℕ × ℕ)) → stirs (each_key (not_found p) s is).out ≤ stirs s.out + sum_of (λ (x : ℕ × ℕ). bit (is_wrongful w p x.0 x.1)) is
  missed_calm p s [] = omega arith
  missed_calm p s (x ∷ is) =
      let a : stirs (each_key (not_found p) (after_out s.out (not_found p s.facts x)) is).out ≤ stirs (after_out s.out (not_found p s.facts x)).out + sum_of (λ (x : ℕ × ℕ). bit (is_wrongful w p x.0 x.1)) is =
      missed_calm p (after_out s.out (not_found p s.facts x)) is in
      let b : stirs (after_out s.out (not_found p s.facts x)).out ≤ stirs s.out + bit (is_wrongful w p x.0 x.1) = by (is_missing_state (wstate (lose_holders s.facts x.0) x.0)) in
      omega arith
    where
      by : (b : Bool) → stirs (after_out s.out (cond b (record { facts = record (lose_holders s.facts x.0) { asked = put s.facts.asked x.0 true }; out = Send (MissingData s.facts.seen x.0 p x.1) ∷ [] }) (quiet (lose_holders s.facts x.0)))).out
          ≤ stirs s.out + bit (is_wrongful w p x.0 x.1)
      by true = let e : stirs (s.out ++ Send (MissingData s.facts.seen x.0 p x.1) ∷ []) ≡ stirs s.out + (bit (is_wrongful w p x.0 x.1) + 0) = stirs_both s.out (Send (MissingData s.facts.seen x.0 p x.1) ∷ []) in omega arith
      by false = let e : stirs (s.out ++ []) ≡ stirs s.out + 0 = stirs_both s.out [] in omega arith

missed_alone : (p : ℕ) (s : WorkerStep) (is : List (ℕ × ℕ)) → AsksNoPeer s.out → AsksNoPeer (each_key (not_found p) s is).out
missed_alone p s [] h = h
missed_alone p s (x ∷ is) h = missed_alone p (after_out s.out (not_found p s.facts x)) is (by (is_missing_state (wstate (lose_holders s.facts x.0) x.0)))
  where
    by : (b : Bool) → AsksNoPeer (after_out s.out (cond b (record { facts = record (lose_holders s.facts x.0) { asked = put s.facts.asked x.0 true }; out = Send (MissingData s.facts.seen x.0 p x.1) ∷ [] }) (quiet (lose_holders s.facts x.0)))).out
    by true = no_peers s.out (Send (MissingData s.facts.seen x.0 p x.1) ∷ []) h (record { same = λ i qs is. refl })
    by false = no_peers s.out [] h no_peer

missed_asks : (p : ℕ) (s : WorkerStep) (is : List (ℕ × ℕ)) → (each_key (not_found p) s is).facts.asks ≡ s.facts.asks
missed_asks p s [] = refl
missed_asks p s (x ∷ is) = missed_asks p (after_out s.out (not_found p s.facts x)) is ∙ by (is_missing_state (wstate (lose_holders s.facts x.0) x.0))
  where
    by : (b : Bool) → (cond b (record { facts = record (lose_holders s.facts x.0) { asked = put s.facts.asked x.0 true }; out = Send (MissingData s.facts.seen x.0 p x.1) ∷ [] }) (quiet (lose_holders s.facts x.0))).facts.asks ≡ s.facts.asks
    by true = refl
    by false = refl

-- ## What it weighs

pub sum_split : {A : Type 0} (g : A → ℕ) (t : A → Bool) (xs : List A) → sum_of g (filter t xs) + sum_of g (filter (λ x. not (t x)) xs) ≡ sum_of g xs
sum_split g t [] = refl
sum_split g t (x ∷ xs) = by (t x) (sum_split g t xs)
  where
    by : (b : Bool) → sum_of g (filter t xs) + sum_of g (filter (λ x. not (t x)) xs) ≡ sum_of g xs
        → sum_of g (cond b (x ∷ filter t xs) (filter t xs)) + sum_of g (cond (not b) (x ∷ filter (λ x. not (t x)) xs) (filter (λ x. not (t x)) xs)) ≡ g x + sum_of g xs
    by true e = omega arith
    by false e = omega arith

pub sum_passing : {A : Type 0} (s t : A → Bool) (xs : List A) → sum_of (λ x. bit (s x)) (filter t xs) ≡ sum_of (λ x. bit (t x && s x)) xs
sum_passing s t [] = refl
sum_passing s t (x ∷ xs) = by (t x) (sum_passing s t xs)
  where
    by : (b : Bool) → sum_of (λ x. bit (s x)) (filter t xs) ≡ sum_of (λ x. bit (t x && s x)) xs → sum_of (λ x. bit (s x)) (cond b (x ∷ filter t xs) (filter t xs)) ≡ bit (b && s x) + sum_of (λ x. bit (t x && s x)) xs
    by true e = omega arith
    by false e = omega arith

pub in_append : (q : ℕ) (xs ys : List ℕ) → is_in q (xs ++ ys) ≡ false → (is_in q xs ≡ false) × (is_in q ys ≡ false)
in_append q [] ys e = (refl, e)
in_append q (x ∷ xs) ys e =
    let r = or_parts (eqb x q) (is_in q (xs ++ ys)) e in
    let t = in_append q xs ys r.1 in
    (ap (λ b. b || is_in q xs) r.0 ∙ t.0, t.1)

-- a key that is neither among the found nor among the others
pub in_neither : (q : ℕ) (t : ℕ × ℕ → Bool) (is : List (ℕ × ℕ)) → is_in q (keys_of (filter t is)) ≡ false → is_in q (keys_of (filter (λ x. not (t x)) is)) ≡ false → is_in q (keys_of is) ≡ false
in_neither q t [] a b = refl
in_neither q t (x ∷ is) a b = by (t x) a b (in_neither q t is)
  where
    by : (c : Bool) → is_in q (keys_of (cond c (x ∷ filter t is) (filter t is))) ≡ false → is_in q (keys_of (cond (not c) (x ∷ filter (λ x. not (t x)) is) (filter (λ x. not (t x)) is))) ≡ false
        → (is_in q (keys_of (filter t is)) ≡ false → is_in q (keys_of (filter (λ x. not (t x)) is)) ≡ false → is_in q (keys_of is) ≡ false) → (eqb x.0 q || is_in q (keys_of is)) ≡ false
    by true a b h = let r = or_parts (eqb x.0 q) (is_in q (keys_of (filter t is))) a in ap (λ c. c || is_in q (keys_of is)) r.0 ∙ h r.1 b
    by false a b h = let r = or_parts (eqb x.0 q) (is_in q (keys_of (filter (λ x. not (t x)) is))) b in ap (λ c. c || is_in q (keys_of is)) r.0 ∙ h a r.1

-- the ask that goes, as its peer's
pub ask_items_weigh : (f : Facts) (d : ℕ → ℕ) (a : Ask) (p : ℕ) → a.peer ≡ p → ask_weight f d a ≡ sum_of (item_weight f d p) a.items
ask_items_weigh f d a p e = ap (λ x. sum_of (item_weight f d x) a.items) e

module _ (f : Facts) (d : ℕ → ℕ) (back : IsBacked f d) (w : WorkerFacts) (p : ℕ) (a : Ask) (found : List ℕ) (differ : PeersDiffer w.asks) (e : ask_to w.asks p ≡ Some a) where
  abbrev let_go : WorkerFacts
  let_go = record w { asks = without_ask w.asks p }

  abbrev there : ℕ × ℕ → Bool
  there i = is_in i.0 found

  abbrev came : List (ℕ × ℕ)
  came = filter there a.items

  abbrev missed : List (ℕ × ℕ)
  missed = filter (λ i. not (there i)) a.items

  abbrev rows : WorkerStep
  rows = answered_ask let_go p a.items found

  same_awaited : (q : ℕ) → awaited let_go q ≡ awaited w q
  unfolding awaited
  same_awaited q = refl

  same_flying : (q : ℕ) → names_key q a ≡ false → flying let_go q ≡ flying w q
  unfolding flying
  same_flying q n = asked_without w.asks p q a differ e n

  begins : left f d let_go (keys_of came ++ (keys_of missed ++ [])) ≤ total (worth f d w) (worker_keys w)
  begins = total_at_most _ _ (worker_keys w) (λ q. by q (is_in q (keys_of came ++ (keys_of missed ++ []))) refl)
    where
      by : (q : ℕ) (b : Bool) → is_in q (keys_of came ++ (keys_of missed ++ [])) ≡ b → task_weight d w q + cond b 0 (seeks f d let_go q) ≤ task_weight d w q + seeks f d w q
      by q true o = omega arith
      by q false o =
          let x = in_append q (keys_of came) (keys_of missed ++ []) o in
          let y = in_append q (keys_of missed) [] x.1 in
          let l : seeks f d let_go q ≤ seeks f d w q = seeks_less f d w let_go q
          (sought_less w let_go q (λ z. sym (same_awaited q) ∙ z) refl refl (same_flying q (names_are a.items q ∙ in_neither q there a.items x.0 y.0)))
          (record { mem = refl; sought = refl; running = refl; mine = refl; asked = refl; holders = refl }) in
          omega arith

  peer : a.peer ≡ p
  peer = eqb-true a.peer p (find_passes (λ (x : Ask). eqb x.peer p) w.asks a e)

  rows_asks : rows.facts.asks ≡ without_ask w.asks p
  unfolding arrived
  rows_asks = missed_asks p (arrived let_go (keys_of came)) missed ∙ gone_asks (record { facts = let_go; out = []; added = [] }) (keys_of came)

  rows_alone : AsksNoPeer rows.out
  unfolding arrived
  rows_alone = missed_alone p (arrived let_go (keys_of came)) missed
      (no_peers (fold arrive (record { facts = let_go; out = []; added = [] }) (keys_of came)).out _ (gone_alone (record { facts = let_go; out = []; added = [] }) (keys_of came) no_peer) (add_alone _ _))

  pub rows_weight : (whole f d rows.facts + sum_of (up_weight f d) (sends rows.out)) + 2 * length missed ≤ whole f d w
  rows_weight =
      let m : step_weight f d p back rows [] + 2 * length missed ≤ step_weight f d p back (arrived let_go (keys_of came)) (keys_of missed ++ []) + sum_of (item_weight f d p) missed = missed_all f d p back (arrived let_go (keys_of came)) missed [] in
      let c : step_weight f d p back (arrived let_go (keys_of came)) (keys_of missed ++ []) ≤ left f d let_go (keys_of came ++ (keys_of missed ++ [])) + sum_of (item_weight f d p) came = arrived_weight f d p back let_go came (keys_of missed ++ []) in
      let s : sum_of (item_weight f d p) came + sum_of (item_weight f d p) missed ≡ sum_of (item_weight f d p) a.items = sum_split (item_weight f d p) there a.items in
      let i : ask_weight f d a ≡ sum_of (item_weight f d p) a.items = ask_items_weigh f d a p peer in
      let k : sum_of (ask_weight f d) (without_ask w.asks p) + ask_weight f d a ≤ sum_of (ask_weight f d) w.asks = sum_without (ask_weight f d) w.asks p a e peer in
      let l : sum_of (ask_weight f d) rows.facts.asks ≡ sum_of (ask_weight f d) (without_ask w.asks p) = ap (sum_of (ask_weight f d)) rows_asks in
      omega (arith, m, c, s, i, k, l, begins)

-- ## A dead peer

pub all_missed : (xs : List (ℕ × ℕ)) → length (filter (λ (x : ℕ × ℕ). not (is_in x.0 [])) xs) ≡ length xs
all_missed [] = refl
all_missed (x ∷ xs) = let r : length (filter (λ (x : ℕ × ℕ). not (is_in x.0 [])) xs) ≡ length xs = all_missed xs in omega arith

right : (b : Bool) → bit (b && false) ≡ 0
right true = refl
right false = refl

pub none_wrong : (w : World) (p : ℕ) → w.alive p ≡ false → (xs : List (ℕ × ℕ)) → sum_of (λ (x : ℕ × ℕ). bit (is_wrongful w p x.0 x.1)) xs ≡ 0
none_wrong w p dead [] = refl
none_wrong w p dead (x ∷ xs) =
    let r : sum_of (λ (x : ℕ × ℕ). bit (is_wrongful w p x.0 x.1)) xs ≡ 0 = none_wrong w p dead xs in
    let z : bit (is_wrongful w p x.0 x.1) ≡ 0 = ap (λ b. bit (is_current w.sched p x.0 x.1 && not (not b || list_any (counts_loss w.sched p x.0) (w.up p)))) dead ∙ right (is_current w.sched p x.0 x.1) in
    omega arith

-- ## The events

pub same_is : (a : Asker) (i : ℕ) → same_asker a (Worker i) ≡ true → a ≡ Worker i
same_is (Worker x) i e = ap (λ n. Worker n) (eqb-true x i e)
same_is (Client c) i e = absurd (false≢true e)

-- what an answer to an open ask may hide
abbrev hidden : World → Parcel → ℕ
hidden w q = missed_in w q (open_ask w q.asker q.peer)

module _ (w : World) (i : ℕ) (may : MayGather w (Worker i)) (alive : w.alive i ≡ true) where
  abbrev W : WorkerFacts
  W = w.workers i

  asks_less : (s : WorkerStep) (qs : List Parcel) (p : ℕ) → s.facts.asks ≡ without_ask W.asks p → (q : Parcel) (a : Asker) (r : ℕ) → missed_in w q (then_asks w i s qs a r) ≤ missed_in w q (open_ask w a r)
  asks_less s qs p h q (Client c) r = same_most _ _ refl
  asks_less s qs p h q (Worker x) r = by (eqb x i) refl
    where
      less : (b : Bool) → missed_in w q (cond b None (ask_to W.asks r)) ≤ missed_in w q (ask_to W.asks r)
      less true = omega arith
      less false = omega arith

      by : (b : Bool) → eqb x i ≡ b → missed_in w q (ask_to (cond b (seek_missing s).facts (w.workers x)).asks r) ≤ missed_in w q (ask_to (w.workers x).asks r)
      by false e = omega arith
      by true e =
          let a : missed_in w q (ask_to s.facts.asks r) ≡ missed_in w q (cond (eqb r p) None (ask_to W.asks r)) = ap (λ l. missed_in w q (ask_to l r)) h ∙ ap (missed_in w q) (ask_without W.asks p r) in
          let b : missed_in w q (ask_to W.asks r) ≡ missed_in w q (ask_to (w.workers x).asks r) = ap (λ n. missed_in w q (ask_to (w.workers n).asks r)) (sym (eqb-true x i e)) in
          omega (arith, a, b, less (eqb r p))

  asks_same : (qs : List Parcel) (q : Parcel) (a : Asker) (r : ℕ) → missed_in w q (then_asks w i (quiet W) qs a r) ≤ missed_in w q (open_ask w a r)
  asks_same qs q (Client c) r = same_most _ _ refl
  asks_same qs q (Worker x) r = by (eqb x i) refl
    where
      by : (b : Bool) → eqb x i ≡ b → missed_in w q (ask_to (cond b (seek_missing (quiet W)).facts (w.workers x)).asks r) ≤ missed_in w q (ask_to (w.workers x).asks r)
      by false e = omega arith
      by true e = let b : missed_in w q (ask_to W.asks r) ≡ missed_in w q (ask_to (w.workers x).asks r) = ap (λ n. missed_in w q (ask_to (w.workers n).asks r)) (sym (eqb-true x i e)) in omega (arith, b)

  kept_whole : (d : ℕ → ℕ) → whole w.sched d W ≡ core_weight w.sched d W
  kept_whole d =
      let b : core_weight w.sched d W + total (question d) (unasked_keys W) ≡ whole w.sched d W = whole_is w.sched d W in
      let z : total (question d) (unasked_keys W) ≡ 0 = ap (total (question d)) (whole_kept W may.kept) in
      omega arith

  -- an answer that belongs to no open ask
  drops : (qs : List Parcel) → length qs + 1 ≤ length w.answers → sum_of (hidden w) qs ≤ sum_of (hidden w) w.answers → Falls w (worked (record w { answers = qs }) i (seek_missing (quiet W)))
  drops qs n c = gather_falls w i (quiet W) qs
      (let l : sum_of (λ (q : Parcel). missed_in w q (then_asks w i (quiet W) qs q.asker q.peer)) qs ≤ sum_of (hidden w) qs = sum_at_most _ _ qs (λ (q : Parcel). asks_same qs q q.asker q.peer) in omega (arith, l, c))
      alive may.quiet (may.sound.numbers i may.quiet).0 (may.sound.numbers i may.quiet).1 (omega (arith, n)) (omega (arith, n, kept_whole (deaths w.sched (disturbances w))))

  -- an ask that is over
  takes : (p : ℕ) (a : Ask) (found : List ℕ) (qs : List Parcel) → ask_to W.asks p ≡ Some a → length qs ≤ length w.answers
      → length qs + 1 ≤ length w.answers + 2 * length (filter (λ (x : ℕ × ℕ). not (is_in x.0 found)) a.items)
      → sum_of (λ (x : ℕ × ℕ). bit (is_wrongful w p x.0 x.1)) (filter (λ (x : ℕ × ℕ). not (is_in x.0 found)) a.items) + sum_of (hidden w) qs ≤ sum_of (hidden w) w.answers
      → Falls w (worked (record w { answers = qs }) i (seek_missing (answered_ask (record W { asks = without_ask W.asks p }) p a.items found)))
  takes p a found qs e n m c = gather_falls w i rows qs calm alive may.quiet (may.sound.numbers i may.quiet).0 (may.sound.numbers i may.quiet).1 n
      (let d : ℕ → ℕ = deaths w.sched (disturbances w) in
      let l : (whole w.sched d rows.facts + sum_of (up_weight w.sched d) (sends rows.out)) + 2 * length (filter (λ (x : ℕ × ℕ). not (is_in x.0 found)) a.items) ≤ whole w.sched d W =
      rows_weight w.sched d (backed w.sched (disturbances w) may.sound) W p a found may.differ e in
      let r : length (requested (Worker i) w.requests rows.out) ≡ length w.requests = ap length (same i w.requests) in
      omega (arith, l, r, m, kept_whole d))
    where
      rows : WorkerStep
      rows = answered_ask (record (w.workers i) { asks = without_ask (w.workers i).asks p }) p a.items found

      same : (j : ℕ) (xs : List Parcel) → requested (Worker j) xs rows.out ≡ xs
      same j xs = ap (requested (Worker j) xs) (sym (append-nil rows.out)) ∙ (rows_alone w.sched (deaths w.sched 0) (backed w.sched 0 may.sound) W p a found may.differ e).same j xs []

      calm : sum_of (up_disturbs w i) (sends rows.out) + sum_of (λ (q : Parcel). missed_in w q (then_asks w i rows qs q.asker q.peer)) qs ≤ sum_of (hidden w) w.answers
      calm =
          let l : sum_of (λ (q : Parcel). missed_in w q (then_asks w i rows qs q.asker q.peer)) qs ≤ sum_of (hidden w) qs = sum_at_most _ _ qs
          (λ (q : Parcel). asks_less rows qs p (rows_asks w.sched (deaths w.sched 0) (backed w.sched 0 may.sound) W p a found may.differ e) q q.asker q.peer) in
          let t : sum_of (up_disturbs w i) (sends rows.out) ≤ sum_of (up_disturbs w i) (sends (arrived (record (w.workers i) { asks = without_ask (w.workers i).asks p }) (keys_of (filter (λ (x : ℕ × ℕ). is_in x.0 found) a.items))).out)
          + sum_of (λ (x : ℕ × ℕ). bit (is_wrongful w p x.0 x.1)) (filter (λ (x : ℕ × ℕ). not (is_in x.0 found)) a.items) =
          missed_calm w i alive p (arrived (record (w.workers i) { asks = without_ask (w.workers i).asks p }) (keys_of (filter (λ (x : ℕ × ℕ). is_in x.0 found) a.items))) (filter (λ (x : ℕ × ℕ). not (is_in x.0 found)) a.items) in
          let z : sum_of (up_disturbs w i) (sends (arrived (record (w.workers i) { asks = without_ask (w.workers i).asks p }) (keys_of (filter (λ (x : ℕ × ℕ). is_in x.0 found) a.items))).out) ≡ 0 =
          arrived_calm w i alive (record (w.workers i) { asks = without_ask (w.workers i).asks p }) (keys_of (filter (λ (x : ℕ × ℕ). is_in x.0 found) a.items)) in
          omega (arith, l, t, z, c)

  pub worker_arrives : (p n : ℕ) (q : Parcel) → parcel_of (Worker i) p n w.answers ≡ Some q → Falls w (at_worker (record w { answers = without_parcel q.asker q.peer q.ask w.answers }) i (Gathered q.peer q.ask q.keys))
  unfolding worker_step worker_row gathered
  worker_arrives p n q e = by (ask_to W.asks q.peer) refl
    where
      qs : List Parcel
      qs = without_parcel q.asker q.peer q.ask w.answers

      asker : q.asker ≡ Worker i
      asker = same_is q.asker i (and_parts (same_asker q.asker (Worker i)) _ (find_passes (is_parcel (Worker i) p n) w.answers q e)).0

      fewer : length qs + 1 ≤ length w.answers
      fewer = let a : sum_of (λ (x : Parcel). 1) qs + 1 ≤ sum_of (λ (x : Parcel). 1) w.answers = sum_answered (λ x. 1) (Worker i) p n w.answers q e in omega (arith, a, length_sum qs, length_sum w.answers)

      less : sum_of (hidden w) qs + hidden w q ≤ sum_of (hidden w) w.answers
      less = sum_answered (hidden w) (Worker i) p n w.answers q e

      by : (o : Option Ask) → ask_to W.asks q.peer ≡ o → Falls w (worked (record w { answers = without_parcel q.asker q.peer q.ask w.answers }) i (seek_missing (gathered_by W q.peer q.ask q.keys o)))
      by None h = drops qs fewer (omega (arith, less))
      by (Some a) h = match (eqb a.number q.ask) refl
        where
          match : (b : Bool) → eqb a.number q.ask ≡ b → Falls w (worked (record w { answers = without_parcel q.asker q.peer q.ask w.answers }) i (seek_missing (cond b (answered_ask (record W { asks = without_ask W.asks q.peer }) q.peer a.items q.keys) (quiet W))))
          match false m = drops qs fewer (omega (arith, less))
          match true m = takes q.peer a q.keys qs h (omega (arith, fewer)) (omega (arith, fewer))
              (let x : hidden w q ≡ sum_of (λ (y : ℕ × ℕ). bit (is_missed w q y)) a.items = ap (λ c. missed_in w q (open_ask w c q.peer)) asker ∙ ap (missed_in w q) h ∙ ap (λ b. cond b (sum_of (λ (y : ℕ × ℕ). bit (is_missed w q y)) a.items) 0) m in
              let y : sum_of (λ (y : ℕ × ℕ). bit (is_wrongful w q.peer y.0 y.1)) (filter (λ (y : ℕ × ℕ). not (is_in y.0 q.keys)) a.items) ≡ sum_of (λ (y : ℕ × ℕ). bit (is_missed w q y)) a.items =
              sum_passing (λ (y : ℕ × ℕ). is_wrongful w q.peer y.0 y.1) (λ (y : ℕ × ℕ). not (is_in y.0 q.keys)) a.items in
              omega (arith, x, y, less))

  pub worker_fails : (p : ℕ) (a : Ask) → w.alive p ≡ false → ask_to W.asks p ≡ Some a → Falls w (at_worker w i (GatherFailed p a.number))
  unfolding worker_step worker_row gathered
  worker_fails p a dead e = subst (λ (o : Option Ask). Falls w (worked w i (seek_missing (gathered_by W p a.number [] o)))) (sym e)
      (subst (λ (b : Bool). Falls w (worked w i (seek_missing (cond b (answered_ask (record W { asks = without_ask W.asks p }) p a.items []) (quiet W))))) (sym (eq-eqb a.number a.number refl))
      (takes p a [] w.answers e (omega arith) (omega (arith, all_missed a.items, some_length a.items (may.some p a e))) (omega (arith, none_wrong w p dead (filter (λ (x : ℕ × ℕ). not (is_in x.0 [])) a.items)))))
