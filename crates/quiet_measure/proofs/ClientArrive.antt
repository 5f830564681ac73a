-- An answer comes to a client, or its ask fails.
use Rattle.std.proofs.Common.{◌≡◌, ℕ, ◌+◌, ◌*◌, ◌≤◌, Bool, true, false, cond, not, ◌&&◌, ◌||◌, List, [], ◌∷◌, ◌++◌, length, Option, Some, None, refl, sym, ap, ◌∙◌, subst, arith, filter, fold}
use Rattle.std.proofs.Math.Dec.{eqb}
use Rattle.std.specs.List.{filter_map, cons_option}
use Rattle.std.proofs.lemmas.Bool.{false≢true, eqb-true, eq-eqb, ne_eqb, eqb-false, and_parts}
use Rattle.small_facts.proofs.Options.{find_passes}
use Rattle.cluster_msgs.specs.Shape.{Shape, key_count}
use Rattle.cluster_msgs.specs.declared.messages.FromClient.TheVariants.{Missing}
use Rattle.cluster_msgs.specs.declared.cores.ClientInstruction.{ClientInstruction}
use Rattle.cluster_msgs.specs.declared.cores.ClientInstruction.TheVariants.{Send}
use Rattle.cluster_msgs.specs.declared.cores.ClientEvent.TheVariants.{Gathered, GatherFailed}
use Rattle.cluster_msgs.specs.declared.events.Asker.{Asker}
use Rattle.cluster_msgs.specs.declared.events.Asker.TheVariants.{Worker, Client}
use Rattle.cluster_rules.specs.Functions.{put, total}
use Rattle.cluster_rules.specs.Derived.{is_in, below}
use Rattle.cluster_rules.specs.Sched.{Facts}
use Rattle.cluster_rules.specs.Worker.{Ask, ask_to, without_ask, is_asked_for}
use Rattle.cluster_rules.specs.WorkerStep.{keys_of}
use Rattle.cluster_rules.specs.Client.{ClientFacts, ClientStep, client_keys, is_open, keeps_still, client_gets, client_misses, missing_message, client_answered, client_gathered_by, client_gathered, client_step}
use Rattle.cluster_rules.specs.World.{World, Parcel, is_client, open_ask, same_asker, parcel_of, without_parcel, is_parcel}
use Rattle.cluster_rules.specs.WorldStep.{client_sends, client_requested, client_worked, at_client}
use Rattle.quiet_measure.specs.Weights.{bit, sum_of, is_stale, list_weight, known_weight, ask_weight, letter_weight, client_core_weight}
use Rattle.quiet_measure.specs.Measure.{is_wrongful, is_missed, missed_in, letter_disturbs, disturbances, deaths, Falls}
use Rattle.quiet_measure.specs.Turns.{PeersDiffer, MayGather}
use Rattle.quiet_measure.proofs.Sums.{total_at_most, sum_at_most}
use Rattle.quiet_measure.proofs.Falling.{same_most}
use Rattle.quiet_measure.proofs.Asks.{sum_without, ask_without, asked_without, sum_answered, length_sum}
use Rattle.quiet_measure.proofs.Send.{item_weight, names_are, some_length}
use Rattle.quiet_measure.proofs.Gained.{IsBacked, backed, item_some, item_missed}
use Rattle.quiet_measure.proofs.Arrive.{sum_split, sum_passing, in_append, in_neither, ask_items_weigh, all_missed, none_wrong}
use Rattle.quiet_measure.proofs.ClientSend.{knows, knows_closed}
use Rattle.quiet_measure.proofs.ClientTurn.{then_asks, client_gather_falls}

-- ## What is left of what a client knows, but for keys that are still to be told of

abbrev left : Facts → (ℕ → ℕ) → ClientFacts → List ℕ → ℕ
left f d c R = total (λ q. cond (is_in q R) 0 (knows f d c q)) (client_keys c)

left_less : (f : Facts) (d : ℕ → ℕ) (c v : ClientFacts) (k : ℕ) (R : List ℕ) → v.shape ≡ c.shape → ((q : ℕ) → eqb q k ≡ false → knows f d v q ≤ knows f d c q) → knows f d v k ≤ 0 → left f d v R ≤ left f d c (k ∷ R)
left_less f d c v k R s o z =
    let a : total (λ q. cond (is_in q R) 0 (knows f d v q)) (below (key_count c.shape)) ≤ total (λ q. cond (is_in q (k ∷ R)) 0 (knows f d c q)) (below (key_count c.shape)) = total_at_most _ _ (below (key_count c.shape)) (λ q. by q (eqb k q) refl) in
    let e : left f d v R ≡ total (λ q. cond (is_in q R) 0 (knows f d v q)) (below (key_count c.shape)) = ap (λ (g : Shape). total (λ q. cond (is_in q R) 0 (knows f d v q)) (below (key_count g))) s in
    omega (arith, a, e)
  where
    nothing : (b : Bool) (n : ℕ) → n ≤ 0 → cond b 0 n ≤ 0
    nothing true n l = omega arith
    nothing false n l = l

    less : (b : Bool) (n m : ℕ) → n ≤ m → cond b 0 n ≤ cond b 0 m
    less true n m l = omega arith
    less false n m l = l

    by : (q : ℕ) (b : Bool) → eqb k q ≡ b → cond (is_in q R) 0 (knows f d v q) ≤ cond (b || is_in q R) 0 (knows f d c q)
    by q true e = nothing (is_in q R) _ (subst (λ x. knows f d v x ≤ 0) (eqb-true k q e) z)
    by q false e = less (is_in q R) _ _ (o q (ne_eqb q k (λ x. eqb-false k q e (sym x))))

no_list : (f : Facts) (d : ℕ → ℕ) (q : ℕ) (b : Bool) (hs : List (ℕ × ℕ)) → hs ≡ [] → known_weight f d q b hs ≤ 0
no_list f d q b hs e = let a : known_weight f d q b hs ≡ known_weight f d q b [] = ap (λ x. known_weight f d q b x) e in omega (arith, a, by b (list_weight d q (is_stale f q [])))
  where
    by : (b : Bool) (n : ℕ) → cond (b && false) n 0 ≤ 0
    by true n = omega arith
    by false n = omega arith

got_less : (f : Facts) (d : ℕ → ℕ) (c : ClientFacts) (k : ℕ) (R : List ℕ) → left f d (client_gets c k) R ≤ left f d c (k ∷ R)
got_less f d c k R = by (c.wants k) refl
  where
    by : (b : Bool) → c.wants k ≡ b → left f d (cond b (record c { got = put c.got k true; located = put c.located k [] }) c) R ≤ left f d c (k ∷ R)
    by true e = left_less f d c (record c { got = put c.got k true; located = put c.located k [] }) k R refl
        (λ q o. same_most _ _ (ap (λ b. known_weight f d q ((c.wants q && not (cond b true (c.got q))) && not (is_asked_for c.asks q)) (cond b [] (c.located q))) o))
        (no_list f d k (is_open (record c { got = put c.got k true; located = put c.located k [] }) k) (put c.located k [] k) (ap (λ b. cond b [] (c.located k)) (eq-eqb k k refl)))
    by false e = left_less f d c c k R refl (λ q o. same_most _ _ refl) (knows_closed f d k (is_open c k) (c.located k) (ap (λ b. (b && not (c.got k)) && not (is_asked_for c.asks k)) e))

missed_less : (f : Facts) (d : ℕ → ℕ) (c : ClientFacts) (x : ℕ × ℕ) (R : List ℕ) → left f d (client_misses c x) R ≤ left f d c (x.0 ∷ R)
missed_less f d c x R = left_less f d c (client_misses c x) x.0 R refl
    (λ q o. same_most _ _ (ap (λ b. known_weight f d q (is_open c q) (cond b [] (c.located q))) o))
    (no_list f d x.0 (is_open c x.0) (put c.located x.0 [] x.0) (ap (λ b. cond b [] (c.located x.0)) (eq-eqb x.0 x.0 refl)))

got_all : (f : Facts) (d : ℕ → ℕ) (c : ClientFacts) (ks R : List ℕ) → left f d (fold client_gets c ks) R ≤ left f d c (ks ++ R)
got_all f d c [] R = omega arith
got_all f d c (k ∷ ks) R =
    let a : left f d (fold client_gets (client_gets c k) ks) R ≤ left f d (client_gets c k) (ks ++ R) = got_all f d (client_gets c k) ks R in
    let b : left f d (client_gets c k) (ks ++ R) ≤ left f d c (k ∷ (ks ++ R)) = got_less f d c k (ks ++ R) in
    omega arith

missed_all : (f : Facts) (d : ℕ → ℕ) (c : ClientFacts) (is : List (ℕ × ℕ)) (R : List ℕ) → left f d (fold client_misses c is) R ≤ left f d c (keys_of is ++ R)
missed_all f d c [] R = omega arith
missed_all f d c (x ∷ is) R =
    let a : left f d (fold client_misses (client_misses c x) is) R ≤ left f d (client_misses c x) (keys_of is ++ R) = missed_all f d (client_misses c x) is R in
    let b : left f d (client_misses c x) (keys_of is ++ R) ≤ left f d c (x.0 ∷ (keys_of is ++ R)) = missed_less f d c x (keys_of is ++ R) in
    omega arith

got_asks : (c : ClientFacts) (ks : List ℕ) → (fold client_gets c ks).asks ≡ c.asks
got_asks c [] = refl
got_asks c (k ∷ ks) = got_asks (client_gets c k) ks ∙ by (c.wants k)
  where
    by : (b : Bool) → (cond b (record c { got = put c.got k true; located = put c.located k [] }) c).asks ≡ c.asks
    by true = refl
    by false = refl

missed_asks : (c : ClientFacts) (is : List (ℕ × ℕ)) → (fold client_misses c is).asks ≡ c.asks
missed_asks c [] = refl
missed_asks c (x ∷ is) = missed_asks (client_misses c x) is

-- ## What goes out

abbrev told : ClientFacts → ℕ → List (ℕ × ℕ) → List ClientInstruction
told c p is = filter_map (missing_message c p) is

told_weight : (f : Facts) (d : ℕ → ℕ) (p : ℕ) (back : IsBacked f d) (c : ClientFacts) (is : List (ℕ × ℕ)) → sum_of (letter_weight f d) (client_sends (told c p is)) + 2 * length is ≤ sum_of (item_weight f d p) is
told_weight f d p back c [] = omega arith
told_weight f d p back c (x ∷ is) = by (c.wants x.0) (told_weight f d p back c is)
  where
    by : (b : Bool) → sum_of (letter_weight f d) (client_sends (told c p is)) + 2 * length is ≤ sum_of (item_weight f d p) is
        → sum_of (letter_weight f d) (client_sends (cons_option (cond b (Some (Send (Missing x.0 p x.1))) None) (told c p is))) + 2 * length (x ∷ is) ≤ item_weight f d p x + sum_of (item_weight f d p) is
    by true l = omega (arith, l, item_missed f d p back x)
    by false l = omega (arith, l, item_some f d p back x)

told_calm : (w : World) (p : ℕ) (c : ClientFacts) (is : List (ℕ × ℕ)) → sum_of (letter_disturbs w) (client_sends (told c p is)) ≤ sum_of (λ (x : ℕ × ℕ). bit (is_wrongful w p x.0 x.1)) is
told_calm w p c [] = omega arith
told_calm w p c (x ∷ is) = by (c.wants x.0) (told_calm w p c is)
  where
    by : (b : Bool) → sum_of (letter_disturbs w) (client_sends (told c p is)) ≤ sum_of (λ (x : ℕ × ℕ). bit (is_wrongful w p x.0 x.1)) is
        → sum_of (letter_disturbs w) (client_sends (cons_option (cond b (Some (Send (Missing x.0 p x.1))) None) (told c p is))) ≤ bit (is_wrongful w p x.0 x.1) + sum_of (λ (x : ℕ × ℕ). bit (is_wrongful w p x.0 x.1)) is
    by true l = omega arith
    by false l = omega arith

told_requests : (i : ℕ) (qs : List Parcel) (p : ℕ) (c : ClientFacts) (is : List (ℕ × ℕ)) → client_requested (Client i) qs (told c p is) ≡ qs
told_requests i qs p c [] = refl
told_requests i qs p c (x ∷ is) = by (c.wants x.0) (told_requests i qs p c is)
  where
    by : (b : Bool) → client_requested (Client i) qs (told c p is) ≡ qs → client_requested (Client i) qs (cons_option (cond b (Some (Send (Missing x.0 p x.1))) None) (told c p is)) ≡ qs
    by true e = e
    by false e = e

-- ## What it weighs

module _ (f : Facts) (d : ℕ → ℕ) (back : IsBacked f d) (c : ClientFacts) (p : ℕ) (a : Ask) (found : List ℕ) (differ : PeersDiffer c.asks) (e : ask_to c.asks p ≡ Some a) where
  abbrev let_go : ClientFacts
  let_go = record c { asks = without_ask c.asks p }

  abbrev came : List (ℕ × ℕ)
  came = filter (λ (i : ℕ × ℕ). is_in i.0 found) a.items

  abbrev missed : List (ℕ × ℕ)
  missed = filter (λ (i : ℕ × ℕ). not (is_in i.0 found)) a.items

  abbrev rows : ClientStep
  rows = client_answered let_go p (keys_of came) missed

  begins : left f d let_go (keys_of came ++ (keys_of missed ++ [])) ≤ total (knows f d c) (client_keys c)
  begins = total_at_most _ _ (client_keys c) (λ q. by q (is_in q (keys_of came ++ (keys_of missed ++ []))) refl)
    where
      by : (q : ℕ) (b : Bool) → is_in q (keys_of came ++ (keys_of missed ++ [])) ≡ b → cond b 0 (knows f d let_go q) ≤ knows f d c q
      by q true o = omega arith
      by q false o =
          let x = in_append q (keys_of came) (keys_of missed ++ []) o in
          let y = in_append q (keys_of missed) [] x.1 in
          same_most _ _ (ap (λ b. known_weight f d q ((c.wants q && not (c.got q)) && not b) (c.located q))
          (asked_without c.asks p q a differ e (names_are a.items q ∙ in_neither q (λ (i : ℕ × ℕ). is_in i.0 found) a.items x.0 y.0)))

  peer : a.peer ≡ p
  peer = eqb-true a.peer p (find_passes (λ (x : Ask). eqb x.peer p) c.asks a e)

  rows_asks : rows.facts.asks ≡ without_ask c.asks p
  rows_asks = missed_asks (fold client_gets let_go (keys_of came)) missed ∙ got_asks let_go (keys_of came)

  pub client_rows_weight : (client_core_weight f d rows.facts + sum_of (letter_weight f d) (client_sends rows.out)) + 2 * length missed ≤ client_core_weight f d c
  unfolding client_core_weight
  client_rows_weight =
      let m : left f d rows.facts [] ≤ left f d (fold client_gets let_go (keys_of came)) (keys_of missed ++ []) = missed_all f d (fold client_gets let_go (keys_of came)) missed [] in
      let g : left f d (fold client_gets let_go (keys_of came)) (keys_of missed ++ []) ≤ left f d let_go (keys_of came ++ (keys_of missed ++ [])) = got_all f d let_go (keys_of came) (keys_of missed ++ []) in
      let t : sum_of (letter_weight f d) (client_sends rows.out) + 2 * length missed ≤ sum_of (item_weight f d p) missed = told_weight f d p back let_go missed in
      let s : sum_of (item_weight f d p) came + sum_of (item_weight f d p) missed ≡ sum_of (item_weight f d p) a.items = sum_split (item_weight f d p) (λ (i : ℕ × ℕ). is_in i.0 found) a.items in
      let i : ask_weight f d a ≡ sum_of (item_weight f d p) a.items = ask_items_weigh f d a p peer in
      let k : sum_of (ask_weight f d) (without_ask c.asks p) + ask_weight f d a ≤ sum_of (ask_weight f d) c.asks = sum_without (ask_weight f d) c.asks p a e peer in
      let l : sum_of (ask_weight f d) rows.facts.asks ≡ sum_of (ask_weight f d) (without_ask c.asks p) = ap (sum_of (ask_weight f d)) rows_asks in
      omega (arith, m, g, t, s, i, k, l, begins)

-- ## The events

pub client_is : (a : Asker) (i : ℕ) → same_asker a (Client i) ≡ true → a ≡ Client i
client_is (Client x) i e = ap (λ n. Client n) (eqb-true x i e)
client_is (Worker c) i e = absurd (false≢true e)

abbrev hidden : World → Parcel → ℕ
hidden w q = missed_in w q (open_ask w q.asker q.peer)

module _ (w : World) (i : ℕ) (may : MayGather w (Client i)) (there : is_client w i ≡ true) where
  abbrev C : ClientFacts
  C = w.clients i

  asks_less : (s : ClientStep) (qs : List Parcel) (p : ℕ) → s.facts.asks ≡ without_ask C.asks p → (q : Parcel) (a : Asker) (r : ℕ) → missed_in w q (then_asks w i s qs a r) ≤ missed_in w q (open_ask w a r)
  asks_less s qs p h q (Worker x) r = same_most _ _ refl
  asks_less s qs p h q (Client x) r = by (eqb x i) refl
    where
      less : (b : Bool) → missed_in w q (cond b None (ask_to C.asks r)) ≤ missed_in w q (ask_to C.asks r)
      less true = omega arith
      less false = omega arith

      by : (b : Bool) → eqb x i ≡ b → missed_in w q (ask_to (cond b s.facts (w.clients x)).asks r) ≤ missed_in w q (ask_to (w.clients x).asks r)
      by false e = omega arith
      by true e =
          let a : missed_in w q (ask_to s.facts.asks r) ≡ missed_in w q (cond (eqb r p) None (ask_to C.asks r)) = ap (λ l. missed_in w q (ask_to l r)) h ∙ ap (missed_in w q) (ask_without C.asks p r) in
          let b : missed_in w q (ask_to C.asks r) ≡ missed_in w q (ask_to (w.clients x).asks r) = ap (λ n. missed_in w q (ask_to (w.clients n).asks r)) (sym (eqb-true x i e)) in
          omega (arith, a, b, less (eqb r p))

  asks_same : (qs : List Parcel) (q : Parcel) (a : Asker) (r : ℕ) → missed_in w q (then_asks w i (keeps_still C) qs a r) ≤ missed_in w q (open_ask w a r)
  asks_same qs q (Worker x) r = same_most _ _ refl
  asks_same qs q (Client x) r = by (eqb x i) refl
    where
      by : (b : Bool) → eqb x i ≡ b → missed_in w q (ask_to (cond b C (w.clients x)).asks r) ≤ missed_in w q (ask_to (w.clients x).asks r)
      by false e = omega arith
      by true e = let b : missed_in w q (ask_to C.asks r) ≡ missed_in w q (ask_to (w.clients x).asks r) = ap (λ n. missed_in w q (ask_to (w.clients n).asks r)) (sym (eqb-true x i e)) in omega (arith, b)

  -- an answer that belongs to no open ask
  drops : (qs : List Parcel) → length qs + 1 ≤ length w.answers → sum_of (hidden w) qs ≤ sum_of (hidden w) w.answers → Falls w (client_worked (record w { answers = qs }) i (keeps_still C))
  drops qs n c = client_gather_falls w i (keeps_still C) qs
      (let l : sum_of (λ (q : Parcel). missed_in w q (then_asks w i (keeps_still C) qs q.asker q.peer)) qs ≤ sum_of (hidden w) qs = sum_at_most _ _ qs (λ (q : Parcel). asks_same qs q q.asker q.peer) in omega (arith, l, c))
      there (omega (arith, n))

  -- an ask that is over
  takes : (p : ℕ) (a : Ask) (found : List ℕ) (qs : List Parcel) → ask_to C.asks p ≡ Some a
      → length qs + 1 ≤ length w.answers + 2 * length (filter (λ (x : ℕ × ℕ). not (is_in x.0 found)) a.items)
      → sum_of (λ (x : ℕ × ℕ). bit (is_wrongful w p x.0 x.1)) (filter (λ (x : ℕ × ℕ). not (is_in x.0 found)) a.items) + sum_of (hidden w) qs ≤ sum_of (hidden w) w.answers
      → Falls w (client_worked (record w { answers = qs }) i (client_answered (record C { asks = without_ask C.asks p }) p (keys_of (filter (λ (x : ℕ × ℕ). is_in x.0 found) a.items)) (filter (λ (x : ℕ × ℕ). not (is_in x.0 found)) a.items)))
  takes p a found qs e m c = client_gather_falls w i rows qs calm there
      (let d : ℕ → ℕ = deaths w.sched (disturbances w) in
      let l : (client_core_weight w.sched d rows.facts + sum_of (letter_weight w.sched d) (client_sends rows.out)) + 2 * length (filter (λ (x : ℕ × ℕ). not (is_in x.0 found)) a.items) ≤ client_core_weight w.sched d C =
      client_rows_weight w.sched d (backed w.sched (disturbances w) may.sound) C p a found may.differ e in
      let r : length (client_requested (Client i) w.requests rows.out) ≡ length w.requests = ap length (told_requests i w.requests p (record C { asks = without_ask C.asks p }) (filter (λ (x : ℕ × ℕ). not (is_in x.0 found)) a.items)) in
      omega (arith, l, r, m))
    where
      rows : ClientStep
      rows = client_answered (record (w.clients i) { asks = without_ask (w.clients i).asks p }) p (keys_of (filter (λ (x : ℕ × ℕ). is_in x.0 found) a.items)) (filter (λ (x : ℕ × ℕ). not (is_in x.0 found)) a.items)

      calm : sum_of (letter_disturbs w) (client_sends rows.out) + sum_of (λ (q : Parcel). missed_in w q (then_asks w i rows qs q.asker q.peer)) qs ≤ sum_of (hidden w) w.answers
      calm =
          let l : sum_of (λ (q : Parcel). missed_in w q (then_asks w i rows qs q.asker q.peer)) qs ≤ sum_of (hidden w) qs = sum_at_most _ _ qs
          (λ (q : Parcel). asks_less rows qs p (rows_asks w.sched (deaths w.sched 0) (backed w.sched 0 may.sound) C p a found may.differ e) q q.asker q.peer) in
          let t : sum_of (letter_disturbs w) (client_sends rows.out) ≤ sum_of (λ (x : ℕ × ℕ). bit (is_wrongful w p x.0 x.1)) (filter (λ (x : ℕ × ℕ). not (is_in x.0 found)) a.items) =
          told_calm w p (record C { asks = without_ask C.asks p }) (filter (λ (x : ℕ × ℕ). not (is_in x.0 found)) a.items) in
          omega (arith, l, t, c)

  pub client_arrives : (p n : ℕ) (q : Parcel) → parcel_of (Client i) p n w.answers ≡ Some q → Falls w (at_client (record w { answers = without_parcel q.asker q.peer q.ask w.answers }) i (Gathered q.peer q.ask q.keys))
  unfolding client_step client_gathered
  client_arrives p n q e = by (ask_to C.asks q.peer) refl
    where
      qs : List Parcel
      qs = without_parcel q.asker q.peer q.ask w.answers

      asker : q.asker ≡ Client i
      asker = client_is q.asker i (and_parts (same_asker q.asker (Client i)) _ (find_passes (is_parcel (Client i) p n) w.answers q e)).0

      fewer : length qs + 1 ≤ length w.answers
      fewer = let a : sum_of (λ (x : Parcel). 1) qs + 1 ≤ sum_of (λ (x : Parcel). 1) w.answers = sum_answered (λ x. 1) (Client i) p n w.answers q e in omega (arith, a, length_sum qs, length_sum w.answers)

      less : sum_of (hidden w) qs + hidden w q ≤ sum_of (hidden w) w.answers
      less = sum_answered (hidden w) (Client i) p n w.answers q e

      by : (o : Option Ask) → ask_to C.asks q.peer ≡ o → Falls w (client_worked (record w { answers = without_parcel q.asker q.peer q.ask w.answers }) i (client_gathered_by C q.peer q.ask q.keys o))
      by None h = drops qs fewer (omega (arith, less))
      by (Some a) h = match (eqb a.number q.ask) refl
        where
          match : (b : Bool) → eqb a.number q.ask ≡ b → Falls w (client_worked (record w { answers = without_parcel q.asker q.peer q.ask w.answers }) i (cond b
              (client_answered (record C { asks = without_ask C.asks q.peer }) q.peer (keys_of (filter (λ (x : ℕ × ℕ). is_in x.0 q.keys) a.items)) (filter (λ (x : ℕ × ℕ). not (is_in x.0 q.keys)) a.items)) (keeps_still C)))
          match false m = drops qs fewer (omega (arith, less))
          match true m = takes q.peer a q.keys qs h (omega (arith, fewer))
              (let x : hidden w q ≡ sum_of (λ (y : ℕ × ℕ). bit (is_missed w q y)) a.items = ap (λ c. missed_in w q (open_ask w c q.peer)) asker ∙ ap (missed_in w q) h ∙ ap (λ b. cond b (sum_of (λ (y : ℕ × ℕ). bit (is_missed w q y)) a.items) 0) m in
              let y : sum_of (λ (y : ℕ × ℕ). bit (is_wrongful w q.peer y.0 y.1)) (filter (λ (y : ℕ × ℕ). not (is_in y.0 q.keys)) a.items) ≡ sum_of (λ (y : ℕ × ℕ). bit (is_missed w q y)) a.items =
              sum_passing (λ (y : ℕ × ℕ). is_wrongful w q.peer y.0 y.1) (λ (y : ℕ × ℕ). not (is_in y.0 q.keys)) a.items in
              omega (arith, x, y, less))

  pub client_fails : (p : ℕ) (a : Ask) → w.alive p ≡ false → ask_to C.asks p ≡ Some a → Falls w (at_client w i (GatherFailed p a.number))
  unfolding client_step client_gathered
  client_fails p a dead e = subst (λ (o : Option Ask). Falls w (client_worked w i (client_gathered_by C p a.number [] o))) (sym e)
      (subst (λ (b : Bool). Falls w (client_worked w i (cond b
      (client_answered (record C { asks = without_ask C.asks p }) p (keys_of (filter (λ (x : ℕ × ℕ). is_in x.0 []) a.items)) (filter (λ (x : ℕ × ℕ). not (is_in x.0 [])) a.items)) (keeps_still C)))) (sym (eq-eqb a.number a.number refl))
      (takes p a [] w.answers e (omega (arith, all_missed a.items, some_length a.items (may.some p a e))) (omega (arith, none_wrong w p dead (filter (λ (x : ℕ × ℕ). not (is_in x.0 [])) a.items)))))
