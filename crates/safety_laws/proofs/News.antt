-- What a client hears of a key from one event of the scheduler.
use Rattle.std.proofs.Common.{◌≡◌, ℕ, ◌<◌, ◌≤◌, Bool, true, false, cond, not, ◌&&◌, ◌||◌, List, [], ◌∷◌, ◌++◌, Option, Some, None, refl, sym, ap, ◌∙◌, arith, is_some}
use Rattle.std.proofs.lemmas.Bool.{true≢false, eqb-true, eq-eqb}
use Rattle.std.proofs.Math.Dec.{eqb}
use Rattle.cluster_rules.specs.Derived.{is_in}
use Rattle.cluster_msgs.specs.declared.messages.ToClient.{ToClient}
use Rattle.std.specs.List.{list_any, filter_map, flat_map, cons_option}
use Rattle.std.specs.Option.{option_map}
use Rattle.std.proofs.lemmas.List.{append-nil}
use Rattle.cluster_msgs.specs.declared.messages.ToClient.TheVariants.{KeyInMemory, LostData, ClientTaskErred}
use Rattle.cluster_rules.specs.Functions.{from_one}
use Rattle.cluster_rules.specs.Derived.{below}
use Rattle.cluster_rules.specs.Sched.{keys, held, erred, blame, holders}
use Rattle.cluster_rules.specs.SchedStep.{Stages, client_message, was_held, was_erred, to_clients, reply_message, client_messages, tells_held}
use Rattle.cluster_rules.specs.WorldStep.{letters}
use Rattle.cluster_rules.proofs.SchedFrame.{in_range}
use Rattle.pair_moves.proofs.PairTold.{Distinct}
use Rattle.pair_moves.proofs.Settling.{distinct_range}
use Rattle.safety_laws.specs.Lively.{is_news, last_news}

-- ## The last news of a key

abbrev pub either : {A : Type 0} → Option A → Option A → Option A
either (Some x) o = Some x
either None o = o

abbrev pub late : ℕ → List ToClient → Option ToClient
late k [] = None
late k (m ∷ ms) = either (late k ms) (cond (is_news k m) (Some m) None)

abbrev pub verdict : (ToClient → Bool) → Bool → Option ToClient → Bool
verdict t b None = b
verdict t b (Some m) = t m

pub any_late : (k : ℕ) (ms : List ToClient) → list_any (is_news k) ms ≡ is_some (late k ms)
any_late k [] = refl
any_late k (m ∷ ms) = pick (is_news k m) (late k ms) (any_late k ms)
  where
    pick : (b : Bool) (o : Option ToClient) → list_any (is_news k) ms ≡ is_some o → (b || list_any (is_news k) ms) ≡ is_some (either o (cond b (Some m) None))
    pick true None e = refl
    pick true (Some x) e = refl
    pick false None e = e
    pick false (Some x) e = e

pub last_late : (t : ToClient → Bool) (k : ℕ) (ms : List ToClient) (b : Bool) → last_news t k ms b ≡ verdict t b (late k ms)
last_late t k [] b = refl
last_late t k (m ∷ ms) b = last_late t k ms (cond (is_news k m) (t m) b) ∙ pick (late k ms) (is_news k m)
  where
    pick : (o : Option ToClient) (c : Bool) → verdict t (cond c (t m) b) o ≡ verdict t b (either o (cond c (Some m) None))
    pick None true = refl
    pick None false = refl
    pick (Some x) c = refl

pub late-append : (k : ℕ) (xs ys : List ToClient) → late k (xs ++ ys) ≡ either (late k ys) (late k xs)
late-append k [] ys = sym (right (late k ys))
  where
    right : (o : Option ToClient) → either o None ≡ o
    right None = refl
    right (Some x) = refl
late-append k (x ∷ xs) ys = ap (λ o. either o (cond (is_news k x) (Some x) None)) (late-append k xs ys) ∙ three (late k ys) (late k xs) (cond (is_news k x) (Some x) None)
  where
    three : (a b c : Option ToClient) → either (either a b) c ≡ either a (either b c)
    three None b c = refl
    three (Some y) b c = refl

-- ## What one event tells a client

pub letters-append : (c : ℕ) (xs ys : List (ℕ × ToClient)) → letters c (xs ++ ys) ≡ letters c xs ++ letters c ys
letters-append c [] ys = refl
letters-append c (m ∷ ms) ys = pick (eqb m.0 c) (letters-append c ms ys)
  where
    pick : (b : Bool) → letters c (ms ++ ys) ≡ letters c ms ++ letters c ys → cond b (m.1 ∷ letters c (ms ++ ys)) (letters c (ms ++ ys)) ≡ cond b (m.1 ∷ letters c ms) (letters c ms) ++ letters c ys
    pick true e = ap (λ l. m.1 ∷ l) e
    pick false e = e

-- a message of another client, and of another key
abbrev pub Told : Option (ℕ × ToClient) → Option ToClient
Told None = None
Told (Some m) = Some m.1

module _ (t : Stages) (c : ℕ) where
  one_letter : (k q : ℕ) (ms : List (ℕ × ToClient)) → late k (letters c (cons_option (client_message t c q) ms)) ≡ either (late k (letters c ms)) (cond (eqb q k) (Told (client_message t c q)) None)
  one_letter k q ms = by (t.placed.want c q) (erred t.placed q && not (was_erred t q)) (held t.placed q && not (was_held t q)) (was_held t q && not (held t.placed q)) (blame t.placed q)
    where
      right : (o : Option ToClient) (b : Bool) → o ≡ either o (cond b None None)
      right None true = refl
      right None false = refl
      right (Some x) b = refl

      some : (m : ToClient) → is_news k m ≡ eqb q k → late k (letters c (cons_option (Some (c, m)) ms)) ≡ either (late k (letters c ms)) (cond (eqb q k) (Told (Some (c, m))) None)
      some m e = ap (λ b. late k (cond b (m ∷ letters c ms) (letters c ms))) (eq-eqb c c refl) ∙ ap (λ b. either (late k (letters c ms)) (cond b (Some m) None)) e

      by : (p u v x : Bool) (o : Option ℕ) → let s = cond {A = Option (ℕ × ToClient)} (not p) None (cond u (option_map (λ b. (c, ClientTaskErred q b)) o) (cond v (Some (c, KeyInMemory q (holders t.placed q))) (cond x (Some (c, LostData q)) None))) in
          late k (letters c (cons_option s ms)) ≡ either (late k (letters c ms)) (cond (eqb q k) (Told s) None)
      by false u v x o = right (late k (letters c ms)) (eqb q k)
      by true true v x None = right (late k (letters c ms)) (eqb q k)
      by true true v x (Some b) = some (ClientTaskErred q b) refl
      by true false true x o = some (KeyInMemory q (holders t.placed q)) refl
      by true false false true o = some (LostData q) refl
      by true false false false o = right (late k (letters c ms)) (eqb q k)

  own_letters : (k : ℕ) (qs : List ℕ) → Distinct qs → late k (letters c (filter_map (client_message t c) qs)) ≡ cond (is_in k qs) (Told (client_message t c k)) None
  own_letters k [] d = refl
  own_letters k (q ∷ qs) d = one_letter k q (filter_map (client_message t c) qs) ∙ ap (λ o. either o (cond (eqb q k) (Told (client_message t c q)) None)) (own_letters k qs d.1) ∙ pick (eqb q k) refl (is_in k qs) refl
    where
      pick : (b : Bool) → eqb q k ≡ b → (i : Bool) → is_in k qs ≡ i → either (cond i (Told (client_message t c k)) None) (cond b (Told (client_message t c q)) None) ≡ cond (b || i) (Told (client_message t c k)) None
      pick true e true m = absurd (true≢false (sym m ∙ ap (λ n. is_in n qs) (sym (eqb-true q k e)) ∙ d.0))
      pick true e false m = ap (λ n. Told (client_message t c n)) (eqb-true q k e)
      pick false e true m = right (Told (client_message t c k))
        where
          right : (o : Option ToClient) → either o None ≡ o
          right None = refl
          right (Some x) = refl
      pick false e false m = refl

  no_letters : (d : ℕ) → eqb d c ≡ false → (qs : List ℕ) → letters c (filter_map (client_message t d) qs) ≡ []
  no_letters d e [] = refl
  no_letters d e (q ∷ qs) = by (t.placed.want d q) (erred t.placed q && not (was_erred t q)) (held t.placed q && not (was_held t q)) (was_held t q && not (held t.placed q)) (blame t.placed q) ∙ no_letters d e qs
    where
      ms : List (ℕ × ToClient)
      ms = filter_map (client_message t d) qs

      some : (m : ToClient) → letters c (cons_option (Some (d, m)) (filter_map (client_message t d) qs)) ≡ letters c (filter_map (client_message t d) qs)
      some m = ap (λ b. cond b (m ∷ letters c (filter_map (client_message t d) qs)) (letters c (filter_map (client_message t d) qs))) e

      by : (p u v x : Bool) (o : Option ℕ) → letters c (cons_option (cond (not p) None (cond u (option_map (λ b. (d, ClientTaskErred q b)) o) (cond v (Some (d, KeyInMemory q (holders t.placed q))) (cond x (Some (d, LostData q)) None)))) (filter_map (client_message t d) qs)) ≡ letters c (filter_map (client_message t d) qs)
      by false u v x o = refl
      by true true v x None = refl
      by true true v x (Some b) = some (ClientTaskErred q b)
      by true false true x o = some (KeyInMemory q (holders t.placed q))
      by true false false true o = some (LostData q)
      by true false false false o = refl

  all_letters : (n : ℕ) (ds : List ℕ) → Distinct ds → letters c (flat_map (λ d. filter_map (client_message t d) (below n)) ds) ≡ cond (is_in c ds) (letters c (filter_map (client_message t c) (below n))) []
  all_letters n [] d = refl
  all_letters n (x ∷ xs) d = letters-append c (filter_map (client_message t x) (below n)) (flat_map (λ y. filter_map (client_message t y) (below n)) xs)
      ∙ ap (λ l. letters c (filter_map (client_message t x) (below n)) ++ l) (all_letters n xs d.1) ∙ pick (eqb x c) refl (is_in c xs) refl
    where
      pick : (b : Bool) → eqb x c ≡ b → (i : Bool) → is_in c xs ≡ i → letters c (filter_map (client_message t x) (below n)) ++ cond i (letters c (filter_map (client_message t c) (below n))) [] ≡ cond (b || i) (letters c (filter_map (client_message t c) (below n))) []
      pick true e true m = absurd (true≢false (sym m ∙ ap (λ y. is_in y xs) (sym (eqb-true x c e)) ∙ d.0))
      pick true e false m = append-nil (letters c (filter_map (client_message t x) (below n))) ∙ ap (λ y. letters c (filter_map (client_message t y) (below n))) (eqb-true x c e)
      pick false e true m = ap (λ l. l ++ letters c (filter_map (client_message t c) (below n))) (no_letters x e (below n))
      pick false e false m = ap (λ l. l ++ []) (no_letters x e (below n))

  -- the answer to a client that missed a copy
  abbrev pub Reply : ℕ → Option (ℕ × ℕ) → Option ToClient
  Reply k None = None
  Reply k (Some p) = cond (held t.placed p.1 && not (list_any (tells_held p.0 p.1) (to_clients t))) (cond (eqb p.0 c && eqb p.1 k) (Some (KeyInMemory p.1 (holders t.placed p.1))) None) None

  reply_late : (k : ℕ) (o : Option (ℕ × ℕ)) → late k (letters c (reply_message t (to_clients t) o)) ≡ Reply k o
  reply_late k None = refl
  reply_late k (Some p) = pick (held t.placed p.1 && not (list_any (tells_held p.0 p.1) (to_clients t)))
    where
      here : (d : Bool) → late k (cond {A = List ToClient} d (KeyInMemory p.1 (holders t.placed p.1) ∷ []) []) ≡ cond (d && eqb p.1 k) (Some (KeyInMemory p.1 (holders t.placed p.1))) None
      here true = refl
      here false = refl

      pick : (b : Bool) → late k (letters c (cond {A = List (ℕ × ToClient)} b ((p.0, KeyInMemory p.1 (holders t.placed p.1)) ∷ []) [])) ≡ cond b (cond (eqb p.0 c && eqb p.1 k) (Some (KeyInMemory p.1 (holders t.placed p.1))) None) None
      pick true = here (eqb p.0 c)
      pick false = refl

  -- all together
  pub told_late : (k : ℕ) → k < keys t.before → 1 ≤ c → c ≤ t.before.setting.clients → late k (letters c (client_messages t)) ≡ either (Reply k t.changed.reply) (Told (client_message t c k))
  unfolding client_messages to_clients
  told_late k l from upto = ap (late k) (letters-append c (to_clients t) (reply_message t (to_clients t) t.changed.reply)) ∙ late-append k (letters c (to_clients t)) (letters c (reply_message t (to_clients t) t.changed.reply))
      ∙ ap (λ o. either o (late k (letters c (to_clients t)))) (reply_late k t.changed.reply)
      ∙ ap (λ o. either (Reply k t.changed.reply) o) (ap (late k) (all_letters (keys t.before) (from_one t.before.setting.clients) (distinct_range 1 t.before.setting.clients) ∙ ap (λ b. cond b (letters c (filter_map (client_message t c) (below (keys t.before)))) []) (in_range 1 t.before.setting.clients c from (omega (arith, upto))))
      ∙ own_letters k (below (keys t.before)) (distinct_range 0 (keys t.before)) ∙ ap (λ b. cond b (Told (client_message t c k)) None) (in_range 0 (keys t.before) k (omega arith) (omega (arith, l))))
