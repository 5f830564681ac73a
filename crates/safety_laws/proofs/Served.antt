-- What each client waits for is known to it or on its way: what the scheduler's events keep of it.
use Rattle.std.proofs.Common.{◌≡◌, ℕ, ◌<◌, ◌≤◌, Bool, true, false, cond, not, ◌&&◌, ◌||◌, List, [], ◌∷◌, ◌++◌, Option, Some, None, refl, sym, ap, ◌∙◌, subst, arith, is_some, ◌⊎◌, ⊎_elim}
use Rattle.std.proofs.lemmas.Bool.{true≢false, false≢true, eqb-true, eq-eqb}
use Rattle.std.proofs.Math.Dec.{eqb}
use Rattle.cluster_msgs.specs.declared.messages.ToClient.{ToClient}
use Rattle.cluster_msgs.specs.declared.cores.SchedEvent.{SchedEvent}
use Rattle.cluster_rules.specs.World.{World}
use Rattle.cluster_rules.specs.WorldStep.{scheduled, at_scheduler}
use Rattle.std.proofs.lemmas.Bool.{and_parts}
use Rattle.std.specs.List.{list_any, filter_map, cons_option}
use Rattle.std.specs.Option.{option_map}
use Rattle.cluster_msgs.specs.declared.messages.ToClient.TheVariants.{KeyInMemory, LostData, ClientTaskErred}
use Rattle.cluster_rules.specs.Functions.{from_one}
use Rattle.cluster_rules.specs.Sched.{Facts, keys, deps, held, erred, blame, holders}
use Rattle.cluster_rules.specs.SchedTable.{change}
use Rattle.cluster_rules.specs.SchedStep.{Stages, sched_step, settle, finish_step, posted, client_message, was_held, was_erred, to_clients, reply_message, client_messages, tells_held}
use Rattle.cluster_rules.specs.Worker.{has_any}
use Rattle.cluster_rules.specs.WorldStep.{letters}
use Rattle.cluster_rules.specs.Client.{ClientFacts}
use Rattle.cluster_rules.proofs.SchedFrame.{step_settles}
use Rattle.cluster_laws.proofs.Framed.{change_framed}
use Rattle.std.proofs.lemmas.Bool.{or_cases}
use Rattle.cluster_rules.specs.Sched.{IsSound, holds}
use Rattle.cluster_rules.proofs.SchedLemmas.{erred-is, is_some-blame}
use Rattle.safety_laws.specs.Lively.{is_news, last_news, tells_memory, tells_error}
use Rattle.std.proofs.lemmas.Bool.{cases_lt}
use Rattle.cluster_msgs.specs.Shape.{key_count}
use Rattle.cluster_rules.specs.Sched.{Setting}
use Rattle.cluster_rules.specs.Worker.{is_asked_for}
use Rattle.safety_laws.specs.Lively.{IsServed, wants_at_last, names_want, misses}
use Rattle.safety_laws.proofs.News.{either, late, verdict, any_late, last_late, late-append, letters-append, Told, Reply, told_late}

-- ## A held key has holders

abbrev with_number : ℕ → Option ℕ → Option (ℕ × ℕ)
with_number w o = option_map (λ c. (w, c)) o

some_holder : (f : Facts) (k : ℕ) (ws : List ℕ) → list_any (λ w. holds f w k) ws ≡ true → has_any {A = ℕ × ℕ} (filter_map (λ w. option_map (λ c. (w, c)) (f.has w k)) ws) ≡ true
some_holder f k [] e = absurd (false≢true e)
some_holder f k (x ∷ xs) e = pick (f.has x k) e (some_holder f k xs)
  where
    pick : (o : Option ℕ) → (is_some o || list_any (λ w. holds f w k) xs) ≡ true → (list_any (λ w. holds f w k) xs ≡ true → has_any {A = ℕ × ℕ} (filter_map (λ w. option_map (λ c. (w, c)) (f.has w k)) xs) ≡ true) → has_any {A = ℕ × ℕ} (cons_option (with_number x o) (filter_map (λ w. option_map (λ c. (w, c)) (f.has w k)) xs)) ≡ true
    pick None h rest = rest h
    pick (Some y) h rest = refl

has_holders : (f : Facts) (k : ℕ) → held f k ≡ true → has_any (holders f k) ≡ true
unfolding held holders
has_holders f k h = some_holder f k (from_one f.last_worker) h

-- ## The news of one event

abbrev OnNews : Type 0 → (ToClient → Bool) → Option ToClient → Type 0
OnNews A t None = A
OnNews A t (Some m) = t m ≡ true

either_news : (A : Type 0) (t : ToClient → Bool) (o p : Option ToClient) → OnNews (Unit {0}) t o → OnNews A t p → OnNews A t (either o p)
either_news A t None p h i = i
either_news A t (Some m) p h i = h

told_held : (c k : ℕ) (ms : List (ℕ × ToClient)) → list_any (tells_held c k) ms ≡ true → is_some (late k (letters c ms)) ≡ true
told_held c k [] e = absurd (false≢true e)
told_held c k (m ∷ ms) e = ⊎_elim (λ a. now m.0 m.1 a) (λ r. later (eqb m.0 c) (told_held c k ms r)) (or_cases (tells_held c k m) (list_any (tells_held c k) ms) e)
  where
    some : (o p : Option ToClient) → is_some p ≡ true → is_some (either o p) ≡ true
    some None p h = h
    some (Some x) p h = refl

    keeps : (o p : Option ToClient) → is_some o ≡ true → is_some (either o p) ≡ true
    keeps None p h = absurd (false≢true h)
    keeps (Some x) p h = refl

    later : (b : Bool) → is_some (late k (letters c ms)) ≡ true → is_some (late k (cond b (m.1 ∷ letters c ms) (letters c ms))) ≡ true
    later true h = keeps (late k (letters c ms)) (cond (is_news k m.1) (Some m.1) None) h
    later false h = h

    now : (d : ℕ) (x : ToClient) → tells_held c k (d, x) ≡ true → is_some (late k (cond (eqb d c) (x ∷ letters c ms) (letters c ms))) ≡ true
    now d (KeyInMemory q hs) h = let p = and_parts (eqb d c) (eqb q k) h in
        ap (λ b. is_some (late k (cond b (KeyInMemory q hs ∷ letters c ms) (letters c ms)))) p.0 ∙ some (late k (letters c ms)) (cond (eqb q k) (Some (KeyInMemory q hs)) None) (ap (λ b. is_some {T = ToClient} (cond b (Some (KeyInMemory q hs)) None)) p.1)
    now d (LostData q) h = absurd (false≢true h)
    now d (ClientTaskErred q b) h = absurd (false≢true h)

module _ (t : Stages) (c k : ℕ) where
  abbrev Heard : Option ToClient
  Heard = either (Reply t c k t.changed.reply) (Told (client_message t c k))

  reply_memory : held t.placed k ≡ true → (o : Option (ℕ × ℕ)) → OnNews (Unit {0}) tells_memory (Reply t c k o)
  reply_memory h None = tt
  reply_memory h (Some p) = pick (held t.placed p.1 && not (list_any (tells_held p.0 p.1) (to_clients t))) (eqb p.0 c) (eqb p.1 k) refl
    where
      pick : (b d e : Bool) → eqb p.1 k ≡ e → OnNews (Unit {0}) tells_memory (cond b (cond (d && e) (Some (KeyInMemory p.1 (holders t.placed p.1))) None) None)
      pick true true true i = has_holders t.placed p.1 (ap (held t.placed) (eqb-true p.1 k i) ∙ h)
      pick true true false i = tt
      pick true false e i = tt
      pick false d e i = tt

  heard_memory : t.placed.want c k ≡ true → erred t.placed k ≡ false → held t.placed k ≡ true → OnNews (was_held t k ≡ true) tells_memory Heard
  heard_memory w e h = either_news (was_held t k ≡ true) tells_memory (Reply t c k t.changed.reply) (Told (client_message t c k)) (reply_memory h t.changed.reply)
      (subst (λ (y : Bool × Bool × Bool). OnNews (was_held t k ≡ true) tells_memory (Told (cond (not y.0) None (cond (y.1 && not (was_erred t k)) (option_map (λ b. (c, ClientTaskErred k b)) (blame t.placed k)) (cond (y.2 && not (was_held t k)) (Some (c, KeyInMemory k (holders t.placed k))) (cond (was_held t k && not y.2) (Some (c, LostData k)) None))))))
      (λ i. (sym w i, sym e i, sym h i)) (pick (was_held t k) refl))
    where
      pick : (b : Bool) → was_held t k ≡ b → OnNews (b ≡ true) tells_memory (Told (cond (not b) (Some (c, KeyInMemory k (holders t.placed k))) (cond (b && false) (Some (c, LostData k)) None)))
      pick true i = refl
      pick false i = has_holders t.placed k h

  heard_error : t.placed.want c k ≡ true → erred t.placed k ≡ true → held t.placed k ≡ false → is_some (blame t.placed k) ≡ true → (was_erred t k ≡ true → was_held t k ≡ false) → OnNews (was_erred t k ≡ true) tells_error Heard
  heard_error w e h bl apart = either_news (was_erred t k ≡ true) tells_error (Reply t c k t.changed.reply) (Told (client_message t c k)) (none t.changed.reply)
      (subst (λ (y : Bool × Bool × Bool). OnNews (was_erred t k ≡ true) tells_error (Told (cond (not y.0) None (cond (y.1 && not (was_erred t k)) (option_map (λ b. (c, ClientTaskErred k b)) (blame t.placed k)) (cond (y.2 && not (was_held t k)) (Some (c, KeyInMemory k (holders t.placed k))) (cond (was_held t k && not y.2) (Some (c, LostData k)) None))))))
      (λ i. (sym w i, sym e i, sym h i)) (pick (was_erred t k) refl (blame t.placed k) bl (was_held t k) refl))
    where
      none : (o : Option (ℕ × ℕ)) → OnNews (Unit {0}) tells_error (Reply t c k o)
      none None = tt
      none (Some p) = by (eqb p.1 k) refl (eqb p.0 c) (not (list_any (tells_held p.0 p.1) (to_clients t)))
        where
          by : (b : Bool) → eqb p.1 k ≡ b → (d x : Bool) → OnNews (Unit {0}) tells_error (cond (held t.placed p.1 && x) (cond (d && b) (Some (KeyInMemory p.1 (holders t.placed p.1))) None) None)
          by true i d x = subst (λ y. OnNews (Unit {0}) tells_error (cond (y && x) (cond (d && true) (Some (KeyInMemory p.1 (holders t.placed p.1))) None) None)) (sym (ap (held t.placed) (eqb-true p.1 k i) ∙ h)) tt
          by false i true x = out (held t.placed p.1 && x)
            where
              out : (y : Bool) → OnNews (Unit {0}) tells_error (cond {A = Option ToClient} y None None)
              out true = tt
              out false = tt
          by false i false x = out (held t.placed p.1 && x)
            where
              out : (y : Bool) → OnNews (Unit {0}) tells_error (cond {A = Option ToClient} y None None)
              out true = tt
              out false = tt

      pick : (b : Bool) → was_erred t k ≡ b → (o : Option ℕ) → is_some o ≡ true → (wh : Bool) → was_held t k ≡ wh → OnNews (b ≡ true) tells_error (Told (cond (true && not b) (option_map (λ x. (c, ClientTaskErred k x)) o) (cond (false && not wh) (Some (c, KeyInMemory k (holders t.placed k))) (cond (wh && true) (Some (c, LostData k)) None))))
      pick false i None l wh j = absurd (false≢true l)
      pick false i (Some x) l wh j = refl
      pick true i o l true j = absurd (true≢false (sym j ∙ apart i))
      pick true i o l false j = refl

  -- who missed a copy of a held key is answered
  heard_reply : k < keys t.before → 1 ≤ c → c ≤ t.before.setting.clients → t.changed.reply ≡ Some (c, k) → held t.placed k ≡ true → is_some (late k (letters c (client_messages t))) ≡ true
  unfolding client_messages
  heard_reply l from upto r h = ap is_some (ap (late k) (letters-append c (to_clients t) (reply_message t (to_clients t) t.changed.reply)) ∙ late-append k (letters c (to_clients t)) (letters c (reply_message t (to_clients t) t.changed.reply)))
      ∙ pick (list_any (tells_held c k) (to_clients t)) refl
    where
      some : (o p : Option ToClient) → is_some p ≡ true → is_some (either o p) ≡ true
      some None p h = h
      some (Some x) p h = refl

      keeps : (o p : Option ToClient) → is_some o ≡ true → is_some (either o p) ≡ true
      keeps None p h = absurd (false≢true h)
      keeps (Some x) p h = refl

      pick : (b : Bool) → list_any (tells_held c k) (to_clients t) ≡ b → is_some (either (late k (letters c (reply_message t (to_clients t) t.changed.reply))) (late k (letters c (to_clients t)))) ≡ true
      pick true e = some (late k (letters c (reply_message t (to_clients t) t.changed.reply))) (late k (letters c (to_clients t))) (told_held c k (to_clients t) e)
      pick false e = keeps (late k (letters c (reply_message t (to_clients t) t.changed.reply))) (late k (letters c (to_clients t)))
          (subst (λ o. is_some (late k (letters c (reply_message t (to_clients t) o))) ≡ true) (sym r)
          (ap (λ b. is_some (late k (letters c (cond {A = List (ℕ × ToClient)} b ((c, KeyInMemory k (holders t.placed k)) ∷ []) [])))) (ap (λ b. held t.placed k && not b) e ∙ ap (λ b. b && true) h)
          ∙ ap (λ b. is_some (late k (cond {A = List ToClient} b (KeyInMemory k (holders t.placed k) ∷ []) []))) (eq-eqb c c refl) ∙ ap (λ b. is_some {T = ToClient} (cond b (Some (KeyInMemory k (holders t.placed k))) None)) (eq-eqb k k refl)))

-- ## The scheduler's events

-- the scheduler's facts after an event, as its stages have them
abbrev pub stages : Facts → SchedEvent → Stages
stages f s = settle f (change f s)

held_after : (f : Facts) (s : SchedEvent) → held (sched_step f s).facts ≡ held (stages f s).placed
unfolding sched_step finish_step posted settle held
held_after f s = refl

erred_after : (f : Facts) (s : SchedEvent) → erred (sched_step f s).facts ≡ erred (stages f s).placed
unfolding sched_step finish_step posted settle held erred
erred_after f s = refl

want_after : (f : Facts) (s : SchedEvent) → (sched_step f s).facts.want ≡ (stages f s).placed.want
unfolding sched_step finish_step posted settle
want_after f s = refl

clients_after : (f : Facts) (s : SchedEvent) → (sched_step f s).clients ≡ client_messages (stages f s)
unfolding sched_step finish_step settle
clients_after f s = refl

blame_after : (f : Facts) (s : SchedEvent) (k : ℕ) → is_some (blame (sched_step f s).facts k) ≡ is_some (blame (stages f s).placed k)
unfolding sched_step finish_step posted settle blame held erred
blame_after f s k = refl

erred_apart : (f : Facts) → IsSound f → (k : ℕ) → erred f k ≡ true → held f k ≡ false
erred_apart f s k e = by (held f k) refl
  where
    by : (b : Bool) → held f k ≡ b → b ≡ false
    by true h = absurd (false≢true (sym (ap (λ b. not b && (f.bad k || list_any (erred f) (deps f k))) h) ∙ sym (erred-is f s k) ∙ e))
    by false h = refl

-- what the event leaves of one client and one key
pub record IsTurn (w v : World) (s : SchedEvent) (c k : ℕ) : Type 0 where
  pub want : wants_at_last k (w.from_client c) (w.sched.want c k) ≡ wants_at_last k (v.from_client c) ((sched_step w.sched s).facts.want c k)
  pub grown : (sched_step w.sched s).facts.want c k ≡ true → (stages w.sched s).changed.asked k ≡ false → w.sched.want c k ≡ true
  pub names : list_any (names_want k) (v.from_client c) ≡ false → (stages w.sched s).changed.asked k ≡ false → list_any (names_want k) (w.from_client c) ≡ false
  pub misses : list_any (misses k) (w.from_client c) ≡ true → (list_any (misses k) (v.from_client c) ≡ true) ⊎ ((stages w.sched s).changed.reply ≡ Some (c, k))

module _ (w v : World) (s : SchedEvent) (sound : IsSound w.sched) (after : IsSound (sched_step w.sched s).facts) (same : v.sched ≡ w.sched) (clients : v.clients ≡ w.clients) (news : v.to_client ≡ w.to_client) (c k : ℕ)
    (from : 1 ≤ c) (upto : c ≤ w.sched.setting.clients) (turn : IsTurn w v s c k) (h : IsServed w c k) where
  abbrev F2 : Facts
  F2 = (sched_step w.sched s).facts

  abbrev T : Stages
  T = stages w.sched s

  abbrev said : List ToClient
  said = letters c (sched_step w.sched s).clients

  inside : F2.want c k ≡ true → k < keys w.sched
  unfolding settle
  inside e = ⊎_elim (λ l. let q : keys F2 ≡ keys w.sched = ap (λ (x : Setting). key_count x.shape) ((step_settles w.sched s).setting ∙ (change_framed w.sched s).setting) in omega (arith, l, q)) (λ l. absurd (false≢true (sym (after.want c k l) ∙ e))) (cases_lt k (keys F2))

  said_is : F2.want c k ≡ true → late k said ≡ either (Reply T c k T.changed.reply) (Told (client_message T c k))
  unfolding settle
  said_is e = ap (λ l. late k (letters c l)) (clients_after w.sched s) ∙ told_late T c k (inside e) from upto

  not_erred : held F2 k ≡ true → erred F2 k ≡ false
  not_erred e = by (erred F2 k) refl
    where
      by : (b : Bool) → erred F2 k ≡ b → b ≡ false
      by true q = absurd (false≢true (sym (erred_apart F2 after k q) ∙ e))
      by false q = refl

  memory : F2.want c k ≡ true → held F2 k ≡ true → OnNews (was_held T k ≡ true) tells_memory (late k said)
  memory e hd = subst (OnNews (was_held T k ≡ true) tells_memory) (sym (said_is e)) (heard_memory T c k (ap (λ (x : ℕ → ℕ → Bool). x c k) (sym (want_after w.sched s)) ∙ e) (ap (λ (x : ℕ → Bool). x k) (sym (erred_after w.sched s)) ∙ not_erred hd) (ap (λ (x : ℕ → Bool). x k) (sym (held_after w.sched s)) ∙ hd))

  was_apart : was_erred T k ≡ true → was_held T k ≡ false
  unfolding settle
  was_apart e = ap (λ b. b && not (T.changed.asked k)) (erred_apart w.sched sound k (and_parts (erred w.sched k) (not (T.changed.asked k)) e).0)

  error : F2.want c k ≡ true → erred F2 k ≡ true → OnNews (was_erred T k ≡ true) tells_error (late k said)
  error e er = subst (OnNews (was_erred T k ≡ true) tells_error) (sym (said_is e)) (heard_error T c k (ap (λ (x : ℕ → ℕ → Bool). x c k) (sym (want_after w.sched s)) ∙ e) (ap (λ (x : ℕ → Bool). x k) (sym (erred_after w.sched s)) ∙ er)
      (ap (λ (x : ℕ → Bool). x k) (sym (held_after w.sched s)) ∙ erred_apart F2 after k er) (sym (blame_after w.sched s k) ∙ is_some-blame F2 after k ∙ er) was_apart)

  -- nothing new is said of a key that was so before
  was_both : (a b : Bool) → (a && not b) ≡ true → (a ≡ true) × (b ≡ false)
  was_both true true e = absurd (false≢true e)
  was_both true false e = (refl, refl)
  was_both false b e = absurd (false≢true e)

  told : (t : ToClient → Bool) (A : Type 0) → OnNews A t (late k said) → (A → list_any (is_news k) (v.to_client c) ≡ true → last_news t k (v.to_client c) false ≡ true) → list_any (is_news k) (v.to_client c ++ said) ≡ true → last_news t k (v.to_client c ++ said) false ≡ true
  told t A n old e = last_late t k (v.to_client c ++ said) false ∙ ap (verdict t false) (late-append k (v.to_client c) said) ∙ pick (late k said) refl n
    where
      pick : (o : Option ToClient) → late k said ≡ o → OnNews A t o → verdict t false (either o (late k (v.to_client c))) ≡ true
      pick (Some m) q i = i
      pick None q i = sym (last_late t k (v.to_client c) false) ∙ old i (any_late k (v.to_client c) ∙ sym (ap (λ o. is_some (either o (late k (v.to_client c)))) q) ∙ sym (ap is_some (late-append k (v.to_client c) said)) ∙ sym (any_late k (v.to_client c ++ said)) ∙ e)

  silent : (t : ToClient → Bool) (A : Type 0) → OnNews A t (late k said) → list_any (is_news k) (v.to_client c ++ said) ≡ false → A × (list_any (is_news k) (v.to_client c) ≡ false)
  silent t A n e = pick (late k said) refl n (sym (ap is_some (late-append k (v.to_client c) said)) ∙ sym (any_late k (v.to_client c ++ said)) ∙ e)
    where
      pick : (o : Option ToClient) → late k said ≡ o → OnNews A t o → is_some (either (late k said) (late k (v.to_client c))) ≡ false → A × (list_any (is_news k) (v.to_client c) ≡ false)
      pick (Some m) q i z = absurd (true≢false (sym (ap (λ o. is_some (either o (late k (v.to_client c)))) q) ∙ z))
      pick None q i z = (i, any_late k (v.to_client c) ∙ sym (ap (λ o. is_some (either o (late k (v.to_client c)))) q) ∙ z)

  old_news : (ms : ℕ → List ToClient) → ms ≡ w.to_client → (t : ToClient → Bool) → (list_any (is_news k) (w.to_client c) ≡ true → last_news t k (w.to_client c) false ≡ true) → list_any (is_news k) (ms c) ≡ true → last_news t k (ms c) false ≡ true
  old_news ms e t f i = ap (λ (x : ℕ → List ToClient). last_news t k (x c) false) e ∙ f (ap (λ (x : ℕ → List ToClient). list_any (is_news k) (x c)) (sym e) ∙ i)

  no_reply : F2.want c k ≡ true → held F2 k ≡ true → T.changed.reply ≡ Some (c, k) → late k said ≡ None → ⊥
  unfolding settle
  no_reply e hd r z = true≢false (sym (heard_reply T c k (inside e) from upto r (ap (λ (x : ℕ → Bool). x k) (sym (held_after w.sched s)) ∙ hd)) ∙ ap (λ l. is_some (late k (letters c l))) (sym (clients_after w.sched s)) ∙ ap is_some z)

  pub served_scheduler : IsServed (at_scheduler v s) c k
  unfolding scheduled settle
  served_scheduler = subst (λ (f : Facts). IsServed (scheduled v (sched_step f s)) c k) (sym same) (record {
    want = sym turn.want ∙ h.want ∙ ap (λ (x : ℕ → ClientFacts). (x c).wants k) (sym clients);
    held_told = λ e n hd. told tells_memory (was_held T k ≡ true) (memory e hd) (λ a. let b = was_both (held w.sched k) (T.changed.asked k) a in old_news v.to_client news tells_memory (λ i. h.held_told (turn.grown e b.1) i b.0)) n;
    erred_told = λ e n er. told tells_error (was_erred T k ≡ true) (error e er) (λ a. let b = was_both (erred w.sched k) (T.changed.asked k) a in old_news v.to_client news tells_error (λ i. h.erred_told (turn.grown e b.1) i b.0)) n;
    erred_known = λ e u er n m. let z = silent tells_error (was_erred T k ≡ true) (error e er) m in let b = was_both (erred w.sched k) (T.changed.asked k) z.0 in
        ap (λ (x : ℕ → ClientFacts). (x c).got k || is_some ((x c).failed k)) clients ∙ h.erred_known (turn.grown e b.1) (ap (λ (x : ℕ → ClientFacts). (x c).wants k) (sym clients) ∙ u) b.0 (turn.names n b.1) (ap (λ (x : ℕ → List ToClient). list_any (is_news k) (x c)) (sym news) ∙ z.1);
    held_known = λ e u hd n m. let z = silent tells_memory (was_held T k ≡ true) (memory e hd) m in let b = was_both (held w.sched k) (T.changed.asked k) z.0 in
        known e hd m (ap (λ (x : ℕ → ClientFacts). (x c).got k || (has_any ((x c).located k) || (is_asked_for (x c).asks k || list_any (misses k) (w.from_client c)))) clients
        ∙ h.held_known (turn.grown e b.1) (ap (λ (x : ℕ → ClientFacts). (x c).wants k) (sym clients) ∙ u) b.0 (turn.names n b.1) (ap (λ (x : ℕ → List ToClient). list_any (is_news k) (x c)) (sym news) ∙ z.1));
  })
    where
      nothing : list_any (is_news k) (v.to_client c ++ said) ≡ false → late k said ≡ None
      nothing m = by (late k said) refl (sym (ap is_some (late-append k (v.to_client c) said)) ∙ sym (any_late k (v.to_client c ++ said)) ∙ m)
        where
          by : (o : Option ToClient) → late k said ≡ o → is_some (either (late k said) (late k (v.to_client c))) ≡ false → o ≡ None
          by None q z = refl
          by (Some x) q z = absurd (true≢false (sym (ap (λ o. is_some (either o (late k (v.to_client c)))) q) ∙ z))

      known : F2.want c k ≡ true → held F2 k ≡ true → list_any (is_news k) (v.to_client c ++ said) ≡ false → ((v.clients c).got k || (has_any ((v.clients c).located k) || (is_asked_for (v.clients c).asks k || list_any (misses k) (w.from_client c)))) ≡ true
          → ((v.clients c).got k || (has_any ((v.clients c).located k) || (is_asked_for (v.clients c).asks k || list_any (misses k) (v.from_client c)))) ≡ true
      known e hd m = pick ((v.clients c).got k) (has_any ((v.clients c).located k)) (is_asked_for (v.clients c).asks k)
        where
          pick : (a b d : Bool) → (a || (b || (d || list_any (misses k) (w.from_client c)))) ≡ true → (a || (b || (d || list_any (misses k) (v.from_client c)))) ≡ true
          pick true b d z = refl
          pick false true d z = refl
          pick false false true z = refl
          pick false false false z = ⊎_elim (λ y. y) (λ r. absurd (no_reply e hd r (nothing m))) (turn.misses z)
