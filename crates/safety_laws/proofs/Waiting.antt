-- What each client waits for is known to it or on its way: what the client's own events keep of it.
use Rattle.std.proofs.Common.{◌≡◌, ℕ, Bool, true, false, cond, not, ◌&&◌, ◌||◌, List, [], ◌∷◌, ◌++◌, Option, Some, None, refl, sym, ap, ◌∙◌, is_some, filter, fold, inl, inr, ◌⊎◌, ⊎_elim}
use Rattle.std.proofs.lemmas.Bool.{true≢false, false≢true, eqb-true, or_parts, or_left}
use Rattle.std.proofs.Math.Dec.{eqb}
use Rattle.cluster_rules.specs.Functions.{put}
use Rattle.cluster_rules.specs.Derived.{is_in}
use Rattle.cluster_rules.specs.Worker.{Ask as OpenAsk, ask_to, without_ask}
use Rattle.cluster_rules.specs.WorkerStep.{keys_of}
use Rattle.cluster_msgs.specs.declared.messages.FromClient.{FromClient as ClientMessage}
use Rattle.std.proofs.lemmas.Bool.{and_parts}
use Rattle.std.specs.List.{list_any, filter_map, cons_option}
use Rattle.std.specs.Prelude.{nat_lt}
use Rattle.cluster_msgs.specs.declared.messages.FromClient.TheVariants.{Want as WantMessage, Release as ReleaseMessage, Missing as MissingMessage}
use Rattle.cluster_rules.specs.Worker.{with_ask, has_any, ask_items}
use Rattle.cluster_rules.specs.Client.{ClientFacts, client_gets, client_misses, client_answered, client_gathered_by, client_gathered, keeps_still, client_wants, client_releases, client_fetchable, client_ask}
use Rattle.std.proofs.lemmas.Bool.{or_cases}
use Rattle.std.proofs.Math.Bool.{or-false, or-true}
use Rattle.std.proofs.lemmas.Option.{same_Some}
use Rattle.small_facts.proofs.Numbers.{eqb_turned}
use Rattle.small_facts.proofs.Options.{some_not_none}
use Rattle.cluster_rules.specs.Worker.{is_asked_for}
use Rattle.safety_laws.specs.Lively.{wants_then, wants_at_last, names_want, misses}
use Rattle.cluster_rules.specs.Worker.{names_key}
use Rattle.cluster_rules.specs.Client.{ClientStep, missing_message}
use Rattle.cluster_rules.specs.WorldStep.{client_sends}
use Rattle.cluster_msgs.specs.declared.cores.ClientInstruction.TheVariants.{Send as ClientSend}

-- ## Open asks have different peers

abbrev pub AreDistinct : List OpenAsk → Type 0
AreDistinct [] = Unit {0}
AreDistinct (q ∷ qs) = (ask_to qs q.peer ≡ None) × AreDistinct qs

-- a key that is asked for is in the ask that goes, or in one that stays
asked_split : (k p : ℕ) (qs : List OpenAsk) (a : OpenAsk) → AreDistinct qs → ask_to qs p ≡ Some a → is_asked_for qs k ≡ true → (names_key k a ≡ true) ⊎ (is_asked_for (without_ask qs p) k ≡ true)
asked_split k p [] a d e h = absurd (false≢true h)
asked_split k p (q ∷ qs) a d e h = pick (eqb q.peer p) refl (or_cases (names_key k q) (is_asked_for qs k) h) (λ x y. asked_split k p qs a d.1 x y)
  where
    none_left : (xs : List OpenAsk) → ask_to xs p ≡ None → is_asked_for xs k ≡ true → is_asked_for (without_ask xs p) k ≡ true
    none_left [] n i = i
    none_left (x ∷ xs) n i = by (eqb x.peer p) refl n (or_cases (names_key k x) (is_asked_for xs k) i) (λ r. none_left xs r)
      where
        by : (b : Bool) → eqb x.peer p ≡ b → cond b (Some x) (ask_to xs p) ≡ None → (names_key k x ≡ true) ⊎ (is_asked_for xs k ≡ true) → (ask_to xs p ≡ None → is_asked_for xs k ≡ true → is_asked_for (without_ask xs p) k ≡ true) → is_asked_for (cond (not b) (x ∷ without_ask xs p) (without_ask xs p)) k ≡ true
        by true z r s rest = absurd (some_not_none x r)
        by false z r (inl s) rest = ap (λ u. u || is_asked_for (without_ask xs p) k) s
        by false z r (inr s) rest = ap (λ u. names_key k x || u) (rest r s) ∙ or-true (names_key k x)

    pick : (b : Bool) → eqb q.peer p ≡ b → (names_key k q ≡ true) ⊎ (is_asked_for qs k ≡ true) → (ask_to qs p ≡ Some a → is_asked_for qs k ≡ true → (names_key k a ≡ true) ⊎ (is_asked_for (without_ask qs p) k ≡ true)) → (names_key k a ≡ true) ⊎ (is_asked_for (cond (not b) (q ∷ without_ask qs p) (without_ask qs p)) k ≡ true)
    pick true z (inl s) rest = inl (ap (names_key k) (sym (same_Some q a (sym (ap (λ b. cond b (Some q) (ask_to qs p)) z) ∙ e))) ∙ s)
    pick true z (inr s) rest = inr (none_left qs (ap (ask_to qs) (sym (eqb-true q.peer p z)) ∙ d.0) s)
    pick false z (inl s) rest = inr (ap (λ u. u || is_asked_for (without_ask qs p) k) s)
    pick false z (inr s) rest = ⊎_elim (λ n. inl n) (λ m. inr (ap (λ u. names_key k q || u) m ∙ or-true (names_key k q))) (rest (sym (ap (λ b. cond b (Some q) (ask_to qs p)) z) ∙ e) s)

-- more asks name no fewer keys
asked_more : (k : ℕ) (a : OpenAsk) (qs : List OpenAsk) → is_asked_for qs k ≡ true → is_asked_for (with_ask a qs) k ≡ true
asked_more k a [] h = absurd (false≢true h)
asked_more k a (q ∷ qs) h = pick (nat_lt a.peer q.peer) (or_cases (names_key k q) (is_asked_for qs k) h) (λ r. asked_more k a qs r)
  where
    pick : (b : Bool) → (names_key k q ≡ true) ⊎ (is_asked_for qs k ≡ true) → (is_asked_for qs k ≡ true → is_asked_for (with_ask a qs) k ≡ true) → is_asked_for (cond b (a ∷ q ∷ qs) (q ∷ with_ask a qs)) k ≡ true
    pick true s rest = ap (λ u. names_key k a || u) h ∙ or-true (names_key k a)
    pick false (inl s) rest = ap (λ u. u || is_asked_for (with_ask a qs) k) s
    pick false (inr s) rest = ap (λ u. names_key k q || u) (rest s) ∙ or-true (names_key k q)

-- ## What an answer makes of a key

record IsGot (k : ℕ) (c d : ClientFacts) (there : Bool) : Type 0 where
  wants : d.wants ≡ c.wants
  failed : d.failed ≡ c.failed
  asks : d.asks ≡ c.asks
  got : d.got k ≡ (c.got k || (there && c.wants k))
  located : (there && c.wants k) ≡ false → d.located k ≡ c.located k

getting : (k : ℕ) (ks : List ℕ) (c : ClientFacts) → IsGot k c (fold client_gets c ks) (is_in k ks)
getting k [] c = record { wants = refl; failed = refl; asks = refl; got = sym (or-false (c.got k)); located = λ _. refl }
getting k (x ∷ xs) c = then (one (c.wants x) refl (eqb x k) refl) (getting k xs (client_gets c x))
  where
    one : (b : Bool) → c.wants x ≡ b → (e : Bool) → eqb x k ≡ e → IsGot k c (cond b (record c { got = put c.got x true; located = put c.located x [] }) c) e
    one true w true e = record { wants = refl; failed = refl; asks = refl; got = ap (λ u. cond u true (c.got k)) (eqb_turned k x ∙ e) ∙ sym (ap (λ u. c.got k || u) (ap c.wants (sym (eqb-true x k e)) ∙ w) ∙ or-true (c.got k)); located = λ z. absurd (true≢false (sym (ap c.wants (sym (eqb-true x k e)) ∙ w) ∙ z)) }
    one true w false e = record { wants = refl; failed = refl; asks = refl; got = ap (λ u. cond u true (c.got k)) (eqb_turned k x ∙ e) ∙ sym (or-false (c.got k)); located = λ z. ap (λ u. cond u [] (c.located k)) (eqb_turned k x ∙ e) }
    one false w true e = record { wants = refl; failed = refl; asks = refl; got = sym (ap (λ u. c.got k || u) (ap c.wants (sym (eqb-true x k e)) ∙ w) ∙ or-false (c.got k)); located = λ z. refl }
    one false w false e = record { wants = refl; failed = refl; asks = refl; got = sym (or-false (c.got k)); located = λ z. refl }

    then : IsGot k c (client_gets c x) (eqb x k) → IsGot k (client_gets c x) (fold client_gets (client_gets c x) xs) (is_in k xs) → IsGot k c (fold client_gets (client_gets c x) xs) (eqb x k || is_in k xs)
    then f g = record {
      wants = g.wants ∙ f.wants;
      failed = g.failed ∙ f.failed;
      asks = g.asks ∙ f.asks;
      got = g.got ∙ ap (λ (w : ℕ → Bool). (client_gets c x).got k || (is_in k xs && w k)) f.wants ∙ ap (λ u. u || (is_in k xs && c.wants k)) f.got ∙ both (c.got k) (eqb x k) (is_in k xs) (c.wants k);
      located = λ z. let y = split (eqb x k) (is_in k xs) (c.wants k) z in g.located (ap (λ (w : ℕ → Bool). is_in k xs && w k) f.wants ∙ y.1) ∙ f.located y.0;
    }
      where
        both : (g e i w : Bool) → ((g || (e && w)) || (i && w)) ≡ (g || ((e || i) && w))
        both true e i w = refl
        both false true true true = refl
        both false true true false = refl
        both false true false true = refl
        both false true false false = refl
        both false false i w = refl

        split : (e i w : Bool) → ((e || i) && w) ≡ false → ((e && w) ≡ false) × ((i && w) ≡ false)
        split true true w z = (z, z)
        split true false w z = (z, refl)
        split false i w z = (refl, z)

record IsLost (k : ℕ) (c d : ClientFacts) (there : Bool) : Type 0 where
  wants : d.wants ≡ c.wants
  failed : d.failed ≡ c.failed
  asks : d.asks ≡ c.asks
  got : d.got ≡ c.got
  located : there ≡ false → d.located k ≡ c.located k

losing : (k : ℕ) (is : List (ℕ × ℕ)) (c : ClientFacts) → IsLost k c (fold client_misses c is) (list_any (λ (i : ℕ × ℕ). eqb i.0 k) is)
losing k [] c = record { wants = refl; failed = refl; asks = refl; got = refl; located = λ _. refl }
losing k (x ∷ xs) c = let r = losing k xs (client_misses c x) in record {
  wants = r.wants;
  failed = r.failed;
  asks = r.asks;
  got = r.got;
  located = λ z. let y = or_parts (eqb x.0 k) (list_any (λ (i : ℕ × ℕ). eqb i.0 k) xs) z in r.located y.1 ∙ ap (λ u. cond u [] (c.located k)) (eqb_turned k x.0 ∙ y.0);
}

-- the scheduler is told of a wanted key that wasn't found
tells_missing : (k p : ℕ) (c : ClientFacts) (is : List (ℕ × ℕ)) → c.wants k ≡ true → list_any (λ (i : ℕ × ℕ). eqb i.0 k) is ≡ true → list_any (misses k) (client_sends (filter_map (missing_message c p) is)) ≡ true
tells_missing k p c [] w e = absurd (false≢true e)
tells_missing k p c (x ∷ xs) w e = pick (c.wants x.0) refl (or_cases (eqb x.0 k) (list_any (λ (i : ℕ × ℕ). eqb i.0 k) xs) e) (λ r. tells_missing k p c xs w r)
  where
    pick : (b : Bool) → c.wants x.0 ≡ b → (eqb x.0 k ≡ true) ⊎ (list_any (λ (i : ℕ × ℕ). eqb i.0 k) xs ≡ true) → (list_any (λ (i : ℕ × ℕ). eqb i.0 k) xs ≡ true → list_any (misses k) (client_sends (filter_map (missing_message c p) xs)) ≡ true)
        → list_any (misses k) (client_sends (cons_option (cond b (Some (ClientSend (MissingMessage x.0 p x.1))) None) (filter_map (missing_message c p) xs))) ≡ true
    pick true z (inl s) rest = ap (λ u. u || list_any (misses k) (client_sends (filter_map (missing_message c p) xs))) s
    pick true z (inr s) rest = ap (λ u. eqb x.0 k || u) (rest s) ∙ or-true (eqb x.0 k)
    pick false z (inl s) rest = absurd (false≢true (sym z ∙ ap c.wants (eqb-true x.0 k s) ∙ w))
    pick false z (inr s) rest = rest s

-- those messages are of no want
abbrev AreMissing : List ClientMessage → Type 0
AreMissing [] = Unit {0}
AreMissing (MissingMessage q p c ∷ ms) = AreMissing ms
AreMissing (WantMessage ks ∷ ms) = ⊥
AreMissing (ReleaseMessage ks ∷ ms) = ⊥

all_missing : (p : ℕ) (c : ClientFacts) (is : List (ℕ × ℕ)) → AreMissing (client_sends (filter_map (missing_message c p) is))
all_missing p c [] = tt
all_missing p c (x ∷ xs) = pick (c.wants x.0) (all_missing p c xs)
  where
    pick : (b : Bool) → AreMissing (client_sends (filter_map (missing_message c p) xs)) → AreMissing (client_sends (cons_option (cond b (Some (ClientSend (MissingMessage x.0 p x.1))) None) (filter_map (missing_message c p) xs)))
    pick true r = r
    pick false r = r

pub wants-append : (k : ℕ) (xs ys : List ClientMessage) (b : Bool) → wants_at_last k (xs ++ ys) b ≡ wants_at_last k ys (wants_at_last k xs b)
wants-append k [] ys b = refl
wants-append k (x ∷ xs) ys b = wants-append k xs ys (wants_then k x b)

wants_missing : (k : ℕ) (ms : List ClientMessage) (b : Bool) → AreMissing ms → wants_at_last k ms b ≡ b
wants_missing k [] b h = refl
wants_missing k (MissingMessage q p c ∷ ms) b h = wants_missing k ms b h
wants_missing k (WantMessage ks ∷ ms) b h = absurd h
wants_missing k (ReleaseMessage ks ∷ ms) b h = absurd h

-- a list of items is found or missed
item_split : (k : ℕ) (found : List ℕ) (is : List (ℕ × ℕ)) → list_any (λ (i : ℕ × ℕ). eqb i.0 k) is ≡ true → (is_in k (keys_of (filter (λ i. is_in i.0 found) is)) ≡ true) ⊎ (list_any (λ (i : ℕ × ℕ). eqb i.0 k) (filter (λ i. not (is_in i.0 found)) is) ≡ true)
item_split k found [] e = absurd (false≢true e)
item_split k found (x ∷ xs) e = pick (is_in x.0 found) (or_cases (eqb x.0 k) (list_any (λ (i : ℕ × ℕ). eqb i.0 k) xs) e) (λ r. item_split k found xs r)
  where
    pick : (b : Bool) → (eqb x.0 k ≡ true) ⊎ (list_any (λ (i : ℕ × ℕ). eqb i.0 k) xs ≡ true)
        → (list_any (λ (i : ℕ × ℕ). eqb i.0 k) xs ≡ true → (is_in k (keys_of (filter (λ i. is_in i.0 found) xs)) ≡ true) ⊎ (list_any (λ (i : ℕ × ℕ). eqb i.0 k) (filter (λ i. not (is_in i.0 found)) xs) ≡ true))
        → (is_in k (keys_of (cond b (x ∷ filter (λ i. is_in i.0 found) xs) (filter (λ i. is_in i.0 found) xs))) ≡ true) ⊎ (list_any (λ (i : ℕ × ℕ). eqb i.0 k) (cond (not b) (x ∷ filter (λ i. not (is_in i.0 found)) xs) (filter (λ i. not (is_in i.0 found)) xs)) ≡ true)
    pick true (inl s) rest = inl (ap (λ u. u || is_in k (keys_of (filter (λ i. is_in i.0 found) xs))) s)
    pick false (inl s) rest = inr (ap (λ u. u || list_any (λ (i : ℕ × ℕ). eqb i.0 k) (filter (λ i. not (is_in i.0 found)) xs)) s)
    pick true (inr s) rest = ⊎_elim (λ a. inl (ap (λ u. eqb x.0 k || u) a ∙ or-true (eqb x.0 k))) (λ a. inr a) (rest s)
    pick false (inr s) rest = ⊎_elim (λ a. inl a) (λ a. inr (ap (λ u. eqb x.0 k || u) a ∙ or-true (eqb x.0 k))) (rest s)

-- ## One event of the client

pub record IsOwnTurn (k : ℕ) (c d : ClientFacts) (ms : List ClientMessage) : Type 0 where
  pub want : wants_at_last k ms (c.wants k) ≡ d.wants k
  pub wanted : d.wants k ≡ true → list_any (names_want k) ms ≡ false → c.wants k ≡ true
  pub ended : d.wants k ≡ true → (c.got k || is_some (c.failed k)) ≡ true → (d.got k || is_some (d.failed k)) ≡ true
  pub known : d.wants k ≡ true → (c.got k || (has_any (c.located k) || is_asked_for c.asks k)) ≡ true → (d.got k || (has_any (d.located k) || (is_asked_for d.asks k || list_any (misses k) ms))) ≡ true

no_more : (a b d : Bool) → (a || (b || d)) ≡ true → (a || (b || (d || false))) ≡ true
no_more true b d e = refl
no_more false true d e = refl
no_more false false true e = refl
no_more false false false e = absurd (false≢true e)

pub turn_want : (k : ℕ) (c : ClientFacts) (ks : List ℕ) → IsOwnTurn k c (client_wants c ks).facts (client_sends (client_wants c ks).out)
unfolding client_wants
turn_want k c ks = record {
  want = refl;
  wanted = λ w n. by (c.wants k) (is_in k ks) w n;
  ended = λ w e. e;
  known = λ w e. no_more (c.got k) (has_any (c.located k)) (is_asked_for c.asks k) e;
}
  where
    by : (a b : Bool) → (a || b) ≡ true → (b || false) ≡ false → a ≡ true
    by true b w n = refl
    by false true w n = absurd (true≢false n)
    by false false w n = w

pub turn_release : (k : ℕ) (c : ClientFacts) (ks : List ℕ) → IsOwnTurn k c (client_releases c ks).facts (client_sends (client_releases c ks).out)
unfolding client_releases
turn_release k c ks = record {
  want = refl;
  wanted = λ w n. (and_parts (c.wants k) (not (is_in k ks)) w).0;
  ended = λ w e. ended (is_in k ks) (and_parts (c.wants k) (not (is_in k ks)) w).1 (c.got k) (c.failed k) e;
  known = λ w e. known (is_in k ks) (and_parts (c.wants k) (not (is_in k ks)) w).1 (c.got k) (c.located k) (is_asked_for c.asks k) e;
}
  where
    ended : (b : Bool) → not b ≡ true → (g : Bool) (f : Option ℕ) → (g || is_some f) ≡ true → ((g && not b) || is_some (cond b None f)) ≡ true
    ended true n g f e = absurd (false≢true n)
    ended false n true f e = refl
    ended false n false f e = e

    known : (b : Bool) → not b ≡ true → (g : Bool) (l : List (ℕ × ℕ)) (a : Bool) → (g || (has_any l || a)) ≡ true → ((g && not b) || (has_any (cond b [] l) || (a || false))) ≡ true
    known true n g l a e = absurd (false≢true n)
    known false n true l a e = refl
    known false n false l a e = no_more false (has_any l) a e

pub turn_same : (k : ℕ) (c : ClientFacts) → IsOwnTurn k c c []
turn_same k c = record { want = refl; wanted = λ w n. w; ended = λ w e. e; known = λ w e. no_more (c.got k) (has_any (c.located k)) (is_asked_for c.asks k) e }

pub turn_ask : (k : ℕ) (c : ClientFacts) (p : ℕ) → IsOwnTurn k c (client_ask c p).facts (client_sends (client_ask c p).out)
unfolding client_ask
turn_ask k c p = record {
  want = refl;
  wanted = λ w n. w;
  ended = λ w e. e;
  known = λ w e. by (c.got k) (has_any (c.located k)) (is_asked_for c.asks k) refl e;
}
  where
    more : List OpenAsk
    more = with_ask (record { peer = p; number = c.next_ask; items = ask_items c.shape (client_fetchable c p) }) c.asks

    by : (a b d : Bool) → is_asked_for c.asks k ≡ d → (a || (b || d)) ≡ true → (a || (b || (is_asked_for (with_ask (record { peer = p; number = c.next_ask; items = ask_items c.shape (client_fetchable c p) }) c.asks) k || false))) ≡ true
    by true b d i e = refl
    by false true d i e = refl
    by false false true i e = ap (λ u. u || false) (asked_more k (record { peer = p; number = c.next_ask; items = ask_items c.shape (client_fetchable c p) }) c.asks i)
    by false false false i e = absurd (false≢true e)

pub turn_gathered : (k : ℕ) (c : ClientFacts) (p n : ℕ) (found : List ℕ) → AreDistinct c.asks → IsOwnTurn k c (client_gathered c p n found).facts (client_sends (client_gathered c p n found).out)
unfolding client_gathered
turn_gathered k c p n found distinct = by_ask (ask_to c.asks p) refl
  where
    answered : (a : OpenAsk) → ask_to c.asks p ≡ Some a → let s = client_answered (record c { asks = without_ask c.asks p }) p (keys_of (filter (λ i. is_in i.0 found) a.items)) (filter (λ i. not (is_in i.0 found)) a.items) in IsOwnTurn k c s.facts (client_sends s.out)
    answered a e = record {
      want = wants_missing k (client_sends (filter_map (missing_message c0 p) ms)) (c.wants k) (all_missing p c0 ms) ∙ ap (λ (x : ℕ → Bool). x k) (sym (l.wants ∙ g.wants));
      wanted = λ w z. ap (λ (x : ℕ → Bool). x k) (sym (l.wants ∙ g.wants)) ∙ w;
      ended = λ w z. ended (c.got k) z (ap (λ (x : ℕ → Bool). x k) l.got ∙ g.got);
      known = λ w z. known (ap (λ (x : ℕ → Bool). x k) (sym (l.wants ∙ g.wants)) ∙ w) (c.got k) refl z;
    }
      where
        c0 : ClientFacts
        c0 = record c { asks = without_ask c.asks p }

        ks : List ℕ
        ks = keys_of (filter (λ i. is_in i.0 found) a.items)

        ms : List (ℕ × ℕ)
        ms = filter (λ i. not (is_in i.0 found)) a.items

        c1 : ClientFacts
        c1 = fold client_gets c0 ks

        g : IsGot k c0 c1 (is_in k ks)
        g = getting k ks c0

        l : IsLost k c1 (fold client_misses c1 ms) (list_any (λ (i : ℕ × ℕ). eqb i.0 k) ms)
        l = losing k ms c1

        ended : (b : Bool) → (b || is_some (c.failed k)) ≡ true → (fold client_misses c1 ms).got k ≡ (b || (is_in k ks && c.wants k)) → ((fold client_misses c1 ms).got k || is_some ((fold client_misses c1 ms).failed k)) ≡ true
        ended true z q = ap (λ u. u || is_some ((fold client_misses c1 ms).failed k)) q
        ended false z q = ap (λ (f : ℕ → Option ℕ). (fold client_misses c1 ms).got k || is_some (f k)) (l.failed ∙ g.failed) ∙ ap (λ u. (fold client_misses c1 ms).got k || u) z ∙ or-true ((fold client_misses c1 ms).got k)

        known : c.wants k ≡ true → (b : Bool) → c.got k ≡ b → (b || (has_any (c.located k) || is_asked_for c.asks k)) ≡ true
            → ((fold client_misses c1 ms).got k || (has_any ((fold client_misses c1 ms).located k) || (is_asked_for (fold client_misses c1 ms).asks k || list_any (misses k) (client_sends (filter_map (missing_message c0 p) ms))))) ≡ true
        known w b q z = pick (is_in k ks) refl (list_any (λ (i : ℕ × ℕ). eqb i.0 k) ms) refl
          where
            got_is : (fold client_misses c1 ms).got k ≡ (c.got k || (is_in k ks && c.wants k))
            got_is = ap (λ (x : ℕ → Bool). x k) l.got ∙ g.got

            last : (x y u : Bool) → list_any (misses k) (client_sends (filter_map (missing_message c0 p) ms)) ≡ true → (x || (y || (u || list_any (misses k) (client_sends (filter_map (missing_message c0 p) ms))))) ≡ true
            last x y u e = ap (λ v. x || (y || (u || v))) e ∙ ap (λ v. x || (y || v)) (or-true u) ∙ ap (λ v. x || v) (or-true y) ∙ or-true x

            pick : (i : Bool) → is_in k ks ≡ i → (m : Bool) → list_any (λ (i : ℕ × ℕ). eqb i.0 k) ms ≡ m
                → ((fold client_misses c1 ms).got k || (has_any ((fold client_misses c1 ms).located k) || (is_asked_for (fold client_misses c1 ms).asks k || list_any (misses k) (client_sends (filter_map (missing_message c0 p) ms))))) ≡ true
            pick true i m u = or_left ((fold client_misses c1 ms).got k) (has_any ((fold client_misses c1 ms).located k) || (is_asked_for (fold client_misses c1 ms).asks k || list_any (misses k) (client_sends (filter_map (missing_message c0 p) ms)))) (got_is ∙ ap (λ v. c.got k || (v && c.wants k)) i ∙ ap (λ v. c.got k || v) w ∙ or-true (c.got k))
            pick false i true u = last ((fold client_misses c1 ms).got k) (has_any ((fold client_misses c1 ms).located k)) (is_asked_for (fold client_misses c1 ms).asks k) (tells_missing k p c0 ms w u)
            pick false i false u = ⊎_elim (λ s. or_left ((fold client_misses c1 ms).got k) (has_any ((fold client_misses c1 ms).located k) || (is_asked_for (fold client_misses c1 ms).asks k || list_any (misses k) (client_sends (filter_map (missing_message c0 p) ms)))) (got_is ∙ ap (λ v. v || (is_in k ks && c.wants k)) (q ∙ s)))
                (λ r. ⊎_elim (λ s. there s) (λ s. flying s) (or_cases (has_any (c.located k)) (is_asked_for c.asks k) r)) (or_cases b (has_any (c.located k) || is_asked_for c.asks k) z)
              where
                there : has_any (c.located k) ≡ true → ((fold client_misses c1 ms).got k || (has_any ((fold client_misses c1 ms).located k) || (is_asked_for (fold client_misses c1 ms).asks k || list_any (misses k) (client_sends (filter_map (missing_message c0 p) ms))))) ≡ true
                there s = ap (λ v. (fold client_misses c1 ms).got k || (has_any v || (is_asked_for (fold client_misses c1 ms).asks k || list_any (misses k) (client_sends (filter_map (missing_message c0 p) ms))))) (l.located u ∙ g.located (ap (λ v. v && c.wants k) i))
                    ∙ ap (λ v. (fold client_misses c1 ms).got k || (v || (is_asked_for (fold client_misses c1 ms).asks k || list_any (misses k) (client_sends (filter_map (missing_message c0 p) ms))))) s ∙ or-true ((fold client_misses c1 ms).got k)

                stays : is_asked_for (without_ask c.asks p) k ≡ true → ((fold client_misses c1 ms).got k || (has_any ((fold client_misses c1 ms).located k) || (is_asked_for (fold client_misses c1 ms).asks k || list_any (misses k) (client_sends (filter_map (missing_message c0 p) ms))))) ≡ true
                stays s = ap (λ v. (fold client_misses c1 ms).got k || (has_any ((fold client_misses c1 ms).located k) || (v || list_any (misses k) (client_sends (filter_map (missing_message c0 p) ms))))) (ap (λ x. is_asked_for x k) (l.asks ∙ g.asks) ∙ s)
                    ∙ ap (λ v. (fold client_misses c1 ms).got k || v) (or-true (has_any ((fold client_misses c1 ms).located k))) ∙ or-true ((fold client_misses c1 ms).got k)

                flying : is_asked_for c.asks k ≡ true → ((fold client_misses c1 ms).got k || (has_any ((fold client_misses c1 ms).located k) || (is_asked_for (fold client_misses c1 ms).asks k || list_any (misses k) (client_sends (filter_map (missing_message c0 p) ms))))) ≡ true
                flying s = ⊎_elim (λ n. ⊎_elim (λ f. absurd (true≢false (sym f ∙ i))) (λ f. absurd (true≢false (sym f ∙ u))) (item_split k found a.items n)) stays (asked_split k p c.asks a distinct e s)

    by_ask : (o : Option OpenAsk) → ask_to c.asks p ≡ o → let s = client_gathered_by c p n found o in IsOwnTurn k c s.facts (client_sends s.out)
    by_ask None e = turn_same k c
    by_ask (Some a) e = over (eqb a.number n)
      where
        over : (b : Bool) → let s = cond {A = ClientStep} b (client_answered (record c { asks = without_ask c.asks p }) p (keys_of (filter (λ i. is_in i.0 found) a.items)) (filter (λ i. not (is_in i.0 found)) a.items)) (keeps_still c) in IsOwnTurn k c s.facts (client_sends s.out)
        over true = answered a e
        over false = turn_same k c
