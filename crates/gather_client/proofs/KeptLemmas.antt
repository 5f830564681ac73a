-- What a client keeps is kept by each event.
use Rattle.std.proofs.Common.{◌≡◌, ℕ, zero, suc, ◌+◌, ◌<◌, ◌≤◌, Bool, true, false, not, ◌&&◌, ◌||◌, List, [], ◌∷◌, Option, Some, None, is_some, refl, sym, ◌∙◌, subst, arith, cond, filter, zero-add}
use Rattle.std.specs.Prelude.{◌==◌, fold}
use Rattle.std.specs.List.{list_any, filter_map, range_with_len}
use Rattle.std.proofs.lemmas.Bool.{false≢true, true≢false, and_parts, eqb-true, not-true, or_left, or_right}
use Rattle.small_facts.proofs.Lists.{any_of_take}
use Rattle.small_facts.proofs.Numbers.{equal_below_or_next}
use Rattle.small_facts.proofs.Truth.{or_weaker}
use Rattle.cluster_msgs.specs.Shape.{Shape, key_count}
use Rattle.cluster_msgs.specs.declared.messages.ToClient.{ToClient}
use Rattle.cluster_msgs.specs.declared.messages.ToClient.TheVariants.{KeyInMemory, LostData, ClientTaskErred}
use Rattle.cluster_msgs.specs.declared.cores.ClientEvent.{ClientEvent}
use Rattle.cluster_msgs.specs.declared.cores.ClientEvent.TheVariants.{Want, Release, FromScheduler, Ask as AskPeer, Gathered, GatherFailed}
use Rattle.cluster_rules.specs.Functions.{put}
use Rattle.cluster_rules.specs.Derived.{is_in}
use Rattle.cluster_rules.specs.Worker.{Ask, names_key, is_asked_for, has_any, item_at, ask_items, ask_to, without_ask}
use Rattle.cluster_rules.specs.WorkerStep.{keys_of}
use Rattle.cluster_rules.specs.WorkerKept.{flights}
use Rattle.cluster_rules.specs.Client.{ClientFacts, new_client, client_keys, is_open, client_fetchable, client_wants, client_releases, hears, hear, client_ask, client_gets, client_misses, client_gathered, client_gathered_by, client_answered, client_step, keeps_still}
use Rattle.cluster_rules.proofs.WorkerLemmas.{no_flight, flights-with, flights-without, in_filter, item_key}
use Rattle.cluster_rules.specs.Runs.{event_limit}
use Rattle.gather_client.specs.Stored.{Stored, facts_of}
use Rattle.gather_client.specs.Kept.{KeyKept, KeysKept, IsCore}
use Rattle.gather_client.proofs.FoldLemmas.{gets-next, misses-next}

-- what holds at one key and at each other
at_one : (q : ℕ) (Q : Bool → ℕ → Type 0) → Q true q → ((k : ℕ) → Q false k) → (k : ℕ) → Q (k == q) k
at_one q Q here there k = pick (k == q) refl
  where
    pick : (b : Bool) → (k == q) ≡ b → Q b k
    pick true e = subst (λ x. Q true x) (sym (eqb-true k q e)) here
    pick false e = there k

kept_fold : {A : Type 0} (f : ClientFacts → A → ClientFacts) → ((c : ClientFacts) (x : A) → KeysKept c → KeysKept (f c x)) → (c : ClientFacts) (xs : List A) → KeysKept c → KeysKept (fold f c xs)
kept_fold f step c [] h = h
kept_fold f step c (x ∷ xs) h = kept_fold f step (f c x) xs (step c x h)

no : {A : Type 0} → false ≡ true → A
no e = absurd (false≢true e)

-- a key that nobody is known to hold
nowhere : (w g f l : Bool) (n : ℕ) → KeyKept w g f l n → KeyKept w g f false n
nowhere w g f l n h = record { got_wanted = h.got_wanted; failed_wanted = h.failed_wanted; located_wanted = λ e. no e; located_not_got = λ e. no e; asked_once = h.asked_once }

pub kept_new : (g : Shape) → KeysKept (new_client g)
kept_new g = record { at = λ k. record { got_wanted = λ e. e; failed_wanted = λ e. e; located_wanted = λ e. e; located_not_got = λ e. refl; asked_once = omega arith } }

kept_want : (c : ClientFacts) (ks : List ℕ) → KeysKept c → KeysKept (client_wants c ks).facts
unfolding client_wants
kept_want c ks h = record { at = λ k. one (c.wants k) (c.got k) (is_some (c.failed k)) (has_any (c.located k)) (is_in k ks) (flights c.asks k) (h.at k) }
  where
    one : (w g f l b : Bool) (n : ℕ) → KeyKept w g f l n → KeyKept (w || b) g f l n
    one w g f l b n k = record {
      got_wanted = λ e. or_left w b (k.got_wanted e);
      failed_wanted = λ e. or_left w b (k.failed_wanted e);
      located_wanted = λ e. or_left w b (k.located_wanted e);
      located_not_got = k.located_not_got;
      asked_once = k.asked_once;
    }

kept_release : (c : ClientFacts) (ks : List ℕ) → KeysKept c → KeysKept (client_releases c ks).facts
unfolding client_releases
kept_release c ks h = record { at = λ k. one (c.wants k) (c.got k) (c.failed k) (c.located k) (is_in k ks) (flights c.asks k) (h.at k) }
  where
    gone : (w g : Bool) (n : ℕ) → n ≤ 1 → KeyKept (w && false) (g && false) false false n
    gone w g n l = record { got_wanted = λ e. no (and_parts g false e).1; failed_wanted = λ e. no e; located_wanted = λ e. no e; located_not_got = λ e. no e; asked_once = l }

    same : (w g f l : Bool) (n : ℕ) → KeyKept w g f l n → KeyKept (w && true) (g && true) f l n
    same true true f l n k = k
    same true false f l n k = k
    same false true f l n k = k
    same false false f l n k = k

    one : (w g : Bool) (f : Option ℕ) (l : List (ℕ × ℕ)) (b : Bool) (n : ℕ) → KeyKept w g (is_some f) (has_any l) n → KeyKept (w && not b) (g && not b) (is_some (cond b None f)) (has_any (cond b [] l)) n
    one w g f l true n k = gone w g n k.asked_once
    one w g f l false n k = same w g (is_some f) (has_any l) n k

kept_hears : (c : ClientFacts) (k : ℕ) (d : ClientFacts) → (c.wants k ≡ true → c.got k ≡ false → KeysKept d) → KeysKept c → KeysKept (hears c k d)
kept_hears c k d r h = pick (c.wants k) (c.got k) refl refl
  where
    pick : (w g : Bool) → c.wants k ≡ w → c.got k ≡ g → KeysKept (cond (w && not g) d c)
    pick true true e i = h
    pick true false e i = r e i
    pick false g e i = h

-- who holds a key that is due
located_now : (w g f l : Bool) (n : ℕ) → w ≡ true → g ≡ false → (m : Bool) → KeyKept w g f l n → KeyKept w g f m n
located_now w g f l n e i m h = record { got_wanted = h.got_wanted; failed_wanted = h.failed_wanted; located_wanted = λ x. e; located_not_got = λ x. i; asked_once = h.asked_once }

failed_now : (w g f l : Bool) (n : ℕ) → w ≡ true → KeyKept w g f l n → KeyKept w g true false n
failed_now w g f l n e h = record { got_wanted = h.got_wanted; failed_wanted = λ x. e; located_wanted = λ x. no x; located_not_got = λ x. no x; asked_once = h.asked_once }

got_now : (w g f l : Bool) (n : ℕ) → w ≡ true → KeyKept w g f l n → KeyKept w true f false n
got_now w g f l n e h = record { got_wanted = λ x. e; failed_wanted = h.failed_wanted; located_wanted = λ x. no x; located_not_got = λ x. no x; asked_once = h.asked_once }

kept_lost : (c : ClientFacts) (q : ℕ) → KeysKept c → KeysKept (record c { located = put c.located q [] })
kept_lost c q h = record { at = at_one q (λ b k. KeyKept (c.wants k) (c.got k) (is_some (c.failed k)) (has_any (cond b [] (c.located k))) (flights c.asks k)) (nowhere _ _ _ _ _ (h.at q)) (λ k. h.at k) }

kept_hear : (c : ClientFacts) (m : ToClient) → KeysKept c → KeysKept (hear c m)
unfolding hear
kept_hear c (KeyInMemory q hs) h = kept_hears c q _ (λ e i. record { at = at_one q (λ b k. KeyKept (c.wants k) (c.got k) (is_some (c.failed k)) (has_any (cond b hs (c.located k))) (flights c.asks k)) (located_now _ _ _ _ _ e i _ (h.at q)) (λ k. h.at k) }) h
kept_hear c (LostData q) h = kept_lost c q h
kept_hear c (ClientTaskErred q x) h = kept_hears c q _ (λ e i. record { at = at_one q (λ b k. KeyKept (c.wants k) (c.got k) (is_some (cond b (Some x) (c.failed k))) (has_any (cond b [] (c.located k))) (flights c.asks k)) (failed_now _ _ _ _ _ e (h.at q)) (λ k. h.at k) }) h

any_items : (c : ClientFacts) (p k : ℕ) (qs : List ℕ) → list_any (λ i. i.0 == k) (filter_map (λ q. item_at p q (c.located q)) qs) ≡ true → is_in k qs ≡ true
any_items c p k [] h = h
any_items c p k (q ∷ qs) h = pick (q == k) (any_items c p k qs) (item_key p k q (c.located q) _ h)
  where
    pick : (b : Bool) → (list_any (λ i. i.0 == k) (filter_map (λ q. item_at p q (c.located q)) qs) ≡ true → is_in k qs ≡ true)
        → (b || list_any (λ i. i.0 == k) (filter_map (λ q. item_at p q (c.located q)) qs)) ≡ true → (b || is_in k qs) ≡ true
    pick true r h = refl
    pick false r h = r h

in_range : (a n k : ℕ) → is_in k (range_with_len a n) ≡ true → k < a + n
in_range a zero k h = no h
in_range a (suc n) k h = pick (a == k) refl (in_range (a + 1) n k) h
  where
    pick : (b : Bool) → (a == k) ≡ b → (is_in k (range_with_len (a + 1) n) ≡ true → k < a + 1 + n) → (b || is_in k (range_with_len (a + 1) n)) ≡ true → k < a + suc n
    pick true e r h = let z : a ≡ k = eqb-true a k e in omega arith
    pick false e r h = let l : k < a + 1 + n = r h in omega arith

filtered_in : (t : ℕ → Bool) (ks : List ℕ) (k : ℕ) → is_in k (filter t ks) ≡ true → is_in k ks ≡ true
filtered_in t [] k h = h
filtered_in t (x ∷ ks) k h = pick (t x) (filtered_in t ks k) h
  where
    pick : (b : Bool) → (is_in k (filter t ks) ≡ true → is_in k ks ≡ true) → is_in k (cond b (x ∷ filter t ks) (filter t ks)) ≡ true → ((x == k) || is_in k ks) ≡ true
    pick true r h = or_weaker (x == k) _ _ r h
    pick false r h = or_right (x == k) _ (r h)

pub ask_keys : (c : ClientFacts) (p k : ℕ) → list_any (λ i. i.0 == k) (ask_items c.shape (client_fetchable c p)) ≡ true → (k < key_count c.shape) × (is_open c k ≡ true)
unfolding client_fetchable ask_items
ask_keys c p k h =
    let there : is_in k (filter (is_open c) (client_keys c)) ≡ true = any_items c p k (filter (is_open c) (client_keys c)) (any_of_take (λ i. i.0 == k) _ _ h) in
    let low : k < 0 + key_count c.shape = in_range 0 (key_count c.shape) k (filtered_in (is_open c) (client_keys c) k there) in
    (omega arith, in_filter (is_open c) (client_keys c) k there)

-- Ask
kept_ask : (c : ClientFacts) (p : ℕ) → KeysKept c → KeysKept (client_ask c p).facts
unfolding client_ask
kept_ask c p h = record { at = λ k. subst (λ n. KeyKept (c.wants k) (c.got k) (is_some (c.failed k)) (has_any (c.located k)) n) (sym (flights-with this c.asks k)) (pick k (names_key k this) refl) }
  where
    this : Ask
    this = record { peer = p; number = c.next_ask; items = ask_items c.shape (client_fetchable c p) }

    grounded : (k : ℕ) → is_open c k ≡ true → flights c.asks k ≡ 0
    grounded k e = no_flight c.asks k (not-true (is_asked_for c.asks k) (and_parts (c.wants k && not (c.got k)) (not (is_asked_for c.asks k)) e).1)

    more : (w g f l : Bool) (n : ℕ) → n ≡ 0 → KeyKept w g f l n → KeyKept w g f l (1 + n)
    more w g f l n e k = record { got_wanted = k.got_wanted; failed_wanted = k.failed_wanted; located_wanted = k.located_wanted; located_not_got = k.located_not_got; asked_once = omega arith }

    pick : (k : ℕ) (b : Bool) → names_key k this ≡ b → KeyKept (c.wants k) (c.got k) (is_some (c.failed k)) (has_any (c.located k)) (cond b 1 0 + flights c.asks k)
    pick k true e = more _ _ _ _ _ (grounded k (ask_keys c p k e).1) (h.at k)
    pick k false e = rw zero-add (h.at k)

-- Gathered
kept_gets : (c : ClientFacts) (q : ℕ) → KeysKept c → KeysKept (client_gets c q)
kept_gets c q h = pick (c.wants q) refl
  where
    pick : (b : Bool) → c.wants q ≡ b → KeysKept (cond b (record c { got = put c.got q true; located = put c.located q [] }) c)
    pick true e = record { at = at_one q (λ b k. KeyKept (c.wants k) (cond b true (c.got k)) (is_some (c.failed k)) (has_any (cond b [] (c.located k))) (flights c.asks k)) (got_now _ _ _ _ _ e (h.at q)) (λ k. h.at k) }
    pick false e = h

kept_without : (c : ClientFacts) (p : ℕ) → KeysKept c → KeysKept (record c { asks = without_ask c.asks p })
kept_without c p h = record { at = λ k. fewer _ _ _ _ _ _ (flights-without c.asks p k) (h.at k) }
  where
    fewer : (w g f l : Bool) (m n : ℕ) → m ≤ n → KeyKept w g f l n → KeyKept w g f l m
    fewer w g f l m n d k = record { got_wanted = k.got_wanted; failed_wanted = k.failed_wanted; located_wanted = k.located_wanted; located_not_got = k.located_not_got; asked_once = omega (arith, k.asked_once) }

kept_answered : (c : ClientFacts) (p : ℕ) (ks : List ℕ) (is : List (ℕ × ℕ)) → KeysKept c → KeysKept (client_answered c p ks is).facts
kept_answered c p ks is h = kept_fold client_misses (λ d i. kept_lost d i.0) (fold client_gets c ks) is (kept_fold client_gets kept_gets c ks h)

kept_gathered : (c : ClientFacts) (p n : ℕ) (found : List ℕ) → KeysKept c → KeysKept (client_gathered c p n found).facts
unfolding client_gathered
kept_gathered c p n found h = by (ask_to c.asks p)
  where
    pick : (b : Bool) (ks : List ℕ) (is : List (ℕ × ℕ)) → KeysKept (cond b (client_answered (record c { asks = without_ask c.asks p }) p ks is) (keeps_still c)).facts
    pick true ks is = kept_answered (record c { asks = without_ask c.asks p }) p ks is (kept_without c p h)
    pick false ks is = h

    by : (o : Option Ask) → KeysKept (client_gathered_by c p n found o).facts
    by None = h
    by (Some a) = pick (a.number == n) (keys_of (filter (λ i. is_in i.0 found) a.items)) (filter (λ i. not (is_in i.0 found)) a.items)

pub kept_step : (c : ClientFacts) (e : ClientEvent) → KeysKept c → KeysKept (client_step c e).facts
unfolding client_step
kept_step c (Want ks) h = kept_want c ks h
kept_step c (Release ks) h = kept_release c ks h
kept_step c (FromScheduler m) h = kept_hear c m h
kept_step c (AskPeer p) h = kept_ask c p h
kept_step c (Gathered p n found) h = kept_gathered c p n found h
kept_step c (GatherFailed p n) h = kept_gathered c p n [] h

number_hears : (c : ClientFacts) (k : ℕ) (d : ClientFacts) → d.next_ask ≡ c.next_ask → (hears c k d).next_ask ≤ c.next_ask + 1
number_hears c k d e = pick (c.wants k && not (c.got k))
  where
    pick : (b : Bool) → (cond b d c).next_ask ≤ c.next_ask + 1
    pick true = omega arith
    pick false = omega arith

number_hear : (c : ClientFacts) (m : ToClient) → (hear c m).next_ask ≤ c.next_ask + 1
unfolding hear
number_hear c (KeyInMemory k hs) = number_hears c k _ refl
number_hear c (LostData k) = equal_below_or_next c.next_ask c.next_ask refl
number_hear c (ClientTaskErred k b) = number_hears c k _ refl

number_gathered : (c : ClientFacts) (p n : ℕ) (found : List ℕ) → (client_gathered c p n found).facts.next_ask ≤ c.next_ask + 1
unfolding client_gathered
number_gathered c p n found = by (ask_to c.asks p)
  where
    pick : (b : Bool) (ks : List ℕ) (is : List (ℕ × ℕ)) → (cond b (client_answered (record c { asks = without_ask c.asks p }) p ks is) (keeps_still c)).facts.next_ask ≤ c.next_ask + 1
    pick true ks is = equal_below_or_next _ _ (misses-next is (fold client_gets (record c { asks = without_ask c.asks p }) ks) ∙ gets-next ks (record c { asks = without_ask c.asks p }))
    pick false ks is = equal_below_or_next c.next_ask c.next_ask refl

    by : (o : Option Ask) → (client_gathered_by c p n found o).facts.next_ask ≤ c.next_ask + 1
    by None = equal_below_or_next c.next_ask c.next_ask refl
    by (Some a) = pick (a.number == n) (keys_of (filter (λ i. is_in i.0 found) a.items)) (filter (λ i. not (is_in i.0 found)) a.items)

pub number_step : (c : ClientFacts) (e : ClientEvent) → (client_step c e).facts.next_ask ≤ c.next_ask + 1
unfolding client_step client_wants client_releases client_ask
number_step c (Want ks) = equal_below_or_next c.next_ask c.next_ask refl
number_step c (Release ks) = equal_below_or_next c.next_ask c.next_ask refl
number_step c (FromScheduler m) = number_hear c m
number_step c (AskPeer p) = omega arith
number_step c (Gathered p n found) = number_gathered c p n found
number_step c (GatherFailed p n) = number_gathered c p n []

-- a core after an event, and one that stopped
pub core_step : (s t : Stored) (e : ClientEvent) (n : ℕ) (b : Bool) → IsCore s n b → b ≡ false → n < event_limit → facts_of t ≡ (client_step (facts_of s) e).facts → IsCore t (n + 1) b
core_step s t e n b h z l f = record {
  few = omega arith;
  numbered = λ g. subst (λ (c : ClientFacts). c.next_ask ≤ n + 1 + 1) (sym f) (omega (arith, number_step (facts_of s) e, h.numbered z));
  kept = λ g. subst KeysKept (sym f) (kept_step (facts_of s) e (h.kept z));
}

pub core_stopped : (t : Stored) (n : ℕ) → n ≤ event_limit → IsCore t n true
core_stopped t n l = record { few = l; numbered = λ g. absurd (true≢false g); kept = λ g. absurd (true≢false g) }

pub core_new : (t : Stored) (g : Shape) → facts_of t ≡ new_client g → IsCore t 0 false
core_new t g e = record {
  few = omega arith;
  numbered = λ z. subst (λ (c : ClientFacts). c.next_ask ≤ 0 + 1) (sym e) (omega arith);
  kept = λ z. subst KeysKept (sym e) (kept_new g);
}
