-- Events that go key by key.
use Rattle.std.proofs.Common.{◌≡◌, ℕ, zero, suc, ◌+◌, ◌<◌, Bool, true, false, not, ◌&&◌, ◌||◌, List, [], ◌∷◌, ◌++◌, Option, Some, None, refl, sym, ap, ◌∙◌, subst, arith, cond, filter, take, length, get_or, append-nil}
use Rattle.std.specs.Prelude.{◌==◌, nat_lt, fold, All}
use Rattle.std.specs.List.{list_all, filter_map, cons_option}
use Rattle.std.proofs.lemmas.Bool.{and_parts, ltb-true}
use Rattle.std.proofs.lemmas.List.{take_more, map-append}
use Rattle.std.proofs.lemmas.List.Sums.{fold-append}
use Rattle.std.proofs.lemmas.List.Elements.{filter-append, filter_map-append}
use Rattle.std.proofs.Math.Bool.{or-false}
use Rattle.std.proofs.lemmas.Option.{none-some, same_Some}
use Rattle.small_facts.proofs.Numbers.{eqb_turned}
use Rattle.small_facts.proofs.Options.{some_not_none}
use Rattle.small_facts.proofs.Truth.{with_and_true}
use Rattle.cluster_msgs.specs.Shape.{key_count}
use Rattle.cluster_msgs.specs.declared.cores.ClientInstruction.{ClientInstruction}
use Rattle.cluster_msgs.specs.declared.cores.ClientInstruction.TheVariants.{Send}
use Rattle.cluster_msgs.specs.declared.messages.FromClient.TheVariants.{Missing}
use Rattle.cluster_rules.specs.Functions.{put}
use Rattle.cluster_rules.specs.Derived.{is_in}
use Rattle.cluster_rules.specs.Worker.{Ask, ask_to, without_ask}
use Rattle.cluster_rules.specs.WorkerStep.{keys_of}
use Rattle.cluster_rules.specs.Client.{ClientFacts, ClientStep, client_wants, client_releases, client_gets, client_misses, missing_message, client_gathered, client_gathered_by, client_answered, keeps_still, hears, are_client_keys}
use Rattle.cluster_rules.proofs.FunctionLemmas.{same_function}
use Rattle.open_asks.specs.Kept.{asked_items}
use Rattle.gather_client.specs.Inner.{IsGrown}
use Rattle.gather_client.specs.Steps.{wanted, released, is_found, take_step, miss_step, miss_message, after_found, after_missed}

-- wanting keys
pub wanted-fold : (c : ClientFacts) (ks : List ℕ) → fold wanted c ks ≡ record c { wants = λ k. c.wants k || is_in k ks }
wanted-fold c [] = ap (λ (w : ℕ → Bool). record c { wants = w }) (same_function _ _ (λ k. sym (or-false (c.wants k))))
wanted-fold c (x ∷ ks) = wanted-fold (wanted c x) ks ∙ ap (λ (w : ℕ → Bool). record c { wants = w }) (same_function _ _ (λ k. one (k == x) (x == k) (c.wants k) (is_in k ks) (eqb_turned k x)))
  where
    one : (a b w y : Bool) → a ≡ b → (cond a true w || y) ≡ (w || (b || y))
    one true b true y e = refl
    one true b false y e = ap (λ d. d || y) e
    one false b true y e = refl
    one false b false y e = ap (λ d. d || y) e

pub wants-all : (c : ClientFacts) (ks : List ℕ) → fold wanted c ks ≡ (client_wants c ks).facts
unfolding client_wants
wants-all c ks = wanted-fold c ks

-- letting keys go
pub releases-all : (c : ClientFacts) (ks : List ℕ) → fold released c ks ≡ (client_releases c ks).facts
unfolding client_releases
releases-all c [] = λ i. record c { wants = same_function _ _ (λ k. with_and_true (c.wants k)) i; got = same_function _ _ (λ k. with_and_true (c.got k)) i }
releases-all c (x ∷ ks) = releases-all (released c x) ks ∙ (λ i. record c {
  wants = same_function _ _ (λ k. gone (k == x) (x == k) (c.wants k) (is_in k ks) (eqb_turned k x)) i;
  located = same_function _ _ (λ k. empty [] (k == x) (x == k) (is_in k ks) (c.located k) (eqb_turned k x)) i;
  got = same_function _ _ (λ k. gone (k == x) (x == k) (c.got k) (is_in k ks) (eqb_turned k x)) i;
  failed = same_function _ _ (λ k. empty None (k == x) (x == k) (is_in k ks) (c.failed k) (eqb_turned k x)) i;
})
  where
    gone : (a b w y : Bool) → a ≡ b → (cond a false w && not y) ≡ (w && not (b || y))
    gone true b true y e = ap (λ d. not (d || y)) e
    gone true b false y e = refl
    gone false b true y e = ap (λ d. not (d || y)) e
    gone false b false y e = refl

    empty : {A : Type 0} (d : A) (a b y : Bool) (v : A) → a ≡ b → cond y d (cond a d v) ≡ cond (b || y) d v
    empty d true b true v e = ap (λ t. cond (t || true) d v) e
    empty d true b false v e = ap (λ t. cond (t || false) d v) e
    empty d false b true v e = ap (λ t. cond (t || true) d v) e
    empty d false b false v e = ap (λ t. cond (t || false) d v) e

-- the keys of the graph are below its count
pub key_at : (n : ℕ) (ks : List ℕ) (i : ℕ) → list_all (λ k. nat_lt k n) ks ≡ true → i < length ks → get_or ks i 0 < n
key_at n [] i h l = absurd (omega arith)
key_at n (k ∷ ks) zero h l = ltb-true k n (and_parts (nat_lt k n) (list_all (λ k. nat_lt k n) ks) h).0
key_at n (k ∷ ks) (suc i) h l = key_at n ks i (and_parts (nat_lt k n) (list_all (λ k. nat_lt k n) ks) h).1 (omega arith)

pub wanted-shape : (ks : List ℕ) (c : ClientFacts) → (fold wanted c ks).shape ≡ c.shape
wanted-shape [] c = refl
wanted-shape (k ∷ ks) c = wanted-shape ks (wanted c k)

pub released-shape : (ks : List ℕ) (c : ClientFacts) → (fold released c ks).shape ≡ c.shape
released-shape [] c = refl
released-shape (k ∷ ks) c = released-shape ks (released c k)

-- blocks that came leave all but what is got and located
pub gets-wants : (ks : List ℕ) (c : ClientFacts) → (fold client_gets c ks).wants ≡ c.wants
gets-wants [] c = refl
gets-wants (k ∷ ks) c = gets-wants ks (client_gets c k) ∙ pick (c.wants k)
  where
    pick : (b : Bool) → (cond b (record c { got = put c.got k true; located = put c.located k [] }) c).wants ≡ c.wants
    pick true = refl
    pick false = refl

pub gets-shape : (ks : List ℕ) (c : ClientFacts) → (fold client_gets c ks).shape ≡ c.shape
gets-shape [] c = refl
gets-shape (k ∷ ks) c = gets-shape ks (client_gets c k) ∙ pick (c.wants k)
  where
    pick : (b : Bool) → (cond b (record c { got = put c.got k true; located = put c.located k [] }) c).shape ≡ c.shape
    pick true = refl
    pick false = refl

pub gets-next : (ks : List ℕ) (c : ClientFacts) → (fold client_gets c ks).next_ask ≡ c.next_ask
gets-next [] c = refl
gets-next (k ∷ ks) c = gets-next ks (client_gets c k) ∙ pick (c.wants k)
  where
    pick : (b : Bool) → (cond b (record c { got = put c.got k true; located = put c.located k [] }) c).next_ask ≡ c.next_ask
    pick true = refl
    pick false = refl

pub misses-wants : (is : List (ℕ × ℕ)) (c : ClientFacts) → (fold client_misses c is).wants ≡ c.wants
misses-wants [] c = refl
misses-wants (i ∷ is) c = misses-wants is (client_misses c i)

pub misses-shape : (is : List (ℕ × ℕ)) (c : ClientFacts) → (fold client_misses c is).shape ≡ c.shape
misses-shape [] c = refl
misses-shape (i ∷ is) c = misses-shape is (client_misses c i)

pub misses-next : (is : List (ℕ × ℕ)) (c : ClientFacts) → (fold client_misses c is).next_ask ≡ c.next_ask
misses-next [] c = refl
misses-next (i ∷ is) c = misses-next is (client_misses c i)

-- one more item of an ask
pub found-more : (c : ClientFacts) (found : List ℕ) (is : List (ℕ × ℕ)) (n : ℕ) (d : ℕ × ℕ) → n < length is → take_step found (after_found c found (take n is)) (get_or is n d) ≡ after_found c found (take (n + 1) is)
found-more c found is n d l =
    pick (is_found found (get_or is n d)) refl
    ∙ ap (λ l. fold client_gets c (keys_of l)) (sym (filter-append (is_found found) (take n is) (get_or is n d ∷ [])))
    ∙ ap (after_found c found) (sym (take_more is n d l))
  where
    front : List (ℕ × ℕ)
    front = filter (is_found found) (take n is)

    pick : (b : Bool) → is_found found (get_or is n d) ≡ b → cond b (client_gets (after_found c found (take n is)) (get_or is n d).0) (after_found c found (take n is)) ≡ fold client_gets c (keys_of (front ++ cond (is_found found (get_or is n d)) (get_or is n d ∷ []) []))
    pick true e =
        sym (fold-append client_gets c (keys_of front) ((get_or is n d).0 ∷ []))
        ∙ ap (fold client_gets c) (sym (map-append (λ (i : ℕ × ℕ). i.0) front (get_or is n d ∷ [])))
        ∙ ap (λ b. fold client_gets c (keys_of (front ++ cond b (get_or is n d ∷ []) []))) (sym e)
    pick false e =
        sym (fold-append client_gets c (keys_of front) [])
        ∙ ap (fold client_gets c) (sym (map-append (λ (i : ℕ × ℕ). i.0) front []))
        ∙ ap (λ b. fold client_gets c (keys_of (front ++ cond b (get_or is n d ∷ []) []))) (sym e)

pub missed-more : (c : ClientFacts) (found : List ℕ) (is : List (ℕ × ℕ)) (n : ℕ) (d : ℕ × ℕ) → n < length is → miss_step found (after_missed c found (take n is)) (get_or is n d) ≡ after_missed c found (take (n + 1) is)
missed-more c found is n d l =
    pick (is_found found (get_or is n d)) refl
    ∙ ap (fold client_misses c) (sym (filter-append (λ i. not (is_found found i)) (take n is) (get_or is n d ∷ [])))
    ∙ ap (after_missed c found) (sym (take_more is n d l))
  where
    front : List (ℕ × ℕ)
    front = filter (λ i. not (is_found found i)) (take n is)

    pick : (b : Bool) → is_found found (get_or is n d) ≡ b → cond b (after_missed c found (take n is)) (client_misses (after_missed c found (take n is)) (get_or is n d)) ≡ fold client_misses c (front ++ cond (not (is_found found (get_or is n d))) (get_or is n d ∷ []) [])
    pick true e =
        sym (fold-append client_misses c front [])
        ∙ ap (λ b. fold client_misses c (front ++ cond (not b) (get_or is n d ∷ []) [])) (sym e)
    pick false e =
        sym (fold-append client_misses c front (get_or is n d ∷ []))
        ∙ ap (λ b. fold client_misses c (front ++ cond (not b) (get_or is n d ∷ []) [])) (sym e)

-- what is reported goes by what is wanted alone
message_by : (ℕ → Bool) → List ℕ → ℕ → ℕ × ℕ → Option ClientInstruction
message_by wants found p i = cond (is_found found i) None (cond (wants i.0) (Some (Send (Missing i.0 p i.1))) None)

pub same_message : (found : List ℕ) (c d : ClientFacts) (p : ℕ) → c.wants ≡ d.wants → (i : ℕ × ℕ) → miss_message found c p i ≡ miss_message found d p i
unfolding message_by
same_message found c d p e i = ap (λ w. message_by w found p i) e

pub same_messages : (found : List ℕ) (c d : ClientFacts) (p : ℕ) → c.wants ≡ d.wants → (is : List (ℕ × ℕ)) → filter_map (miss_message found c p) is ≡ filter_map (miss_message found d p) is
unfolding message_by
same_messages found c d p e is = ap (λ w. filter_map (message_by w found p) is) e

pub messages-more : (found : List ℕ) (c : ClientFacts) (p : ℕ) (is : List (ℕ × ℕ)) (n : ℕ) (d : ℕ × ℕ) → n < length is → filter_map (miss_message found c p) (take (n + 1) is) ≡ filter_map (miss_message found c p) (take n is) ++ cons_option (miss_message found c p (get_or is n d)) []
messages-more found c p is n d l = ap (filter_map (miss_message found c p)) (take_more is n d l) ∙ filter_map-append (miss_message found c p) (take n is) (get_or is n d ∷ [])

pub messages-all : (found : List ℕ) (c : ClientFacts) (p : ℕ) (is : List (ℕ × ℕ)) → filter_map (miss_message found c p) is ≡ filter_map (missing_message c p) (filter (λ i. not (is_found found i)) is)
messages-all found c p [] = refl
messages-all found c p (i ∷ is) = pick (is_found found i) (messages-all found c p is)
  where
    pick : (b : Bool) → filter_map (miss_message found c p) is ≡ filter_map (missing_message c p) (filter (λ j. not (is_found found j)) is) → cons_option (cond b None (missing_message c p i)) (filter_map (miss_message found c p) is) ≡ filter_map (missing_message c p) (cond (not b) (i ∷ filter (λ j. not (is_found found j)) is) (filter (λ j. not (is_found found j)) is))
    pick true e = e
    pick false e = ap (cons_option (missing_message c p i)) e

pub gathered-none : (c : ClientFacts) (p n : ℕ) (found : List ℕ) → None ≡ asked_items (ask_to c.asks p) n → client_gathered c p n found ≡ keeps_still c
unfolding client_gathered
gathered-none c p n found = by (ask_to c.asks p)
  where
    by : (o : Option Ask) → None ≡ asked_items o n → client_gathered_by c p n found o ≡ keeps_still c
    by None h = refl
    by (Some a) h = pick (a.number == n) _ h
      where
        pick : (b : Bool) (x : ClientStep) → None ≡ cond {A = Option (List (ℕ × ℕ))} b (Some a.items) None → cond b x (keeps_still c) ≡ keeps_still c
        pick true x e = absurd (none-some a.items e)
        pick false x e = refl

-- an answer to an open ask of these items
abbrev over : ClientFacts → ℕ → List ℕ → List (ℕ × ℕ) → ClientStep
over c p found is = client_answered (record c { asks = without_ask c.asks p }) p (keys_of (filter (λ i. is_in i.0 found) is)) (filter (λ i. not (is_in i.0 found)) is)

gathered-over : (c : ClientFacts) (p n : ℕ) (found : List ℕ) (is : List (ℕ × ℕ)) → Some is ≡ asked_items (ask_to c.asks p) n → client_gathered c p n found ≡ over c p found is
unfolding client_gathered
gathered-over c p n found is = by (ask_to c.asks p)
  where
    by : (o : Option Ask) → Some is ≡ asked_items o n → client_gathered_by c p n found o ≡ over c p found is
    by None h = absurd (some_not_none is h)
    by (Some a) h = pick (a.number == n) h
      where
        pick : (b : Bool) → Some is ≡ cond {A = Option (List (ℕ × ℕ))} b (Some a.items) None → cond b (over c p found a.items) (keeps_still c) ≡ over c p found is
        pick true e = ap (over c p found) (sym (same_Some is a.items e))
        pick false e = absurd (some_not_none is e)

pub gathered-facts : (c : ClientFacts) (p n : ℕ) (found : List ℕ) (is : List (ℕ × ℕ)) → Some is ≡ asked_items (ask_to c.asks p) n → after_missed (after_found (record c { asks = without_ask c.asks p }) found is) found is ≡ (client_gathered c p n found).facts
gathered-facts c p n found is h = ap (λ (s : ClientStep). s.facts) (sym (gathered-over c p n found is h))

pub gathered-out : (c : ClientFacts) (p n : ℕ) (found : List ℕ) (is : List (ℕ × ℕ)) → Some is ≡ asked_items (ask_to c.asks p) n → filter_map (miss_message found (after_found (record c { asks = without_ask c.asks p }) found is) p) is ≡ (client_gathered c p n found).out
gathered-out c p n found is h =
    let d : ClientFacts = record c { asks = without_ask c.asks p } in
    same_messages found (after_found d found is) d p (gets-wants (keys_of (filter (is_found found) is)) d) is
    ∙ messages-all found d p is
    ∙ ap (λ (s : ClientStep). s.out) (sym (gathered-over c p n found is h))

-- a loop over keys of the graph
pub wanted-room : (c d : ClientFacts) (ks : List ℕ) (i : ℕ) → are_client_keys c ks ≡ true → d ≡ fold wanted c (take i ks) → i < length ks → get_or ks i 0 < key_count d.shape
wanted-room c d ks i h e l = let s : c.shape ≡ d.shape = sym (ap (λ (f : ClientFacts). f.shape) e ∙ wanted-shape (take i ks) c) in subst (λ g. get_or ks i 0 < key_count g) s (key_at (key_count c.shape) ks i h l)

pub released-room : (c d : ClientFacts) (ks : List ℕ) (i : ℕ) → are_client_keys c ks ≡ true → d ≡ fold released c (take i ks) → i < length ks → get_or ks i 0 < key_count d.shape
released-room c d ks i h e l = let s : c.shape ≡ d.shape = sym (ap (λ (f : ClientFacts). f.shape) e ∙ released-shape (take i ks) c) in subst (λ g. get_or ks i 0 < key_count g) s (key_at (key_count c.shape) ks i h l)

pub found-room : (c d : ClientFacts) (found : List ℕ) (is : List (ℕ × ℕ)) (n : ℕ) (x : ℕ × ℕ) → All (λ i. i.0 < key_count c.shape) is → d ≡ after_found c found (take n is) → n < length is → (get_or is n x).0 < key_count d.shape
found-room c d found is n x h e l = let s : c.shape ≡ d.shape = sym (ap (λ (f : ClientFacts). f.shape) e ∙ gets-shape (keys_of (filter (is_found found) (take n is))) c) in subst (λ g. (get_or is n x).0 < key_count g) s (h n x l)

pub missed-room : (c d : ClientFacts) (found : List ℕ) (is : List (ℕ × ℕ)) (n : ℕ) (x : ℕ × ℕ) → All (λ i. i.0 < key_count c.shape) is → d ≡ after_missed c found (take n is) → n < length is → (get_or is n x).0 < key_count d.shape
missed-room c d found is n x h e l = let s : c.shape ≡ d.shape = sym (ap (λ (f : ClientFacts). f.shape) e ∙ misses-shape (filter (λ i. not (is_found found i)) (take n is)) c) in subst (λ g. (get_or is n x).0 < key_count g) s (h n x l)

pub missed-messages : (c d : ClientFacts) (found : List ℕ) (p : ℕ) (is : List (ℕ × ℕ)) (n : ℕ) (x : ℕ × ℕ) → d ≡ after_missed c found (take n is) → n < length is → filter_map (miss_message found c p) (take n is) ++ cons_option (miss_message found d p (get_or is n x)) [] ≡ filter_map (miss_message found c p) (take (n + 1) is)
missed-messages c d found p is n x e l =
    ap (λ m. filter_map (miss_message found c p) (take n is) ++ cons_option m []) (same_message found d c p (ap (λ (f : ClientFacts). f.wants) e ∙ misses-wants (filter (λ i. not (is_found found i)) (take n is)) c) (get_or is n x))
    ∙ sym (messages-more found c p is n x l)

-- the same facts are asked for the same
pub same_gets : (c d : ClientFacts) (k : ℕ) → c.wants k ≡ true → d ≡ record c { got = put c.got k true; located = put c.located k [] } → d ≡ client_gets c k
same_gets c d k e h = h ∙ ap (λ b. cond b (record c { got = put c.got k true; located = put c.located k [] }) c) (sym e)

pub same_gets_not : (c : ClientFacts) (k : ℕ) → c.wants k ≡ false → c ≡ client_gets c k
same_gets_not c k e = ap (λ b. cond b (record c { got = put c.got k true; located = put c.located k [] }) c) (sym e)

pub heard : (c d : ClientFacts) (k : ℕ) (b : Bool) (x : ClientFacts) → b ≡ (c.wants k && not (c.got k)) → b ≡ true → d ≡ x → d ≡ hears c k x
heard c d k b x e t h = h ∙ ap (λ v. cond v x c) (sym t ∙ e)

pub unheard : (c : ClientFacts) (k : ℕ) (b : Bool) (x : ClientFacts) → b ≡ (c.wants k && not (c.got k)) → b ≡ false → c ≡ hears c k x
unheard c k b x e t = ap (λ v. cond v x c) (sym t ∙ e)

pub grown_more : {A : Type 0} (xs ys zs vs : List A) → ys ≡ xs ++ zs → vs ≡ ys → IsGrown xs vs
grown_more xs ys zs vs e h = record { rest = zs; is = h ∙ e }

pub grown_same : {A : Type 0} (xs ys : List A) → ys ≡ xs → IsGrown xs ys
grown_same xs ys e = record { rest = []; is = e ∙ sym (append-nil xs) }
