-- The end of the client's wait, by the keys that it wants.
use Rattle.std.proofs.Common.{◌≡◌, ℕ, zero, suc, ◌+◌, ◌≤◌, ◌<◌, Bool, true, false, not, ◌&&◌, ◌||◌, cond, List, [], ◌∷◌, Option, Some, None, is_some, find, length, take, refl, sym, ap, ◌∙◌, arith, subst}
use Rattle.std.specs.Prelude.{◌==◌, option_and_then, slice_get}
use Rattle.std.specs.List.{list_all, range_with_len}
use Rattle.std.specs.Option.{option_map}
use Rattle.std.proofs.lemmas.Bool.{true≢false, false≢true, and_parts, and_from, eqb-true, eq-eqb, ne_eqb, eqb-false}
use Rattle.std.proofs.Math.Dec.{eqb-zero-suc, eqb-suc-suc}
use Rattle.std.proofs.lemmas.Option.{none-some}
use Rattle.small_facts.proofs.Options.{some_not_none, find_passes}
use Rattle.small_facts.proofs.Ranges.{find_range_none}
use Rattle.small_facts.proofs.Truth.{same_truth}
use Rattle.cluster_msgs.specs.Shape.{key_count}
use Rattle.cluster_msgs.specs.declared.cores.End.TheVariants.{Got, Erred}
use Rattle.cluster_rules.specs.Derived.{is_in}
use Rattle.cluster_rules.specs.Client.{ClientFacts, client_keys}
use Rattle.cluster_rules.specs.Draw.{over, over_by}
use Rattle.cluster_rules.proofs.SchedFrame.{in_range}
use Rattle.cluster_sim.specs.Seen.{IsSeen}
use Rattle.cluster_sim.specs.Standing.{IsFor}
use Rattle.cluster_sim.specs.declared.seen.Seen.{Seen}
use Rattle.safety_laws.proofs.Lively.{all_from}

-- how a key ended, told apart
pub erred_is : (g : Bool) (f : Option ℕ) (b : ℕ) → Some (Erred b) ≡ cond g (Some Got) (option_map (λ x. Erred x) f) → Some b ≡ f
erred_is true f b h = absurd (no h)
  where
    no : Some (Erred b) ≡ Some Got → ⊥
    no h = cc
erred_is false None b h = absurd (some_not_none (Erred b) h)
erred_is false (Some x) b h = same h
  where
    same : Some (Erred b) ≡ Some (Erred x) → Some b ≡ Some x
    same h = cc

pub got_is : (g : Bool) (f : Option ℕ) → (is_some f ≡ true → g ≡ false) → Some Got ≡ cond g (Some Got) (option_map (λ x. Erred x) f) → None ≡ f
got_is g None q h = refl
got_is true (Some x) q h = absurd (true≢false (q refl))
got_is false (Some x) q h = absurd (no h)
  where
    no : Some Got ≡ Some (Erred x) → ⊥
    no h = cc

pub open_is : (g : Bool) (f : Option ℕ) → None ≡ cond g (Some Got) (option_map (λ x. Erred x) f) → None ≡ f
open_is true f h = absurd (none-some Got h)
open_is false None h = refl
open_is false (Some x) h = absurd (none-some (Erred x) h)

pub got_true : (g : Bool) (f : Option ℕ) → Some Got ≡ cond g (Some Got) (option_map (λ x. Erred x) f) → true ≡ g
got_true true f h = refl
got_true false None h = absurd (some_not_none Got h)
got_true false (Some x) h = absurd (no h)
  where
    no : Some Got ≡ Some (Erred x) → ⊥
    no h = cc

pub not_got_erred : (g : Bool) (f : Option ℕ) (b : ℕ) → Some (Erred b) ≡ cond g (Some Got) (option_map (λ x. Erred x) f) → false ≡ g
not_got_erred true f b h = absurd (no h)
  where
    no : Some (Erred b) ≡ Some Got → ⊥
    no h = cc
not_got_erred false f b h = refl

pub not_got_none : (g : Bool) (f : Option ℕ) → None ≡ cond g (Some Got) (option_map (λ x. Erred x) f) → false ≡ g
not_got_none true f h = absurd (none-some Got h)
not_got_none false f h = refl

-- the first that passes
pub find_first : (p : ℕ → Bool) (a n k : ℕ) → a ≤ k → k < a + n → ((i : ℕ) → a ≤ i → i < k → p i ≡ false) → p k ≡ true → find p (range_with_len a n) ≡ Some k
find_first p a zero k l u none here = absurd (omega arith)
find_first p a (suc n) k l u none here = pick (a == k) refl (λ v. find_first p (a + 1) n k v (omega arith) (λ i q r. none i (omega arith) r) here)
  where
    above : (a ≡ k → ⊥) → a + 1 ≤ k
    above ne = omega (arith, ne)

    pick : (b : Bool) → (a == k) ≡ b → (a + 1 ≤ k → find p (range_with_len (a + 1) n) ≡ Some k) → find p (range_with_len a (suc n)) ≡ Some k
    pick true e r = let q = eqb-true a k e in ap (λ x. cond (p x) (Some x) (find p (range_with_len (a + 1) n))) q ∙ ap (λ b. cond b (Some k) (find p (range_with_len (a + 1) n))) here
    pick false e r = let v = above (eqb-false a k e) in ap (λ b. cond b (Some a) (find p (range_with_len (a + 1) n))) (none a (omega arith) (omega (arith, v))) ∙ r v

-- nothing failed below the count of keys
pub least_none : (c : ClientFacts) (n : ℕ) → n ≡ key_count c.shape → ((k : ℕ) → k < n → c.failed k ≡ None) → None ≡ option_and_then c.failed (find (λ k. is_some (c.failed k)) (client_keys c))
least_none c n e h = ap (λ o. option_and_then c.failed o) (sym (find_range_none (λ k. is_some (c.failed k)) 0 (key_count c.shape) (λ i l u. ap is_some (h i (below_n i u)))))
  where
    below_n : (i : ℕ) → i < 0 + key_count c.shape → i < n
    below_n i u = omega (arith, e, u)

-- a key failed, and none below it
pub least_some : (c : ClientFacts) (n k : ℕ) → n ≡ key_count c.shape → k < n → ((i : ℕ) → i < k → c.failed i ≡ None) → is_some (c.failed k) ≡ true → c.failed k ≡ option_and_then c.failed (find (λ k. is_some (c.failed k)) (client_keys c))
least_some c n k e u h s = ap (λ o. option_and_then c.failed o) (sym (find_first (λ k. is_some (c.failed k)) 0 (key_count c.shape) k (omega arith) (omega (arith, e, u)) (λ i l v. ap is_some (h i v)) s))

pub over_failed : (c : ClientFacts) (b : ℕ) → Some b ≡ option_and_then c.failed (find (λ k. is_some (c.failed k)) (client_keys c)) → Some (Some b) ≡ over c
over_failed c b h = pick (find (λ k. is_some (c.failed k)) (client_keys c)) h
  where
    pick : (o : Option ℕ) → Some b ≡ option_and_then c.failed o → Some (Some b) ≡ over_by c o
    pick None h = absurd (some_not_none b h)
    pick (Some k) h = ap (λ x. Some x) h

-- nothing failed: the end is that all is got
over_open : (c : ClientFacts) → None ≡ option_and_then c.failed (find (λ k. is_some (c.failed k)) (client_keys c)) → over c ≡ over_by c None
over_open c h = pick (find (λ k. is_some (c.failed k)) (client_keys c)) refl h
  where
    none_some : (o : Option ℕ) → None ≡ o → is_some o ≡ true → ⊥
    none_some None e h = false≢true h
    none_some (Some x) e h = cc

    pick : (o : Option ℕ) → find (λ k. is_some (c.failed k)) (client_keys c) ≡ o → None ≡ option_and_then c.failed o → over_by c o ≡ over_by c None
    pick None q h = refl
    pick (Some k) q h = absurd (none_some (c.failed k) h (find_passes (λ k. is_some (c.failed k)) (client_keys c) k q))

pub all_to : (p : ℕ → Bool) (xs : List ℕ) (k : ℕ) → list_all p xs ≡ true → is_in k xs ≡ true → p k ≡ true
all_to p [] k h q = absurd (false≢true q)
all_to p (x ∷ xs) k h q = pick (x == k) refl (λ i. all_to p xs k (and_parts (p x) (list_all p xs) h).1 i) q
  where
    pick : (b : Bool) → (x == k) ≡ b → (is_in k xs ≡ true → p k ≡ true) → (b || is_in k xs) ≡ true → p k ≡ true
    pick true e r q = subst (λ y. p y ≡ true) (eqb-true x k e) (and_parts (p x) (list_all p xs) h).0
    pick false e r q = r q

-- the client has got all that it wants where it has got each of these keys
pub got_all : (c : ClientFacts) (wanted : List ℕ) → ((k : ℕ) → c.wants k ≡ is_in k wanted) → ((k : ℕ) → is_in k wanted ≡ true → k < key_count c.shape) → list_all (λ k. not (c.wants k && not (c.got k))) (client_keys c) ≡ list_all c.got wanted
got_all c wanted wants keys = same_truth _ _ to from
  where
    served : (w g : Bool) → w ≡ true → not (w && not g) ≡ true → g ≡ true
    served true true e h = refl
    served true false e h = absurd (false≢true h)
    served false g e h = absurd (false≢true e)

    waits : (w g : Bool) → (w ≡ true → g ≡ true) → not (w && not g) ≡ true
    waits true true f = refl
    waits true false f = f refl
    waits false g f = refl

    to : list_all (λ k. not (c.wants k && not (c.got k))) (client_keys c) ≡ true → list_all c.got wanted ≡ true
    to h = all_from c.got wanted (λ k q. served (c.wants k) (c.got k) (wants k ∙ q) (all_to (λ k. not (c.wants k && not (c.got k))) (client_keys c) k h (in_range 0 (key_count c.shape) k (omega arith) (let u = keys k q in omega (arith, u)))))

    from : list_all c.got wanted ≡ true → list_all (λ k. not (c.wants k && not (c.got k))) (client_keys c) ≡ true
    from h = all_from (λ k. not (c.wants k && not (c.got k))) (client_keys c) (λ k q. waits (c.wants k) (c.got k) (λ e. all_to c.got wanted k h (sym (wants k) ∙ e)))

pub over_all : (c : ClientFacts) (wanted : List ℕ) (all : Bool) → ((k : ℕ) → c.wants k ≡ is_in k wanted) → ((k : ℕ) → is_in k wanted ≡ true → k < key_count c.shape)
    → None ≡ option_and_then c.failed (find (λ k. is_some (c.failed k)) (client_keys c)) → all ≡ list_all c.got wanted → over c ≡ cond all (Some None) None
over_all c wanted all wants keys n e = over_open c n ∙ ap (λ b. cond b (Some None) None) (got_all c wanted wants keys ∙ sym e)

none_below : (p : ℕ → Bool) (xs : List ℕ) → find p xs ≡ None → (j : ℕ) → is_in j xs ≡ true → p j ≡ false
none_below p [] h j q = absurd (false≢true q)
none_below p (x ∷ xs) h j q = test (p x) refl h (λ e i. none_below p xs e j i)
  where
    place : (d : Bool) → (x == j) ≡ d → p x ≡ false → (is_in j xs ≡ true → p j ≡ false) → (d || is_in j xs) ≡ true → p j ≡ false
    place true f e r q = subst (λ y. p y ≡ false) (eqb-true x j f) e
    place false f e r q = r q

    test : (b : Bool) → p x ≡ b → cond b (Some x) (find p xs) ≡ None → (find p xs ≡ None → is_in j xs ≡ true → p j ≡ false) → p j ≡ false
    test true e h r = absurd (some_not_none x h)
    test false e h r = place (x == j) refl e (r h) q

-- where the client has not ended, nothing failed
pub not_over : (c : ClientFacts) (wanted : List ℕ) → IsFor wanted c → ((k : ℕ) → is_in k wanted ≡ true → k < key_count c.shape) → over c ≡ None → (k : ℕ) → c.failed k ≡ None
not_over c wanted h keys e k = pick (c.failed k) refl
  where
    some_found : (o : Option ℕ) → over_by c o ≡ None → o ≡ None
    some_found None e = refl
    some_found (Some j) e = absurd (some_not_none (c.failed j) e)

    pick : (o : Option ℕ) → c.failed k ≡ o → c.failed k ≡ None
    pick None q = q
    pick (Some b) q =
        let s : is_some (c.failed k) ≡ true = ap is_some q in
        let u : k < key_count c.shape = keys k (h.failed k s).0 in
        absurd (true≢false (sym s ∙ none_below (λ k. is_some (c.failed k)) (client_keys c) (some_found (find (λ k. is_some (c.failed k)) (client_keys c)) e) k (in_range 0 (key_count c.shape) k (omega arith) (omega (arith, u)))))

-- what holds of each member holds by a weaker fact
pub all_more : (p q : ℕ → Bool) → ((k : ℕ) → p k ≡ true → q k ≡ true) → (xs : List ℕ) → list_all p xs ≡ true → list_all q xs ≡ true
all_more p q f [] h = refl
all_more p q f (x ∷ xs) h = let a = and_parts (p x) (list_all p xs) h in and_from (q x) (list_all q xs) (f x a.0) (all_more p q f xs a.1)

-- where a list's members pass up to one that doesn't, or up to its end, all pass exactly where that is the end
pub all_up_to : (p : ℕ → Bool) (xs : List ℕ) (n : ℕ) → n ≤ length xs → list_all p (take n xs) ≡ true → ((k : ℕ) → slice_get xs n ≡ Some k → p k ≡ false) → (n == length xs) ≡ list_all p xs
all_up_to p [] zero l h f = refl
all_up_to p [] (suc n) l h f = absurd (omega arith)
all_up_to p (x ∷ xs) zero l h f = eqb-zero-suc (length xs) ∙ ap (λ b. b && list_all p xs) (sym (f x refl))
all_up_to p (x ∷ xs) (suc n) l h f =
    let a = and_parts (p x) (list_all p (take n xs)) h in
    eqb-suc-suc n (length xs) ∙ all_up_to p xs n (omega arith) a.1 f ∙ ap (λ b. b && list_all p xs) (sym a.0)

-- by what was seen of the client: all has come, or some key hasn't
over_seen : (c : ClientFacts) (wanted : List ℕ) (s : Seen) (n : ℕ) → IsSeen wanted c s → IsFor wanted c → ((k : ℕ) → is_in k wanted ≡ true → k < key_count c.shape) → s.failure ≡ None → n ≡ length wanted → over c ≡ cond (s.got == n) (Some None) None
over_seen c wanted s n seen h keys none e =
    over_all c wanted (s.got == n) h.wants keys (sym none ∙ seen.failure) (ap (λ m. s.got == m) e ∙ all_up_to c.got wanted s.got seen.few seen.before seen.there)

pub all_here : (c : ClientFacts) (wanted : List ℕ) (s : Seen) (n : ℕ) → IsSeen wanted c s → IsFor wanted c → ((k : ℕ) → is_in k wanted ≡ true → k < key_count c.shape) → s.failure ≡ None → n ≡ length wanted → s.got ≡ n → Some None ≡ over c
all_here c wanted s n seen h keys none e all = sym (over_seen c wanted s n seen h keys none e ∙ ap (λ b. cond b (Some None) None) (eq-eqb s.got n all))

pub some_missing : (c : ClientFacts) (wanted : List ℕ) (s : Seen) (n : ℕ) → IsSeen wanted c s → IsFor wanted c → ((k : ℕ) → is_in k wanted ≡ true → k < key_count c.shape) → s.failure ≡ None → n ≡ length wanted → (s.got ≡ n → ⊥) → None ≡ over c
some_missing c wanted s n seen h keys none e some = sym (over_seen c wanted s n seen h keys none e ∙ ap (λ b. cond b (Some None) None) (ne_eqb s.got n some))
