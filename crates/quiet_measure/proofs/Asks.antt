-- Open asks, and what is under way for them.
use Rattle.std.proofs.Common.{◌≡◌, ℕ, suc, ◌+◌, ◌≤◌, Bool, true, false, cond, not, ◌&&◌, ◌||◌, List, [], ◌∷◌, length, Option, Some, None, refl, sym, ap, ◌∙◌, subst, arith, filter, find}
use Rattle.std.proofs.Math.Dec.{eqb}
use Rattle.std.specs.Prelude.{nat_lt}
use Rattle.std.specs.List.{AllByRecursion}
use Rattle.std.proofs.lemmas.Bool.{false≢true, true≢false, eqb-true, eq-eqb}
use Rattle.std.proofs.lemmas.Option.{same_Some}
use Rattle.small_facts.proofs.Options.{some_not_none}
use Rattle.small_facts.proofs.Truth.{or_swap}
use Rattle.cluster_msgs.specs.declared.events.Asker.{Asker}
use Rattle.cluster_msgs.specs.declared.events.Asker.TheVariants.{Worker, Client}
use Rattle.cluster_rules.specs.Worker.{Ask, ask_to, without_ask, with_ask, names_key, is_asked_for}
use Rattle.cluster_rules.specs.World.{Parcel, same_asker, is_parcel, parcel_of, without_parcel, with_parcel, parcel_before}
use Rattle.quiet_measure.specs.Weights.{sum_of}
use Rattle.quiet_measure.specs.Turns.{PeersDiffer}

pub sum_where : {A : Type 0} (Q : A → Type 0) (h g : A → ℕ) (xs : List A) → AllByRecursion Q xs → ((x : A) → Q x → h x ≤ g x) → sum_of h xs ≤ sum_of g xs
sum_where Q h g [] a l = omega arith
sum_where Q h g (x ∷ xs) a l =
    let r : sum_of h xs ≤ sum_of g xs = sum_where Q h g xs a.1 l in
    let t : h x ≤ g x = l x a.0 in
    omega arith

-- ## Asks

pub ask_without : (asks : List Ask) (p r : ℕ) → ask_to (without_ask asks p) r ≡ cond (eqb r p) None (ask_to asks r)
ask_without [] p r = by (eqb r p)
  where
    by : (b : Bool) → ◌≡◌ {A = Option Ask} None (cond b None None)
    by true = refl
    by false = refl
ask_without (a ∷ asks) p r = pick (eqb a.peer p) refl (eqb a.peer r) refl (ask_without asks p r)
  where
    pick : (b : Bool) → eqb a.peer p ≡ b → (c : Bool) → eqb a.peer r ≡ c → ask_to (without_ask asks p) r ≡ cond (eqb r p) None (ask_to asks r)
        → ask_to (cond (not b) (a ∷ without_ask asks p) (without_ask asks p)) r ≡ cond (eqb r p) None (cond c (Some a) (ask_to asks r))
    pick true e true g h = h ∙ ap (λ x. cond x None (ask_to asks r)) same ∙ sym (ap (λ x. cond x None (Some a)) same)
      where
        same : eqb r p ≡ true
        same = eq-eqb r p (sym (eqb-true a.peer r g) ∙ eqb-true a.peer p e)
    pick true e false g h = h
    pick false e true g h = ap (λ x. cond x (Some a) (ask_to (without_ask asks p) r)) g ∙ sym (ap (λ x. cond x None (Some a)) (ap (λ x. eqb x p) (sym (eqb-true a.peer r g)) ∙ e))
    pick false e false g h = ap (λ x. cond x (Some a) (ask_to (without_ask asks p) r)) g ∙ h

pub ask_with : (a : Ask) (asks : List Ask) (r : ℕ) → ask_to asks a.peer ≡ None → ask_to (with_ask a asks) r ≡ cond (eqb a.peer r) (Some a) (ask_to asks r)
ask_with a [] r n = refl
ask_with a (b ∷ bs) r n = pick (nat_lt a.peer b.peer) (eqb b.peer a.peer) refl n (λ m. ask_with a bs r m)
  where
    pick : (t u : Bool) → eqb b.peer a.peer ≡ u → cond u (Some b) (ask_to bs a.peer) ≡ None → (ask_to bs a.peer ≡ None → ask_to (with_ask a bs) r ≡ cond (eqb a.peer r) (Some a) (ask_to bs r))
        → ask_to (cond t (a ∷ b ∷ bs) (b ∷ with_ask a bs)) r ≡ cond (eqb a.peer r) (Some a) (cond (eqb b.peer r) (Some b) (ask_to bs r))
    pick t true e n h = absurd (some_not_none b n)
    pick true false e n h = refl
    pick false false e n h = ap (λ o. cond (eqb b.peer r) (Some b) o) (h n) ∙ swap (eqb b.peer r) refl (eqb a.peer r) refl
      where
        swap : (x : Bool) → eqb b.peer r ≡ x → (y : Bool) → eqb a.peer r ≡ y → cond x (Some b) (cond y (Some a) (ask_to bs r)) ≡ cond y (Some a) (cond x (Some b) (ask_to bs r))
        swap true p true q = absurd (false≢true (sym e ∙ eq-eqb b.peer a.peer (eqb-true b.peer r p ∙ sym (eqb-true a.peer r q))))
        swap true p false q = refl
        swap false p true q = refl
        swap false p false q = refl

pub sum_filter_most : {A : Type 0} (g : A → ℕ) (t : A → Bool) (xs : List A) → sum_of g (filter t xs) ≤ sum_of g xs
sum_filter_most g t [] = omega arith
sum_filter_most g t (x ∷ xs) = pick (t x) (sum_filter_most g t xs)
  where
    pick : (b : Bool) → sum_of g (filter t xs) ≤ sum_of g xs → sum_of g (cond b (x ∷ filter t xs) (filter t xs)) ≤ g x + sum_of g xs
    pick true l = omega arith
    pick false l = omega arith

-- what is found is no longer there, where it fails the test
pub sum_dropped : {A : Type 0} (g : A → ℕ) (s t : A → Bool) (xs : List A) (a : A) → find s xs ≡ Some a → t a ≡ false → sum_of g (filter t xs) + g a ≤ sum_of g xs
sum_dropped g s t [] a e n = absurd (some_not_none a (sym e))
sum_dropped g s t (x ∷ xs) a e n = pick (s x) e (λ m. sum_dropped g s t xs a m n)
  where
    most : sum_of g (filter t xs) ≤ sum_of g xs
    most = sum_filter_most g t xs

    gone : (b : Bool) → b ≡ false → sum_of g (cond b (x ∷ filter t xs) (filter t xs)) + g x ≤ g x + sum_of g xs
    gone true z = absurd (true≢false z)
    gone false z = omega (arith, most)

    more : (b : Bool) → sum_of g (filter t xs) + g a ≤ sum_of g xs → sum_of g (cond b (x ∷ filter t xs) (filter t xs)) + g a ≤ g x + sum_of g xs
    more true l = omega arith
    more false l = omega arith

    pick : (b : Bool) → cond b (Some x) (find s xs) ≡ Some a → (find s xs ≡ Some a → sum_of g (filter t xs) + g a ≤ sum_of g xs) → sum_of g (cond (t x) (x ∷ filter t xs) (filter t xs)) + g a ≤ g x + sum_of g xs
    pick true q h = let same : x ≡ a = same_Some x a q in subst (λ y. sum_of g (cond (t x) (x ∷ filter t xs) (filter t xs)) + g y ≤ g x + sum_of g xs) same (gone (t x) (ap t same ∙ n))
    pick false q h = more (t x) (h q)

pub sum_without : (g : Ask → ℕ) (asks : List Ask) (p : ℕ) (a : Ask) → ask_to asks p ≡ Some a → a.peer ≡ p → sum_of g (without_ask asks p) + g a ≤ sum_of g asks
sum_without g asks p a e n = sum_dropped g (λ (x : Ask). eqb x.peer p) (λ (x : Ask). not (eqb x.peer p)) asks a e (ap not (eq-eqb a.peer p n))

pub sum_with : (g : Ask → ℕ) (a : Ask) (asks : List Ask) → sum_of g (with_ask a asks) ≡ g a + sum_of g asks
sum_with g a [] = refl
sum_with g a (b ∷ bs) = pick (nat_lt a.peer b.peer) (sum_with g a bs)
  where
    pick : (t : Bool) → sum_of g (with_ask a bs) ≡ g a + sum_of g bs → sum_of g (cond t (a ∷ b ∷ bs) (b ∷ with_ask a bs)) ≡ g a + (g b + sum_of g bs)
    pick true h = refl
    pick false h = omega arith

pub asked_with : (a : Ask) (asks : List Ask) (k : ℕ) → is_asked_for (with_ask a asks) k ≡ (names_key k a || is_asked_for asks k)
asked_with a [] k = refl
asked_with a (b ∷ bs) k = pick (nat_lt a.peer b.peer) (asked_with a bs k)
  where
    pick : (t : Bool) → is_asked_for (with_ask a bs) k ≡ (names_key k a || is_asked_for bs k) → is_asked_for (cond t (a ∷ b ∷ bs) (b ∷ with_ask a bs)) k ≡ (names_key k a || (names_key k b || is_asked_for bs k))
    pick true h = refl
    pick false h = ap (λ x. names_key k b || x) h ∙ or_swap (names_key k b) (names_key k a) (is_asked_for bs k)

without_none : (asks : List Ask) (p : ℕ) → ask_to asks p ≡ None → without_ask asks p ≡ asks
without_none [] p n = refl
without_none (a ∷ asks) p n = pick (eqb a.peer p) n (λ m. without_none asks p m)
  where
    pick : (b : Bool) → cond b (Some a) (ask_to asks p) ≡ None → (ask_to asks p ≡ None → without_ask asks p ≡ asks) → cond (not b) (a ∷ without_ask asks p) (without_ask asks p) ≡ a ∷ asks
    pick true n h = absurd (some_not_none a n)
    pick false n h = ap (λ l. a ∷ l) (h n)

-- with one ask at most to each peer, only the keys of the ask fly no longer
pub asked_without : (asks : List Ask) (p k : ℕ) (a : Ask) → PeersDiffer asks → ask_to asks p ≡ Some a → names_key k a ≡ false → is_asked_for (without_ask asks p) k ≡ is_asked_for asks k
asked_without [] p k a d e n = absurd (some_not_none a (sym e))
asked_without (b ∷ bs) p k a d e n = pick (eqb b.peer p) refl e (λ m. asked_without bs p k a d.1 m n)
  where
    pick : (t : Bool) → eqb b.peer p ≡ t → cond t (Some b) (ask_to bs p) ≡ Some a → (ask_to bs p ≡ Some a → is_asked_for (without_ask bs p) k ≡ is_asked_for bs k)
        → is_asked_for (cond (not t) (b ∷ without_ask bs p) (without_ask bs p)) k ≡ (names_key k b || is_asked_for bs k)
    pick true q s h =
        ap (λ l. is_asked_for l k) (without_none bs p (subst (λ x. ask_to bs x ≡ None) (eqb-true b.peer p q) d.0))
        ∙ sym (ap (λ x. x || is_asked_for bs k) (ap (λ (x : Ask). names_key k x) (same_Some b a s) ∙ n))
    pick false q s h = ap (λ x. names_key k b || x) (h s)

-- ## Requests and answers

pub same_asker_self : (a : Asker) → same_asker a a ≡ true
same_asker_self (Worker i) = eq-eqb i i refl
same_asker_self (Client c) = eq-eqb c c refl

pub sum_answered : (g : Parcel → ℕ) (a : Asker) (p n : ℕ) (qs : List Parcel) (q : Parcel) → parcel_of a p n qs ≡ Some q → sum_of g (without_parcel q.asker q.peer q.ask qs) + g q ≤ sum_of g qs
sum_answered g a p n qs q e = sum_dropped g (is_parcel a p n) (λ x. not (is_parcel q.asker q.peer q.ask x)) qs q e
    (ap (λ b. not (b && (eqb q.peer q.peer && eqb q.ask q.ask))) (same_asker_self q.asker) ∙ ap (λ b. not (b && eqb q.ask q.ask)) (eq-eqb q.peer q.peer refl) ∙ ap not (eq-eqb q.ask q.ask refl))

pub length_sum : {A : Type 0} (xs : List A) → length xs ≡ sum_of (λ x. 1) xs
length_sum [] = refl
length_sum (x ∷ xs) = let r : length xs ≡ sum_of (λ x. 1) xs = length_sum xs in omega arith

pub length_with : (p : Parcel) (qs : List Parcel) → length (with_parcel p qs) ≡ 1 + length qs
length_with p [] = refl
length_with p (q ∷ qs) = pick (parcel_before p q) (length_with p qs)
  where
    pick : (b : Bool) → length (with_parcel p qs) ≡ 1 + length qs → length (cond b (p ∷ q ∷ qs) (q ∷ with_parcel p qs)) ≡ 1 + suc (length qs)
    pick true h = omega arith
    pick false h = omega arith
