-- The least of the offers is the next steal.
use Rattle.std.proofs.Common.{◌≡◌, ℕ, ◌+◌, ◌*◌, ◌<◌, ◌≤◌, Bool, true, false, cond, ◌&&◌, ◌||◌, List, [], ◌∷◌, length, get_or, Option, Some, None, is_none, is_some, refl, sym, ap, ◌∙◌, subst, arith, inl, inr, ◌⊎◌, ⊎_elim}
use Rattle.std.proofs.lemmas.Bool.{false≢true, cases_lt, and_parts, and_from, ltb-true, lt-ltb, eq-eqb, le-leb, lt-leb}
use Rattle.std.proofs.lemmas.Bool.Decides.{nat_tests}
use Rattle.std.proofs.lemmas.List.{get_or_default}
use Rattle.std.proofs.Math.Dec.{eqb, ltb}
use Rattle.std.specs.List.{filter, Contains}
use Rattle.std.specs.Option.{option_map}
use Rattle.std.proofs.lemmas.Option.{none-some, same_Some}
use Rattle.cluster_msgs.specs.Shape.{work_of}
use Rattle.cluster_msgs.specs.declared.cores.Steal.{Steal}
use Rattle.cluster_rules.specs.Choice.{is_before, better, least_by, IsLeastOf}
use Rattle.cluster_rules.specs.Sched.{Facts, IsSound, keys, connected, workers, is_on, is_for, tasks, occupancy, threads_of}
use Rattle.cluster_rules.specs.Policies.{missing_bytes, may_steal, steal_choices, steal_rank, next_steal, IsStealChoice, level}
use Rattle.cluster_rules.proofs.ChoiceLemmas.{IsPreference, rank_prefers, unbeaten-is, least_by_least, contains_head}
use Rattle.cluster_rules.proofs.Members.{filter_from, filter_to}
use Rattle.cluster_rules.proofs.PolicyLemmas.{steal_choice_from, steal_choice_to, worker_from, worker_to}
use Rattle.balance_policy.specs.declared.offer.Offer.{Offer}
use Rattle.balance_policy.specs.Ranks.{rank_of, comes_before}
use Rattle.balance_policy.specs.Offers.{is_idle, IsVictim, IsVictimOf, gains, level_of, offer_of, IsStealOfKey, IsStealFrom, IsLeastOffer}

-- offers with their levels are ranked as their steals
rank_of-is : (f : Facts) (o : Offer) → o.level ≡ level_of f o.steal → rank_of o ≡ steal_rank f o.steal
unfolding steal_rank
rank_of-is f o e = ap (λ n. n ∷ o.steal.victim ∷ o.steal.key ∷ o.steal.thief ∷ []) e

order : (f : Facts) → IsPreference {A = Steal} (λ y x. is_before (steal_rank f y) (steal_rank f x))
order f = rank_prefers (steal_rank f)

before-is : (f : Facts) (y z : Offer) → y.level ≡ level_of f y.steal → z.level ≡ level_of f z.steal → comes_before y z ≡ is_before (steal_rank f y.steal) (steal_rank f z.steal)
before-is f y z d e = ap (λ l. is_before l (rank_of z)) (rank_of-is f y d) ∙ ap (is_before (steal_rank f y.steal)) (rank_of-is f z e)

-- the lesser of the least of two kinds is the least of both
pub least_of_two : (f : Facts) (P Q R : Steal → Type 0) → ((c : Steal) → P c → R c) → ((c : Steal) → Q c → R c) → ((c : Steal) → R c → P c ⊎ Q c) → (a b : Option Offer) → IsLeastOffer f P a → IsLeastOffer f Q b → IsLeastOffer f R (better comes_before a b)
least_of_two f P Q R p q r None None h i = λ c x. ⊎_elim (h c) (i c) (r c x)
least_of_two f P Q R p q r None (Some o) h i = record { passes = q o.steal i.passes; level = i.level; least = λ c x. ⊎_elim (λ y. absurd (h c y)) (i.least c) (r c x) }
least_of_two f P Q R p q r (Some o) None h i = record { passes = p o.steal h.passes; level = h.level; least = λ c x. ⊎_elim (h.least c) (λ y. absurd (i c y)) (r c x) }
least_of_two f P Q R p q r (Some y) (Some z) h i = pick (comes_before z y) (sym (before-is f z y i.level h.level))
  where
    pick : (t : Bool) → is_before (steal_rank f z.steal) (steal_rank f y.steal) ≡ t → IsLeastOffer f R (cond t (Some z) (Some y))
    pick true e = record {
      passes = q z.steal i.passes;
      level = i.level;
      least = λ c x. ⊎_elim (λ u. (order f).apart c y.steal z.steal (h.least c u) ((order f).asym z.steal y.steal e)) (i.least c) (r c x);
    }
    pick false e = record {
      passes = p y.steal h.passes;
      level = h.level;
      least = λ c x. ⊎_elim (h.least c) (λ u. (order f).apart c z.steal y.steal (i.least c u) e) (r c x);
    }

-- the least of one kind is the least of another with the same members
pub least_of_same : (f : Facts) (P Q : Steal → Type 0) → ((c : Steal) → P c → Q c) → ((c : Steal) → Q c → P c) → (o : Option Offer) → IsLeastOffer f P o → IsLeastOffer f Q o
least_of_same f P Q p q None h = λ c x. h c (q c x)
least_of_same f P Q p q (Some o) h = record { passes = p o.steal h.passes; level = h.level; least = λ c x. h.least c (q c x) }

-- the parts of what may be stolen
record Allowed (f : Facts) (c : Steal) : Type 0 where
  on : is_on f c.victim c.key ≡ true
  unasked : is_none (f.steal c.key) ≡ true
  busy : ltb (threads_of f c.victim) (tasks f c.victim) ≡ true
  idle : is_idle f c.thief ≡ true
  gain : gains f c ≡ true

allowed_parts : (f : Facts) (c : Steal) → may_steal f c ≡ true → Allowed f c
unfolding may_steal
allowed_parts f c h =
    let one = and_parts (is_on f c.victim c.key && is_none (f.steal c.key)) ((ltb (threads_of f c.victim) (tasks f c.victim) && is_idle f c.thief) && gains f c) h in
    let two = and_parts (is_on f c.victim c.key) (is_none (f.steal c.key)) one.0 in
    let three = and_parts (ltb (threads_of f c.victim) (tasks f c.victim) && is_idle f c.thief) (gains f c) one.1 in
    let four = and_parts (ltb (threads_of f c.victim) (tasks f c.victim)) (is_idle f c.thief) three.0 in
    record { on = two.0; unasked = two.1; busy = four.0; idle = four.1; gain = three.1 }

allowed_from : (f : Facts) (c : Steal) → Allowed f c → may_steal f c ≡ true
unfolding may_steal
allowed_from f c a = and_from (is_on f c.victim c.key && is_none (f.steal c.key)) ((ltb (threads_of f c.victim) (tasks f c.victim) && is_idle f c.thief) && gains f c)
    (and_from (is_on f c.victim c.key) (is_none (f.steal c.key)) a.on a.unasked)
    (and_from (ltb (threads_of f c.victim) (tasks f c.victim) && is_idle f c.thief) (gains f c) (and_from (ltb (threads_of f c.victim) (tasks f c.victim)) (is_idle f c.thief) a.busy a.idle) a.gain)

some_none : {A : Type 0} (o : Option A) → is_none o ≡ true → is_some o ≡ false
some_none None h = refl
some_none (Some x) h = absurd (false≢true h)

none_some : {A : Type 0} (o : Option A) → is_some o ≡ false → is_none o ≡ true
none_some None h = refl
none_some (Some x) h = absurd (false≢true (sym h))

-- who is stolen from is the key's victim
victim_from : (f : Facts) (c : Steal) → IsStealChoice f c → IsVictim f c.key c.victim
victim_from f c h = let a = allowed_parts f c h.allowed in record { on = a.on; unasked = some_none (f.steal c.key) a.unasked; busy = ltb-true (threads_of f c.victim) (tasks f c.victim) a.busy }

-- a key is on one worker at most
on_one : (o : Option (ℕ × ℕ)) (v w : ℕ) → is_for v o ≡ true → is_for w o ≡ true → v ≡ w
on_one None v w h i = absurd (false≢true h)
on_one (Some p) v w h i = grind (arith, nat_tests)

pub no_victim : (f : Facts) (k : ℕ) → IsVictimOf f k None → IsLeastOffer f (IsStealOfKey f k) None
no_victim f k h = λ c x. h c.victim (subst (λ j. IsVictim f j c.victim) x.key (victim_from f c x.choice))

pub one_victim : (f : Facts) (k v : ℕ) (o : Option Offer) → IsVictimOf f k (Some v) → IsLeastOffer f (IsStealFrom f k v) o → IsLeastOffer f (IsStealOfKey f k) o
one_victim f k v o h i = least_of_same f (IsStealFrom f k v) (IsStealOfKey f k)
    (λ c x. record { key = x.key; choice = x.choice })
    (λ c x. record { key = x.key; victim = on_one (f.on c.key) c.victim v (victim_from f c x.choice).on (subst (λ j. is_on f v j ≡ true) (sym x.key) h.on); choice = x.choice })
    o i

-- a steal of this key from this worker by one of the first thieves
pub record IsStealWithin (f : Facts) (k v : ℕ) (xs : List ℕ) (n : ℕ) (c : Steal) : Type 0 where
  pub key : c.key ≡ k
  pub victim : c.victim ≡ v
  pub thief : (i : ℕ) × (i < n) × (get_or xs i 0 ≡ c.thief)
  pub choice : IsStealChoice f c

pub within_none : (f : Facts) (k v : ℕ) (xs : List ℕ) → IsLeastOffer f (IsStealWithin f k v xs 0) None
within_none f k v xs = λ c x. none x.thief
  where
    none : {A : ℕ → Type 0} → (i : ℕ) × (i < 0) × A i → ⊥
    none (i, l, e) = omega arith

-- a steal by just this thief
record IsStealBy (f : Facts) (k v t : ℕ) (c : Steal) : Type 0 where
  key : c.key ≡ k
  victim : c.victim ≡ v
  thief : c.thief ≡ t
  choice : IsStealChoice f c

same_steal : (c d : Steal) → c.key ≡ d.key → c.victim ≡ d.victim → c.thief ≡ d.thief → c ≡ d
same_steal c d k v t = λ i. record { key = k i; victim = v i; thief = t i }

by_thief : (f : Facts) (k v t : ℕ) → IsSound f → k < keys f → IsVictim f k v → connected f t ≡ true → is_idle f t ≡ true → IsLeastOffer f (IsStealBy f k v t) (offer_of f (record { key = k; victim = v; thief = t }))
unfolding offer_of
by_thief f k v t s l h n e = pick (gains f this) refl
  where
    this : Steal
    this = record { key = k; victim = v; thief = t }

    pick : (b : Bool) → gains f this ≡ b → IsLeastOffer f (IsStealBy f k v t) (cond b (Some (record { level = level_of f this; steal = this })) None)
    pick true g = record {
      passes = record {
        key = refl;
        victim = refl;
        thief = refl;
        choice = record {
          key = l;
          victim = s.places v k h.on;
          thief = n;
          allowed = allowed_from f this (record { on = h.on; unasked = none_some (f.steal k) h.unasked; busy = lt-ltb (threads_of f v) (tasks f v) h.busy; idle = e; gain = g });
        };
      };
      level = refl;
      least = λ c x. subst (λ d. is_before (steal_rank f d) (steal_rank f this) ≡ false) (same_steal this c (sym x.key) (sym x.victim) (sym x.thief)) (never_itself f this);
    }
      where
        never_itself : (f : Facts) (c : Steal) → is_before (steal_rank f c) (steal_rank f c) ≡ false
        never_itself f c = not_both (is_before (steal_rank f c) (steal_rank f c)) ((order f).asym c c)
          where
            not_both : (b : Bool) → (b ≡ true → b ≡ false) → b ≡ false
            not_both true i = i refl
            not_both false i = refl
    pick false g = λ c x. absurd (false≢true (sym g ∙ ap (gains f) (same_steal this c (sym x.key) (sym x.victim) (sym x.thief)) ∙ (allowed_parts f c x.choice.allowed).gain))

-- one more thief
pub within_more : (f : Facts) (k v : ℕ) (xs : List ℕ) (n : ℕ) → IsSound f → k < keys f → IsVictim f k v → xs ≡ filter (is_idle f) (workers f) → n < length xs → (best next new : Option Offer) → IsLeastOffer f (IsStealWithin f k v xs n) best → next ≡ offer_of f (record { key = k; victim = v; thief = get_or xs n 0 }) → new ≡ better comes_before best next → IsLeastOffer f (IsStealWithin f k v xs (n + 1)) new
within_more f k v xs n s l h e m best next new b o q = subst (IsLeastOffer f (IsStealWithin f k v xs (n + 1))) (sym q)
    (least_of_two f (IsStealWithin f k v xs n) (IsStealBy f k v (get_or xs n 0)) (IsStealWithin f k v xs (n + 1)) earlier this either best next b
    (subst (IsLeastOffer f (IsStealBy f k v (get_or xs n 0))) (sym o) (by_thief f k v (get_or xs n 0) s l h (worker_from f (get_or xs n 0) there.0) there.1)))
  where
    member : Contains xs (get_or xs n 0)
    member = (n, m, get_or_default xs n (get_or xs n 0) 0 m)

    there : Contains (workers f) (get_or xs n 0) × (is_idle f (get_or xs n 0) ≡ true)
    there = filter_from (is_idle f) (workers f) (get_or xs n 0) (subst (λ ys. Contains ys (get_or xs n 0)) e member)

    earlier : (c : Steal) → IsStealWithin f k v xs n c → IsStealWithin f k v xs (n + 1) c
    earlier c x = record { key = x.key; victim = x.victim; thief = wider x.thief; choice = x.choice }
      where
        wider : (i : ℕ) × (i < n) × (get_or xs i 0 ≡ c.thief) → (i : ℕ) × (i < n + 1) × (get_or xs i 0 ≡ c.thief)
        wider (i, g, d) = (i, omega arith, d)

    this : (c : Steal) → IsStealBy f k v (get_or xs n 0) c → IsStealWithin f k v xs (n + 1) c
    this c x = record { key = x.key; victim = x.victim; thief = (n, omega arith, sym x.thief); choice = x.choice }

    either : (c : Steal) → IsStealWithin f k v xs (n + 1) c → IsStealWithin f k v xs n c ⊎ IsStealBy f k v (get_or xs n 0) c
    either c x = at x.thief
      where
        at : (i : ℕ) × (i < n + 1) × (get_or xs i 0 ≡ c.thief) → IsStealWithin f k v xs n c ⊎ IsStealBy f k v (get_or xs n 0) c
        at (i, g, d) = ⊎_elim
            (λ u. inl (record { key = x.key; victim = x.victim; thief = (i, u, d); choice = x.choice }))
            (λ u. let z : i ≡ n = omega arith in inr (record { key = x.key; victim = x.victim; thief = sym d ∙ ap (λ j. get_or xs j 0) z; choice = x.choice }))
            (cases_lt i n)

-- all thieves
pub within_all : (f : Facts) (k v : ℕ) (xs : List ℕ) (n : ℕ) → IsSound f → xs ≡ filter (is_idle f) (workers f) → length xs ≤ n → (o : Option Offer) → IsLeastOffer f (IsStealWithin f k v xs n) o → IsLeastOffer f (IsStealFrom f k v) o
within_all f k v xs n s e m o h = least_of_same f (IsStealWithin f k v xs n) (IsStealFrom f k v)
    (λ c x. record { key = x.key; victim = x.victim; choice = x.choice })
    (λ c x. record { key = x.key; victim = x.victim; thief = place c x.choice; choice = x.choice })
    o h
  where
    place : (c : Steal) → IsStealChoice f c → (i : ℕ) × (i < n) × (get_or xs i 0 ≡ c.thief)
    place c x = at (subst (λ ys. Contains ys c.thief) (sym e) (filter_to (is_idle f) (workers f) c.thief (worker_to f s c.thief x.thief) (allowed_parts f c x.allowed).idle))
      where
        at : Contains xs c.thief → (i : ℕ) × (i < n) × (get_or xs i 0 ≡ c.thief)
        at (i, g, d) = (i, omega arith, get_or_default xs i 0 c.thief g ∙ d)

-- a steal of one of the first keys
pub record IsStealBelow (f : Facts) (n : ℕ) (c : Steal) : Type 0 where
  pub key : c.key < n
  pub choice : IsStealChoice f c

pub below_none : (f : Facts) → IsLeastOffer f (IsStealBelow f 0) None
below_none f = λ c x. let g : c.key < 0 = x.key in omega arith

-- one more key
pub below_more : (f : Facts) (n : ℕ) (best next new : Option Offer) → IsLeastOffer f (IsStealBelow f n) best → IsLeastOffer f (IsStealOfKey f n) next → new ≡ better comes_before best next → IsLeastOffer f (IsStealBelow f (n + 1)) new
below_more f n best next new h i q = subst (IsLeastOffer f (IsStealBelow f (n + 1))) (sym q)
    (least_of_two f (IsStealBelow f n) (IsStealOfKey f n) (IsStealBelow f (n + 1))
    (λ c x. let g : c.key < n = x.key in record { key = omega arith; choice = x.choice })
    (λ c x. let g : c.key ≡ n = x.key in record { key = omega arith; choice = x.choice })
    (λ c x. let g : c.key < n + 1 = x.key in ⊎_elim (λ u. inl (record { key = u; choice = x.choice })) (λ u. inr (record { key = omega arith; choice = x.choice })) (cases_lt c.key n))
    best next h i)

stolen_on : (f : Facts) (c : Steal) → IsStealChoice f c → is_some (f.on c.key) ≡ false → ⊥
stolen_on f c h e = false≢true (sym e ∙ there (f.on c.key) (allowed_parts f c h.allowed).on)
  where
    there : (o : Option (ℕ × ℕ)) → is_for c.victim o ≡ true → is_some o ≡ true
    there None i = absurd (false≢true i)
    there (Some p) i = refl

-- keys that are on no worker are passed over
pub below_over : (f : Facts) (n m : ℕ) (best : Option Offer) → n ≤ m → ((k : ℕ) → n ≤ k → k < m → is_some (f.on k) ≡ false) → IsLeastOffer f (IsStealBelow f n) best → IsLeastOffer f (IsStealBelow f m) best
below_over f n m best l none h = least_of_same f (IsStealBelow f n) (IsStealBelow f m)
    (λ c x. let g : c.key < n = x.key in record { key = omega arith; choice = x.choice })
    (λ c x. ⊎_elim (λ u. record { key = u; choice = x.choice }) (λ u. absurd (stolen_on f c x.choice (none c.key u x.key))) (cases_lt c.key n))
    best h

pub below_last : (f : Facts) (n : ℕ) (best : Option Offer) → ((k : ℕ) → n ≤ k → is_some (f.on k) ≡ false) → IsLeastOffer f (IsStealBelow f n) best → IsLeastOffer f (IsStealChoice f) best
below_last f n best none h = least_of_same f (IsStealBelow f n) (IsStealChoice f) (λ c x. x.choice)
    (λ c x. ⊎_elim (λ u. record { key = u; choice = x }) (λ u. absurd (stolen_on f c x (none c.key u))) (cases_lt c.key n))
    best h

empty_from : {A : Type 0} (xs : List A) → ((y : A) → Contains xs y → ⊥) → xs ≡ []
empty_from [] h = refl
empty_from (x ∷ xs) h = absurd (h x (contains_head x xs))

same_first : (x y : ℕ) (b c : Bool) → (ltb x y || (eqb x y && b)) ≡ false → (ltb y x || (eqb y x && c)) ≡ false → (x ≡ y) × (b ≡ false) × (c ≡ false)
same_first x y b c h i = (one x y b c h i, two x y b c h i, three x y b c h i)
  where
    one : (x y : ℕ) (b c : Bool) → (ltb x y || (eqb x y && b)) ≡ false → (ltb y x || (eqb y x && c)) ≡ false → x ≡ y
    one x y true true h i = grind (arith, nat_tests)
    one x y true false h i = grind (arith, nat_tests)
    one x y false true h i = grind (arith, nat_tests)
    one x y false false h i = grind (arith, nat_tests)

    two : (x y : ℕ) (b c : Bool) → (ltb x y || (eqb x y && b)) ≡ false → (ltb y x || (eqb y x && c)) ≡ false → b ≡ false
    two x y true c h i = grind (arith, nat_tests)
    two x y false c h i = refl

    three : (x y : ℕ) (b c : Bool) → (ltb x y || (eqb x y && b)) ≡ false → (ltb y x || (eqb y x && c)) ≡ false → c ≡ false
    three x y b true h i = grind (arith, nat_tests)
    three x y b false h i = refl

-- steals of which neither comes before the other are equal
equal_ranks : (f : Facts) (c d : Steal) → is_before (steal_rank f c) (steal_rank f d) ≡ false → is_before (steal_rank f d) (steal_rank f c) ≡ false → c ≡ d
unfolding steal_rank
equal_ranks f c d h i =
    let first = same_first (level_of f c) (level_of f d) _ _ h i in
    let second = same_first c.victim d.victim _ _ first.1 first.2 in
    let third = same_first c.key d.key _ _ second.1 second.2 in
    let fourth = same_first c.thief d.thief _ _ third.1 third.2 in
    same_steal c d third.0 second.0 fourth.0

-- the least of all steals is the next one
pub next_steal-is : (f : Facts) → IsSound f → (o : Option Offer) (r : Option Steal) → IsLeastOffer f (IsStealChoice f) o → r ≡ option_map (λ x. x.steal) o → r ≡ next_steal f
unfolding next_steal
next_steal-is f s None r h e = e ∙ sym (ap (least_by (steal_rank f)) (empty_from (steal_choices f) (λ c m. h c (steal_choice_from f c m))))
next_steal-is f s (Some o) r h e = e ∙ sym (unbeaten-is (λ y x. is_before (steal_rank f y) (steal_rank f x)) (order f) (steal_choices f) o.steal
    (record { member = steal_choice_to f s o.steal h.passes; best = λ c m. h.least c (steal_choice_from f c m) })
    (λ c m. sole c (h.least c (steal_choice_from f c m)) (is_before (steal_rank f o.steal) (steal_rank f c)) refl))
  where
    sole : (c : Steal) → is_before (steal_rank f c) (steal_rank f o.steal) ≡ false → (b : Bool) → is_before (steal_rank f o.steal) (steal_rank f c) ≡ b → (c ≡ o.steal) ⊎ (is_before (steal_rank f o.steal) (steal_rank f c) ≡ true)
    sole c i true g = inr g
    sole c i false g = inl (equal_ranks f c o.steal i g)

pub all_keys : (f : Facts) (n : ℕ) → keys f ≤ n → (o : Option Offer) → IsLeastOffer f (IsStealBelow f n) o → IsLeastOffer f (IsStealChoice f) o
all_keys f n l o h = least_of_same f (IsStealBelow f n) (IsStealChoice f) (λ c x. x.choice) (λ c x. let g : c.key < keys f = x.key in record { key = omega arith; choice = x }) o h

-- nobody is idle, so nothing is stolen
pub nobody_idle : (f : Facts) → IsSound f → (xs : List ℕ) (b : Bool) → xs ≡ filter (is_idle f) (workers f) → b ≡ eqb (length xs) 0 → b ≡ true → next_steal f ≡ None
nobody_idle f s xs b e q t = sym (next_steal-is f s None None (λ c x. none (subst (λ ys. Contains ys c.thief) (sym e) (filter_to (is_idle f) (workers f) c.thief (worker_to f s c.thief x.thief) (allowed_parts f c x.allowed).idle))) refl)
  where
    nil : (n : ℕ) → b ≡ eqb n 0 → n ≡ 0
    nil n h = grind (arith, nat_tests)

    none : {t : ℕ} → Contains xs t → ⊥
    none (i, l, d) = let z : length xs ≡ 0 = nil (length xs) q in omega arith

pub is_least : (f : Facts) (r : Option Steal) → r ≡ next_steal f → IsLeastOf (steal_rank f) (steal_choices f) r
unfolding next_steal
is_least f r e = subst (IsLeastOf (steal_rank f) (steal_choices f)) (sym e) (least_by_least (steal_rank f) (steal_choices f))

-- where the key is
pub on-is : (o : Option (ℕ × ℕ)) (r : Option ℕ) (v : ℕ) → r ≡ option_map (λ p. p.0) o → r ≡ Some v → is_for v o ≡ true
on-is None r v h i = absurd (none-some v (sym h ∙ i))
on-is (Some p) r v h i = eq-eqb p.0 v (same_Some p.0 v (sym h ∙ i))

-- a steal whose move gains is offered
pub offered : (f : Facts) (c : Steal) (o b w v n : ℕ) → o ≡ occupancy f c.thief → b ≡ missing_bytes f c.thief c.key → w ≡ work_of f.setting.shape c.key → v ≡ occupancy f c.victim → 2 * (o + b + w) + w ≤ 2 * v → n ≡ level b w → Some (record { level = n; steal = c }) ≡ offer_of f c
unfolding offer_of
offered f c o b w v n p q r s l e =
    let a : gains f c ≡ true = le-leb (2 * (occupancy f c.thief + missing_bytes f c.thief c.key + work_of f.setting.shape c.key) + work_of f.setting.shape c.key) (2 * occupancy f c.victim) (omega (arith, p, q, r, s)) in
    ap (λ m. Some (record { level = m; steal = c })) (e ∙ ap (λ x. level x w) q ∙ ap (level (missing_bytes f c.thief c.key)) r)
    ∙ ap (λ t. cond t (Some (record { level = level_of f c; steal = c })) None) (sym a)

pub not_offered : (f : Facts) (c : Steal) (o b w v : ℕ) → o ≡ occupancy f c.thief → b ≡ missing_bytes f c.thief c.key → w ≡ work_of f.setting.shape c.key → v ≡ occupancy f c.victim → 2 * v < 2 * (o + b + w) + w → None ≡ offer_of f c
unfolding offer_of
not_offered f c o b w v p q r s l =
    let a : gains f c ≡ false = lt-leb (2 * (occupancy f c.thief + missing_bytes f c.thief c.key + work_of f.setting.shape c.key) + work_of f.setting.shape c.key) (2 * occupancy f c.victim) (omega (arith, p, q, r, s)) in
    ap (λ t. cond {A = Option Offer} t (Some (record { level = level_of f c; steal = c })) None) (sym a)
