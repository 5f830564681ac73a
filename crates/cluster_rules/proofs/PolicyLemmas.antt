-- What may be stolen and dropped, and that the least is taken.
use Rattle.std.proofs.Common.{◌≡◌, ℕ, zero, suc, ◌+◌, ◌*◌, ◌^◌, ◌<◌, ◌≤◌, Bool, true, false, not, cond, ◌||◌, List, [], ◌∷◌, Option, Some, None, refl, sym, ap, ◌∙◌, subst, arith, ◌⊎◌, ⊎_elim, map}
use Rattle.std.proofs.lemmas.Bool.{false≢true, not-false, ltb-true, ltb-false}
use Rattle.std.proofs.lemmas.Bool.Decides.{nat_tests}
use Rattle.std.proofs.Math.Dec.{ltb}
use Rattle.std.specs.List.{find, filter, flat_map, range_with_len, list_any, Contains}
use Rattle.std.specs.Option.{option_map, unwrap_or}
use Rattle.std.proofs.lemmas.Option.{none-some, same_Some}
use Rattle.small_facts.proofs.Numbers.{equal_or_above}
use Rattle.small_facts.proofs.Ranges.{range_has}
use Rattle.cluster_msgs.specs.declared.cores.Steal.{Steal}
use Rattle.cluster_rules.specs.Functions.{from_one, count}
use Rattle.cluster_rules.specs.Derived.{below}
use Rattle.cluster_rules.specs.Choice.{IsBest, IsBestOf}
use Rattle.cluster_rules.specs.Sched.{Facts, IsSound, keys, holds, connected, workers, bytes_held, holder_count, waiters}
use Rattle.cluster_rules.specs.Policies.{may_steal, steal_choices, IsStealChoice, may_drop, most_loaded, drop_of, next_drop, level, IsDropOf}
use Rattle.cluster_rules.proofs.ChoiceLemmas.{IsPreference, unbeaten_best, FoundOf, find_found, contains_none, contains_head, contains_tail}
use Rattle.cluster_rules.proofs.Members.{filter_from, filter_to, map_to, map_from, flat_map_to, flat_map_from, range_from, counted}

-- a connected worker is a member of the connected workers, and each member is one
pub worker_from : (f : Facts) (w : ℕ) → Contains (workers f) w → connected f w ≡ true
worker_from f w h = (filter_from (connected f) (from_one f.last_worker) w h).1

pub worker_to : (f : Facts) → IsSound f → (w : ℕ) → connected f w ≡ true → Contains (workers f) w
worker_to f s w e = let n = s.numbers w e in filter_to (connected f) (from_one f.last_worker) w (range_has 1 f.last_worker w n.0 (omega (arith, n.1))) e

pub steal_choice_from : (f : Facts) (c : Steal) → Contains (steal_choices f) c → IsStealChoice f c
unfolding steal_choices
steal_choice_from f c h =
    let r = filter_from (may_steal f) (flat_map by_key (below (keys f))) c h in
    at_key r.1 (flat_map_from by_key (below (keys f)) c r.0)
  where
    by_victim : ℕ → ℕ → List Steal
    by_victim k v = map (λ t. record { key = k; victim = v; thief = t }) (workers f)

    by_key : ℕ → List Steal
    by_key k = flat_map (by_victim k) (workers f)

    at_thief : (k v : ℕ) → Contains (below (keys f)) k → Contains (workers f) v → may_steal f c ≡ true → (t : ℕ) × Contains (workers f) t × ((record { key = k; victim = v; thief = t }) ≡ c) → IsStealChoice f c
    at_thief k v m n e (t, o, q) = subst (IsStealChoice f) q (record {
      key = omega (arith, (range_from 0 (keys f) k m).1);
      victim = worker_from f v n;
      thief = worker_from f t o;
      allowed = ap (may_steal f) q ∙ e;
    })

    at_victim : (k : ℕ) → Contains (below (keys f)) k → may_steal f c ≡ true → (v : ℕ) × Contains (workers f) v × Contains (by_victim k v) c → IsStealChoice f c
    at_victim k m e (v, n, o) = at_thief k v m n e (map_from (λ t. record { key = k; victim = v; thief = t }) (workers f) c o)

    at_key : may_steal f c ≡ true → (k : ℕ) × Contains (below (keys f)) k × Contains (by_key k) c → IsStealChoice f c
    at_key e (k, m, o) = at_victim k m e (flat_map_from (by_victim k) (workers f) c o)

pub steal_choice_to : (f : Facts) → IsSound f → (c : Steal) → IsStealChoice f c → Contains (steal_choices f) c
unfolding steal_choices
steal_choice_to f s c h = filter_to (may_steal f) (flat_map by_key (below (keys f))) c
    (flat_map_to by_key (below (keys f)) c.key c (range_has 0 (keys f) c.key (omega arith) (omega (arith, h.key)))
    (flat_map_to (by_victim c.key) (workers f) c.victim c (worker_to f s c.victim h.victim)
    (map_to (λ t. record { key = c.key; victim = c.victim; thief = t }) (workers f) c.thief (worker_to f s c.thief h.thief))))
    h.allowed
  where
    by_victim : ℕ → ℕ → List Steal
    by_victim k v = map (λ t. record { key = k; victim = v; thief = t }) (workers f)

    by_key : ℕ → List Steal
    by_key k = flat_map (by_victim k) (workers f)

-- what is found among rising numbers is the least that passes
pub find_least : (p q : ℕ → Bool) (a n x : ℕ) → find q (filter p (range_with_len a n)) ≡ Some x → (y : ℕ) → a ≤ y → y < x → p y ≡ true → q y ≡ false
find_least p q a zero x h y l m e = absurd (none-some x h)
find_least p q a (suc n) x h y l m e = pick (p a) (q a) refl refl h (λ i k. find_least p q (a + 1) n x i y k m e)
  where
    rest : List ℕ
    rest = filter p (range_with_len (a + 1) n)

    pick : (b c : Bool) → p a ≡ b → q a ≡ c → find q (cond b (a ∷ rest) rest) ≡ Some x → (find q rest ≡ Some x → a + 1 ≤ y → q y ≡ false) → q y ≡ false
    pick true true i j h more = at_first (ap (λ b. cond b (Some a) (find q rest)) (sym j) ∙ h)
      where
        at_first : Some a ≡ Some x → q y ≡ false
        at_first g = let z : a ≡ x = same_Some a x g in absurd (omega arith)
    pick true false i j h more = ⊎_elim (λ g. ap q (sym g) ∙ j) (λ g. more (ap (λ b. cond b (Some a) (find q rest)) (sym j) ∙ h) g) (equal_or_above a y l)
    pick false c i j h more = ⊎_elim (λ g. absurd (false≢true (sym i ∙ ap p g ∙ e))) (λ g. more h g) (equal_or_above a y l)

all_pass : (a n : ℕ) → filter (λ _. true) (range_with_len a n) ≡ range_with_len a n
all_pass a zero = refl
all_pass a (suc n) = ap (λ l. a ∷ l) (all_pass (a + 1) n)

-- some member passes a test that not all fail
pub any_true : {A : Type 0} (p : A → Bool) (xs : List A) → list_any p xs ≡ true → (y : A) × Contains xs y × (p y ≡ true)
any_true p [] h = absurd (false≢true h)
any_true {A = A} p (x ∷ xs) h = pick (p x) refl h (any_true p xs)
  where
    later : (y : A) × Contains xs y × (p y ≡ true) → (y : A) × Contains (x ∷ xs) y × (p y ≡ true)
    later (y, m, e) = (y, contains_tail x xs y m, e)

    pick : (b : Bool) → p x ≡ b → (b || list_any p xs) ≡ true → (list_any p xs ≡ true → (y : A) × Contains xs y × (p y ≡ true)) → (y : A) × Contains (x ∷ xs) y × (p y ≡ true)
    pick true e g more = (x, contains_head x xs, e)
    pick false e g more = later (more g)

heavier_prefers : (f : Facts) → IsPreference (λ v w. ltb (bytes_held f w) (bytes_held f v))
heavier_prefers f = record { asym = λ x y. asym (bytes_held f x) (bytes_held f y); apart = λ x y z. apart (bytes_held f x) (bytes_held f y) (bytes_held f z) }
  where
    asym : (a b : ℕ) → ltb b a ≡ true → ltb a b ≡ false
    asym a b h = grind (arith, nat_tests)

    apart : (a b c : ℕ) → ltb b a ≡ false → ltb c b ≡ false → ltb c a ≡ false
    apart a b c h i = grind (arith, nat_tests)

-- the holders of a key
abbrev holders_of : Facts → ℕ → List ℕ
holders_of f k = filter (λ w. holds f w k) (from_one f.last_worker)

is_holder : (f : Facts) (k v : ℕ) → 1 ≤ v → v ≤ f.last_worker → holds f v k ≡ true → Contains (holders_of f k) v
is_holder f k v l m e = filter_to (λ w. holds f w k) (from_one f.last_worker) v (range_has 1 f.last_worker v l (omega arith)) e

-- the most loaded holder is a best one, or there is none
most_loaded_best : (f : Facts) (k : ℕ) → IsBestOf (λ v w. ltb (bytes_held f w) (bytes_held f v)) (holders_of f k) (most_loaded f k)
unfolding most_loaded
most_loaded_best f k = unbeaten_best (λ v w. ltb (bytes_held f w) (bytes_held f v)) (heavier_prefers f) (holders_of f k)

-- no holder before it holds as much
most_loaded_first : (f : Facts) (k w : ℕ) → most_loaded f k ≡ Some w → IsBest (λ v u. ltb (bytes_held f u) (bytes_held f v)) (holders_of f k) w → (v : ℕ) → 1 ≤ v → v < w → holds f v k ≡ true → bytes_held f v < bytes_held f w
unfolding most_loaded
most_loaded_first f k w e b v l m h =
    heavy (any_true (λ u. ltb (bytes_held f v) (bytes_held f u)) (holders_of f k)
    (not-false (list_any (λ u. ltb (bytes_held f v) (bytes_held f u)) (holders_of f k))
    (find_least (λ u. holds f u k) (λ x. not (list_any (λ y. ltb (bytes_held f x) (bytes_held f y)) (holders_of f k))) 1 f.last_worker w e v l m h)))
  where
    heavy : (u : ℕ) × Contains (holders_of f k) u × (ltb (bytes_held f v) (bytes_held f u) ≡ true) → bytes_held f v < bytes_held f w
    heavy (u, c, g) = omega (arith, ltb-true (bytes_held f v) (bytes_held f u) g, ltb-false (bytes_held f w) (bytes_held f u) (b.best u c))

-- a key that may be dropped has a holder
spare_is_held : (f : Facts) (k : ℕ) → may_drop f k ≡ true → (w : ℕ) × Contains (holders_of f k) w
unfolding may_drop holder_count
spare_is_held f k e = found (counted (λ w. holds f w k) (from_one f.last_worker) (omega (arith, ltb-true (waiters f k + 1) (count (λ w. holds f w k) (from_one f.last_worker)) e)))
  where
    found : (w : ℕ) × Contains (from_one f.last_worker) w × (holds f w k ≡ true) → (w : ℕ) × Contains (holders_of f k) w
    found (w, c, g) = (w, filter_to (λ w. holds f w k) (from_one f.last_worker) w c g)

pub next_drop_is : (f : Facts) → IsDropOf f (next_drop f)
unfolding next_drop
next_drop_is f = pick (find (may_drop f) (below (keys f))) refl (find_found (may_drop f) (below (keys f)))
  where
    pick : (o : Option ℕ) → find (may_drop f) (below (keys f)) ≡ o → FoundOf (may_drop f) (below (keys f)) o → IsDropOf f (drop_of f o)
    pick None e g = λ k l. g k (range_has 0 (keys f) k (omega arith) (omega arith))
    pick (Some k) e g = loaded (most_loaded f k) refl (most_loaded_best f k)
      where
        loaded : (r : Option ℕ) → most_loaded f k ≡ r → IsBestOf (λ v w. ltb (bytes_held f w) (bytes_held f v)) (holders_of f k) r → IsDropOf f (option_map (λ w. (w, k)) r)
        loaded None i b = λ j l. absurd (nobody (spare_is_held f k g.1))
          where
            nobody : (w : ℕ) × Contains (holders_of f k) w → ⊥
            nobody (w, c) = contains_none w (subst (λ l. Contains l w) b c)
        loaded (Some w) i b = record {
          key = omega (arith, (range_from 0 (keys f) k g.0).1);
          spare = g.1;
          least = λ j l. find_least (λ _. true) (may_drop f) 0 (keys f) k (ap (find (may_drop f)) (all_pass 0 (keys f)) ∙ e) j (omega arith) l refl;
          holder = (filter_from (λ v. holds f v k) (from_one f.last_worker) w b.member).1;
          most = λ v l m h. ltb-false (bytes_held f w) (bytes_held f v) (b.best v (is_holder f k v l m h));
          first = most_loaded_first f k w i b;
        }

-- the level of a steal: what is found below 64, or 64
abbrev lets : ℕ → ℕ → ℕ → Bool
lets bytes work n = ltb bytes (2 ^ n * (work + 1))

pub level_enough : (bytes work : ℕ) → bytes < 2 ^ 63 → bytes < 2 ^ level bytes work * (work + 1)
unfolding level
level_enough bytes work h = pick (find (lets bytes work) (below 64)) (find_found (lets bytes work) (below 64))
  where
    enough : 2 ^ 63 ≤ 2 ^ 63 * (work + 1)
    enough = omega arith

    pick : (o : Option ℕ) → FoundOf (lets bytes work) (below 64) o → bytes < 2 ^ unwrap_or o 64 * (work + 1)
    pick None none = omega (arith, ltb-false bytes (2 ^ 63 * (work + 1)) (none 63 (range_has 0 64 63 (omega arith) (omega arith))))
    pick (Some n) found = ltb-true bytes (2 ^ n * (work + 1)) found.1

pub level_least : (bytes work n : ℕ) → n < level bytes work → 2 ^ n * (work + 1) ≤ bytes
unfolding level
level_least bytes work n l = pick (find (lets bytes work) (below 64)) refl (find_found (lets bytes work) (below 64)) l
  where
    pick : (o : Option ℕ) → find (lets bytes work) (below 64) ≡ o → FoundOf (lets bytes work) (below 64) o → n < unwrap_or o 64 → 2 ^ n * (work + 1) ≤ bytes
    pick None e none m = ltb-false bytes (2 ^ n * (work + 1)) (none n (range_has 0 64 n (omega arith) (omega arith)))
    pick (Some x) e found m = ltb-false bytes (2 ^ n * (work + 1)) (find_least (λ _. true) (lets bytes work) 0 64 x (ap (find (lets bytes work)) (all_pass 0 64) ∙ e) n (omega arith) m refl)
