-- The first key to spare, and its most loaded holder.
use Rattle.std.proofs.Common.{◌≡◌, ℕ, zero, suc, ◌+◌, ◌-◌, ◌<◌, ◌≤◌, Bool, true, false, cond, List, [], ◌∷◌, Option, Some, None, refl, sym, ap, ◌∙◌, subst, arith, ⊎_elim}
use Rattle.std.proofs.lemmas.Bool.{false≢true, cases_lt}
use Rattle.std.proofs.lemmas.Bool.Decides.{nat_tests}
use Rattle.std.proofs.Math.Dec.{ltb}
use Rattle.std.specs.List.{find, filter, filter_map, range_with_len, cons_option}
use Rattle.small_facts.proofs.Numbers.{below_one_way, not_below_through}
use Rattle.small_facts.proofs.Ranges.{find_range_none}
use Rattle.cluster_rules.specs.Functions.{from_one}
use Rattle.cluster_rules.specs.Choice.{unbeaten, better}
use Rattle.cluster_rules.specs.Sched.{Facts, keys, holds, bytes_held, holder_count, waiters}
use Rattle.cluster_rules.specs.Policies.{may_drop, most_loaded, next_drop, drop_of, IsDropOf}
use Rattle.cluster_rules.proofs.ChoiceLemmas.{IsPreference}
use Rattle.cluster_rules.proofs.PolicyLemmas.{next_drop_is}
use Rattle.placement.proofs.BestSoFar.{best-next}
use Rattle.balance_policy.specs.Loads.{holds_more}

-- a replica is to spare where more hold the key than wait for it, and one more
pub may_drop-is : (f : Facts) (k w h s : ℕ) → w ≡ waiters f k → h ≡ holder_count f k → s ≡ h - 1 → ltb w s ≡ may_drop f k
unfolding may_drop
may_drop-is f k w h s d e q = ap (λ x. ltb w x) q ∙ less w h ∙ ap (λ x. ltb (x + 1) h) d ∙ ap (λ x. ltb (waiters f k + 1) x) e
  where
    less : (a b : ℕ) → ltb a (b - 1) ≡ ltb (a + 1) b
    less a b = grind (arith, nat_tests)

more_prefers : (f : Facts) → IsPreference (holds_more f)
more_prefers f = record { asym = λ x y. below_one_way (bytes_held f x) (bytes_held f y); apart = λ x y z. not_below_through (bytes_held f x) (bytes_held f y) (bytes_held f z) }

-- the worker, where it holds the key
abbrev pub holder : Facts → ℕ → ℕ → Option ℕ
holder f k w = cond (holds f w k) (Some w) None

-- the most loaded of the first workers
abbrev pub loaded_of : Facts → ℕ → ℕ → Option ℕ
loaded_of f k n = unbeaten (holds_more f) (filter_map (holder f k) (from_one n))

pub loaded_of-next : (f : Facts) (k n : ℕ) (best next new : Option ℕ) → best ≡ loaded_of f k n → next ≡ holder f k (n + 1) → new ≡ better (holds_more f) best next → new ≡ loaded_of f k (n + 1)
loaded_of-next f k n best next new e d q =
    q
    ∙ ap (λ b. better (holds_more f) b next) e
    ∙ ap (λ o. better (holds_more f) (loaded_of f k n) o) d
    ∙ sym (best-next (holds_more f) (more_prefers f) (holder f k) n)

holders-filter : (f : Facts) (k : ℕ) (ws : List ℕ) → filter_map (holder f k) ws ≡ filter (λ w. holds f w k) ws
holders-filter f k [] = refl
holders-filter f k (w ∷ ws) = pick (holds f w k) (holders-filter f k ws)
  where
    pick : (b : Bool) → filter_map (holder f k) ws ≡ filter (λ v. holds f v k) ws → cons_option (cond b (Some w) None) (filter_map (holder f k) ws) ≡ cond b (w ∷ filter (λ v. holds f v k) ws) (filter (λ v. holds f v k) ws)
    pick true e = ap (λ l. w ∷ l) e
    pick false e = e

pub most_loaded-is : (f : Facts) (k n : ℕ) (best : Option ℕ) → n ≡ f.last_worker → best ≡ loaded_of f k n → best ≡ most_loaded f k
unfolding most_loaded
most_loaded-is f k n best e d = d ∙ ap (loaded_of f k) e ∙ ap (unbeaten (holds_more f)) (holders-filter f k (from_one f.last_worker))

-- no key below this one has a replica to spare
abbrev pub NoneBelow : Facts → ℕ → Type 0
NoneBelow f n = (j : ℕ) → j < n → may_drop f j ≡ false

pub none_more : (f : Facts) (n : ℕ) (b : Bool) → NoneBelow f n → b ≡ may_drop f n → b ≡ false → NoneBelow f (n + 1)
none_more f n b h e d j l = ⊎_elim (λ i. h j i) (λ i. let q : j ≡ n = omega arith in ap (may_drop f) q ∙ sym e ∙ d) (cases_lt j n)

-- a key with a replica to spare has two holders or more
spare_shared : (f : Facts) (k : ℕ) → may_drop f k ≡ true → 1 < holder_count f k
unfolding may_drop
spare_shared f k e = more (waiters f k) (holder_count f k) e
  where
    more : (w h : ℕ) → ltb (w + 1) h ≡ true → 1 < h
    more w h e = grind (arith, nat_tests)

-- where the keys with two holders or more are in a set, others have none to spare
pub not_spare : (f : Facts) (k : ℕ) (b : Bool) → (1 < holder_count f k → b ≡ true) → b ≡ false → may_drop f k ≡ false
not_spare f k b h e = pick (may_drop f k) refl
  where
    pick : (t : Bool) → may_drop f k ≡ t → may_drop f k ≡ false
    pick true i = absurd (false≢true (sym e ∙ h (spare_shared f k i)))
    pick false i = i

pub none_over : (f : Facts) (n m : ℕ) → NoneBelow f n → ((k : ℕ) → n ≤ k → k < m → may_drop f k ≡ false) → NoneBelow f m
none_over f n m h none j l = ⊎_elim (λ i. h j i) (λ i. none j i l) (cases_lt j n)

find_at : (p : ℕ → Bool) (a n k : ℕ) → a ≤ k → k < a + n → p k ≡ true → ((j : ℕ) → a ≤ j → j < k → p j ≡ false) → find p (range_with_len a n) ≡ Some k
find_at p a zero k l m e h = absurd (omega arith)
find_at p a (suc n) k l m e h = ⊎_elim
    (λ g. ap (λ b. cond b (Some a) (find p (range_with_len (a + 1) n))) (h a (omega arith) g) ∙ find_at p (a + 1) n k (omega arith) (omega arith) e (λ j i o. h j (omega arith) o))
    (λ g. let q : a ≡ k = omega arith in ap (λ b. cond b (Some a) (find p (range_with_len (a + 1) n))) (ap p q ∙ e) ∙ ap (λ x. Some x) q)
    (cases_lt a k)

pub next_drop-some : (f : Facts) (k : ℕ) (b : Bool) → k < keys f → NoneBelow f k → b ≡ may_drop f k → b ≡ true → next_drop f ≡ drop_of f (Some k)
unfolding next_drop
next_drop-some f k b l h e d = ap (drop_of f) (find_at (may_drop f) 0 (keys f) k (omega arith) (omega arith) (sym e ∙ d) (λ j i o. h j o))

pub next_drop-none : (f : Facts) (n : ℕ) → keys f ≤ n → NoneBelow f n → next_drop f ≡ None
unfolding next_drop
next_drop-none f n l h = ap (drop_of f) (find_range_none (may_drop f) 0 (keys f) (λ j i o. h j (omega arith)))

pub is_drop : (f : Facts) (r : Option (ℕ × ℕ)) → r ≡ next_drop f → IsDropOf f r
is_drop f r e = subst (IsDropOf f) (sym e) (next_drop_is f)
