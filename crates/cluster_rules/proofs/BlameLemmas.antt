-- What a failure is blamed on: a bad key of the cone.
use Rattle.std.proofs.Common.{◌≡◌, ℕ, zero, suc, Bool, true, false, ◌||◌, List, [], ◌∷◌, Option, Some, None, refl, sym, subst, cond, find}
use Rattle.std.specs.List.{list_any}
use Rattle.std.proofs.lemmas.Bool.{or_left, or_right}
use Rattle.std.proofs.lemmas.Option.{none-some, same_Some}
use Rattle.cluster_msgs.specs.Dags.{IsEarlier}
use Rattle.cluster_msgs.specs.Values.{cone}
use Rattle.cluster_msgs.proofs.ValueLemmas.{cone-itself, cone-above}
use Rattle.cluster_rules.specs.Sched.{Facts, deps, erred, blame_in, blame_from}

found_passes : (p q : ℕ → Bool) (xs : List ℕ) (d : ℕ) → find p xs ≡ Some d → q d ≡ true → list_any q xs ≡ true
found_passes p q [] d e z = absurd (none-some d e)
found_passes p q (x ∷ xs) d e z = pick (p x) e (λ i. found_passes p q xs d i z)
  where
    pick : (b : Bool) → cond b (Some x) (find p xs) ≡ Some d → (find p xs ≡ Some d → list_any q xs ≡ true) → (q x || list_any q xs) ≡ true
    pick true e r = or_left (q x) _ (subst (λ y. q y ≡ true) (sym (same_Some x d e)) z)
    pick false e r = or_right (q x) _ (r e)

pub blame_below : (f : Facts) → IsEarlier (deps f) → (n k b : ℕ) → blame_in f n k ≡ Some b → (f.bad b ≡ true) × (cone (deps f) k b ≡ true)
blame_below f low zero k b e = absurd (none-some b e)
blame_below f low (suc n) k b e = by (λ d i. blame_below f low n d b i) (erred f k) e
  where
    down : (o : Option ℕ) → find (erred f) (deps f k) ≡ o → blame_from (λ d. blame_in f n d) o ≡ Some b → ((d : ℕ) → blame_in f n d ≡ Some b → (f.bad b ≡ true) × (cone (deps f) d b ≡ true)) → (f.bad b ≡ true) × (cone (deps f) k b ≡ true)
    down None z e r = absurd (none-some b e)
    down (Some d) z e r = let s = r d e in (s.0, cone-above (deps f) low k b (found_passes (erred f) (λ d. cone (deps f) d b) (deps f k) d z s.1))

    own : (c : Bool) → f.bad k ≡ c → cond c (Some k) (blame_from (λ d. blame_in f n d) (find (erred f) (deps f k))) ≡ Some b → ((d : ℕ) → blame_in f n d ≡ Some b → (f.bad b ≡ true) × (cone (deps f) d b ≡ true)) → (f.bad b ≡ true) × (cone (deps f) k b ≡ true)
    own true z e r = subst (λ x. (f.bad x ≡ true) × (cone (deps f) k x ≡ true)) (same_Some k b e) (z, cone-itself (deps f) low k)
    own false z e r = down (find (erred f) (deps f k)) refl e r

    by : ((d : ℕ) → blame_in f n d ≡ Some b → (f.bad b ≡ true) × (cone (deps f) d b ≡ true)) → (a : Bool)
        → cond a (cond (f.bad k) (Some k) (blame_from (λ d. blame_in f n d) (find (erred f) (deps f k)))) None ≡ Some b → (f.bad b ≡ true) × (cone (deps f) k b ≡ true)
    by r true e = own (f.bad k) refl e r
    by r false e = absurd (none-some b e)
