-- Sums and tests over the dependencies of a key, as far as a loop has come.
use Rattle.std.proofs.Common.{◌≡◌, ℕ, zero, suc, ◌+◌, ◌*◌, ◌<◌, ◌≤◌, ◌^◌, Bool, true, false, cond, ◌||◌, List, [], ◌∷◌, ◌++◌, length, get_or, take, sym, ap, ◌∙◌, subst, arith, length-take}
use Rattle.std.proofs.Math.Seq.{take-suc}
use Rattle.std.proofs.lemmas.List.{take_all}
use Rattle.std.proofs.lemmas.List.Folds.{list_any-append}
use Rattle.std.specs.List.{list_any, AllByRecursion, slice_index_or}
use Rattle.std.proofs.Math.Bool.{or-false}
use Rattle.cluster_msgs.specs.Shape.{nbytes_of, total_length}
use Rattle.cluster_rules.specs.Functions.{total}
use Rattle.cluster_rules.specs.Sched.{Facts, IsSound, keys, deps, holds}
use Rattle.cluster_rules.specs.Policies.{missing_bytes}
use Rattle.cluster_rules.proofs.TotalLemmas.{total-push, total-bound}
use Rattle.placement.specs.Costs.{fetched_bytes}

take-more : (xs : List ℕ) (i : ℕ) → i < length xs → take (i + 1) xs ≡ take i xs ++ get_or xs i 0 ∷ []
take-more xs i l = let e : i + 1 ≡ suc i = omega arith in ap (λ n. take n xs) e ∙ take-suc xs i 0 l

pub total-take : (g : ℕ → ℕ) (xs : List ℕ) (i : ℕ) → i < length xs → total g (take (i + 1) xs) ≡ total g (take i xs) + g (get_or xs i 0)
total-take g xs i l = ap (total g) (take-more xs i l) ∙ total-push g (take i xs) (get_or xs i 0)

pub any-take : (p : ℕ → Bool) (xs : List ℕ) (i : ℕ) → i < length xs → list_any p (take (i + 1) xs) ≡ (list_any p (take i xs) || p (get_or xs i 0))
any-take p xs i l =
    ap (list_any p) (take-more xs i l)
    ∙ list_any-append p (take i xs) (get_or xs i 0 ∷ [])
    ∙ ap (λ b. list_any p (take i xs) || b) (or-false (p (get_or xs i 0)))

-- a member of a list whose members are bounded
at_index : (k : ℕ) (xs : List ℕ) (i : ℕ) → AllByRecursion (λ d. d < k) xs → i < length xs → get_or xs i 0 < k
at_index k [] i a l = absurd (omega arith)
at_index k (x ∷ xs) zero a l = a.0
at_index k (x ∷ xs) (suc i) a l = at_index k xs i a.1 (omega arith)

-- a dependency is a key
pub dependency_fits : (f : Facts) → IsSound f → (k i : ℕ) → k < keys f → i < length (deps f k) → get_or (deps f k) i 0 < keys f
dependency_fits f s k i h l = let d : get_or (deps f k) i 0 < k = at_index k (deps f k) i (s.shape.below k) l in omega arith

row_bound : (xss : List (List ℕ)) (k : ℕ) → length (slice_index_or xss k []) ≤ total_length xss
row_bound [] k = omega arith
row_bound (xs ∷ xss) zero = omega arith
row_bound (xs ∷ xss) (suc k) = omega (arith, row_bound xss k)

fetched_bound : (f : Facts) → IsSound f → (w d : ℕ) → fetched_bytes f w d ≤ 2 ^ 27
fetched_bound f s w d = pick (holds f w d)
  where
    pick : (b : Bool) → cond b 0 (nbytes_of f.setting.shape d) ≤ 2 ^ 27
    pick true = omega arith
    pick false = s.shape.small d

-- the bytes to fetch for the first dependencies
pub part_bound : (f : Facts) → IsSound f → (w k i : ℕ) → total (fetched_bytes f w) (take i (deps f k)) ≤ 2 ^ 45
part_bound f s w k i = bound (length (take i (deps f k))) (total (fetched_bytes f w) (take i (deps f k)))
    (omega (arith, length-take i (deps f k), row_bound f.setting.shape.deps k, s.shape.few_edges))
    (total-bound (fetched_bytes f w) (2 ^ 27) (take i (deps f k)) (fetched_bound f s w))
  where
    bound : (n t : ℕ) → n ≤ 262144 → t ≤ n * 2 ^ 27 → t ≤ 2 ^ 45
    bound n t l h = omega arith

-- the loop that sums what is to be fetched, over the dependencies
pub sum_more : (f : Facts) (w : ℕ) (xs : List ℕ) (i t r : ℕ) → i < length xs → t ≡ total (fetched_bytes f w) (take i xs) → r ≡ fetched_bytes f w (get_or xs i 0) → t + r ≡ total (fetched_bytes f w) (take (i + 1) xs)
sum_more f w xs i t r l e d = let s : total (fetched_bytes f w) (take (i + 1) xs) ≡ total (fetched_bytes f w) (take i xs) + fetched_bytes f w (get_or xs i 0) = total-take (fetched_bytes f w) xs i l in omega (arith, s, e, d)

pub sum_bound : (f : Facts) → IsSound f → (w k : ℕ) (xs : List ℕ) (i t : ℕ) → xs ≡ deps f k → t ≡ total (fetched_bytes f w) (take i xs) → t ≤ 2 ^ 45
sum_bound f s w k xs i t q e = let b : total (fetched_bytes f w) (take i xs) ≤ 2 ^ 45 = subst (λ l. total (fetched_bytes f w) (take i l) ≤ 2 ^ 45) (sym q) (part_bound f s w k i) in omega (arith, b, e)

pub sum_all : (f : Facts) (w k : ℕ) (xs : List ℕ) (i t : ℕ) → xs ≡ deps f k → length xs ≤ i → t ≡ total (fetched_bytes f w) (take i xs) → t ≡ missing_bytes f w k
unfolding missing_bytes
sum_all f w k xs i t q l e = e ∙ ap (total (fetched_bytes f w)) (take_all i xs l) ∙ ap (total (fetched_bytes f w)) q
