-- A graph with one more key keeps its bounds.
use Rattle.std.proofs.Common.{◌≡◌, ℕ, zero, suc, ◌+◌, ◌<◌, ◌≤◌, ◌^◌, List, [], ◌∷◌, ◌++◌, length, sym, ap, ◌∙◌, arith, length-append}
use Rattle.std.specs.Prelude.{slice_index_or}
use Rattle.std.specs.List.{AllByRecursion}
use Rattle.std.specs.List.Sorted.{IsStrictlyIncreasing}
use Rattle.cluster_msgs.specs.Shape.{Shape, IsShape, pushed, total_length, edge_count, key_count, deps_of}
use Rattle.cluster_msgs.specs.Dags.{IsEarlier}

-- what holds of each member of a list, of a new one at its end, and of the default, holds after the push
pub push-each : {A : Type 0} (P : ℕ → A → Type 0) (xs : List A) (x d : A) → ((k : ℕ) → P k (slice_index_or xs k d)) → P (length xs) x → ((k : ℕ) → P k d) → (k : ℕ) → P k (slice_index_or (xs ++ x ∷ []) k d)
push-each P [] x d each last none zero = last
push-each P [] x d each last none (suc k) = none (suc k)
push-each P (y ∷ ys) x d each last none zero = each zero
push-each P (y ∷ ys) x d each last none (suc k) = push-each (λ j. P (suc j)) ys x d (λ j. each (suc j)) last (λ j. none (suc j)) k

pub total_length-append : (xss : List (List ℕ)) (xs : List ℕ) → total_length (xss ++ xs ∷ []) ≡ total_length xss + length xs
total_length-append [] xs = omega arith
total_length-append (ys ∷ yss) xs = omega (arith, total_length-append yss xs)

pub IsShape-pushed : (g : Shape) (deps : List ℕ) (work nbytes : ℕ) → IsShape g
    → key_count g < 32768 → edge_count g + length deps ≤ 262144
    → IsStrictlyIncreasing deps → AllByRecursion (λ d. d < key_count g) deps → work ≤ 2 ^ 46 → nbytes ≤ 2 ^ 27
    → IsShape (pushed g deps work nbytes)
IsShape-pushed g deps work nbytes s room edges rising below light small = record {
  work_each = length-append g.work (work ∷ []) ∙ ap (λ n. n + 1) s.work_each ∙ sym (length-append g.deps (deps ∷ []));
  nbytes_each = length-append g.nbytes (nbytes ∷ []) ∙ ap (λ n. n + 1) s.nbytes_each ∙ sym (length-append g.deps (deps ∷ []));
  few = rw length-append (omega arith);
  few_edges = rw total_length-append edges;
  below = push-each (λ k ds. AllByRecursion (λ d. d < k) ds) g.deps deps [] s.below below (λ k. tt);
  rising = push-each (λ k ds. IsStrictlyIncreasing ds) g.deps deps [] s.rising rising (λ k j lt. absurd (omega arith));
  light = push-each (λ k w. w ≤ 2 ^ 46) g.work work 0 s.light light (λ k. omega arith);
  small = push-each (λ k n. n ≤ 2 ^ 27) g.nbytes nbytes 0 s.small small (λ k. omega arith);
}

-- the dependencies of a graph come before their keys
pub earlier : (g : Shape) → IsShape g → IsEarlier (deps_of g)
earlier g s = record { below = s.below }
