-- A graph under new numbers keeps its bounds.
use Rattle.std.proofs.Common.{◌≡◌, ◌≢◌, ℕ, zero, suc, ◌+◌, ◌<◌, ◌≤◌, ◌^◌, false, cond, List, [], ◌∷◌, length, map, take, get_or, refl, ap, sym, subst, ◌∙◌, arith, inl, inr}
use Rattle.std.specs.Prelude.{eqb}
use Rattle.std.specs.List.{AllByRecursion, IsDistinct}
use Rattle.std.specs.List.Sorted.{IsStrictlyIncreasing}
use Rattle.std.proofs.Math.ListN.{get_or-map}
use Rattle.std.proofs.lemmas.Bool.{cases_eq, cases_lt, ne_eqb}
use Rattle.std.proofs.lemmas.List.{length-map, get_or_past, take_more, take_all}
use Rattle.std.proofs.lemmas.Map.Keys.{IsDistinct-head, IsDistinct-tail}
use Rattle.small_facts.proofs.Numbers.{eqb_self, unequal_over}
use Rattle.cluster_msgs.specs.Shape.{IsShape, total_length, edge_count, deps_of}
use Rattle.cluster_msgs.proofs.ShapeLemmas.{total_length-append}
use Rattle.task_graph.specs.declared.graph.Task.{Task}
use Rattle.task_graph.specs.Graphs.{task_at, no_task, shape_of}
use Rattle.task_graph.specs.Orders.{with_key, ascending, position, moved_task, renumbered}
use Rattle.task_graph.specs.Numberings.{IsNumbering}
use Rattle.task_graph.proofs.Making.{deps-at}
use Rattle.task_graph.proofs.Numbered.{below-count}
use Rattle.task_graph.proofs.Renumbered.{task-moved}
use Rattle.task_graph.proofs.Rising.{ascending-rises, rising-increasing}
use Rattle.task_graph.proofs.Visits.{renumbered-earlier}

-- ---- sums over keys that stand each once

abbrev pub sums : (ℕ → ℕ) → List ℕ → ℕ
sums w [] = 0
sums w (x ∷ xs) = w x + sums w xs

abbrev pub sum_below : (ℕ → ℕ) → ℕ → ℕ
sum_below w zero = 0
sum_below w (suc n) = sum_below w n + w n

abbrev without : ℕ → (ℕ → ℕ) → ℕ → ℕ
without x w k = cond (eqb x k) 0 (w k)

without-other : (x : ℕ) (w : ℕ → ℕ) (k : ℕ) → eqb x k ≡ false → without x w k ≡ w k
without-other x w k h = ap (λ b. cond b 0 (w k)) h

without-it : (x : ℕ) (w : ℕ → ℕ) → without x w x ≡ 0
without-it x w = ap (λ b. cond b 0 (w x)) (eqb_self x)

same-below : (v w : ℕ → ℕ) (n : ℕ) → ((k : ℕ) → k < n → v k ≡ w k) → sum_below v n ≡ sum_below w n
same-below v w zero h = refl
same-below v w (suc n) h = let a : sum_below v n ≡ sum_below w n = same-below v w n (λ k lt. h k (omega arith)) in let b : v n ≡ w n = h n (omega arith) in omega arith

one-less : (x : ℕ) (w : ℕ → ℕ) (n : ℕ) → x < n → sum_below w n ≡ sum_below (without x w) n + w x
one-less x w zero lt = absurd (omega arith)
one-less x w (suc n) lt = elim (cases_eq x n) [
  | inl e ↦
      let a : sum_below w n ≡ sum_below (without x w) n = same-below w (without x w) n (λ k h. sym (without-other x w k (unequal_over x k (omega arith)))) in
      let b : without x w n ≡ 0 = subst (λ m. without x w m ≡ 0) e (without-it x w) in
      let c : w x ≡ w n = ap w e in
      omega arith
  | inr d ↦
      let a : sum_below w n ≡ sum_below (without x w) n + w x = one-less x w n (omega arith) in
      let b : without x w n ≡ w n = without-other x w n (ne_eqb x n d) in
      omega arith
]

same-sums : (x : ℕ) (w : ℕ → ℕ) (xs : List ℕ) → AllByRecursion (λ y. eqb x y ≡ false) xs → sums w xs ≡ sums (without x w) xs
same-sums x w [] a = refl
same-sums x w (y ∷ xs) a = let b : without x w y ≡ w y = without-other x w y a.0 in let c : sums w xs ≡ sums (without x w) xs = same-sums x w xs a.1 in omega arith

pub sums-within : (w : ℕ → ℕ) (n : ℕ) (xs : List ℕ) → AllByRecursion (λ k. k < n) xs → IsDistinct eqb xs → sums w xs ≤ sum_below w n
sums-within w n [] a d = omega arith
sums-within w n (x ∷ xs) a d =
    let s : sums w xs ≡ sums (without x w) xs = same-sums x w xs (IsDistinct-head eqb x xs d) in
    let r : sums (without x w) xs ≤ sum_below (without x w) n = sums-within (without x w) n xs a.1 (IsDistinct-tail eqb x xs d) in
    let o : sum_below w n ≡ sum_below (without x w) n + w x = one-less x w n a.0 in
    omega arith

-- ---- dependencies

pub with-length : (k : ℕ) (js : List ℕ) → length (with_key k js) ≤ suc (length js)
with-length k [] = omega arith
with-length k (j ∷ js) = elim (cases_lt k j) [
  | inl lt ↦ let e : with_key k (j ∷ js) ≡ k ∷ j ∷ js = less lt in let l : length (with_key k (j ∷ js)) ≡ suc (suc (length js)) = ap (λ (xs : List ℕ). length xs) e in omega arith
  | inr ge ↦ elim (cases_eq k j) [
    | inl e ↦ let l : length (with_key k (j ∷ js)) ≡ suc (length js) = ap (λ (xs : List ℕ). length xs) (same e) in omega arith
    | inr d ↦ let l : length (with_key k (j ∷ js)) ≡ suc (length (with_key k js)) = ap (λ (xs : List ℕ). length xs) (more ge d) in let r = with-length k js in omega arith
  ]
]
  where
    less : k < j → with_key k (j ∷ js) ≡ k ∷ j ∷ js
    less h = grind arith

    same : k ≡ j → with_key k (j ∷ js) ≡ j ∷ js
    same h = grind arith

    more : j ≤ k → k ≢ j → with_key k (j ∷ js) ≡ j ∷ with_key k js
    more h d = grind arith

pub ascending-length : (ks : List ℕ) → length (ascending ks) ≤ length ks
ascending-length [] = omega arith
ascending-length (k ∷ ks) = let a : length (with_key k (ascending ks)) ≤ suc (length (ascending ks)) = with-length k (ascending ks) in let b : length (ascending ks) ≤ length ks = ascending-length ks in omega arith

mapped-edges : (f : ℕ → Task) (w : ℕ → ℕ) (xs : List ℕ) → ((k : ℕ) → length (f k).deps ≤ w k) → total_length (map (λ (t : Task). t.deps) (map f xs)) ≤ sums w xs
mapped-edges f w [] h = omega arith
mapped-edges f w (x ∷ xs) h = let a = h x in let b = mapped-edges f w xs h in omega arith

front-edges : (xss : List (List ℕ)) (n : ℕ) → n ≤ length xss → sum_below (λ k. length (get_or xss k [])) n ≡ total_length (take n xss)
front-edges xss zero h = refl
front-edges xss (suc n) h =
    let a : sum_below (λ k. length (get_or xss k [])) n ≡ total_length (take n xss) = front-edges xss n (omega arith) in
    let one : n + 1 ≡ suc n = omega arith in
    let b : total_length (take (suc n) xss) ≡ total_length (take n xss) + length (get_or xss n []) = ap (λ m. total_length (take m xss)) (sym one) ∙ ap total_length (take_more xss n [] (omega arith)) ∙ total_length-append (take n xss) (get_or xss n []) in
    omega arith

pub all-edges : (xss : List (List ℕ)) → sum_below (λ k. length (get_or xss k [])) (length xss) ≡ total_length xss
all-edges xss = front-edges xss (length xss) (omega arith) ∙ ap total_length (take_all (length xss) xss (omega arith))

-- ---- all bounds

each-task : (tasks : List Task) (order : List ℕ) (P : Task → Type 0) → P no_task → ((j : ℕ) → j < length order → P (moved_task (map (position order) (task_at tasks (get_or order j 0)).deps) (task_at tasks (get_or order j 0))))
    → (k : ℕ) → P (task_at (renumbered tasks order) k)
each-task tasks order P none each k = elim (cases_lt k (length order)) [
  | inl lt ↦ subst P (sym (task-moved tasks order k lt)) (each k lt)
  | inr ge ↦ subst P (sym (get_or_past (renumbered tasks order) k no_task (omega (arith, length-map order (λ old. moved_task (map (position order) (deps_of (shape_of tasks) old)) (task_at tasks old)))))) none
]

pub renumbered-shape : (tasks : List Task) (order : List ℕ) → IsShape (shape_of tasks) → IsNumbering tasks order → AllByRecursion (λ k. k < length tasks) order → IsDistinct eqb order → IsShape (shape_of (renumbered tasks order))
renumbered-shape tasks order s n below once =
    let new = renumbered tasks order in
    let keys : length order ≤ length tasks = below-count order (length tasks) below once in
    let count : length (renumbered tasks order) ≡ length order = length-map order (λ old. moved_task (map (position order) (deps_of (shape_of tasks) old)) (task_at tasks old)) in
    let old_count : length (map (λ (t : Task). t.deps) tasks) ≡ length tasks = length-map tasks (λ (t : Task). t.deps) in
    let new_count : length (map (λ (t : Task). t.deps) (renumbered tasks order)) ≡ length (renumbered tasks order) = length-map (renumbered tasks order) (λ (t : Task). t.deps) in
    let few : length (map (λ (t : Task). t.deps) tasks) ≤ 32768 = s.few in
    let edges : edge_count (shape_of tasks) ≤ 262144 = s.few_edges in
    let moved : total_length (map (λ (t : Task). t.deps) (renumbered tasks order)) ≤ sums (λ k. length (deps_of (shape_of tasks) k)) order =
    mapped-edges (λ old. moved_task (map (position order) (deps_of (shape_of tasks) old)) (task_at tasks old)) (λ k. length (deps_of (shape_of tasks) k)) order
    (λ k. let a : length (ascending (map (position order) (deps_of (shape_of tasks) k))) ≤ length (map (position order) (deps_of (shape_of tasks) k)) = ascending-length (map (position order) (deps_of (shape_of tasks) k)) in
    let b : length (map (position order) (deps_of (shape_of tasks) k)) ≡ length (deps_of (shape_of tasks) k) = length-map (deps_of (shape_of tasks) k) (position order) in omega arith) in
    let within : sums (λ k. length (deps_of (shape_of tasks) k)) order ≤ sum_below (λ k. length (deps_of (shape_of tasks) k)) (length tasks) = sums-within (λ k. length (deps_of (shape_of tasks) k)) (length tasks) order below once in
    let all : sum_below (λ k. length (deps_of (shape_of tasks) k)) (length tasks) ≡ edge_count (shape_of tasks) =
    ap (sum_below (λ k. length (deps_of (shape_of tasks) k))) (sym old_count) ∙ all-edges (map (λ (t : Task). t.deps) tasks) in
    record {
      work_each = length-map (renumbered tasks order) (λ (t : Task). t.work) ∙ sym new_count;
      nbytes_each = length-map (renumbered tasks order) (λ (t : Task). t.nbytes) ∙ sym new_count;
      few = omega arith;
      few_edges = omega arith;
      below = (renumbered-earlier tasks order n).below;
      rising = λ k. subst IsStrictlyIncreasing (sym (deps-at (renumbered tasks order) k))
          (each-task tasks order (λ (t : Task). IsStrictlyIncreasing t.deps) (rising-increasing [] tt) (λ j lt. rising-increasing (ascending (map (position order) (task_at tasks (get_or order j 0)).deps)) (ascending-rises (map (position order) (task_at tasks (get_or order j 0)).deps))) k);
      light = λ k. subst (λ w. w ≤ 2 ^ 46) (sym (get_or-map (λ (t : Task). t.work) (renumbered tasks order) k no_task))
          (each-task tasks order (λ (t : Task). t.work ≤ 2 ^ 46) (omega arith) (λ j lt. subst (λ w. w ≤ 2 ^ 46) (get_or-map (λ (t : Task). t.work) tasks (get_or order j 0) no_task) (s.light (get_or order j 0))) k);
      small = λ k. subst (λ w. w ≤ 2 ^ 27) (sym (get_or-map (λ (t : Task). t.nbytes) (renumbered tasks order) k no_task))
          (each-task tasks order (λ (t : Task). t.nbytes ≤ 2 ^ 27) (omega arith) (λ j lt. subst (λ w. w ≤ 2 ^ 27) (get_or-map (λ (t : Task). t.nbytes) tasks (get_or order j 0) no_task) (s.small (get_or order j 0))) k);
    }
