-- Tasks that are taken one by one, in the order of their new numbers.
use Rattle.std.proofs.Common.{◌≡◌, ℕ, zero, suc, ◌+◌, ◌<◌, ◌≤◌, true, false, List, [], ◌∷◌, ◌++◌, length, map, take, get_or, refl, ap, sym, subst, ◌∙◌, arith, Some, None, ne_eqb}
use Rattle.std.specs.Prelude.{Option, eqb, slice_index_or, Contains}
use Rattle.std.specs.List.{AllByRecursion, IsDistinct}
use Rattle.std.specs.List.Sorted.{IsStrictlyIncreasing}
use Rattle.std.proofs.Math.ListN.{set}
use Rattle.std.proofs.lemmas.List.{get_or-set_other, length-set}
use Rattle.std.proofs.lemmas.List.{length-map, get_or-map, take_more}
use Rattle.std.proofs.lemmas.Map.Keys.{IsDistinct-from_apart, sorted_from_strictly_increasing, below_from_sorted, apart_from_distinct}
use Rattle.std.proofs.lemmas.Option.{same_Some}
use Rattle.small_facts.proofs.Every.{all_from_members}
use Rattle.small_facts.proofs.Numbers.{unequal_below}
use Rattle.nd_grid.proofs.Turning.{position-at}
use Rattle.cluster_msgs.specs.Shape.{IsShape, total_length, edge_count, deps_of}
use Rattle.cluster_msgs.proofs.Dags.{all-weaker}
use Rattle.task_graph.specs.declared.graph.Task.{Task}
use Rattle.task_graph.specs.Graphs.{task_at, no_task, shape_of}
use Rattle.task_graph.specs.Orders.{is_in, position, moved_task, renumbered}
use Rattle.task_graph.specs.Numberings.{IsNumbering}
use Rattle.task_graph.proofs.Culled.{in-to}
use Rattle.task_graph.proofs.Making.{deps-at}
use Rattle.task_graph.proofs.Rising.{all-member}
use Rattle.task_graph.proofs.Visits.{in-from}

-- so many tasks were taken, and stand under their new numbers; the others are where they were
pub record IsMoving (tasks : List Task) (order : List ℕ) (j : ℕ) (new : List Task) (slots : List (Option Task)) : Type 0 where
  pub made : new ≡ take j (renumbered tasks order)
  pub count : length slots ≡ length tasks
  pub left : (k : ℕ) → k < length tasks → j ≤ position order k → slice_index_or slots k None ≡ Some (task_at tasks k)

pub moving-begins : (tasks : List Task) (order : List ℕ) (slots : List (Option Task)) → slots ≡ map (λ (t : Task). Some t) tasks → IsMoving tasks order 0 [] slots
moving-begins tasks order slots e = record {
  made = refl;
  count = ap (λ (xs : List (Option Task)). length xs) e ∙ length-map tasks (λ (t : Task). Some t);
  left = λ k h a. ap (λ (xs : List (Option Task)). slice_index_or xs k None) e ∙ get_or-map (λ (t : Task). Some t) tasks k no_task None h;
}

abbrev old_at : List ℕ → ℕ → ℕ
old_at order j = get_or order j 0

pub moving-there : (tasks : List Task) (order : List ℕ) (j : ℕ) (new : List Task) (slots : List (Option Task)) → IsMoving tasks order j new slots → IsNumbering tasks order → AllByRecursion (λ k. k < length tasks) order → j < length order
    → (get_or order j 0 < length slots) × (slice_index_or slots (get_or order j 0) None ≡ Some (task_at tasks (get_or order j 0)))
moving-there tasks order j new slots m n b lt =
    let low : get_or order j 0 < length tasks = all-member (λ k. k < length tasks) order j 0 b lt in
    let at : position order (get_or order j 0) ≡ j = n.once j lt in
    (let c = m.count in omega arith, m.left (get_or order j 0) low (omega arith))

pub moving-on : (tasks : List Task) (order : List ℕ) (j : ℕ) (new : List Task) (slots : List (Option Task)) → IsMoving tasks order j new slots → IsNumbering tasks order → AllByRecursion (λ k. k < length tasks) order → j < length order
    → IsMoving tasks order (j + 1) (new ++ moved_task (map (position order) (task_at tasks (get_or order j 0)).deps) (task_at tasks (get_or order j 0)) ∷ []) (set slots (get_or order j 0) None)
moving-on tasks order j new slots m n b lt =
    let f : ℕ → Task = λ old. moved_task (map (position order) (deps_of (shape_of tasks) old)) (task_at tasks old) in
    let count : length (renumbered tasks order) ≡ length order = length-map order (λ old. moved_task (map (position order) (deps_of (shape_of tasks) old)) (task_at tasks old)) in
    let it : get_or (renumbered tasks order) j no_task ≡ moved_task (map (position order) (task_at tasks (get_or order j 0)).deps) (task_at tasks (get_or order j 0)) =
    get_or-map (λ old. moved_task (map (position order) (deps_of (shape_of tasks) old)) (task_at tasks old)) order j 0 no_task lt
    ∙ ap (λ ds. moved_task (map (position order) ds) (task_at tasks (get_or order j 0))) (deps-at tasks (get_or order j 0)) in
    record {
      made = ap (λ (xs : List Task). xs ++ moved_task (map (position order) (task_at tasks (get_or order j 0)).deps) (task_at tasks (get_or order j 0)) ∷ []) m.made
          ∙ ap (λ (t : Task). take j (renumbered tasks order) ++ t ∷ []) (sym it)
          ∙ sym (take_more (renumbered tasks order) j no_task (omega arith));
      count = length-set slots (get_or order j 0) None ∙ m.count;
      left = λ k h a.
          get_or-set_other slots (get_or order j 0) k None None (λ z. absurd (let at : position order (get_or order j 0) ≡ j = n.once j lt in let q : position order k ≡ position order (get_or order j 0) = ap (position order) z in omega arith))
          ∙ m.left k h (omega arith);
    }

-- ---- what the dependencies of a task are

pub member-edges : (xss : List (List ℕ)) (k : ℕ) → length (get_or xss k []) ≤ total_length xss
member-edges [] k = omega arith
member-edges (xs ∷ xss) zero = omega arith
member-edges (xs ∷ xss) (suc k) = let r = member-edges xss k in omega arith

rising-apart : (xs : List ℕ) → IsStrictlyIncreasing xs → IsDistinct eqb xs
rising-apart xs r = IsDistinct-from_apart eqb xs (λ i j d a b. let lt : get_or xs i d < get_or xs j d = below_from_sorted xs i j d (sorted_from_strictly_increasing xs r) a b in unequal_below (get_or xs i d) (get_or xs j d) lt)

-- what a task has to have to be moved
pub record AreMovable (keys : ℕ) (order deps : List ℕ) : Type 0 where
  pub few : length deps ≤ 262144
  pub there : AllByRecursion (λ k. k < keys) deps
  pub kept : AllByRecursion (λ k. is_in order k ≡ true) deps
  pub once : IsDistinct eqb deps

pub movable : (tasks : List Task) (order : List ℕ) (j : ℕ) → IsShape (shape_of tasks) → IsNumbering tasks order → AllByRecursion (λ k. k < length tasks) order → j < length order → AreMovable (length tasks) order (task_at tasks (get_or order j 0)).deps
movable tasks order j s n b lt =
    let old = get_or order j 0 in
    let low : get_or order j 0 < length tasks = all-member (λ k. k < length tasks) order j 0 b lt in
    let e : deps_of (shape_of tasks) (get_or order j 0) ≡ (task_at tasks (get_or order j 0)).deps = deps-at tasks (get_or order j 0) in
    let edges : edge_count (shape_of tasks) ≤ 262144 = s.few_edges in
    subst (AreMovable (length tasks) order) e (record {
      few = let m : length (deps_of (shape_of tasks) (get_or order j 0)) ≤ edge_count (shape_of tasks) = member-edges (map (λ (t : Task). t.deps) tasks) (get_or order j 0) in omega arith;
      there = all-weaker (λ d. d < get_or order j 0) (λ d. d < length tasks) (deps_of (shape_of tasks) (get_or order j 0)) (λ d h. omega arith) (s.below (get_or order j 0));
      kept = all_from_members (λ k. is_in order k ≡ true) (deps_of (shape_of tasks) (get_or order j 0)) (λ k c. in-to order k (n.there j k lt (subst (λ (ds : List ℕ). Contains ds k) e c)));
      once = rising-apart (deps_of (shape_of tasks) (get_or order j 0)) (s.rising (get_or order j 0));
    })

-- kept keys that differ have new numbers that differ
pub positions-apart : (order ks : List ℕ) → AllByRecursion (λ k. is_in order k ≡ true) ks → IsDistinct eqb ks → IsDistinct eqb (map (position order) ks)
positions-apart order ks a d = IsDistinct-from_apart eqb (map (position order) ks) (λ i j e lt h.
    let n : length (map (position order) ks) ≡ length ks = length-map ks (position order) in
    let hj : j < length ks = omega arith in
    let hi : i < length ks = omega arith in
    let ei : get_or (map (position order) ks) i e ≡ position order (get_or ks i 0) = get_or-map (position order) ks i 0 e hi in
    let ej : get_or (map (position order) ks) j e ≡ position order (get_or ks j 0) = get_or-map (position order) ks j 0 e hj in
    let ci : Contains order (get_or ks i 0) = in-from order (get_or ks i 0) (all-member (λ k. is_in order k ≡ true) ks i 0 a hi) in
    let cj : Contains order (get_or ks j 0) = in-from order (get_or ks j 0) (all-member (λ k. is_in order k ≡ true) ks j 0 a hj) in
    ne_eqb (get_or (map (position order) ks) i e) (get_or (map (position order) ks) j e) (λ z.
    let q : get_or ks i 0 ≡ get_or ks j 0 = sym (position-at order (get_or ks i 0) ci) ∙ ap (λ p. get_or order p 0) (sym ei ∙ z ∙ ej) ∙ position-at order (get_or ks j 0) cj in
    apart (get_or ks i 0) (get_or ks j 0) q (apart_from_distinct eqb ks i j 0 d lt hj)))
  where
    apart : (a b : ℕ) → a ≡ b → eqb a b ≡ false → ⊥
    apart a b e h = grind arith

-- the task that is taken
pub record IsTaken (tasks : List Task) (order : List ℕ) (j keys : ℕ) (t : Task) : Type 0 where
  pub task_is : t ≡ task_at tasks (get_or order j 0)
  pub movable_deps : AreMovable keys order t.deps

pub moving-taken : (tasks : List Task) (order : List ℕ) (j : ℕ) (new : List Task) (slots : List (Option Task)) (keys : ℕ) (t : Task) → IsShape (shape_of tasks) → keys ≡ length tasks → IsMoving tasks order j new slots → IsNumbering tasks order → AllByRecursion (λ k. k < keys) order
    → j < length order → slice_index_or slots (get_or order j 0) None ≡ Some t → IsTaken tasks order j keys t
moving-taken tasks order j new slots keys t s w m n b lt is =
    let below : AllByRecursion (λ k. k < length tasks) order = subst (λ c. AllByRecursion (λ k. k < c) order) w b in
    let there = moving-there tasks order j new slots m n below lt in
    let one : Some t ≡ Some (task_at tasks (get_or order j 0)) = sym is ∙ there.1 in
    let same : t ≡ task_at tasks (get_or order j 0) = same_Some t (task_at tasks (get_or order j 0)) one in
    record {
      task_is = same;
      movable_deps = subst (λ c. AreMovable c order t.deps) (sym w) (subst (λ (u : Task). AreMovable (length tasks) order u.deps) (sym same) (movable tasks order j s n below lt));
    }
