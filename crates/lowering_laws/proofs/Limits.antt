-- Where no limit is passed, the graph that is run has a shape that the cluster takes.
use Rattle.std.proofs.Common.{◌≡◌, ℕ, zero, suc, ◌+◌, ◌*◌, ◌^◌, ◌<◌, ◌≤◌, cond, Bool, true, false, List, [], ◌∷◌, length, map, get_or, refl, ap, sym, subst, ◌∙◌, arith, inl, inr, Some, None}
use Rattle.std.specs.Prelude.{nat_lt, All, Option}
use Rattle.std.specs.List.{AllByRecursion}
use Rattle.std.proofs.Math.ListN.{get_or-map}
use Rattle.std.proofs.lemmas.Bool.{cases_lt, ltb-false}
use Rattle.std.proofs.lemmas.List.{length-map, get_or_past}
use Rattle.std.specs.List.Sorted.{IsStrictlyIncreasing}
use Rattle.nd_shape.specs.Chunk.{total}
use Rattle.array_expr.specs.declared.expr.Node.{Node}
use Rattle.array_expr.specs.Node.{IsExpression}
use Rattle.cluster_msgs.specs.Shape.{IsShape, deps_of, total_length}
use Rattle.block_kernels.specs.Kernels.{input_shapes, result_shape}
use Rattle.task_graph.specs.declared.graph.Task.{Task}
use Rattle.task_graph.specs.Graphs.{task_at, no_task, shape_of, bytes}
use Rattle.task_graph.specs.Orders.{position, moved_task, renumbered}
use Rattle.task_graph.proofs.Making.{deps-at}
use Rattle.task_graph.specs.declared.limit.Quantity.{Quantity}
use Rattle.task_graph.specs.declared.limit.Quantity.TheVariants.{Keys, Edges, BlockBytes}
use Rattle.lowering_laws.specs.Lowered.{lowering, lowered, limit_from, limit_of}
use Rattle.lowering_laws.specs.Whole.{LawOfOrder}
use Rattle.lowering_laws.proofs.Counting.{sum_below, sum_over, AreDistinct, distinct-sum, distinct-from, sum-ones, below-ones, total-below, total-bounded}
use Rattle.lowering_laws.proofs.MadeTasks.{all-lowered}
use Rattle.lowering_laws.proofs.Fed.{dims_at}
use Rattle.task_graph.proofs.Renumbered.{task-moved}
use Rattle.lowering_laws.proofs.Runs.{Ordering, run-order}
use Rattle.task_graph.proofs.Bounds.{ascending-length}
use Rattle.task_graph.proofs.Moving.{member-edges}

-- ---- what the limits leave

record IsWithin (keys edges : ℕ) (tasks : List Task) : Type 0 where
  few : keys + length tasks ≤ 32768
  few_edges : edges + total_length (map (λ (t : Task). t.deps) tasks) ≤ 262144
  small : AllByRecursion (λ (t : Task). t.nbytes ≤ 134217728) tasks

-- none of three tests holds, where nothing is answered
record NoneOf (a b c : Bool) (more : Option Quantity) : Type 0 where
  first : a ≡ false
  second : b ≡ false
  third : c ≡ false
  rest : more ≡ None

none-of : (a b c : Bool) (x y z : Quantity) (more : Option Quantity) → cond a (Some x) (cond b (Some y) (cond c (Some z) more)) ≡ None → NoneOf a b c more
none-of true b c x y z more h = absurd cc
none-of false true c x y z more h = absurd cc
none-of false false true x y z more h = absurd cc
none-of false false false x y z more h = record { first = refl; second = refl; third = refl; rest = h }

within-from : (tasks : List Task) (keys edges : ℕ) → keys ≤ 32768 → edges ≤ 262144 → limit_from keys edges tasks ≡ None → IsWithin keys edges tasks
within-from [] keys edges a b h = record { few = omega arith; few_edges = omega arith; small = tt }
within-from (t ∷ ts) keys edges a b h =
    let n : NoneOf (nat_lt 32767 keys) (nat_lt 262144 (edges + length t.deps)) (nat_lt 134217728 t.nbytes) (limit_from (suc keys) (edges + length t.deps) ts) = none-of _ _ _ Keys Edges BlockBytes _ h in
    let lk : keys ≤ 32767 = ltb-false 32767 keys n.first in
    let le : edges + length t.deps ≤ 262144 = ltb-false 262144 (edges + length t.deps) n.second in
    let lb : t.nbytes ≤ 134217728 = ltb-false 134217728 t.nbytes n.third in
    let r : IsWithin (suc keys) (edges + length t.deps) ts = within-from ts (suc keys) (edges + length t.deps) (omega arith) le n.rest in
    let rf = r.few in
    let re = r.few_edges in
    record { few = omega arith; few_edges = omega arith; small = (lb, r.small) }

-- ---- bytes and work

-- the bytes of the block, and these with the bytes of the inputs
pub record IsCosted (t : Task) : Type 0 where
  pub bytes_are : t.nbytes ≡ bytes (result_shape t.spec)
  pub work_is : t.work ≡ bytes (result_shape t.spec) + total (map bytes (input_shapes t.spec))

pub lowered-costed : (nodes : List Node) → AllByRecursion IsCosted (lowering nodes).tasks
lowered-costed nodes = all-lowered IsCosted (λ spec deps. record { bytes_are = refl; work_is = refl }) nodes

at-place : (P : Task → Type 0) (tasks : List Task) (k : ℕ) → AllByRecursion P tasks → k < length tasks → P (task_at tasks k)
at-place P [] k a h = absurd (omega arith)
at-place P (t ∷ ts) zero a h = a.0
at-place P (t ∷ ts) (suc k) a h = at-place P ts k a.1 (omega arith)

map-after : (f g : ℕ → List ℕ) (h : List ℕ → ℕ) (xs : List ℕ) → map h (map f xs) ≡ map (λ x. h (f x)) xs
map-after f g h [] = refl
map-after f g h (x ∷ xs) = ap (λ ys. h (f x) ∷ ys) (map-after f g h xs)

-- ---- keys and edges under new numbers

if-length : (b : Bool) (xs ys : List ℕ) (m : ℕ) → length xs ≤ m → length ys ≤ m → length (cond b xs ys) ≤ m
if-length true xs ys m a b = a
if-length false xs ys m a b = b

moved-edges : (tasks : List Task) (all order : List ℕ) → total_length (map (λ (t : Task). t.deps) (map (λ old. moved_task (map (position all) (deps_of (shape_of tasks) old)) (task_at tasks old)) order)) ≤ sum_over order (λ k. length (deps_of (shape_of tasks) k))
moved-edges tasks all [] = omega arith
moved-edges tasks all (old ∷ order) =
    let r = moved-edges tasks all order in
    let a = ascending-length (map (position all) (deps_of (shape_of tasks) old)) in
    let n = length-map (deps_of (shape_of tasks) old) (position all) in
    step _ _ _ _ _ a n r
  where
    step : (a k d s t : ℕ) → a ≤ k → k ≡ d → s ≤ t → a + s ≤ d + t
    step a k d s t h e r = omega arith

-- ---- the shape

pub limits-law : (nodes : List Node) (saves : List ℕ) → IsExpression nodes → All (λ n. n < length nodes) saves → LawOfOrder nodes saves → limit_of nodes ≡ None → IsShape (shape_of (lowered nodes saves).tasks)
limits-law nodes saves ex inside law h =
    let tasks = (lowering nodes).tasks in
    let o : Ordering nodes saves = run-order nodes saves ex inside in
    let order = o.order in
    let w : IsWithin 0 0 (lowering nodes).tasks = within-from (lowering nodes).tasks 0 0 (omega arith) (omega arith) h in
    let costed : AllByRecursion IsCosted (lowering nodes).tasks = lowered-costed nodes in
    let run : renumbered (lowering nodes).tasks order ≡ (lowered nodes saves).tasks = o.run_is in
    let distinct : AreDistinct order = distinct-from order o.behind.fresh in
    let number : length (renumbered tasks order) ≡ length order = length-map order (λ old. moved_task (map (position order) (deps_of (shape_of tasks) old)) (task_at tasks old)) in
    let keys : length order ≤ length tasks = few-keys order (length tasks) (distinct-sum order (length tasks) (λ k. 1) distinct o.small) in
    let edges : total_length (map (λ (t : Task). t.deps) (renumbered tasks order)) ≤ total_length (map (λ (t : Task). t.deps) tasks) = few-edges tasks order (moved-edges tasks order order) (distinct-sum order (length tasks) (λ k. length (deps_of (shape_of tasks) k)) distinct o.small) in
    let wf = w.few in
    let we = w.few_edges in
    let count : length (map (λ (t : Task). t.deps) (renumbered tasks order)) ≡ length (renumbered tasks order) = length-map (renumbered tasks order) (λ (t : Task). t.deps) in
    subst (λ (ts : List Task). IsShape (shape_of ts)) run (record {
      work_each = length-map (renumbered tasks order) (λ (t : Task). t.work) ∙ sym count;
      nbytes_each = length-map (renumbered tasks order) (λ (t : Task). t.nbytes) ∙ sym count;
      few = omega arith;
      few_edges = omega arith;
      below = subst (λ (ts : List Task). (k : ℕ) → AllByRecursion (λ d. d < k) (deps_of (shape_of ts) k)) (sym run) law.run.below.below;
      rising = subst (λ (ts : List Task). (k : ℕ) → IsStrictlyIncreasing (deps_of (shape_of ts) k)) (sym run) law.run.rising;
      light = λ k. light tasks order k w costed law.fed.each;
      small = λ k. small tasks order k w;
    })
  where
    few-keys : (order : List ℕ) (n : ℕ) → sum_over order (λ k. 1) ≤ sum_below n (λ k. 1) → length order ≤ n
    few-keys order n h = omega (arith, sum-ones order, below-ones n)

    few-edges : (tasks : List Task) (order : List ℕ) → total_length (map (λ (t : Task). t.deps) (renumbered tasks order)) ≤ sum_over order (λ k. length (deps_of (shape_of tasks) k))
        → sum_over order (λ k. length (deps_of (shape_of tasks) k)) ≤ sum_below (length tasks) (λ k. length (deps_of (shape_of tasks) k))
        → total_length (map (λ (t : Task). t.deps) (renumbered tasks order)) ≤ total_length (map (λ (t : Task). t.deps) tasks)
    few-edges tasks order a b =
        let n : length (map (λ (t : Task). t.deps) tasks) ≡ length tasks = length-map tasks (λ (t : Task). t.deps) in
        let e : sum_below (length tasks) (λ k. length (deps_of (shape_of tasks) k)) ≡ total_length (map (λ (t : Task). t.deps) tasks) =
        ap (λ m. sum_below m (λ k. length (deps_of (shape_of tasks) k))) (sym n) ∙ total-below (map (λ (t : Task). t.deps) tasks) in
        omega arith

    -- each task's bytes
    old-small : (tasks : List Task) (k : ℕ) → IsWithin 0 0 tasks → (task_at tasks k).nbytes ≤ 134217728
    old-small tasks k w = elim (cases_lt k (length tasks)) [
      | inl lt ↦ at-place (λ (t : Task). t.nbytes ≤ 134217728) tasks k w.small lt
      | inr ge ↦ subst (λ (t : Task). t.nbytes ≤ 134217728) (sym (get_or_past tasks k no_task ge)) (omega arith)
    ]

    small : (tasks : List Task) (order : List ℕ) (k : ℕ) → IsWithin 0 0 tasks → get_or (map (λ (t : Task). t.nbytes) (renumbered tasks order)) k 0 ≤ 2 ^ 27
    small tasks order k w =
        let is : get_or (map (λ (t : Task). t.nbytes) (renumbered tasks order)) k 0 ≡ (task_at (renumbered tasks order) k).nbytes = get_or-map (λ (t : Task). t.nbytes) (renumbered tasks order) k no_task in
        elim (cases_lt k (length order)) [
          | inl lt ↦ let e : (task_at (renumbered tasks order) k).nbytes ≡ (task_at tasks (get_or order k 0)).nbytes = ap (λ (t : Task). t.nbytes) (task-moved tasks order k lt) in
              let s = old-small tasks (get_or order k 0) w in omega arith
          | inr ge ↦ let e : (task_at (renumbered tasks order) k).nbytes ≡ 0 = ap (λ (t : Task). t.nbytes) (get_or_past (renumbered tasks order) k no_task
              (omega (arith, length-map order (λ old. moved_task (map (position order) (deps_of (shape_of tasks) old)) (task_at tasks old))))) in omega arith
        ]

    dims-small : (tasks : List Task) (d : ℕ) → IsWithin 0 0 tasks → AllByRecursion IsCosted tasks → bytes (dims_at tasks d) ≤ 134217728
    dims-small tasks d w c = elim (cases_lt d (length tasks)) [
      | inl lt ↦ let i : IsCosted (task_at tasks d) = at-place IsCosted tasks d c lt in
          let e = i.bytes_are in
          let s = old-small tasks d w in omega arith
      | inr ge ↦ subst (λ (t : Task). bytes (result_shape t.spec) ≤ 134217728) (sym (get_or_past tasks d no_task ge)) (omega arith)
    ]

    old-light : (tasks : List Task) (k : ℕ) → IsWithin 0 0 tasks → AllByRecursion IsCosted tasks → ((k : ℕ) → map (dims_at tasks) (task_at tasks k).deps ≡ input_shapes (task_at tasks k).spec) → (task_at tasks k).work ≤ 70368744177664
    old-light tasks k w c fed = elim (cases_lt k (length tasks)) [
      | inl lt ↦
          let t = task_at tasks k in
          let i : IsCosted (task_at tasks k) = at-place IsCosted tasks k c lt in
          let own : bytes (result_shape t.spec) ≤ 134217728 = dims-small tasks k w c in
          let inputs : total (map bytes (input_shapes t.spec)) ≡ total (map (λ d. bytes (dims_at tasks d)) t.deps) = ap (λ nss. total (map bytes nss)) (sym (fed k)) ∙ ap total (map-after (dims_at tasks) (dims_at tasks) bytes t.deps) in
          let sum : total (map (λ d. bytes (dims_at tasks d)) t.deps) ≤ length t.deps * 134217728 = total-bounded t.deps (λ d. bytes (dims_at tasks d)) 134217728 (λ d. dims-small tasks d w c) in
          let deps : length t.deps ≤ total_length (map (λ (t : Task). t.deps) tasks) = subst (λ ds. length ds ≤ total_length (map (λ (t : Task). t.deps) tasks)) (deps-at tasks k) (member-edges (map (λ (t : Task). t.deps) tasks) k) in
          let we = w.few_edges in
          let wi = i.work_is in
          enough t.work (bytes (result_shape t.spec)) (total (map bytes (input_shapes t.spec))) (total (map (λ d. bytes (dims_at tasks d)) t.deps)) (length t.deps) (total_length (map (λ (t : Task). t.deps) tasks)) wi own inputs sum deps we
      | inr ge ↦ subst (λ (t : Task). t.work ≤ 70368744177664) (sym (get_or_past tasks k no_task ge)) (omega arith)
    ]
      where
        enough : (work own ins sum n e : ℕ) → work ≡ own + ins → own ≤ 134217728 → ins ≡ sum → sum ≤ n * 134217728 → n ≤ e → 0 + e ≤ 262144 → work ≤ 70368744177664
        enough work own ins sum n e a b c d f g = omega arith

    light : (tasks : List Task) (order : List ℕ) (k : ℕ) → IsWithin 0 0 tasks → AllByRecursion IsCosted tasks → ((k : ℕ) → map (dims_at tasks) (task_at tasks k).deps ≡ input_shapes (task_at tasks k).spec)
        → get_or (map (λ (t : Task). t.work) (renumbered tasks order)) k 0 ≤ 2 ^ 46
    light tasks order k w c fed =
        let is : get_or (map (λ (t : Task). t.work) (renumbered tasks order)) k 0 ≡ (task_at (renumbered tasks order) k).work = get_or-map (λ (t : Task). t.work) (renumbered tasks order) k no_task in
        elim (cases_lt k (length order)) [
          | inl lt ↦ let e : (task_at (renumbered tasks order) k).work ≡ (task_at tasks (get_or order k 0)).work = ap (λ (t : Task). t.work) (task-moved tasks order k lt) in
              let s = old-light tasks (get_or order k 0) w c fed in omega arith
          | inr ge ↦ let e : (task_at (renumbered tasks order) k).work ≡ 0 = ap (λ (t : Task). t.work) (get_or_past (renumbered tasks order) k no_task
              (omega (arith, length-map order (λ old. moved_task (map (position order) (deps_of (shape_of tasks) old)) (task_at tasks old))))) in omega arith
        ]
