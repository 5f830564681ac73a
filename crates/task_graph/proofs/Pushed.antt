-- What a graph takes as its next key keeps its bounds.
use Rattle.std.proofs.Common.{◌≡◌, ℕ, zero, suc, ◌+◌, ◌<◌, ◌≤◌, ◌^◌, Bool, true, false, ◌||◌, cond, List, [], ◌∷◌, ◌++◌, length, map, get_or, refl, ap, sym, ◌∙◌, subst, arith, Some, None}
use Rattle.std.specs.Prelude.{nat_lt, not, Option}
use Rattle.std.specs.List.{AllByRecursion}
use Rattle.std.specs.List.Sorted.{IsStrictlyIncreasing}
use Rattle.std.proofs.lemmas.List.{map_push}
use Rattle.std.proofs.Math.Numerals.{suc-eq-add-one}
use Rattle.std.proofs.lemmas.Bool.{ltb-false, ltb-true, le-ltb, lt-ltb}
use Rattle.cluster_msgs.specs.Shape.{IsShape, Follows, pushed, edge_count}
use Rattle.cluster_msgs.specs.Stored.{told, IsUnfit}
use Rattle.cluster_msgs.specs.declared.shape.GraphRow.{GraphRow}
use Rattle.cluster_msgs.proofs.ShapeLemmas.{IsShape-pushed, total_length-append}
use Rattle.task_graph.specs.declared.graph.Task.{Task}
use Rattle.task_graph.specs.declared.limit.Quantity.{Quantity}
use Rattle.task_graph.specs.declared.limit.Quantity.TheVariants.{Keys, Edges, BlockBytes}
use Rattle.task_graph.specs.Graphs.{shape_of}
use Rattle.task_graph.specs.Pushes.{first_bad, limit_passed, first_refusal, refusal, row_of}

-- ---- dependencies

record IsNext (key least d : ℕ) (ds : List ℕ) : Type 0 where
  low : least ≤ d
  high : d < key
  rest : first_bad key (suc d) ds ≡ None

next-of : (key least d : ℕ) (ds : List ℕ) → first_bad key least (d ∷ ds) ≡ None → IsNext key least d ds
next-of key least d ds h = by_tests (nat_lt d least) (nat_lt d key) refl refl h
  where
    by_tests : (a b : Bool) → nat_lt d least ≡ a → nat_lt d key ≡ b → cond (a || not b) (Some d) (first_bad key (suc d) ds) ≡ None → IsNext key least d ds
    by_tests true b p q h = absurd cc
    by_tests false true p q h = record { low = ltb-false d least p; high = ltb-true d key q; rest = h }
    by_tests false false p q h = absurd cc

-- where the next dependency isn't at fault, those behind it decide
pub bad-later : (key least d : ℕ) (ds : List ℕ) → least ≤ d → d < key → first_bad key least (d ∷ ds) ≡ first_bad key (d + 1) ds
bad-later key least d ds low high = ap (λ b. cond (b || not (nat_lt d key)) (Some d) (first_bad key (suc d) ds)) (le-ltb d least low) ∙ ap (λ b. cond (not b) (Some d) (first_bad key (suc d) ds)) (lt-ltb d key high)
    ∙ ap (λ n. first_bad key n ds) (suc-eq-add-one d)

pub bad-below : (key least d : ℕ) (ds : List ℕ) → d < least → first_bad key least (d ∷ ds) ≡ Some d
bad-below key least d ds h = ap (λ b. cond (b || not (nat_lt d key)) (Some d) (first_bad key (suc d) ds)) (lt-ltb d least h)

pub bad-above : (key least d : ℕ) (ds : List ℕ) → key ≤ d → first_bad key least (d ∷ ds) ≡ Some d
bad-above key least d ds h = by_test (nat_lt d least) ∙ refl
  where
    first : (b : Bool) → cond (b || true) (Some d) (first_bad key (suc d) ds) ≡ Some d
    first true = refl
    first false = refl

    by_test : (b : Bool) → cond (b || not (nat_lt d key)) (Some d) (first_bad key (suc d) ds) ≡ Some d
    by_test b = ap (λ x. cond (b || not x) (Some d) (first_bad key (suc d) ds)) (le-ltb d key h) ∙ first b

pub deps-below : (key least : ℕ) (ds : List ℕ) → first_bad key least ds ≡ None → AllByRecursion (λ d. d < key) ds
deps-below key least [] h = tt
deps-below key least (d ∷ ds) h = let n = next-of key least d ds h in (n.high, deps-below key (suc d) ds n.rest)

first-from : (key least : ℕ) (ds : List ℕ) → first_bad key least ds ≡ None → 0 < length ds → least ≤ get_or ds 0 0
first-from key least [] h lt = absurd (omega arith)
first-from key least (d ∷ ds) h lt = let n = next-of key least d ds h in n.low

pub deps-rise : (key least : ℕ) (ds : List ℕ) → first_bad key least ds ≡ None → (k : ℕ) → k + 1 < length ds → get_or ds k 0 < get_or ds (k + 1) 0
deps-rise key least [] h k lt = absurd (omega arith)
deps-rise key least (d ∷ ds) h zero lt = let n = next-of key least d ds h in let f : suc d ≤ get_or ds 0 0 = first-from key (suc d) ds n.rest (omega arith) in omega arith
deps-rise key least (d ∷ ds) h (suc k) lt =
    let n = next-of key least d ds h in
    let one : suc (k + 1) ≡ suc k + 1 = omega arith in
    subst (λ m. get_or ds k 0 < get_or (d ∷ ds) m 0) one (deps-rise key (suc d) ds n.rest k (omega arith))

-- ---- limits

record IsWithin (keys edges : ℕ) (t : Task) : Type 0 where
  room : keys < 32768
  edges_fit : edges + length t.deps ≤ 262144
  small : t.nbytes ≤ 134217728

within : (keys edges : ℕ) (t : Task) → limit_passed keys edges t ≡ None → IsWithin keys edges t
within keys edges t h = by_tests (nat_lt 32767 keys) (nat_lt 262144 (edges + length t.deps)) (nat_lt 134217728 t.nbytes) refl refl refl h
  where
    by_tests : (a b c : Bool) → nat_lt 32767 keys ≡ a → nat_lt 262144 (edges + length t.deps) ≡ b → nat_lt 134217728 t.nbytes ≡ c
        → cond a (Some Keys) (cond b (Some Edges) (cond c (Some BlockBytes) None)) ≡ None → IsWithin keys edges t
    by_tests true b c p q r h = absurd cc
    by_tests false true c p q r h = absurd cc
    by_tests false false true p q r h = absurd cc
    by_tests false false false p q r h = record {
      room = let x : keys ≤ 32767 = ltb-false 32767 keys p in omega arith;
      edges_fit = ltb-false 262144 (edges + length t.deps) q;
      small = ltb-false 134217728 t.nbytes r;
    }

-- ---- a task that isn't refused

none-refused : (o : Option ℕ) (q : Option Quantity) → first_refusal o q ≡ None → (o ≡ None) × (q ≡ None)
none-refused (Some d) q h = absurd cc
none-refused None (Some q) h = absurd cc
none-refused None None h = (refl, refl)

pub follows : (tasks : List Task) (t : Task) → refusal (length tasks) (edge_count (shape_of tasks)) t ≡ None → t.work ≤ 2 ^ 46 → Follows (shape_of tasks) t.deps t.work t.nbytes
follows tasks t h light =
    let r = none-refused (first_bad (length tasks) 0 t.deps) (limit_passed (length tasks) (edge_count (shape_of tasks)) t) h in
    let w = within (length tasks) (edge_count (shape_of tasks)) t r.1 in
    let count : length (map (λ (t : Task). t.deps) tasks) ≡ length tasks = length-map-deps tasks in
    record {
      room = subst (λ n. n < 32768) (sym count) w.room;
      edges = w.edges_fit;
      rising = deps-rise (length tasks) 0 t.deps r.0;
      below = subst (λ n. AllByRecursion (λ d. d < n) t.deps) (sym count) (deps-below (length tasks) 0 t.deps r.0);
      light = light;
      small = w.small;
    }
  where
    length-map-deps : (tasks : List Task) → length (map (λ (t : Task). t.deps) tasks) ≡ length tasks
    length-map-deps [] = refl
    length-map-deps (t ∷ ts) = ap suc (length-map-deps ts)

pub shape-push : (tasks : List Task) (t : Task) → shape_of (tasks ++ t ∷ []) ≡ pushed (shape_of tasks) t.deps t.work t.nbytes
shape-push tasks t = λ i. record {
  deps = map_push (λ (r : Task). r.deps) tasks t i;
  work = map_push (λ (r : Task). r.work) tasks t i;
  nbytes = map_push (λ (r : Task). r.nbytes) tasks t i;
}

pub more-shape : (tasks : List Task) (t : Task) → Follows (shape_of tasks) t.deps t.work t.nbytes → IsShape (shape_of tasks) → IsShape (shape_of (tasks ++ t ∷ []))
more-shape tasks t b s = rw shape-push (IsShape-pushed (shape_of tasks) t.deps t.work t.nbytes s b.room b.edges b.rising b.below b.light b.small)

pub more-edges : (tasks : List Task) (t : Task) → edge_count (shape_of (tasks ++ t ∷ [])) ≡ edge_count (shape_of tasks) + length t.deps
more-edges tasks t = ap edge_count (shape-push tasks t) ∙ total_length-append _ _

-- ---- rows

pub told-rows : (tasks : List Task) → told (map row_of tasks) ≡ shape_of tasks
told-rows tasks = λ i. record {
  deps = mapped (λ (r : GraphRow). r.deps) tasks i;
  work = mapped (λ (r : GraphRow). r.work) tasks i;
  nbytes = mapped (λ (r : GraphRow). r.nbytes) tasks i;
}
  where
    mapped : {A : Type 0} (f : GraphRow → A) (tasks : List Task) → map f (map row_of tasks) ≡ map (λ (t : Task). f (row_of t)) tasks
    mapped f [] = refl
    mapped f (t ∷ ts) = ap (λ xs. f (row_of t) ∷ xs) (mapped f ts)

-- the row behind others
row-at : {A : Type 0} (f : GraphRow → A) (before after : List GraphRow) (row : GraphRow) (d : A) → get_or (map f (before ++ row ∷ after)) (length before) d ≡ f row
row-at f [] after row d = refl
row-at f (b ∷ before) after row d = row-at f before after row d

rows-count : (before after : List GraphRow) (row : GraphRow) → length (map (λ (r : GraphRow). r.deps) (before ++ row ∷ after)) ≡ length before + suc (length after)
rows-count [] after row = ap suc (plain after) ∙ omega arith
  where
    plain : (xs : List GraphRow) → length (map (λ (r : GraphRow). r.deps) xs) ≡ length xs
    plain [] = refl
    plain (x ∷ xs) = ap suc (plain xs)
rows-count (b ∷ before) after row = let r = rows-count before after row in omega arith

deps-count : (rows : List GraphRow) → length (map (λ (r : GraphRow). r.deps) rows) ≡ length rows
deps-count [] = refl
deps-count (x ∷ xs) = ap suc (deps-count xs)

rows-edges : (before after : List GraphRow) (row : GraphRow) → edge_count (told before) + length row.deps ≤ edge_count (told (before ++ row ∷ after))
rows-edges [] after row = omega arith
rows-edges (b ∷ before) after row = let r : edge_count (told before) + length row.deps ≤ edge_count (told (before ++ row ∷ after)) = rows-edges before after row in omega arith

follows-before : (before after : List GraphRow) (row : GraphRow) → IsShape (told (before ++ row ∷ after)) → Follows (told before) row.deps row.work row.nbytes
follows-before before after row s =
    let n = length before in
    let e : get_or (map (λ (r : GraphRow). r.deps) (before ++ row ∷ after)) (length before) [] ≡ row.deps = row-at (λ (r : GraphRow). r.deps) before after row [] in
    let few : length (map (λ (r : GraphRow). r.deps) (before ++ row ∷ after)) ≤ 32768 = s.few in
    let many : length (map (λ (r : GraphRow). r.deps) (before ++ row ∷ after)) ≡ length before + suc (length after) = rows-count before after row in
    let count : length (map (λ (r : GraphRow). r.deps) before) ≡ length before = deps-count before in
    let edges : edge_count (told (before ++ row ∷ after)) ≤ 262144 = s.few_edges in
    let part : edge_count (told before) + length row.deps ≤ edge_count (told (before ++ row ∷ after)) = rows-edges before after row in
    record {
      room = omega arith;
      edges = omega arith;
      rising = subst IsStrictlyIncreasing e (s.rising (length before));
      below = subst (λ m. AllByRecursion (λ d. d < m) row.deps) (sym count) (subst (λ ds. AllByRecursion (λ d. d < length before) ds) e (s.below (length before)));
      light = subst (λ w. w ≤ 2 ^ 46) (row-at (λ (r : GraphRow). r.work) before after row 0) (s.light (length before));
      small = subst (λ w. w ≤ 2 ^ 27) (row-at (λ (r : GraphRow). r.nbytes) before after row 0) (s.small (length before));
    }

-- the rows of a graph are never refused
pub never-unfit : (tasks : List Task) (key : ℕ) → IsShape (shape_of tasks) → IsUnfit (map row_of tasks) key → ⊥
never-unfit tasks key s u =
    let all : IsShape (told (map row_of tasks)) = subst IsShape (sym (told-rows tasks)) s in
    u.unfit (follows-before u.before u.after u.row (subst (λ (rs : List GraphRow). IsShape (told rs)) u.whole all))
