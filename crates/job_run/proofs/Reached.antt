-- Each key that is run is a saved one, or is reached from one: where all saved keys have values, so has each key.
use Rattle.std.proofs.Common.{◌≡◌, ℕ, ℤ, zero, suc, ◌<◌, true, false, List, [], ◌∷◌, ◌++◌, length, get_or, map, refl, ap, sym, subst, ◌∙◌, arith, Option, Some, None}
use Rattle.std.specs.Prelude.{All, Contains, IsSome}
use Rattle.std.specs.List.{AllByRecursion, flat_map}
use Rattle.std.proofs.lemmas.List.{get_or-map, length-map}
use Rattle.std.proofs.lemmas.List.FromFn.{get_or-map-range_with_len}
use Rattle.small_facts.proofs.Every.{all_join, all_from_members}
use Rattle.array_expr.specs.declared.expr.Node.{Node}
use Rattle.array_expr.specs.Node.{IsExpression}
use Rattle.nd_grid.proofs.Turning.{position-below, position-at}
use Rattle.chunk_layout.specs.Layouts.{blocks}
use Rattle.cluster_msgs.specs.Shape.{deps_of}
use Rattle.cluster_msgs.proofs.ValueLemmas.{val-bad}
use Rattle.cluster_msgs.specs.Dags.{IsEarlier}
use Rattle.task_graph.specs.declared.graph.Task.{Task}
use Rattle.task_graph.specs.Graphs.{operation, shape_of, task_at, value}
use Rattle.task_graph.specs.Numberings.{IsNumbering}
use Rattle.task_graph.specs.Orders.{is_in, moved_task, position, visit_all, visit_within, depth_first, renumbered}
use Rattle.task_graph.proofs.Renumbered.{renumbered-value}
use Rattle.task_graph.proofs.Visits.{IsOrder, depth-first, numbering}
use Rattle.lowering_laws.specs.Sources.{Source, key_of}
use Rattle.lowering_laws.specs.Lowered.{source_at, lowering, lowered, keys_of}
use Rattle.lowering_laws.specs.Whole.{LawOfOrder, saved_key}
use Rattle.lowering_laws.proofs.Order.{AreLowered, lowering-order}
use Rattle.lowering_laws.proofs.Runs.{order-law, length-keys, wanted_keys}

-- ## What a visit adds

-- whatever holds of a key and with it of its dependencies holds of all that a visit adds
module _ (deps : ℕ → List ℕ) (P : ℕ → Type 0) (closed : (k d : ℕ) → P k → Contains (deps k) d → P d) where
  visits-keep : (visit : ℕ → List ℕ → List ℕ) → ((k : ℕ) (done : List ℕ) → P k → AllByRecursion P done → AllByRecursion P (visit k done)) → (ks done : List ℕ) → AllByRecursion P ks → AllByRecursion P done →
      AllByRecursion P (visit_all visit ks done)
  visits-keep visit one [] done a b = b
  visits-keep visit one (k ∷ ks) done a b = visits-keep visit one ks (visit k done) a.1 (one k done a.0 b)

  visit-keeps : (f k : ℕ) (done : List ℕ) → P k → AllByRecursion P done → AllByRecursion P (visit_within f deps k done)
  visit-keeps zero k done p a = a
  visit-keeps (suc f) k done p a =
      elim (is_in done k) as (λ b. AllByRecursion P (elim b [ true ↦ done | false ↦ visit_all (visit_within f deps) (deps k) done ++ k ∷ [] ])) [
        | true ↦ a
        | false ↦ all_join P (visit_all (visit_within f deps) (deps k) done) (k ∷ [])
            (visits-keep (visit_within f deps) (visit-keeps f) (deps k) done (all_from_members P (deps k) (λ d c. closed k d p c)) a) (p, tt)
      ]

depth-keeps : (tasks : List Task) (P : ℕ → Type 0) → ((k d : ℕ) → P k → Contains (deps_of (shape_of tasks) k) d → P d) → (wanted : List ℕ) → AllByRecursion P wanted → AllByRecursion P (depth_first tasks wanted)
depth-keeps tasks P closed wanted a =
    let deps = deps_of (shape_of tasks) in
    visits-keep deps P closed (visit_within (length tasks) deps) (visit-keeps deps P closed (length tasks)) wanted [] a tt

-- ## Values

pub member : (P : ℕ → Type 0) (xs : List ℕ) (i : ℕ) → AllByRecursion P xs → i < length xs → P (get_or xs i 0)
member P [] i a h = absurd (omega arith)
member P (x ∷ xs) zero a h = a.0
member P (x ∷ xs) (suc i) a h = member P xs i a.1 (omega arith)

pub each : (P : ℕ → Type 0) (xs : List ℕ) → ((i : ℕ) → i < length xs → P (get_or xs i 0)) → AllByRecursion P xs
each P [] h = tt
each P (x ∷ xs) h = (h 0 (omega arith), each P xs (λ i l. h (suc i) (omega arith)))

key-number : (s : Source) (c : ℕ) → c < blocks s.layout → get_or (keys_of s) c 0 ≡ key_of s c
key-number s c h = get_or-map-range_with_len (key_of s) 0 (blocks s.layout) c c 0 h (omega arith)

pub all-parts : (P : ℕ → Type 0) (xs ys : List ℕ) → AllByRecursion P (xs ++ ys) → AllByRecursion P xs × AllByRecursion P ys
all-parts P [] ys a = (tt, a)
all-parts P (x ∷ xs) ys a = let r = all-parts P xs ys a.1 in ((a.0, r.0), r.1)

-- what holds of the keys of all saved blocks
all-wanted : (P : ℕ → Type 0) (sources : List Source) (saves : List ℕ) → ((j c : ℕ) → j < length saves → c < blocks (source_at sources (get_or saves j 0)).layout → P (key_of (source_at sources (get_or saves j 0)) c)) →
    AllByRecursion P (flat_map (λ ks. ks) (wanted_keys sources saves))
all-wanted P sources [] h = tt
all-wanted P sources (n ∷ saves) h =
    let s = source_at sources n in
    all_join P (keys_of s) (flat_map (λ ks. ks) (wanted_keys sources saves))
    (each P (keys_of s) (λ i l. let lt : i < blocks s.layout = omega (arith, length-keys s) in subst P (sym (key-number s i lt)) (h 0 i (omega arith) lt)))
    (all-wanted P sources saves (λ j c lj lc. h (suc j) c (omega arith) lc))

each-wanted : (P : ℕ → Type 0) (sources : List Source) (saves : List ℕ) → AllByRecursion P (flat_map (λ ks. ks) (wanted_keys sources saves)) → (j c : ℕ) → j < length saves → c < blocks (source_at sources (get_or saves j 0)).layout →
    P (key_of (source_at sources (get_or saves j 0)) c)
each-wanted P sources [] a j c lj lc = absurd (omega arith)
each-wanted P sources (n ∷ saves) a zero c lj lc =
    let s = source_at sources n in
    subst P (key-number s c lc) (member P (keys_of s) c (all-parts P (keys_of s) (flat_map (λ ks. ks) (wanted_keys sources saves)) a).0 (omega (arith, lc, length-keys s)))
each-wanted P sources (n ∷ saves) a (suc j) c lj lc =
    each-wanted P sources saves (all-parts P (keys_of (source_at sources n)) (flat_map (λ ks. ks) (wanted_keys sources saves)) a).1 j c (omega arith) lc

there : {A : Type 0} (below above : Option A) → (below ≡ None → above ≡ None) → IsSome above → IsSome below
there None above none some = subst IsSome (none refl) some
there (Some b) above none some = refl

-- a key's dependencies have values where it has one
valued-below : (files : ℕ → List ℕ → ℤ) (tasks : List Task) → IsEarlier (deps_of (shape_of tasks)) → (k d : ℕ) → IsSome (value files tasks k) → Contains (deps_of (shape_of tasks) k) d → IsSome (value files tasks d)
valued-below files tasks e k d some has =
    there (value files tasks d) (value files tasks k) (val-bad (deps_of (shape_of tasks)) (operation files tasks) e k d has) some

-- the new number of a saved block's key
saved-at : (nodes : List Node) (saves : List ℕ) (order : List ℕ) (j c : ℕ) → (lowered nodes saves).saved ≡ map (λ ks. map (position order) ks) (wanted_keys (lowering nodes).sources saves) → j < length saves →
    c < blocks (source_at (lowering nodes).sources (get_or saves j 0)).layout → saved_key nodes saves j c ≡ position order (key_of (source_at (lowering nodes).sources (get_or saves j 0)) c)
saved-at nodes saves order j c are lj lc =
    let sources = (lowering nodes).sources in
    let wanted = wanted_keys sources saves in
    let s = source_at sources (get_or saves j 0) in
    let row : get_or (lowered nodes saves).saved j [] ≡ map (position order) (keys_of s) =
    ap (λ (xs : List (List ℕ)). get_or xs j []) are ∙ (get_or-map (λ ks. map (position order) ks) wanted j [] [] (omega (arith, lj, length-map saves (λ n. keys_of (source_at sources n))))
    ∙ ap (λ ks. map (position order) ks) (get_or-map (λ n. keys_of (source_at sources n)) saves j 0 [] lj)) in
    ap (λ (ks : List ℕ). get_or ks c 0) row ∙ (get_or-map (position order) (keys_of s) c 0 0 (omega (arith, lc, length-keys s)) ∙ ap (position order) (key-number s c lc))

pub all-valued : (files : ℕ → List ℕ → ℤ) (nodes : List Node) (saves : List ℕ) → IsExpression nodes → All (λ n. n < length nodes) saves →
    ((j c : ℕ) → j < length saves → c < blocks (source_at (lowering nodes).sources (get_or saves j 0)).layout → IsSome (value files (lowered nodes saves).tasks (saved_key nodes saves j c))) →
    (k : ℕ) → k < length (lowered nodes saves).tasks → IsSome (value files (lowered nodes saves).tasks k)
all-valued files nodes saves ex inside has k h =
    let law : LawOfOrder nodes saves = order-law nodes saves ex inside in
    let l : AreLowered nodes (lowering nodes) = lowering-order nodes ex in
    let tasks = (lowering nodes).tasks in
    let sources = (lowering nodes).sources in
    let wanted = flat_map (λ ks. ks) (wanted_keys sources saves) in
    let order = depth_first tasks wanted in
    let small : AllByRecursion (λ i. i < length tasks) wanted = all-wanted (λ i. i < length tasks) sources saves (λ j c lj lc. (l.known (get_or saves j 0) (inside j 0 lj)).below.keys c lc) in
    let o : IsOrder (deps_of (shape_of tasks)) wanted order = depth-first tasks wanted law.made.below small in
    let number : IsNumbering tasks order = numbering tasks order o.sound in
    let same : (i : ℕ) → i < length order → value files (renumbered tasks order) i ≡ value files tasks (get_or order i 0) = renumbered-value files tasks order law.made.below law.run.below law.fit number in
    let P : ℕ → Type 0 = λ i. IsSome (value files tasks i) in
    let old : (j c : ℕ) → j < length saves → c < blocks (source_at sources (get_or saves j 0)).layout → P (key_of (source_at sources (get_or saves j 0)) c) = λ j c lj lc.
    let key = key_of (source_at sources (get_or saves j 0)) c in
    let in_order : Contains order key = each-wanted (Contains order) sources saves (all_from_members (Contains order) wanted o.has) j c lj lc in
    let at : value files (renumbered tasks order) (saved_key nodes saves j c) ≡ value files tasks key =
    ap (value files (renumbered tasks order)) (saved-at nodes saves order j c refl lj lc) ∙ (same (position order key) (position-below order key in_order) ∙ ap (value files tasks) (position-at order key in_order)) in
    subst IsSome at (has j c lj lc) in
    let all : AllByRecursion P order = depth-keeps tasks P (valued-below files tasks law.made.below) wanted (all-wanted P sources saves old) in
    let count : length (renumbered tasks order) ≡ length order = length-map order (λ old. moved_task (map (position order) (deps_of (shape_of tasks) old)) (task_at tasks old)) in
    let lt : k < length order = omega (arith, h, count) in
    subst IsSome (sym (same k lt)) (member P order k all lt)
