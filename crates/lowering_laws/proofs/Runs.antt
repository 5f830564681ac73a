-- What the keys of saved blocks hold in the graph that is run.
use Rattle.std.proofs.Common.{◌≡◌, ℕ, zero, suc, ◌-◌, ◌<◌, List, [], ◌∷◌, length, map, get_or, refl, ap, sym, subst, ◌∙◌, arith, inl, inr, ℤ}
use Rattle.std.specs.Prelude.{All, Contains, None, slice_index_or}
use Rattle.std.specs.List.{AllByRecursion, flat_map}
use Rattle.std.proofs.lemmas.List.{length-map, get_or-map, get_or_past}
use Rattle.std.proofs.lemmas.List.FromFn.{length-map-range_with_len, get_or-map-range_with_len}
use Rattle.array_expr.specs.declared.expr.Node.{Node}
use Rattle.array_expr.specs.Node.{IsExpression, shape_at}
use Rattle.chunk_layout.specs.Layouts.{blocks}
use Rattle.cluster_msgs.specs.Shape.{deps_of}
use Rattle.task_graph.specs.Graphs.{shape_of, task_at, no_task, value}
use Rattle.task_graph.specs.declared.graph.Task.{Task}
use Rattle.task_graph.proofs.Making.{deps-at}
use Rattle.nd_grid.proofs.Turning.{position-below, position-at}
use Rattle.std.specs.List.Sorted.{IsStrictlyIncreasing}
use Rattle.std.proofs.lemmas.Bool.{cases_lt}
use Rattle.std.proofs.lemmas.List.Elements.{Contains-append_left, Contains-append_right}
use Rattle.small_facts.proofs.Every.{all_join, all_from_places}
use Rattle.task_graph.specs.Orders.{position, ascending, depth_first, moved_task, renumbered}
use Rattle.lowering_laws.specs.Sources.{Source, key_of}
use Rattle.lowering_laws.specs.Lowered.{source_at, lowering, lowered, keys_of}
use Rattle.lowering_laws.specs.Built.{AreBuilt}
use Rattle.lowering_laws.specs.Whole.{IsSound, LawOfOrder, LawOfLowered, saved_key}
use Rattle.lowering_laws.proofs.Good.{IsBelow}
use Rattle.lowering_laws.proofs.Order.{IsKnown, AllKnown, AreLowered, lowering-order, good-earlier, good-rising, good-fit}
use Rattle.task_graph.proofs.Visits.{IsOrder, depth-first, depth-first-below, numbering, renumbered-earlier}
use Rattle.task_graph.proofs.Rising.{ascending-rises, rising-increasing}
use Rattle.block_kernels.specs.Kernels.{input_shapes}
use Rattle.chunk_layout.specs.Layouts.{counts, region}
use Rattle.nd_shape.specs.Index.{place, index_at}
use Rattle.nd_shape.proofs.Places.{place-index_at, index_at-in}
use Rattle.lowering_laws.proofs.Fed.{dims_at}
use Rattle.lowering_laws.proofs.FedMoved.{dims-moved, fed-moved}
use Rattle.task_graph.specs.Numberings.{AreFit, AreBehind, IsNumbering}
use Rattle.lowering_laws.proofs.Shapes.{IsShapely, lowering-shapes}
use Rattle.task_graph.proofs.Moved.{renumbered-fit}
use Rattle.lowering_laws.proofs.Saved.{culled-law}

pub length-keys : (s : Source) → length (keys_of s) ≡ blocks s.layout
length-keys s = length-map-range_with_len (key_of s) 0 (blocks s.layout)

key-number : (s : Source) (c d : ℕ) → c < blocks s.layout → get_or (keys_of s) c d ≡ key_of s c
key-number s c d h = get_or-map-range_with_len (key_of s) 0 (blocks s.layout) c c d h (omega arith)

keys-below : (bound : ℕ) (s : Source) → IsBelow bound s → AllByRecursion (λ k. k < bound) (keys_of s)
keys-below bound s b = all_from_places (λ k. k < bound) (keys_of s) (λ i l. let lt : i < blocks s.layout = omega (arith, length-keys s) in subst (λ k. k < bound) (sym (key-number s i 0 lt)) (b.keys i lt))

abbrev pub wanted_keys : List Source → List ℕ → List (List ℕ)
wanted_keys sources saves = map (λ n. keys_of (source_at sources n)) saves

all-wanted : (bound : ℕ) (nodes : List Node) (sources : List Source) (saves : List ℕ) → All (λ n. n < length nodes) saves → AllKnown bound nodes sources (length nodes) → AllByRecursion (λ k. k < bound) (flat_map (λ ks. ks) (wanted_keys sources saves))
all-wanted bound nodes sources [] a known = tt
all-wanted bound nodes sources (n ∷ saves) a known =
    let it : IsKnown bound (source_at sources n) (shape_at nodes n) = known n (a 0 0 (omega arith)) in
    all_join (λ k. k < bound) (keys_of (source_at sources n)) (flat_map (λ ks. ks) (wanted_keys sources saves)) (keys-below bound (source_at sources n) it.below)
    (all-wanted bound nodes sources saves (λ j d lt. a (suc j) d (omega (arith, lt))) known)

has-wanted : (sources : List Source) (saves : List ℕ) (j c : ℕ) → j < length saves → c < blocks (source_at sources (get_or saves j 0)).layout → Contains (flat_map (λ ks. ks) (wanted_keys sources saves)) (key_of (source_at sources (get_or saves j 0)) c)
has-wanted sources [] j c lj lc = absurd (omega arith)
has-wanted sources (n ∷ saves) zero c lj lc =
    Contains-append_left (keys_of (source_at sources n)) (flat_map (λ ks. ks) (wanted_keys sources saves)) (key_of (source_at sources n) c)
    (c, omega (arith, lc, length-keys (source_at sources n)), key-number (source_at sources n) c (key_of (source_at sources n) c) lc)
has-wanted sources (n ∷ saves) (suc j) c lj lc =
    Contains-append_right (keys_of (source_at sources n)) (flat_map (λ ks. ks) (wanted_keys sources saves)) (key_of (source_at sources (get_or saves j 0)) c) (has-wanted sources saves j c (omega arith) lc)

-- the new number of a saved block's key
saved-at : (nodes : List Node) (saves : List ℕ) (j c : ℕ) → j < length saves → c < blocks (source_at (lowering nodes).sources (get_or saves j 0)).layout
    → saved_key nodes saves j c ≡ position (depth_first (lowering nodes).tasks (flat_map (λ ks. ks) (wanted_keys (lowering nodes).sources saves))) (key_of (source_at (lowering nodes).sources (get_or saves j 0)) c)
saved-at nodes saves j c lj lc =
    let sources = (lowering nodes).sources in
    let wanted = wanted_keys sources saves in
    let order = depth_first (lowering nodes).tasks (flat_map (λ ks. ks) wanted) in
    let s = source_at sources (get_or saves j 0) in
    let row : get_or (map (λ ks. map (position order) ks) wanted) j [] ≡ map (position order) (keys_of s) =
    get_or-map (λ ks. map (position order) ks) wanted j [] [] (omega (arith, lj, length-map saves (λ n. keys_of (source_at sources n)))) ∙ ap (λ ks. map (position order) ks) (get_or-map (λ n. keys_of (source_at sources n)) saves j 0 [] lj) in
    ap (λ (ks : List ℕ). get_or ks c 0) row ∙ get_or-map (position order) (keys_of s) c 0 0 (omega (arith, lc, length-keys s)) ∙ ap (position order) (key-number s c 0 lc)

-- the keys that are run, in the order of their new numbers
pub record Ordering (nodes : List Node) (saves : List ℕ) : Type 0 where
  pub order : List ℕ
  pub run_is : renumbered (lowering nodes).tasks order ≡ (lowered nodes saves).tasks
  pub names_are : map (λ k. slice_index_or (lowering nodes).names k None) order ≡ (lowered nodes saves).names
  pub saved_are : map (λ ks. map (position order) ks) (wanted_keys (lowering nodes).sources saves) ≡ (lowered nodes saves).saved
  pub behind : AreBehind (deps_of (shape_of (lowering nodes).tasks)) order
  pub small : AllByRecursion (λ k. k < length (lowering nodes).tasks) order
  pub has : (j c : ℕ) → j < length saves → c < blocks (source_at (lowering nodes).sources (get_or saves j 0)).layout → Contains order (key_of (source_at (lowering nodes).sources (get_or saves j 0)) c)
  pub saved : (j c : ℕ) → j < length saves → c < blocks (source_at (lowering nodes).sources (get_or saves j 0)).layout
      → saved_key nodes saves j c ≡ position order (key_of (source_at (lowering nodes).sources (get_or saves j 0)) c)

pub run-order : (nodes : List Node) (saves : List ℕ) → IsExpression nodes → All (λ n. n < length nodes) saves → Ordering nodes saves
run-order nodes saves ex inside =
    let l : AreLowered nodes (lowering nodes) = lowering-order nodes ex in
    let tasks = (lowering nodes).tasks in
    let sources = (lowering nodes).sources in
    let flat = flat_map (λ ks. ks) (wanted_keys sources saves) in
    let e = good-earlier tasks l.good in
    let below = all-wanted (length tasks) nodes sources saves inside l.known in
    let o : IsOrder (deps_of (shape_of tasks)) flat (depth_first tasks flat) = depth-first tasks flat e below in
    record {
      order = depth_first tasks flat;
      run_is = refl;
      names_are = refl;
      saved_are = refl;
      behind = o.sound;
      small = depth-first-below tasks flat e below;
      has = λ j c lj lc. o.has (key_of (source_at sources (get_or saves j 0)) c) (has-wanted sources saves j c lj lc);
      saved = saved-at nodes saves;
    }

all-number : (P : ℕ → Type 0) (xs : List ℕ) (j : ℕ) → All P xs → j < length xs → P (get_or xs j 0)
all-number P xs j a h = a j 0 h

pub lowered-law : (files : ℕ → List ℕ → ℤ) (nodes : List Node) (saves : List ℕ) → IsExpression nodes → AreBuilt nodes → All (λ n. n < length nodes) saves → LawOfLowered files nodes saves
lowered-law files nodes saves ex built inside = λ j c lj lc sound.
    let l : AreLowered nodes (lowering nodes) = lowering-order nodes ex in
    let tasks = (lowering nodes).tasks in
    let sources = (lowering nodes).sources in
    let flat = flat_map (λ ks. ks) (wanted_keys sources saves) in
    let order = depth_first tasks flat in
    let o : IsOrder (deps_of (shape_of tasks)) flat order = depth-first tasks flat (good-earlier tasks l.good) (all-wanted (length tasks) nodes sources saves inside l.known) in
    let n = get_or saves j 0 in
    let key : saved_key nodes saves j c ≡ position order (key_of (source_at sources n) c) = saved-at nodes saves j c lj lc in
    let r = culled-law files nodes order ex built o.sound n c (all-number (λ n. n < length nodes) saves j inside lj) lc (o.has (key_of (source_at sources n) c) (has-wanted sources saves j c lj lc))
    (subst (IsSound files (renumbered tasks order)) key sound) in
    (r.0, ap (value files (renumbered tasks order)) key ∙ r.1, r.2)

-- ---- order

renumbered-rising : (tasks : List Task) (order : List ℕ) (j : ℕ) → IsStrictlyIncreasing (deps_of (shape_of (renumbered tasks order)) j)
renumbered-rising tasks order j = elim (cases_lt j (length order)) [
  | inl lt ↦
      let is : deps_of (shape_of (renumbered tasks order)) j ≡ ascending (map (position order) (deps_of (shape_of tasks) (get_or order j 0))) =
      deps-at (renumbered tasks order) j ∙ ap (λ (t : Task). t.deps) (get_or-map (λ old. moved_task (map (position order) (deps_of (shape_of tasks) old)) (task_at tasks old)) order j 0 no_task lt) in
      subst IsStrictlyIncreasing (sym is) (rising-increasing (ascending (map (position order) (deps_of (shape_of tasks) (get_or order j 0)))) (ascending-rises (map (position order) (deps_of (shape_of tasks) (get_or order j 0)))))
  | inr ge ↦
      let is : deps_of (shape_of (renumbered tasks order)) j ≡ [] = deps-at (renumbered tasks order) j
      ∙ ap (λ (t : Task). t.deps) (get_or_past (renumbered tasks order) j no_task (omega (arith, length-map order (λ old. moved_task (map (position order) (deps_of (shape_of tasks) old)) (task_at tasks old))))) in
      subst IsStrictlyIncreasing (sym is) (rising-increasing [] tt)
]

pub order-law : (nodes : List Node) (saves : List ℕ) → IsExpression nodes → All (λ n. n < length nodes) saves → LawOfOrder nodes saves
order-law nodes saves ex inside =
    let l : AreLowered nodes (lowering nodes) = lowering-order nodes ex in
    let sh : IsShapely (lowering nodes).tasks nodes (lowering nodes) = lowering-shapes nodes ex in
    let tasks = (lowering nodes).tasks in
    let sources = (lowering nodes).sources in
    let flat = flat_map (λ ks. ks) (wanted_keys sources saves) in
    let order = depth_first tasks flat in
    let o : IsOrder (deps_of (shape_of tasks)) flat order = depth-first tasks flat (good-earlier tasks l.good) (all-wanted (length tasks) nodes sources saves inside l.known) in
    let fit : AreFit (lowering nodes).tasks = good-fit tasks l.good in
    let number : IsNumbering (lowering nodes).tasks order = numbering tasks order o.sound in
    let fed : (k : ℕ) → map (dims_at (lowering nodes).tasks) (task_at (lowering nodes).tasks k).deps ≡ input_shapes (task_at (lowering nodes).tasks k).spec = λ k. elim (cases_lt k (length tasks)) [
      | inl lt ↦ (sh.fed.at k lt).inputs
      | inr ge ↦ subst (λ (t : Task). map (dims_at tasks) t.deps ≡ input_shapes t.spec) (sym (get_or_past tasks k no_task ge)) refl
    ] in
    let count : length (renumbered (lowering nodes).tasks order) ≡ length order = length-map order (λ old. moved_task (map (position order) (deps_of (shape_of tasks) old)) (task_at tasks old)) in
    let shaped : (n c : ℕ) → n < length nodes → c < blocks (source_at (lowering nodes).sources n).layout → dims_at (lowering nodes).tasks (key_of (source_at (lowering nodes).sources n) c) ≡ (region (source_at (lowering nodes).sources n).layout c).lengths = λ n c ln lc.
    let s = source_at sources n in
    let back : place (counts s.layout) (index_at (counts s.layout) c) ≡ c = place-index_at (counts s.layout) c lc in
    ap (λ k. dims_at tasks (key_of s k)) (sym back) ∙ (sh.shaped n ln).at (index_at (counts s.layout) c) (index_at-in (counts s.layout) c lc) in
    let low : (j c : ℕ) → j < length saves → c < blocks (source_at (lowering nodes).sources (get_or saves j 0)).layout → Contains order (key_of (source_at (lowering nodes).sources (get_or saves j 0)) c) = λ j c lj lc.
    o.has (key_of (source_at sources (get_or saves j 0)) c) (has-wanted sources saves j c lj lc) in
    record {
      made = record { below = good-earlier tasks l.good; rising = good-rising tasks l.good };
      fit = fit;
      fed = record { each = fed };
      shaped = shaped;
      run = record { below = renumbered-earlier tasks order number; rising = renumbered-rising tasks order };
      run_fit = renumbered-fit tasks order fit;
      run_fed = record {
        each = λ k. elim (cases_lt k (length order)) [
          | inl lt ↦ fed-moved tasks order k fit number fed lt
          | inr ge ↦ subst (λ (t : Task). map (dims_at (renumbered tasks order)) t.deps ≡ input_shapes t.spec) (sym (get_or_past (renumbered tasks order) k no_task (omega arith))) refl
        ];
      };
      run_shaped = λ j c lj lc.
          let key = key_of (source_at sources (get_or saves j 0)) c in
          let new : saved_key nodes saves j c ≡ position order (key_of (source_at sources (get_or saves j 0)) c) = saved-at nodes saves j c lj lc in
          ap (dims_at (renumbered tasks order)) new ∙ dims-moved tasks order (position order (key_of (source_at sources (get_or saves j 0)) c)) fit number (position-below order (key_of (source_at sources (get_or saves j 0)) c) (low j c lj lc))
          ∙ ap (dims_at tasks) (position-at order (key_of (source_at sources (get_or saves j 0)) c) (low j c lj lc)) ∙ shaped (get_or saves j 0) c (all-number (λ n. n < length nodes) saves j inside lj) lc;
      saved = λ j c lj lc.
          let below : position order (key_of (source_at sources (get_or saves j 0)) c) < length order = position-below order (key_of (source_at sources (get_or saves j 0)) c) (low j c lj lc) in
          let new : saved_key nodes saves j c ≡ position order (key_of (source_at sources (get_or saves j 0)) c) = saved-at nodes saves j c lj lc in
          omega arith;
    }
