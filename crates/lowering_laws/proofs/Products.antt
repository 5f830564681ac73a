-- Sums of products over paired axes carry their formula.
use Rattle.std.proofs.Common.{◌≡◌, ℕ, zero, suc, ◌+◌, ◌*◌, ◌<◌, ◌≤◌, cond, Bool, true, false, List, [], ◌∷◌, ◌++◌, length, map, take, drop, get_or, refl, ap, sym, subst, ◌∙◌, arith, Some, ℤ, append-nil}
use Rattle.std.specs.Prelude.{nat_eq, Option}
use Rattle.std.specs.List.{position_or_len}
use Rattle.std.proofs.lemmas.List.{length-map, get_or-map}
use Rattle.std.proofs.lemmas.List.FromFn.{get_or-map-range_with_len, length-map-range_with_len}
use Rattle.std.proofs.lemmas.Grind.{same_number_lists}
use Rattle.nd_shape.specs.Block.{Array}
use Rattle.nd_shape.specs.Index.{IsIn, index_at}
use Rattle.nd_shape.specs.Region.{moved}
use Rattle.nd_shape.specs.Shape.{elements}
use Rattle.nd_shape.specs.Chunk.{total}
use Rattle.nd_shape.proofs.Places.{index_at-in, IsIn-length}
use Rattle.nd_shape.proofs.Axes.{IsIn-at}
use Rattle.nd_grid.specs.declared.operation.Binary.TheVariants.{Mul}
use Rattle.nd_grid.specs.declared.operation.Fold.TheVariants.{Sum}
use Rattle.nd_grid.specs.Operation.{combine}
use Rattle.nd_grid.specs.Grid.{Grid, Holds, grid_of, is_among, kept_shape, woven, contracted}
use Rattle.nd_grid.proofs.Cells.{block-at, block-shape}
use Rattle.nd_grid.proofs.Turning.{position-below, position-at, moved-at}
use Rattle.chunk_layout.specs.Layouts.{counts, lengths, starts_at, lengths_at, box_at}
use Rattle.chunk_layout.specs.Unions.{union}
use Rattle.chunk_layout.proofs.Unions.{total-union}
use Rattle.chunk_layout.proofs.Parting.{length-starts, length-lengths}
use Rattle.cluster_msgs.specs.Dags.{IsEarlier}
use Rattle.cluster_msgs.specs.Shape.{deps_of}
use Rattle.block_kernels.specs.declared.spec.Spec.TheVariants as kernels
use Rattle.block_kernels.specs.Kernels.{nth}
use Rattle.task_graph.specs.declared.graph.Task.{Task}
use Rattle.task_graph.specs.Graphs.{shape_of, value, task, task_at}
use Rattle.task_graph.proofs.Making.{Made, value-made}
use Rattle.lowering_laws.specs.Sources.{Source, key_at, fitted}
use Rattle.lowering_laws.specs.Stages.{Use, deps_of_uses, place_among, inputs_among, kept_axes, paired_sizes, with_sizes, product_task, product_blocks, contracted_blocks}
use Rattle.lowering_laws.specs.Boxes.{fold_box}
use Rattle.lowering_laws.specs.Law.{Carries, Stand, HaveChunks}
use Rattle.lowering_laws.proofs.Under.{drop-moved, drop-starts, drop-lengths, drop-counts, IsIn-drop}
use Rattle.lowering_laws.proofs.Plain.{starts-on, lengths-on}
use Rattle.lowering_laws.proofs.Carrying.{Stand-front, Stand-back, input-holds}
use Rattle.lowering_laws.proofs.Cutting.{some-union, some-each, some-kept, chunks-on}
use Rattle.lowering_laws.proofs.Fitting.{IsFitted, carries-fitted}
use Rattle.lowering_laws.proofs.Folds.{below-same, box-blocks, start-box}
use Rattle.lowering_laws.proofs.Reductions.{lengths-kept, carries-folded}
use Rattle.lowering_laws.proofs.Trees.{KeyHas}
use Rattle.task_graph.proofs.Keys.{contains-here, contains-later}
use Rattle.lowering_laws.proofs.Uses.{use-at}
use Rattle.nd_grid.proofs.Woven.{among-contains}

-- ---- an index woven of one of the result and one of the paired axes

-- from axis k on: the layout has the sizes of the pairs on the listed axes
pub record ArePaired (k : ℕ) (axes : List ℕ) (layout pairs : List (List ℕ)) : Type 0 where
  pub sizes : (j : ℕ) → j < length layout → is_among (k + j) axes ≡ true → get_or layout j [] ≡ get_or pairs (position_or_len (nat_eq (k + j)) axes) []
  pub there : (j : ℕ) → j < length layout → is_among (k + j) axes ≡ true → position_or_len (nat_eq (k + j)) axes < length pairs

paired-next : (k : ℕ) (axes sizes : List ℕ) (layout pairs : List (List ℕ)) → ArePaired k axes (sizes ∷ layout) pairs → ArePaired (suc k) axes layout pairs
paired-next k axes sizes layout pairs p = record {
  sizes = λ j h a. let z : k + suc j ≡ suc k + j = omega arith in subst (λ m. is_among m axes ≡ true → get_or layout j [] ≡ get_or pairs (position_or_len (nat_eq m) axes) []) z (p.sizes (suc j) (omega arith)) a;
  there = λ j h a. let z : k + suc j ≡ suc k + j = omega arith in subst (λ m. is_among m axes ≡ true → position_or_len (nat_eq m) axes < length pairs) z (p.there (suc j) (omega arith)) a;
}

-- what a block of an operand has to do with one of the result and one of the paired axes
pub record IsWeave (k : ℕ) (axes : List ℕ) (layout : List (List ℕ)) (own : List ℕ) (pairs : List (List ℕ)) (ts kept kstarts klens : List ℕ) : Type 0 where
  pub inside : IsIn (counts layout) own
  pub kept_is : kept_shape k (lengths_at layout own) axes ≡ kept
  pub within : (is rs : List ℕ) → IsIn klens is → IsIn (lengths_at pairs ts) rs → IsIn (lengths_at layout own) (woven k (lengths_at layout own) axes is rs)
  pub same : (is rs : List ℕ) → IsIn klens is → IsIn (lengths_at pairs ts) rs
      → moved (starts_at layout own) (woven k (lengths_at layout own) axes is rs) ≡ woven k (lengths layout) axes (moved kstarts is) (moved (starts_at pairs ts) rs)

pub count-on : (layout : List (List ℕ)) (k : ℕ) → length (get_or layout k []) ≡ get_or (counts layout) k 0
count-on [] k = refl
count-on (sizes ∷ layout) zero = refl
count-on (sizes ∷ layout) (suc k) = count-on layout k

weave-paired : (k : ℕ) (axes sizes : List ℕ) (layout : List (List ℕ)) (own : List ℕ) (pairs : List (List ℕ)) (ts kept kstarts klens : List ℕ) → is_among k axes ≡ true → IsIn (counts pairs) ts
    → sizes ≡ get_or pairs (position_or_len (nat_eq k) axes) [] → position_or_len (nat_eq k) axes < length pairs → IsWeave (suc k) axes layout own pairs ts kept kstarts klens
    → IsWeave k axes (sizes ∷ layout) (get_or ts (position_or_len (nat_eq k) axes) 0 ∷ own) pairs ts kept kstarts klens
weave-paired k axes sizes layout own pairs ts kept kstarts klens e ti is there m =
    let q = position_or_len (nat_eq k) axes in
    let c = get_or ts (position_or_len (nat_eq k) axes) 0 in
    let lc : length (counts pairs) ≡ length pairs = length-map pairs (λ (ss : List ℕ). length ss) in
    let ct : get_or ts (position_or_len (nat_eq k) axes) 0 < length sizes =
    subst (λ (ss : List ℕ). get_or ts (position_or_len (nat_eq k) axes) 0 < length ss) (sym is) (subst (λ n. get_or ts (position_or_len (nat_eq k) axes) 0 < n) (sym (count-on pairs (position_or_len (nat_eq k) axes))) (IsIn-at (counts pairs) ts (position_or_len (nat_eq k) axes) ti (omega arith))) in
    let len : get_or (lengths_at pairs ts) (position_or_len (nat_eq k) axes) 0 ≡ get_or sizes (get_or ts (position_or_len (nat_eq k) axes) 0) 0 =
    lengths-on pairs ts (position_or_len (nat_eq k) axes) ti there ∙ ap (λ (ss : List ℕ). get_or ss (get_or ts (position_or_len (nat_eq k) axes) 0) 0) (sym is) in
    let st : get_or (starts_at pairs ts) (position_or_len (nat_eq k) axes) 0 ≡ total (take (get_or ts (position_or_len (nat_eq k) axes) 0) sizes) =
    starts-on pairs ts (position_or_len (nat_eq k) axes) ti there ∙ ap (λ (ss : List ℕ). total (take (get_or ts (position_or_len (nat_eq k) axes) 0) ss)) (sym is) in
    let ls : length (starts_at pairs ts) ≡ length pairs = length-starts pairs ts ti in
    let ll : length (lengths_at pairs ts) ≡ length pairs = length-lengths pairs ts ti in
    record {
      inside = (ct, m.inside);
      kept_is = ap (λ b. cond b (kept_shape (suc k) (lengths_at layout own) axes) (get_or sizes c 0 ∷ kept_shape (suc k) (lengths_at layout own) axes)) e ∙ m.kept_is;
      within = λ i rs h g.
          let lr : length rs ≡ length (lengths_at pairs ts) = IsIn-length (lengths_at pairs ts) rs g in
          let below : get_or rs (position_or_len (nat_eq k) axes) 0 < get_or (lengths_at pairs ts) (position_or_len (nat_eq k) axes) 0 = IsIn-at (lengths_at pairs ts) rs (position_or_len (nat_eq k) axes) g (omega arith) in
          subst (IsIn (lengths_at (sizes ∷ layout) (c ∷ own))) (sym (ap (λ b. cond b (get_or rs q 0 ∷ woven (suc k) (lengths_at layout own) axes i rs) (get_or i 0 0 ∷ woven (suc k) (lengths_at layout own) axes (drop 1 i) rs)) e))
          (omega arith, m.within i rs h g);
      same = λ i rs h g.
          let lr : length rs ≡ length (lengths_at pairs ts) = IsIn-length (lengths_at pairs ts) rs g in
          let mv : get_or (moved (starts_at pairs ts) rs) (position_or_len (nat_eq k) axes) 0 ≡ get_or (starts_at pairs ts) (position_or_len (nat_eq k) axes) 0 + get_or rs (position_or_len (nat_eq k) axes) 0 = moved-at (starts_at pairs ts) rs (position_or_len (nat_eq k) axes) (omega arith) (omega arith) in
          let step : total (take c sizes) + get_or rs q 0 ≡ get_or (moved (starts_at pairs ts) rs) q 0 = sym (mv ∙ ap (λ n. n + get_or rs q 0) st) in
          ap (moved (starts_at (sizes ∷ layout) (c ∷ own))) (ap (λ b. cond b (get_or rs q 0 ∷ woven (suc k) (lengths_at layout own) axes i rs) (get_or i 0 0 ∷ woven (suc k) (lengths_at layout own) axes (drop 1 i) rs)) e)
          ∙ ap (λ x. x ∷ moved (starts_at layout own) (woven (suc k) (lengths_at layout own) axes i rs)) step
          ∙ ap (λ xs. get_or (moved (starts_at pairs ts) rs) q 0 ∷ xs) (m.same i rs h g)
          ∙ sym (ap (λ b. cond b (get_or (moved (starts_at pairs ts) rs) q 0 ∷ woven (suc k) (lengths layout) axes (moved kstarts i) (moved (starts_at pairs ts) rs)) (get_or (moved kstarts i) 0 0 ∷ woven (suc k) (lengths layout) axes (drop 1 (moved kstarts i)) (moved (starts_at pairs ts) rs))) e);
    }

weave-in : (k : ℕ) (axes sizes : List ℕ) (layout : List (List ℕ)) (c : ℕ) (own : List ℕ) (pairs : List (List ℕ)) (ts kept kstarts klens : List ℕ) → is_among k axes ≡ false → IsWeave (suc k) axes layout own pairs ts kept kstarts klens
    → (is rs : List ℕ) → IsIn (get_or sizes c 0 ∷ klens) is → IsIn (lengths_at pairs ts) rs → IsIn (lengths_at (sizes ∷ layout) (c ∷ own)) (woven k (lengths_at (sizes ∷ layout) (c ∷ own)) axes is rs)
weave-in k axes sizes layout c own pairs ts kept kstarts klens e m [] rs h g = absurd h
weave-in k axes sizes layout c own pairs ts kept kstarts klens e m (i ∷ is) rs h g =
    subst (IsIn (lengths_at (sizes ∷ layout) (c ∷ own))) (sym (ap (λ b. cond b (get_or rs (position_or_len (nat_eq k) axes) 0 ∷ woven (suc k) (lengths_at layout own) axes (i ∷ is) rs) (i ∷ woven (suc k) (lengths_at layout own) axes is rs)) e))
    (h.0, m.within is rs h.1 g)

weave-same : (k : ℕ) (axes sizes : List ℕ) (layout : List (List ℕ)) (c : ℕ) (own : List ℕ) (pairs : List (List ℕ)) (ts kept kstarts klens : List ℕ) → is_among k axes ≡ false → IsWeave (suc k) axes layout own pairs ts kept kstarts klens
    → (is rs : List ℕ) → IsIn (get_or sizes c 0 ∷ klens) is → IsIn (lengths_at pairs ts) rs
    → moved (starts_at (sizes ∷ layout) (c ∷ own)) (woven k (lengths_at (sizes ∷ layout) (c ∷ own)) axes is rs) ≡ woven k (lengths (sizes ∷ layout)) axes (moved (total (take c sizes) ∷ kstarts) is) (moved (starts_at pairs ts) rs)
weave-same k axes sizes layout c own pairs ts kept kstarts klens e m [] rs h g = absurd h
weave-same k axes sizes layout c own pairs ts kept kstarts klens e m (i ∷ is) rs h g =
    let q = position_or_len (nat_eq k) axes in
    ap (moved (starts_at (sizes ∷ layout) (c ∷ own))) (ap (λ b. cond b (get_or rs q 0 ∷ woven (suc k) (lengths_at layout own) axes (i ∷ is) rs) (i ∷ woven (suc k) (lengths_at layout own) axes is rs)) e)
    ∙ ap (λ xs. (total (take c sizes) + i) ∷ xs) (m.same is rs h.1 g)
    ∙ sym (ap (λ b. cond b (get_or (moved (starts_at pairs ts) rs) q 0 ∷ woven (suc k) (lengths layout) axes ((total (take c sizes) + i) ∷ moved kstarts is) (moved (starts_at pairs ts) rs)) ((total (take c sizes) + i) ∷ woven (suc k) (lengths layout) axes (moved kstarts is) (moved (starts_at pairs ts) rs))) e)

weave-kept : (k : ℕ) (axes sizes : List ℕ) (layout : List (List ℕ)) (c : ℕ) (own : List ℕ) (pairs : List (List ℕ)) (ts kept kstarts klens : List ℕ) → is_among k axes ≡ false → c < length sizes → IsWeave (suc k) axes layout own pairs ts kept kstarts klens
    → IsWeave k axes (sizes ∷ layout) (c ∷ own) pairs ts (get_or sizes c 0 ∷ kept) (total (take c sizes) ∷ kstarts) (get_or sizes c 0 ∷ klens)
weave-kept k axes sizes layout c own pairs ts kept kstarts klens e h m = record {
  inside = (h, m.inside);
  kept_is = ap (λ b. cond b (kept_shape (suc k) (lengths_at layout own) axes) (get_or sizes c 0 ∷ kept_shape (suc k) (lengths_at layout own) axes)) e ∙ ap (λ ns. get_or sizes c 0 ∷ ns) m.kept_is;
  within = weave-in k axes sizes layout c own pairs ts kept kstarts klens e m;
  same = weave-same k axes sizes layout c own pairs ts kept kstarts klens e m;
}

-- an operand's block, under a block of a result whose first axes are the operand's
abbrev pub Weaving : ℕ → List ℕ → List (List ℕ) → List (List ℕ) → List (List ℕ) → List ℕ → List ℕ → Type 0
Weaving k axes layout pairs rest bs ts =
    IsWeave k axes layout (woven k (counts layout) axes bs ts) pairs ts (lengths_at (kept_axes k layout axes) bs) (starts_at (kept_axes k layout axes ++ rest) bs) (lengths_at (kept_axes k layout axes ++ rest) bs)

pub weaving : (k : ℕ) (axes : List ℕ) (layout pairs rest : List (List ℕ)) (bs ts : List ℕ) → ArePaired k axes layout pairs → IsIn (counts pairs) ts → IsIn (counts (kept_axes k layout axes ++ rest)) bs → Weaving k axes layout pairs rest bs ts
weaving k axes [] pairs rest bs ts p t h = record { inside = tt; kept_is = refl; within = λ is rs a b. tt; same = λ is rs a b. refl }
weaving k axes (sizes ∷ layout) pairs rest bs ts p t h =
    let kept = kept_axes (suc k) layout axes in
    let q = position_or_len (nat_eq k) axes in
    elim (is_among k axes) as (λ b. is_among k axes ≡ b → IsIn (counts (cond b kept (sizes ∷ kept) ++ rest)) bs
    → IsWeave k axes (sizes ∷ layout) (cond b (get_or ts q 0 ∷ woven (suc k) (counts layout) axes bs ts) (get_or bs 0 0 ∷ woven (suc k) (counts layout) axes (drop 1 bs) ts)) pairs ts
    (lengths_at (cond b kept (sizes ∷ kept)) bs) (starts_at (cond b kept (sizes ∷ kept) ++ rest) bs) (lengths_at (cond b kept (sizes ∷ kept) ++ rest) bs)) [
      | true ↦ λ e i.
          let z : k + 0 ≡ k = omega arith in
          let is : sizes ≡ get_or pairs (position_or_len (nat_eq k) axes) [] = subst (λ m. is_among m axes ≡ true → sizes ≡ get_or pairs (position_or_len (nat_eq m) axes) []) z (p.sizes 0 (omega arith)) e in
          let there : position_or_len (nat_eq k) axes < length pairs = subst (λ m. is_among m axes ≡ true → position_or_len (nat_eq m) axes < length pairs) z (p.there 0 (omega arith)) e in
          weave-paired k axes sizes layout _ pairs ts _ _ _ e t is there (weaving (suc k) axes layout pairs rest bs ts (paired-next k axes sizes layout pairs p) t i)
      | false ↦ λ e i. keep-case k axes sizes layout pairs rest bs ts e i (λ bs' i'. weaving (suc k) axes layout pairs rest bs' ts (paired-next k axes sizes layout pairs p) t i')
    ] refl h
  where
    keep-case : (k : ℕ) (axes sizes : List ℕ) (layout pairs rest : List (List ℕ)) (bs ts : List ℕ) → is_among k axes ≡ false → IsIn (counts ((sizes ∷ kept_axes (suc k) layout axes) ++ rest)) bs
        → ((bs' : List ℕ) → IsIn (counts (kept_axes (suc k) layout axes ++ rest)) bs' → Weaving (suc k) axes layout pairs rest bs' ts)
        → IsWeave k axes (sizes ∷ layout) (get_or bs 0 0 ∷ woven (suc k) (counts layout) axes (drop 1 bs) ts) pairs ts
        (lengths_at (sizes ∷ kept_axes (suc k) layout axes) bs) (starts_at ((sizes ∷ kept_axes (suc k) layout axes) ++ rest) bs) (lengths_at ((sizes ∷ kept_axes (suc k) layout axes) ++ rest) bs)
    keep-case k axes sizes layout pairs rest [] ts e i rec = absurd i
    keep-case k axes sizes layout pairs rest (b ∷ bs) ts e i rec = weave-kept k axes sizes layout b _ pairs ts _ _ _ e i.0 (rec bs i.1)

-- the coordinate on a paired axis
woven-at : (k : ℕ) (ns axes is rs : List ℕ) (j : ℕ) → j < length ns → is_among (k + j) axes ≡ true → get_or (woven k ns axes is rs) j 0 ≡ get_or rs (position_or_len (nat_eq (k + j)) axes) 0
woven-at k [] axes is rs j h a = absurd (omega arith)
woven-at k (n ∷ ns) axes is rs zero h a =
    let z : k + 0 ≡ k = omega arith in
    ap (λ b. get_or (cond b (get_or rs (position_or_len (nat_eq k) axes) 0 ∷ woven (suc k) ns axes is rs) (get_or is 0 0 ∷ woven (suc k) ns axes (drop 1 is) rs)) 0 0) (ap (λ m. is_among m axes) (sym z) ∙ a) ∙ ap (λ m. get_or rs (position_or_len (nat_eq m) axes) 0) (sym z)
woven-at k (n ∷ ns) axes is rs (suc j) h a =
    let z : k + suc j ≡ suc k + j = omega arith in
    let next : is_among (suc k + j) axes ≡ true = ap (λ m. is_among m axes) (sym z) ∙ a in
    tail (is_among k axes) (get_or rs (position_or_len (nat_eq k) axes) 0) (get_or is 0 0) (woven (suc k) ns axes is rs) (woven (suc k) ns axes (drop 1 is) rs) j (get_or rs (position_or_len (nat_eq (suc k + j)) axes) 0)
    (woven-at (suc k) ns axes is rs j (omega arith) next) (woven-at (suc k) ns axes (drop 1 is) rs j (omega arith) next)
    ∙ ap (λ m. get_or rs (position_or_len (nat_eq m) axes) 0) (sym z)
  where
    tail : (b : Bool) (x y : ℕ) (xs ys : List ℕ) (j r : ℕ) → get_or xs j 0 ≡ r → get_or ys j 0 ≡ r → get_or (cond b (x ∷ xs) (y ∷ ys)) (suc j) 0 ≡ r
    tail true x y xs ys j r e f = e
    tail false x y xs ys j r e f = f

-- axes of which each stands once, and lies in the layout
pub record AreOnce (axes : List ℕ) (n : ℕ) : Type 0 where
  pub below : (j : ℕ) → j < length axes → get_or axes j 0 < n
  pub once : (j : ℕ) → j < length axes → position_or_len (nat_eq (get_or axes j 0)) axes ≡ j
  pub among : (j : ℕ) → j < length axes → is_among (get_or axes j 0) axes ≡ true

pub paired-lens : (axes : List ℕ) (layout pairs : List (List ℕ)) (bs ts : List ℕ) → AreOnce axes (length layout) → length axes ≡ length pairs → ArePaired 0 axes layout pairs → IsIn (counts pairs) ts → IsIn (counts layout) (woven 0 (counts layout) axes bs ts)
    → map (λ a. get_or (lengths_at layout (woven 0 (counts layout) axes bs ts)) a 0) axes ≡ lengths_at pairs ts
paired-lens axes layout pairs bs ts o n p t inside =
    let own = woven 0 (counts layout) axes bs ts in
    same_number_lists _ _ (length-map axes (λ a. get_or (lengths_at layout own) a 0) ∙ n ∙ sym (length-lengths pairs ts t)) (λ j h.
    let ja : j < length axes = omega (arith, length-map axes (λ a. get_or (lengths_at layout own) a 0)) in
    let a = get_or axes j 0 in
    let below : get_or axes j 0 < length layout = o.below j ja in
    let z : 0 + get_or axes j 0 ≡ get_or axes j 0 = omega arith in
    let among : is_among (0 + get_or axes j 0) axes ≡ true = ap (λ m. is_among m axes) z ∙ o.among j ja in
    let q : position_or_len (nat_eq (0 + get_or axes j 0)) axes ≡ j = ap (λ m. position_or_len (nat_eq m) axes) z ∙ o.once j ja in
    get_or-map (λ a. get_or (lengths_at layout own) a 0) axes j 0 0 ja
    ∙ lengths-on layout own (get_or axes j 0) inside below
    ∙ ap (λ (ss : List ℕ). get_or ss (get_or own (get_or axes j 0) 0) 0) (p.sizes (get_or axes j 0) below among ∙ ap (λ m. get_or pairs m []) q)
    ∙ ap (λ c. get_or (get_or pairs j []) c 0) (woven-at 0 (counts layout) axes bs ts (get_or axes j 0) (omega (arith, length-map layout (λ (ss : List ℕ). length ss))) among ∙ ap (λ m. get_or ts m 0) q)
    ∙ sym (lengths-on pairs ts j t (omega arith)))

-- ---- joined layouts

pub lengths-join : (xs ys : List (List ℕ)) (bs : List ℕ) → IsIn (counts (xs ++ ys)) bs → lengths_at (xs ++ ys) bs ≡ lengths_at xs bs ++ lengths_at ys (drop (length xs) bs)
lengths-join [] ys bs h = refl
lengths-join (x ∷ xs) ys [] h = absurd h
lengths-join (x ∷ xs) ys (b ∷ bs) h = ap (λ ns. get_or x b 0 ∷ ns) (lengths-join xs ys bs h.1)

pub drop-append : {A : Type 0} (xs ys : List A) → drop (length xs) (xs ++ ys) ≡ ys
drop-append [] ys = refl
drop-append (x ∷ xs) ys = drop-append xs ys

front-length : (xs ys : List (List ℕ)) (bs : List ℕ) → IsIn (counts (xs ++ ys)) bs → length (lengths_at xs bs) ≡ length xs
front-length [] ys bs h = refl
front-length (x ∷ xs) ys [] h = absurd h
front-length (x ∷ xs) ys (b ∷ bs) h = ap suc (front-length xs ys bs h.1)

lengths-append : (xs ys : List (List ℕ)) → lengths (xs ++ ys) ≡ lengths xs ++ lengths ys
lengths-append [] ys = refl
lengths-append (x ∷ xs) ys = ap (λ ns. total x ∷ ns) (lengths-append xs ys)

-- ---- one partial result

-- two operands in layouts whose paired axes have the same chunks
pub record AreOperands (files : ℕ → List ℕ → ℤ) (tasks : List Task) (la ra : List ℕ) (pairs : List (List ℕ)) (l r : Source) (g h : Grid) : Type 0 where
  pub left : Carries files tasks l g
  pub right : Carries files tasks r h
  pub left_once : AreOnce la (length l.layout)
  pub right_once : AreOnce ra (length r.layout)
  pub left_number : length la ≡ length pairs
  pub right_number : length ra ≡ length pairs
  pub left_paired : ArePaired 0 la l.layout pairs
  pub right_paired : ArePaired 0 ra r.layout pairs
  pub left_lengths : map (λ a. get_or g.shape a 0) la ≡ lengths pairs
  pub some : (j : ℕ) → j < length pairs → 0 < length (get_or pairs j [])

abbrev result_layout : List ℕ → List ℕ → Source → Source → List (List ℕ)
result_layout la ra l r = kept_axes 0 l.layout la ++ kept_axes 0 r.layout ra

-- the product at an index of the result and one of the paired axes
abbrev product_of : List ℕ → List ℕ → Source → Source → Grid → Grid → List ℕ → List ℕ → Option ℤ
product_of la ra l r g h i rs = combine Mul (g.at (woven 0 (lengths l.layout) la i rs)) (h.at (woven 0 (lengths r.layout) ra (drop (length (kept_axes 0 l.layout la)) i) rs))

abbrev part_of : List ℕ → List ℕ → List (List ℕ) → Source → Source → Grid → Grid → List ℕ → ℕ → List ℕ → Option ℤ
part_of la ra pairs l r g h bs p i =
    let ts = index_at (counts pairs) p in
    fold_box Sum (lengths_at pairs ts) (λ rs. product_of la ra l r g h (moved (starts_at (result_layout la ra l r) bs) i) (moved (starts_at pairs ts) rs))

product-has : (files : ℕ → List ℕ → ℤ) (tasks : List Task) → IsEarlier (deps_of (shape_of tasks)) → (la ra : List ℕ) (pairs : List (List ℕ)) (l r : Source) (g h : Grid) (bs : List ℕ) (p key : ℕ) → AreOperands files tasks la ra pairs l r g h
    → IsIn (counts (result_layout la ra l r)) bs → p < elements (counts pairs) → task_at tasks key ≡ product_task la ra (counts pairs) l r bs p → KeyHas files tasks key (lengths_at (result_layout la ra l r) bs) (part_of la ra pairs l r g h bs p)
product-has files tasks e la ra pairs l r g h bs p key o inside lt is =
    let kl = kept_axes 0 l.layout la in
    let kr = kept_axes 0 r.layout ra in
    let n = length kl in
    let ts = index_at (counts pairs) p in
    let tin : IsIn (counts pairs) ts = index_at-in (counts pairs) p lt in
    let own_l = woven 0 (counts l.layout) la bs ts in
    let own_r = woven 0 (counts r.layout) ra (drop n bs) ts in
    let uses : List Use = record { key = key_at l own_l; shape = lengths_at l.layout own_l } ∷ record { key = key_at r own_r; shape = lengths_at r.layout own_r } ∷ [] in
    let t = task (kernels.Contract (place_among uses (key_at l own_l)) (place_among uses (key_at r own_r)) la ra (inputs_among uses)) (deps_of_uses uses) in
    let made : (b : Array) → value files tasks key ≡ Some b → Made files tasks t b = λ b v. subst (λ (u : Task). Made files tasks u b) is (value-made files tasks e key b v) in
    let right-in : IsIn (counts kr) (drop n bs) = subst (λ (xs : List (List ℕ)). IsIn (counts xs) (drop n bs)) (drop-append kl kr) (subst (λ xs. IsIn xs (drop n bs)) (drop-counts n (kl ++ kr)) (IsIn-drop n (counts (kl ++ kr)) bs inside)) in
    let wl : Weaving 0 la l.layout pairs kr bs ts = weaving 0 la l.layout pairs kr bs ts o.left_paired tin inside in
    let wr : Weaving 0 ra r.layout pairs [] (drop n bs) ts = weaving 0 ra r.layout pairs [] (drop n bs) ts o.right_paired tin (subst (λ (xs : List (List ℕ)). IsIn (counts xs) (drop n bs)) (sym (append-nil kr)) right-in) in
    let fl : length (kept_shape 0 (lengths_at l.layout own_l) la) ≡ n = ap length wl.kept_is ∙ front-length kl kr bs inside in
    record {
      shape = λ b v.
          let d = made b v in
          let a1 = input-holds files tasks l g own_l d.blocks (place_among uses (key_at l own_l)) o.left wl.inside (use-at files tasks uses d.blocks (key_at l own_l) d.values (contains-here (key_at l own_l) (key_at r own_r ∷ []))) in
          let a2 = input-holds files tasks r h own_r d.blocks (place_among uses (key_at r own_r)) o.right wr.inside (use-at files tasks uses d.blocks (key_at r own_r) d.values (contains-later (key_at r own_r) (key_at l own_l) (key_at r own_r ∷ []) (contains-here (key_at r own_r) []))) in
          block-shape (contracted la ra (nth (map grid_of d.blocks) (place_among uses (key_at l own_l))) (nth (map grid_of d.blocks) (place_among uses (key_at r own_r)))) b d.block
          ∙ ap (λ ns. kept_shape 0 ns la ++ kept_shape 0 (nth (map grid_of d.blocks) (place_among uses (key_at r own_r))).shape ra) a1.shape
          ∙ ap (λ ns. kept_shape 0 (lengths_at l.layout own_l) la ++ kept_shape 0 ns ra) a2.shape
          ∙ ap (λ ns. ns ++ kept_shape 0 (lengths_at r.layout own_r) ra) wl.kept_is
          ∙ ap (λ ns. lengths_at kl bs ++ ns) wr.kept_is
          ∙ sym (lengths-join kl kr bs inside);
      cells = λ b v i ib.
          let d = made b v in
          let ga = nth (map grid_of d.blocks) (place_among uses (key_at l own_l)) in
          let gb = nth (map grid_of d.blocks) (place_among uses (key_at r own_r)) in
          let a1 : Holds ga g (box_at l.layout own_l) = input-holds files tasks l g own_l d.blocks (place_among uses (key_at l own_l)) o.left wl.inside (use-at files tasks uses d.blocks (key_at l own_l) d.values (contains-here (key_at l own_l) (key_at r own_r ∷ []))) in
          let a2 : Holds gb h (box_at r.layout own_r) = input-holds files tasks r h own_r d.blocks (place_among uses (key_at r own_r)) o.right wr.inside (use-at files tasks uses d.blocks (key_at r own_r) d.values (contains-later (key_at r own_r) (key_at l own_l) (key_at r own_r ∷ []) (contains-here (key_at r own_r) []))) in
          let k = contracted la ra ga gb in
          let shape : k.shape ≡ lengths_at (kl ++ kr) bs =
          ap (λ ns. kept_shape 0 ns la ++ kept_shape 0 gb.shape ra) a1.shape
          ∙ ap (λ ns. kept_shape 0 (lengths_at l.layout own_l) la ++ kept_shape 0 ns ra) a2.shape
          ∙ ap (λ ns. ns ++ kept_shape 0 (lengths_at r.layout own_r) ra) wl.kept_is
          ∙ ap (λ ns. lengths_at kl bs ++ ns) wr.kept_is
          ∙ sym (lengths-join kl kr bs inside) in
          let right-lens : drop n (lengths_at (kl ++ kr) bs) ≡ lengths_at (kr ++ []) (drop n bs) = drop-lengths n (kl ++ kr) bs inside ∙ ap (λ (xs : List (List ℕ)). lengths_at xs (drop n bs)) (drop-append kl kr ∙ sym (append-nil kr)) in
          let right-starts : starts_at (kr ++ []) (drop n bs) ≡ drop n (starts_at (kl ++ kr) bs) = ap (λ (xs : List (List ℕ)). starts_at xs (drop n bs)) (append-nil kr ∙ sym (drop-append kl kr)) ∙ sym (drop-starts n (kl ++ kr) bs inside) in
          let ir : IsIn (lengths_at (kr ++ []) (drop n bs)) (drop n i) = subst (λ ns. IsIn ns (drop n i)) right-lens (IsIn-drop n (lengths_at (kl ++ kr) bs) i ib) in
          block-at k b i d.block (subst (λ ns. IsIn ns i) (sym shape) ib)
          ∙ ap (λ ns. fold_box Sum (map (λ a. get_or ns a 0) la) (λ rs. combine Mul (ga.at (woven 0 ns la i rs)) (gb.at (woven 0 gb.shape ra (drop (length (kept_shape 0 ns la)) i) rs)))) a1.shape
          ∙ ap (λ ns. fold_box Sum (map (λ a. get_or (lengths_at l.layout own_l) a 0) la) (λ rs. combine Mul (ga.at (woven 0 (lengths_at l.layout own_l) la i rs)) (gb.at (woven 0 ns ra (drop (length (kept_shape 0 (lengths_at l.layout own_l) la)) i) rs)))) a2.shape
          ∙ ap (λ m. fold_box Sum (map (λ a. get_or (lengths_at l.layout own_l) a 0) la) (λ rs. combine Mul (ga.at (woven 0 (lengths_at l.layout own_l) la i rs)) (gb.at (woven 0 (lengths_at r.layout own_r) ra (drop m i) rs)))) fl
          ∙ ap (λ ns. fold_box Sum ns (λ rs. combine Mul (ga.at (woven 0 (lengths_at l.layout own_l) la i rs)) (gb.at (woven 0 (lengths_at r.layout own_r) ra (drop n i) rs)))) (paired-lens la l.layout pairs bs ts o.left_once o.left_number o.left_paired tin wl.inside)
          ∙ below-same Sum (λ q. combine Mul (ga.at (woven 0 (lengths_at l.layout own_l) la i (index_at (lengths_at pairs ts) q))) (gb.at (woven 0 (lengths_at r.layout own_r) ra (drop n i) (index_at (lengths_at pairs ts) q)))) _ (elements (lengths_at pairs ts)) (λ q lq.
          let rs = index_at (lengths_at pairs ts) q in
          let ri : IsIn (lengths_at pairs ts) rs = index_at-in (lengths_at pairs ts) q lq in
          let x : ga.at (woven 0 (lengths_at l.layout own_l) la i rs) ≡ g.at (woven 0 (lengths l.layout) la (moved (starts_at (kl ++ kr) bs) i) (moved (starts_at pairs ts) rs)) =
          a1.at (woven 0 (lengths_at l.layout own_l) la i rs) (wl.within i rs ib ri) ∙ ap g.at (wl.same i rs ib ri) in
          let y : gb.at (woven 0 (lengths_at r.layout own_r) ra (drop n i) rs) ≡ h.at (woven 0 (lengths r.layout) ra (drop n (moved (starts_at (kl ++ kr) bs) i)) (moved (starts_at pairs ts) rs)) =
          a2.at (woven 0 (lengths_at r.layout own_r) ra (drop n i) rs) (wr.within (drop n i) rs ir ri) ∙ ap h.at (wr.same (drop n i) rs ir ri)
          ∙ ap (λ ss. h.at (woven 0 (lengths r.layout) ra (moved ss (drop n i)) (moved (starts_at pairs ts) rs))) right-starts
          ∙ ap (λ js. h.at (woven 0 (lengths r.layout) ra js (moved (starts_at pairs ts) rs))) (sym (drop-moved n (starts_at (kl ++ kr) bs) i)) in
          ap (λ u. combine Mul u (gb.at (woven 0 (lengths_at r.layout own_r) ra (drop n i) rs))) x ∙ ap (combine Mul (g.at (woven 0 (lengths l.layout) la (moved (starts_at (kl ++ kr) bs) i) (moved (starts_at pairs ts) rs)))) y);
    }

pub some-elements : (pairs : List (List ℕ)) → ((j : ℕ) → j < length pairs → 0 < length (get_or pairs j [])) → 1 ≤ elements (counts pairs)
some-elements [] h = omega arith
some-elements (x ∷ pairs) h = product (length x) (elements (counts pairs)) (h 0 (omega arith)) (some-elements pairs (λ j lt. h (suc j) (omega arith)))
  where
    product : (m n : ℕ) → 0 < m → 1 ≤ n → 1 ≤ m * n
    product (suc m) n h g = omega arith
    product zero n h g = absurd (omega arith)

pub carries-product : (files : ℕ → List ℕ → ℤ) (tasks : List Task) → IsEarlier (deps_of (shape_of tasks)) → (la ra : List ℕ) (pairs : List (List ℕ)) (l r : Source) (g h : Grid) (base : ℕ) → AreOperands files tasks la ra pairs l r g h
    → Stand tasks base (product_blocks la ra (counts pairs) l r base).tasks → Carries files tasks (product_blocks la ra (counts pairs) l r base).source (contracted la ra g h)
carries-product files tasks e la ra pairs l r g h base o stand =
    let kl = kept_axes 0 l.layout la in
    let kr = kept_axes 0 r.layout ra in
    let left-kept : lengths kl ≡ kept_shape 0 g.shape la = lengths-kept 0 l.layout la ∙ ap (λ ns. kept_shape 0 ns la) o.left.shape in
    let right-kept : lengths kr ≡ kept_shape 0 h.shape ra = lengths-kept 0 r.layout ra ∙ ap (λ ns. kept_shape 0 ns ra) o.right.shape in
    let n-is : length (kept_shape 0 g.shape la) ≡ length kl = sym (ap length left-kept) ∙ length-map kl (λ (ss : List ℕ). total ss) in
    carries-folded files tasks e Sum (elements (counts pairs)) 4 (kl ++ kr) (product_task la ra (counts pairs) l r) base (contracted la ra g h) (part_of la ra pairs l r g h)
    (some-elements pairs o.some) (omega arith)
    (lengths-append kl kr ∙ ap (λ ns. ns ++ lengths kr) left-kept ∙ ap (λ ns. kept_shape 0 g.shape la ++ ns) right-kept) stand
    (λ bs p key inside lt is. product-has files tasks e la ra pairs l r g h bs p key o inside lt is)
    (λ bs p i. record {
      same = start-box Sum (lengths_at pairs (index_at (counts pairs) p)) (λ rs. product_of la ra l r g h (moved (starts_at (kl ++ kr) bs) i) (moved (starts_at pairs (index_at (counts pairs) p)) rs));
    })
    (λ bs i inside ib.
    let at = moved (starts_at (kl ++ kr) bs) i in
    sym (box-blocks Sum pairs (λ rs. product_of la ra l r g h at rs))
    ∙ ap (λ ns. fold_box Sum ns (λ rs. product_of la ra l r g h at rs)) (sym o.left_lengths)
    ∙ ap (λ ns. fold_box Sum (map (λ a. get_or g.shape a 0) la) (λ rs. combine Mul (g.at (woven 0 ns la at rs)) (h.at (woven 0 (lengths r.layout) ra (drop (length kl) at) rs)))) o.left.shape
    ∙ ap (λ ns. fold_box Sum (map (λ a. get_or g.shape a 0) la) (λ rs. combine Mul (g.at (woven 0 g.shape la at rs)) (h.at (woven 0 ns ra (drop (length kl) at) rs)))) o.right.shape
    ∙ ap (λ m. fold_box Sum (map (λ a. get_or g.shape a 0) la) (λ rs. combine Mul (g.at (woven 0 g.shape la at rs)) (h.at (woven 0 h.shape ra (drop m at) rs)))) (sym n-is))

-- ---- operands in layouts whose paired axes have the same chunks

pub total-on : (layout : List (List ℕ)) (k : ℕ) → total (get_or layout k []) ≡ get_or (lengths layout) k 0
total-on [] k = refl
total-on (sizes ∷ layout) zero = refl
total-on (sizes ∷ layout) (suc k) = total-on layout k

pub length-pairs : (l r : List (List ℕ)) (la ra : List ℕ) → length la ≡ length ra → length (paired_sizes l r la ra) ≡ length la
length-pairs l r [] ra e = refl
length-pairs l r (a ∷ la) [] e = absurd (omega arith)
length-pairs l r (a ∷ la) (b ∷ ra) e = ap suc (length-pairs l r la ra (omega arith))

-- a pair's sizes cut the length of both axes
pub pair-at : (l r : List (List ℕ)) (la ra : List ℕ) (j : ℕ) → length la ≡ length ra → j < length la → get_or (paired_sizes l r la ra) j [] ≡ union (get_or l (get_or la j 0) []) (get_or r (get_or ra j 0) [])
pair-at l r [] ra j e h = absurd (omega arith)
pair-at l r (a ∷ la) [] j e h = absurd (omega arith)
pair-at l r (a ∷ la) (b ∷ ra) zero e h = refl
pair-at l r (a ∷ la) (b ∷ ra) (suc j) e h = pair-at l r la ra j (omega arith) (omega arith)

pub with-at : (layout : List (List ℕ)) (axes : List ℕ) (pairs : List (List ℕ)) (k : ℕ) → k < length layout → get_or (with_sizes layout axes pairs) k [] ≡ cond (is_among k axes) (get_or pairs (position_or_len (nat_eq k) axes) []) (get_or layout k [])
with-at layout axes pairs k h = get_or-map-range_with_len (λ k. cond (is_among k axes) (get_or pairs (position_or_len (nat_eq k) axes) []) (get_or layout k [])) 0 (length layout) k k [] h (omega arith)

pub length-with : (layout : List (List ℕ)) (axes : List ℕ) (pairs : List (List ℕ)) → length (with_sizes layout axes pairs) ≡ length layout
length-with layout axes pairs = length-map-range_with_len (λ k. cond (is_among k axes) (get_or pairs (position_or_len (nat_eq k) axes) []) (get_or layout k [])) 0 (length layout)

pub with-paired : (layout : List (List ℕ)) (axes : List ℕ) (pairs : List (List ℕ)) → length axes ≡ length pairs → ArePaired 0 axes (with_sizes layout axes pairs) pairs
with-paired layout axes pairs n = record {
  sizes = λ j h a.
      let z : 0 + j ≡ j = omega arith in
      let b : is_among j axes ≡ true = ap (λ m. is_among m axes) (sym z) ∙ a in
      with-at layout axes pairs j (omega (arith, length-with layout axes pairs)) ∙ ap (λ t. cond t (get_or pairs (position_or_len (nat_eq j) axes) []) (get_or layout j [])) b ∙ ap (λ m. get_or pairs (position_or_len (nat_eq m) axes) []) (sym z);
  there = λ j h a. let c = among-contains axes (0 + j) a in omega (arith, position-below axes (0 + j) c);
}

pub with-lengths : (layout : List (List ℕ)) (axes : List ℕ) (pairs : List (List ℕ)) → ((j : ℕ) → j < length axes → total (get_or pairs j []) ≡ get_or (lengths layout) (get_or axes j 0) 0) → lengths (with_sizes layout axes pairs) ≡ lengths layout
with-lengths layout axes pairs t =
    same_number_lists _ _ (length-map (with_sizes layout axes pairs) (λ (ss : List ℕ). total ss) ∙ length-with layout axes pairs ∙ sym (length-map layout (λ (ss : List ℕ). total ss))) (λ k h.
    let lt : k < length layout = omega (arith, length-map (with_sizes layout axes pairs) (λ (ss : List ℕ). total ss), length-with layout axes pairs) in
    sym (total-on (with_sizes layout axes pairs) k) ∙ ap total (with-at layout axes pairs k lt) ∙ axis k (is_among k axes) refl)
  where
    axis : (k : ℕ) (b : Bool) → is_among k axes ≡ b → total (cond (is_among k axes) (get_or pairs (position_or_len (nat_eq k) axes) []) (get_or layout k [])) ≡ get_or (lengths layout) k 0
    axis k true e =
        let c = among-contains axes k e in
        ap (λ t. total (cond t (get_or pairs (position_or_len (nat_eq k) axes) []) (get_or layout k []))) e ∙ t (position_or_len (nat_eq k) axes) (position-below axes k c) ∙ ap (λ m. get_or (lengths layout) m 0) (position-at axes k c)
    axis k false e = ap (λ t. total (cond t (get_or pairs (position_or_len (nat_eq k) axes) []) (get_or layout k []))) e ∙ total-on layout k

with-some : (layout : List (List ℕ)) (axes : List ℕ) (pairs : List (List ℕ)) → HaveChunks layout → length axes ≡ length pairs → ((j : ℕ) → j < length pairs → 0 < length (get_or pairs j [])) → HaveChunks (with_sizes layout axes pairs)
with-some layout axes pairs c n s =
    some-each (with_sizes layout axes pairs) (λ k h.
    let lt : k < length layout = omega (arith, length-with layout axes pairs) in
    subst (λ (ss : List ℕ). 0 < length ss) (sym (with-at layout axes pairs k lt)) (axis k lt (is_among k axes) refl))
  where
    axis : (k : ℕ) → k < length layout → (b : Bool) → is_among k axes ≡ b → 0 < length (cond (is_among k axes) (get_or pairs (position_or_len (nat_eq k) axes) []) (get_or layout k []))
    axis k lt true e =
        let q = position-below axes k (among-contains axes k e) in
        subst (λ t. 0 < length (cond t (get_or pairs (position_or_len (nat_eq k) axes) []) (get_or layout k []))) (sym e) (s (position_or_len (nat_eq k) axes) (omega arith))
    axis k lt false e = subst (λ t. 0 < length (cond t (get_or pairs (position_or_len (nat_eq k) axes) []) (get_or layout k []))) (sym e) (chunks-on layout k c lt)

pub record IsProductStage (files : ℕ → List ℕ → ℤ) (tasks : List Task) (s : Source) (g : Grid) : Type 0 where
  pub carries : Carries files tasks s g
  pub some : HaveChunks s.layout

some-append : (xs ys : List (List ℕ)) → HaveChunks xs → HaveChunks ys → HaveChunks (xs ++ ys)
some-append [] ys a b = b
some-append (x ∷ xs) ys a b = (a.0, some-append xs ys a.1 b)

-- the sizes of paired axes add up to the lengths of both
pub paired-totals : (l r : List (List ℕ)) (la ra : List ℕ) → length la ≡ length ra → ((j : ℕ) → j < length la → get_or (lengths l) (get_or la j 0) 0 ≡ get_or (lengths r) (get_or ra j 0) 0)
    → (j : ℕ) → j < length la → (total (get_or (paired_sizes l r la ra) j []) ≡ get_or (lengths l) (get_or la j 0) 0) × (total (get_or (paired_sizes l r la ra) j []) ≡ get_or (lengths r) (get_or ra j 0) 0)
paired-totals l r la ra n same j lt =
    let x : total (get_or l (get_or la j 0) []) ≡ get_or (lengths l) (get_or la j 0) 0 = total-on l (get_or la j 0) in
    let y : total (get_or r (get_or ra j 0) []) ≡ get_or (lengths r) (get_or ra j 0) 0 = total-on r (get_or ra j 0) in
    let u : total (get_or (paired_sizes l r la ra) j []) ≡ total (get_or l (get_or la j 0) []) = ap total (pair-at l r la ra j n lt) ∙ total-union (get_or l (get_or la j 0) []) (get_or r (get_or ra j 0) []) (x ∙ same j lt ∙ sym y) in
    (u ∙ x, u ∙ x ∙ same j lt)

pub carries-contracted : (files : ℕ → List ℕ → ℤ) (tasks : List Task) → IsEarlier (deps_of (shape_of tasks)) → (la ra : List ℕ) (l r : Source) (g h : Grid) (base : ℕ) → Carries files tasks l g → Carries files tasks r h → HaveChunks l.layout → HaveChunks r.layout
    → AreOnce la (length l.layout) → AreOnce ra (length r.layout) → length la ≡ length ra → ((j : ℕ) → j < length la → get_or g.shape (get_or la j 0) 0 ≡ get_or h.shape (get_or ra j 0) 0)
    → Stand tasks base (contracted_blocks la ra l r base).tasks → IsProductStage files tasks (contracted_blocks la ra l r base).source (contracted la ra g h)
carries-contracted files tasks e la ra l r g h base cl cr sl sr ol or n same stand =
    let pairs = paired_sizes l.layout r.layout la ra in
    let np : length pairs ≡ length la = length-pairs l.layout r.layout la ra n in
    let totals = paired-totals l.layout r.layout la ra n (λ j lt. ap (λ ns. get_or ns (get_or la j 0) 0) cl.shape ∙ same j lt ∙ ap (λ ns. get_or ns (get_or ra j 0) 0) (sym cr.shape)) in
    let some-pairs : (j : ℕ) → j < length pairs → 0 < length (get_or pairs j []) = λ j lt.
    let jl : j < length la = omega arith in
    subst (λ (ss : List ℕ). 0 < length ss) (sym (pair-at l.layout r.layout la ra j n jl)) (some-union (get_or l.layout (get_or la j 0) []) (get_or r.layout (get_or ra j 0) []) (chunks-on l.layout (get_or la j 0) sl (ol.below j jl))) in
    let lt = with_sizes l.layout la pairs in
    let rt = with_sizes r.layout ra pairs in
    let ll : lengths lt ≡ lengths l.layout = with-lengths l.layout la pairs (λ j b. (totals j b).0) in
    let rl : lengths rt ≡ lengths r.layout = with-lengths r.layout ra pairs (λ j b. (totals j (omega arith)).1) in
    let fit_l = fitted base l lt in
    let fit_r = fitted (base + length fit_l.tasks) r rt in
    let front = Stand-front tasks base (fit_l.tasks ++ fit_r.tasks) _ stand in
    let f : IsFitted files tasks lt g fit_l.source = carries-fitted files tasks e l g lt base cl (ll ∙ cl.shape) (Stand-front tasks base fit_l.tasks fit_r.tasks front) in
    let k : IsFitted files tasks rt h fit_r.source = carries-fitted files tasks e r h rt (base + length fit_l.tasks) cr (rl ∙ cr.shape) (Stand-back tasks base fit_l.tasks fit_r.tasks front) in
    let number_l : length fit_l.source.layout ≡ length l.layout = ap (λ (xs : List (List ℕ)). length xs) f.layout_is ∙ length-with l.layout la pairs in
    let number_r : length fit_r.source.layout ≡ length r.layout = ap (λ (xs : List (List ℕ)). length xs) k.layout_is ∙ length-with r.layout ra pairs in
    let o : AreOperands files tasks la ra pairs fit_l.source fit_r.source g h = record {
      left = f.carries;
      right = k.carries;
      left_once = subst (AreOnce la) (sym number_l) ol;
      right_once = subst (AreOnce ra) (sym number_r) or;
      left_number = sym np;
      right_number = sym n ∙ sym np;
      left_paired = subst (λ (xs : List (List ℕ)). ArePaired 0 la xs pairs) (sym f.layout_is) (with-paired l.layout la pairs (sym np));
      right_paired = subst (λ (xs : List (List ℕ)). ArePaired 0 ra xs pairs) (sym k.layout_is) (with-paired r.layout ra pairs (sym n ∙ sym np));
      left_lengths = same_number_lists _ _ (length-map la (λ a. get_or g.shape a 0) ∙ sym np ∙ sym (length-map pairs (λ (ss : List ℕ). total ss))) (λ j b.
          let jl : j < length la = omega (arith, length-map la (λ a. get_or g.shape a 0)) in
          get_or-map (λ a. get_or g.shape a 0) la j 0 0 jl ∙ ap (λ ns. get_or ns (get_or la j 0) 0) (sym cl.shape) ∙ sym (totals j jl).0 ∙ total-on pairs j);
      some = some-pairs;
    } in
    record {
      carries = carries-product files tasks e la ra pairs fit_l.source fit_r.source g h (base + length (fit_l.tasks ++ fit_r.tasks)) o (Stand-back tasks base (fit_l.tasks ++ fit_r.tasks) _ stand);
      some = some-append (kept_axes 0 fit_l.source.layout la) (kept_axes 0 fit_r.source.layout ra)
          (some-kept 0 fit_l.source.layout la (subst HaveChunks (sym f.layout_is) (with-some l.layout la pairs sl (sym np) some-pairs)))
          (some-kept 0 fit_r.source.layout ra (subst HaveChunks (sym k.layout_is) (with-some r.layout ra pairs sr (sym n ∙ sym np) some-pairs)));
    }
