-- Reductions carry their formula.
use Rattle.std.proofs.Common.{◌≡◌, ℕ, zero, suc, ◌+◌, ◌-◌, ◌*◌, ◌<◌, ◌≤◌, cond, Bool, true, false, List, [], ◌∷◌, ◌++◌, length, map, take, drop, get_or, refl, ap, sym, subst, ◌∙◌, arith, Some, None, ℤ, length-append}
use Rattle.std.specs.Prelude.{Option}
use Rattle.std.specs.List.{range_with_len, flat_map}
use Rattle.std.proofs.lemmas.List.{get_or_append_left, get_or-append_right}
use Rattle.std.proofs.lemmas.List.FromFn.{get_or-map-range_with_len, length-map-range_with_len}
use Rattle.std.proofs.Math.Nat.{mul-le-mul_left}
use Rattle.nd_shape.specs.Block.{Array}
use Rattle.nd_shape.specs.Index.{IsIn, index_at}
use Rattle.nd_shape.specs.Region.{moved}
use Rattle.nd_shape.specs.Shape.{elements}
use Rattle.nd_shape.specs.Chunk.{total}
use Rattle.nd_shape.proofs.Places.{index_at-in}
use Rattle.nd_grid.specs.declared.operation.Fold.{Fold}
use Rattle.nd_grid.specs.Operation.{folded}
use Rattle.nd_grid.specs.Grid.{Grid, Holds, grid_of, is_among, reduced, kept_shape, folded_shape, merged}
use Rattle.nd_grid.proofs.Cells.{block-at, block-shape}
use Rattle.chunk_layout.specs.Layouts.{counts, lengths, blocks, starts_at, lengths_at, box_at}
use Rattle.cluster_msgs.specs.Dags.{IsEarlier}
use Rattle.cluster_msgs.specs.Shape.{deps_of}
use Rattle.cluster_msgs.specs.Values.{with_first, all_of}
use Rattle.block_kernels.specs.declared.spec.Spec.TheVariants as kernels
use Rattle.block_kernels.specs.Kernels.{nth, reduced_all, elements_at}
use Rattle.task_graph.specs.declared.graph.Task.{Task}
use Rattle.task_graph.specs.Graphs.{shape_of, value, task, task_at, no_task}
use Rattle.task_graph.proofs.Making.{Made, value-made, input-at, InputIs}
use Rattle.lowering_laws.specs.Sources.{Source, key_at}
use Rattle.lowering_laws.specs.Stages.{kept_axes, group_tasks, level_tasks, tree_tasks, tree_count, folded_tasks, folded_each, partial_task, reduced_blocks}
use Rattle.lowering_laws.specs.Boxes.{fold_below, fold_box}
use Rattle.lowering_laws.specs.Law.{Carries, Stand, HaveChunks}
use Rattle.lowering_laws.proofs.Carrying.{Stand-front, Stand-back, carries-at}
use Rattle.nd_grid.proofs.FoldAlgebra.{start-folded}
use Rattle.lowering_laws.proofs.Folds.{below-same, box-blocks, start-box}
use Rattle.chunk_layout.specs.Trees.{tree}
use Rattle.lowering_laws.proofs.Trees.{KeyHas, IsFolded, AreParts, tree-levels, levels-fold}

-- ---- the axes that are folded

abbrev pub folded_part : ℕ → List (List ℕ) → List ℕ → List (List ℕ)
folded_part k [] axes = []
folded_part k (sizes ∷ layout) axes = cond (is_among k axes) (sizes ∷ folded_part (suc k) layout axes) (folded_part (suc k) layout axes)

map-cond : {A B : Type 0} (f : A → B) (b : Bool) (x : A) (xs : List A) (y : B) (ys : List B) → f x ≡ y → map f xs ≡ ys → map f (cond b (x ∷ xs) xs) ≡ cond b (y ∷ ys) ys
map-cond f true x xs y ys e h = ap (λ z. z ∷ map f xs) e ∙ ap (λ zs. y ∷ zs) h
map-cond f false x xs y ys e h = h

map-drop : {A B : Type 0} (f : A → B) (b : Bool) (x : A) (xs : List A) (y : B) (ys : List B) → f x ≡ y → map f xs ≡ ys → map f (cond b xs (x ∷ xs)) ≡ cond b ys (y ∷ ys)
map-drop f true x xs y ys e h = h
map-drop f false x xs y ys e h = ap (λ z. z ∷ map f xs) e ∙ ap (λ zs. y ∷ zs) h

pub counts-folded : (k : ℕ) (layout : List (List ℕ)) (axes : List ℕ) → counts (folded_part k layout axes) ≡ folded_shape k (counts layout) axes
counts-folded k [] axes = refl
counts-folded k (sizes ∷ layout) axes = map-cond (λ (ss : List ℕ). length ss) (is_among k axes) sizes (folded_part (suc k) layout axes) (length sizes) (folded_shape (suc k) (counts layout) axes) refl (counts-folded (suc k) layout axes)

pub lengths-folded : (k : ℕ) (layout : List (List ℕ)) (axes : List ℕ) → lengths (folded_part k layout axes) ≡ folded_shape k (lengths layout) axes
lengths-folded k [] axes = refl
lengths-folded k (sizes ∷ layout) axes = map-cond (λ (ss : List ℕ). total ss) (is_among k axes) sizes (folded_part (suc k) layout axes) (total sizes) (folded_shape (suc k) (lengths layout) axes) refl (lengths-folded (suc k) layout axes)

pub lengths-kept : (k : ℕ) (layout : List (List ℕ)) (axes : List ℕ) → lengths (kept_axes k layout axes) ≡ kept_shape k (lengths layout) axes
lengths-kept k [] axes = refl
lengths-kept k (sizes ∷ layout) axes = map-drop (λ (ss : List ℕ). total ss) (is_among k axes) sizes (kept_axes (suc k) layout axes) (total sizes) (kept_shape (suc k) (lengths layout) axes) refl (lengths-kept (suc k) layout axes)

-- ---- an index of one of each

-- what a block of the operand has to do with a block of the result and one of the folded axes
pub record IsMerge (k : ℕ) (axes : List ℕ) (layout : List (List ℕ)) (own kstarts klens fstarts flens : List ℕ) : Type 0 where
  pub inside : IsIn (counts layout) own
  pub folded_is : folded_shape k (lengths_at layout own) axes ≡ flens
  pub kept_is : kept_shape k (lengths_at layout own) axes ≡ klens
  pub within : (is rs : List ℕ) → IsIn klens is → IsIn flens rs → IsIn (lengths_at layout own) (merged k (lengths_at layout own) axes is rs)
  pub same : (is rs : List ℕ) → IsIn klens is → IsIn flens rs → moved (starts_at layout own) (merged k (lengths_at layout own) axes is rs) ≡ merged k (lengths layout) axes (moved kstarts is) (moved fstarts rs)

fold-in : (k : ℕ) (axes sizes : List ℕ) (layout : List (List ℕ)) (c : ℕ) (own kstarts klens fstarts flens : List ℕ) → is_among k axes ≡ true → IsMerge (suc k) axes layout own kstarts klens fstarts flens
    → (is rs : List ℕ) → IsIn klens is → IsIn (get_or sizes c 0 ∷ flens) rs → IsIn (lengths_at (sizes ∷ layout) (c ∷ own)) (merged k (lengths_at (sizes ∷ layout) (c ∷ own)) axes is rs)
fold-in k axes sizes layout c own kstarts klens fstarts flens e m is [] h g = absurd g
fold-in k axes sizes layout c own kstarts klens fstarts flens e m is (r ∷ rs) h g =
    subst (IsIn (lengths_at (sizes ∷ layout) (c ∷ own))) (sym (ap (λ b. cond b (r ∷ merged (suc k) (lengths_at layout own) axes is rs) (get_or is 0 0 ∷ merged (suc k) (lengths_at layout own) axes (drop 1 is) (r ∷ rs))) e))
    (g.0, m.within is rs h g.1)

fold-same : (k : ℕ) (axes sizes : List ℕ) (layout : List (List ℕ)) (c : ℕ) (own kstarts klens fstarts flens : List ℕ) → is_among k axes ≡ true → IsMerge (suc k) axes layout own kstarts klens fstarts flens
    → (is rs : List ℕ) → IsIn klens is → IsIn (get_or sizes c 0 ∷ flens) rs
    → moved (starts_at (sizes ∷ layout) (c ∷ own)) (merged k (lengths_at (sizes ∷ layout) (c ∷ own)) axes is rs) ≡ merged k (lengths (sizes ∷ layout)) axes (moved kstarts is) (moved (total (take c sizes) ∷ fstarts) rs)
fold-same k axes sizes layout c own kstarts klens fstarts flens e m is [] h g = absurd g
fold-same k axes sizes layout c own kstarts klens fstarts flens e m is (r ∷ rs) h g =
    ap (moved (starts_at (sizes ∷ layout) (c ∷ own))) (ap (λ b. cond b (r ∷ merged (suc k) (lengths_at layout own) axes is rs) (get_or is 0 0 ∷ merged (suc k) (lengths_at layout own) axes (drop 1 is) (r ∷ rs))) e)
    ∙ ap (λ xs. (total (take c sizes) + r) ∷ xs) (m.same is rs h g.1)
    ∙ sym (ap (λ b. cond b ((total (take c sizes) + r) ∷ merged (suc k) (lengths layout) axes (moved kstarts is) (moved fstarts rs)) (get_or (moved kstarts is) 0 0 ∷ merged (suc k) (lengths layout) axes (drop 1 (moved kstarts is)) ((total (take c sizes) + r) ∷ moved fstarts rs))) e)

merge-folded : (k : ℕ) (axes sizes : List ℕ) (layout : List (List ℕ)) (c : ℕ) (own kstarts klens fstarts flens : List ℕ) → is_among k axes ≡ true → c < length sizes → IsMerge (suc k) axes layout own kstarts klens fstarts flens
    → IsMerge k axes (sizes ∷ layout) (c ∷ own) kstarts klens (total (take c sizes) ∷ fstarts) (get_or sizes c 0 ∷ flens)
merge-folded k axes sizes layout c own kstarts klens fstarts flens e h m = record {
  inside = (h, m.inside);
  folded_is = ap (λ b. cond b (get_or sizes c 0 ∷ folded_shape (suc k) (lengths_at layout own) axes) (folded_shape (suc k) (lengths_at layout own) axes)) e ∙ ap (λ ns. get_or sizes c 0 ∷ ns) m.folded_is;
  kept_is = ap (λ b. cond b (kept_shape (suc k) (lengths_at layout own) axes) (get_or sizes c 0 ∷ kept_shape (suc k) (lengths_at layout own) axes)) e ∙ m.kept_is;
  within = fold-in k axes sizes layout c own kstarts klens fstarts flens e m;
  same = fold-same k axes sizes layout c own kstarts klens fstarts flens e m;
}

keep-in : (k : ℕ) (axes sizes : List ℕ) (layout : List (List ℕ)) (c : ℕ) (own kstarts klens fstarts flens : List ℕ) → is_among k axes ≡ false → IsMerge (suc k) axes layout own kstarts klens fstarts flens
    → (is rs : List ℕ) → IsIn (get_or sizes c 0 ∷ klens) is → IsIn flens rs → IsIn (lengths_at (sizes ∷ layout) (c ∷ own)) (merged k (lengths_at (sizes ∷ layout) (c ∷ own)) axes is rs)
keep-in k axes sizes layout c own kstarts klens fstarts flens e m [] rs h g = absurd h
keep-in k axes sizes layout c own kstarts klens fstarts flens e m (i ∷ is) rs h g =
    subst (IsIn (lengths_at (sizes ∷ layout) (c ∷ own))) (sym (ap (λ b. cond b (get_or rs 0 0 ∷ merged (suc k) (lengths_at layout own) axes (i ∷ is) (drop 1 rs)) (i ∷ merged (suc k) (lengths_at layout own) axes is rs)) e))
    (h.0, m.within is rs h.1 g)

keep-same : (k : ℕ) (axes sizes : List ℕ) (layout : List (List ℕ)) (c : ℕ) (own kstarts klens fstarts flens : List ℕ) → is_among k axes ≡ false → IsMerge (suc k) axes layout own kstarts klens fstarts flens
    → (is rs : List ℕ) → IsIn (get_or sizes c 0 ∷ klens) is → IsIn flens rs
    → moved (starts_at (sizes ∷ layout) (c ∷ own)) (merged k (lengths_at (sizes ∷ layout) (c ∷ own)) axes is rs) ≡ merged k (lengths (sizes ∷ layout)) axes (moved (total (take c sizes) ∷ kstarts) is) (moved fstarts rs)
keep-same k axes sizes layout c own kstarts klens fstarts flens e m [] rs h g = absurd h
keep-same k axes sizes layout c own kstarts klens fstarts flens e m (i ∷ is) rs h g =
    ap (moved (starts_at (sizes ∷ layout) (c ∷ own))) (ap (λ b. cond b (get_or rs 0 0 ∷ merged (suc k) (lengths_at layout own) axes (i ∷ is) (drop 1 rs)) (i ∷ merged (suc k) (lengths_at layout own) axes is rs)) e)
    ∙ ap (λ xs. (total (take c sizes) + i) ∷ xs) (m.same is rs h.1 g)
    ∙ sym (ap (λ b. cond b (get_or (moved fstarts rs) 0 0 ∷ merged (suc k) (lengths layout) axes ((total (take c sizes) + i) ∷ moved kstarts is) (drop 1 (moved fstarts rs))) ((total (take c sizes) + i) ∷ merged (suc k) (lengths layout) axes (moved kstarts is) (moved fstarts rs))) e)

merge-kept : (k : ℕ) (axes sizes : List ℕ) (layout : List (List ℕ)) (c : ℕ) (own kstarts klens fstarts flens : List ℕ) → is_among k axes ≡ false → c < length sizes → IsMerge (suc k) axes layout own kstarts klens fstarts flens
    → IsMerge k axes (sizes ∷ layout) (c ∷ own) (total (take c sizes) ∷ kstarts) (get_or sizes c 0 ∷ klens) fstarts flens
merge-kept k axes sizes layout c own kstarts klens fstarts flens e h m = record {
  inside = (h, m.inside);
  folded_is = ap (λ b. cond b (get_or sizes c 0 ∷ folded_shape (suc k) (lengths_at layout own) axes) (folded_shape (suc k) (lengths_at layout own) axes)) e ∙ m.folded_is;
  kept_is = ap (λ b. cond b (kept_shape (suc k) (lengths_at layout own) axes) (get_or sizes c 0 ∷ kept_shape (suc k) (lengths_at layout own) axes)) e ∙ ap (λ ns. get_or sizes c 0 ∷ ns) m.kept_is;
  within = keep-in k axes sizes layout c own kstarts klens fstarts flens e m;
  same = keep-same k axes sizes layout c own kstarts klens fstarts flens e m;
}

-- the parts of a merge, under the blocks `bs` of the result and `cs` of the folded axes
abbrev pub Merging : ℕ → List ℕ → List (List ℕ) → List ℕ → List ℕ → Type 0
Merging k axes layout bs cs =
    IsMerge k axes layout (merged k (counts layout) axes bs cs) (starts_at (kept_axes k layout axes) bs) (lengths_at (kept_axes k layout axes) bs) (starts_at (folded_part k layout axes) cs) (lengths_at (folded_part k layout axes) cs)

pub merging : (k : ℕ) (axes : List ℕ) (layout : List (List ℕ)) (bs cs : List ℕ) → IsIn (counts (kept_axes k layout axes)) bs → IsIn (counts (folded_part k layout axes)) cs → Merging k axes layout bs cs
merging k axes [] [] [] h g = record { inside = tt; folded_is = refl; kept_is = refl; within = λ is rs a b. tt; same = λ is rs a b. refl }
merging k axes [] [] (c ∷ cs) h g = absurd g
merging k axes [] (b ∷ bs) cs h g = absurd h
merging k axes (sizes ∷ layout) bs cs h g =
    let kept = kept_axes (suc k) layout axes in
    let part = folded_part (suc k) layout axes in
    elim (is_among k axes) as (λ t. is_among k axes ≡ t → IsIn (counts (cond t kept (sizes ∷ kept))) bs → IsIn (counts (cond t (sizes ∷ part) part)) cs
    → IsMerge k axes (sizes ∷ layout) (cond t (get_or cs 0 0 ∷ merged (suc k) (counts layout) axes bs (drop 1 cs)) (get_or bs 0 0 ∷ merged (suc k) (counts layout) axes (drop 1 bs) cs))
    (starts_at (cond t kept (sizes ∷ kept)) bs) (lengths_at (cond t kept (sizes ∷ kept)) bs) (starts_at (cond t (sizes ∷ part) part) cs) (lengths_at (cond t (sizes ∷ part) part) cs)) [
      | true ↦ λ e i j. fold-case k axes sizes layout bs cs e i j (λ cs' j'. merging (suc k) axes layout bs cs' i j')
      | false ↦ λ e i j. keep-case k axes sizes layout bs cs e i j (λ bs' i'. merging (suc k) axes layout bs' cs i' j)
    ] refl h g
  where
    fold-case : (k : ℕ) (axes sizes : List ℕ) (layout : List (List ℕ)) (bs cs : List ℕ) → is_among k axes ≡ true → IsIn (counts (kept_axes (suc k) layout axes)) bs → IsIn (counts (sizes ∷ folded_part (suc k) layout axes)) cs
        → ((cs' : List ℕ) → IsIn (counts (folded_part (suc k) layout axes)) cs' → Merging (suc k) axes layout bs cs')
        → IsMerge k axes (sizes ∷ layout) (get_or cs 0 0 ∷ merged (suc k) (counts layout) axes bs (drop 1 cs)) (starts_at (kept_axes (suc k) layout axes) bs) (lengths_at (kept_axes (suc k) layout axes) bs)
        (starts_at (sizes ∷ folded_part (suc k) layout axes) cs) (lengths_at (sizes ∷ folded_part (suc k) layout axes) cs)
    fold-case k axes sizes layout bs [] e i j rec = absurd j
    fold-case k axes sizes layout bs (c ∷ cs) e i j rec = merge-folded k axes sizes layout c _ _ _ _ _ e j.0 (rec cs j.1)

    keep-case : (k : ℕ) (axes sizes : List ℕ) (layout : List (List ℕ)) (bs cs : List ℕ) → is_among k axes ≡ false → IsIn (counts (sizes ∷ kept_axes (suc k) layout axes)) bs → IsIn (counts (folded_part (suc k) layout axes)) cs
        → ((bs' : List ℕ) → IsIn (counts (kept_axes (suc k) layout axes)) bs' → Merging (suc k) axes layout bs' cs)
        → IsMerge k axes (sizes ∷ layout) (get_or bs 0 0 ∷ merged (suc k) (counts layout) axes (drop 1 bs) cs) (starts_at (sizes ∷ kept_axes (suc k) layout axes) bs) (lengths_at (sizes ∷ kept_axes (suc k) layout axes) bs)
        (starts_at (folded_part (suc k) layout axes) cs) (lengths_at (folded_part (suc k) layout axes) cs)
    keep-case k axes sizes layout [] cs e i j rec = absurd i
    keep-case k axes sizes layout (b ∷ bs) cs e i j rec = merge-kept k axes sizes layout b _ _ _ _ _ e i.0 (rec bs i.1)

-- ---- a partial result

first-two : {A : Type 0} (o : Option A) (os : Option (List A)) (vs : List A) → with_first o os ≡ Some vs → (x : A) × (xs : List A) × (os ≡ Some xs) × (vs ≡ x ∷ xs)
first-two None os vs h = absurd cc
first-two (Some x) None vs h = absurd cc
first-two (Some x) (Some xs) vs h = (x, xs, refl, cc)

pub one-block : (files : ℕ → List ℕ → ℤ) (tasks : List Task) (key : ℕ) (blocks : List Array) → all_of (map (value files tasks) (key ∷ [])) ≡ Some blocks → (b : Array) × (blocks ≡ b ∷ [])
one-block files tasks key blocks v = let r = first-two (value files tasks key) (Some []) blocks v in (r.0, r.3 ∙ ap (λ (xs : List Array). r.0 ∷ xs) (sym (let e : ◌≡◌ {A = List Array} [] r.1 = cc in e)))

-- the fold of one input is that of its elements
one-input : (fold : Fold) (axes : List ℕ) (blocks : List Array) (i : List ℕ) → (b : Array) × (blocks ≡ b ∷ []) → folded fold (elements_at (map (reduced fold axes) (map grid_of blocks)) i) ≡ (reduced fold axes (nth (map grid_of blocks) 0)).at i
one-input fold axes blocks i one =
    subst (λ (bs : List Array). folded fold (elements_at (map (reduced fold axes) (map grid_of bs)) i) ≡ (reduced fold axes (nth (map grid_of bs) 0)).at i) (sym one.1)
    (start-folded fold (map (λ p. (grid_of one.0).at (merged 0 one.0.shape axes i (index_at (folded_shape 0 one.0.shape axes) p))) (range_with_len 0 (elements (folded_shape 0 one.0.shape axes)))))

-- the elements of a block that are folded at an index of the result
abbrev part_of : Fold → List ℕ → List (List ℕ) → Grid → List ℕ → ℕ → List ℕ → Option ℤ
part_of fold axes layout g bs p i =
    let cs = index_at (counts (folded_part 0 layout axes)) p in
    fold_box fold (lengths_at (folded_part 0 layout axes) cs) (λ rs. g.at (merged 0 (lengths layout) axes (moved (starts_at (kept_axes 0 layout axes) bs) i) (moved (starts_at (folded_part 0 layout axes) cs) rs)))

reduced-block : (fold : Fold) (axes : List ℕ) (layout : List (List ℕ)) (g a : Grid) (bs cs : List ℕ) (i : List ℕ) → Merging 0 axes layout bs cs → Holds a g (box_at layout (merged 0 (counts layout) axes bs cs)) → IsIn (lengths_at (kept_axes 0 layout axes) bs) i
    → (reduced fold axes a).at i ≡ fold_box fold (lengths_at (folded_part 0 layout axes) cs) (λ rs. g.at (merged 0 (lengths layout) axes (moved (starts_at (kept_axes 0 layout axes) bs) i) (moved (starts_at (folded_part 0 layout axes) cs) rs)))
reduced-block fold axes layout g a bs cs i m ha inside =
    let own = merged 0 (counts layout) axes bs cs in
    let flens = lengths_at (folded_part 0 layout axes) cs in
    ap (λ ns. fold_box fold (folded_shape 0 ns axes) (λ rs. a.at (merged 0 ns axes i rs))) ha.shape
    ∙ ap (λ ns. fold_box fold ns (λ rs. a.at (merged 0 (lengths_at layout own) axes i rs))) m.folded_is
    ∙ below-same fold (λ p. a.at (merged 0 (lengths_at layout own) axes i (index_at flens p))) _ (elements flens) (λ p h.
    let rs = index_at flens p in
    let r : IsIn flens rs = index_at-in flens p h in
    ha.at (merged 0 (lengths_at layout own) axes i rs) (m.within i rs inside r) ∙ ap g.at (m.same i rs inside r))

partial-has : (files : ℕ → List ℕ → ℤ) (tasks : List Task) → IsEarlier (deps_of (shape_of tasks)) → (fold : Fold) (axes : List ℕ) (s : Source) (g : Grid) (bs : List ℕ) (p key : ℕ) → Carries files tasks s g → IsIn (counts (kept_axes 0 s.layout axes)) bs
    → p < elements (counts (folded_part 0 s.layout axes)) → task_at tasks key ≡ partial_task fold axes s bs p → KeyHas files tasks key (lengths_at (kept_axes 0 s.layout axes) bs) (part_of fold axes s.layout g bs p)
partial-has files tasks e fold axes s g bs p key c h lt is =
    let layout = s.layout in
    let cs = index_at (counts (folded_part 0 layout axes)) p in
    let same : index_at (folded_shape 0 (counts layout) axes) p ≡ cs = ap (λ ns. index_at ns p) (sym (counts-folded 0 layout axes)) in
    let own = merged 0 (counts layout) axes bs cs in
    let t = task (kernels.Reduce fold axes (lengths_at layout own ∷ [])) (key_at s own ∷ []) in
    let it : task_at tasks key ≡ t = is ∙ ap (λ rs. task (kernels.Reduce fold axes (lengths_at layout (merged 0 (counts layout) axes bs rs) ∷ [])) (key_at s (merged 0 (counts layout) axes bs rs) ∷ [])) same in
    let made : (b : Array) → value files tasks key ≡ Some b → Made files tasks t b = λ b v. subst (λ (u : Task). Made files tasks u b) it (value-made files tasks e key b v) in
    let m : Merging 0 axes layout bs cs = merging 0 axes layout bs cs h (index_at-in (counts (folded_part 0 layout axes)) p lt) in
    record {
      shape = λ b v. block-shape (reduced_all fold axes (lengths_at layout own) (map grid_of (made b v).blocks)) b (made b v).block ∙ m.kept_is;
      cells = λ b v i inside.
          let d = made b v in
          let k = reduced_all fold axes (lengths_at layout own) (map grid_of d.blocks) in
          let input : InputIs files tasks d.blocks 0 (key_at s own) = input-at files tasks (key_at s own ∷ []) d.blocks 0 (key_at s own) d.values (omega arith) refl in
          let ha : Holds (grid_of input.block) g (box_at layout own) = carries-at files tasks s g own input.block c m.inside input.value_is in
          block-at k b i d.block (subst (λ ns. IsIn ns i) (sym m.kept_is) inside)
          ∙ one-input fold axes d.blocks i (one-block files tasks (key_at s own) d.blocks d.values)
          ∙ ap (λ (a : Grid). (reduced fold axes a).at i) input.grid_is
          ∙ reduced-block fold axes layout g (grid_of input.block) bs cs i m ha inside;
    }

-- ---- stages of several tasks for each block

pub length-levels : (fold : Fold) (dims : List ℕ) (at : ℕ) (levels : List (List ℕ)) → length (level_tasks fold dims at levels) ≡ total (map (λ (gs : List ℕ). length gs) levels)
length-levels fold dims at [] = refl
length-levels fold dims at (gs ∷ levels) =
    length-append (group_tasks fold dims at gs) (level_tasks fold dims (at + total gs) levels) ∙ ap (λ k. k + length (level_tasks fold dims (at + total gs) levels)) (groups at gs) ∙ ap (λ k. length gs + k) (length-levels fold dims (at + total gs) levels)
  where
    groups : (at : ℕ) (gs : List ℕ) → length (group_tasks fold dims at gs) ≡ length gs
    groups at [] = refl
    groups at (g ∷ gs) = ap suc (groups (at + g) gs)

pub length-folded : (fold : Fold) (n split : ℕ) (partial : ℕ → Task) (dims : List ℕ) (at : ℕ) → length (folded_tasks fold n split partial dims at) ≡ n + tree_count n split
length-folded fold n split partial dims at =
    length-append (map partial (range_with_len 0 n)) (tree_tasks fold dims at n split) ∙ ap (λ k. k + length (tree_tasks fold dims at n split)) (length-map-range_with_len partial 0 n) ∙ ap (λ k. n + k) (length-levels fold dims at (tree n split))

-- lists of one length, one behind the other
pub stride-at : (f : ℕ → List Task) (stride a n c j : ℕ) → ((k : ℕ) → length (f k) ≡ stride) → c < n → j < stride → get_or (flat_map f (range_with_len a n)) (stride * c + j) no_task ≡ get_or (f (a + c)) j no_task
stride-at f stride a zero c j h lt b = absurd (omega arith)
stride-at f stride a (suc n) zero j h lt b =
    let z : stride * 0 + j ≡ j = omega arith in
    let y : a + 0 ≡ a = omega arith in
    ap (λ k. get_or (f a ++ flat_map f (range_with_len (a + 1) n)) k no_task) z ∙ get_or_append_left (f a) (flat_map f (range_with_len (a + 1) n)) no_task j (omega (arith, h a)) ∙ ap (λ k. get_or (f k) j no_task) (sym y)
stride-at f stride a (suc n) (suc c) j h lt b =
    let z : stride * suc c + j - stride ≡ stride * c + j = omega arith in
    let y : a + 1 + c ≡ a + suc c = omega arith in
    get_or-append_right (f a) (flat_map f (range_with_len (a + 1) n)) stride (stride * suc c + j) no_task (h a) (omega arith)
    ∙ ap (λ k. get_or (flat_map f (range_with_len (a + 1) n)) k no_task) z ∙ stride-at f stride (a + 1) n c j h (omega arith) b ∙ ap (λ k. get_or (f k) j no_task) y

pub length-strides : (f : ℕ → List Task) (stride a n : ℕ) → ((k : ℕ) → length (f k) ≡ stride) → length (flat_map f (range_with_len a n)) ≡ stride * n
length-strides f stride a zero h = omega arith
length-strides f stride a (suc n) h = length-append (f a) (flat_map f (range_with_len (a + 1) n)) ∙ omega (arith, h a, length-strides f stride (a + 1) n h)

pub stand-stride : (all : List Task) (base : ℕ) (f : ℕ → List Task) (stride n c : ℕ) → ((k : ℕ) → length (f k) ≡ stride) → c < n → Stand all base (flat_map f (range_with_len 0 n)) → Stand all (base + stride * c) (f c)
stand-stride all base f stride n c h lt stand = record {
  at = λ j b.
      let z : base + stride * c + j ≡ base + (stride * c + j) = omega arith in
      let y : 0 + c ≡ c = omega arith in
      ap (task_at all) z ∙ stand.at (stride * c + j) (omega (arith, length-strides f stride 0 n h, whole stride c n j lt (omega (arith, h c)))) ∙ stride-at f stride 0 n c j h lt (omega (arith, h c)) ∙ ap (λ k. get_or (f k) j no_task) y;
}
  where
    whole : (s c n j : ℕ) → c < n → j < s → s * c + j < s * n
    whole s c n j lt b = let m : s * suc c ≤ s * n = mul-le-mul_left s (omega arith) in omega (arith, m)

-- what each block's key has, the array carries
pub carries-folded : (files : ℕ → List ℕ → ℤ) (tasks : List Task) → IsEarlier (deps_of (shape_of tasks)) → (fold : Fold) (n split : ℕ) (layout : List (List ℕ)) (partial : List ℕ → ℕ → Task) (base : ℕ) (g : Grid) (part : List ℕ → ℕ → List ℕ → Option ℤ) → 1 ≤ n → 2 ≤ split
    → lengths layout ≡ g.shape → Stand tasks base (folded_each fold n split layout partial base).tasks
    → ((bs : List ℕ) (p key : ℕ) → IsIn (counts layout) bs → p < n → task_at tasks key ≡ partial bs p → KeyHas files tasks key (lengths_at layout bs) (part bs p))
    → ((bs : List ℕ) (p : ℕ) (i : List ℕ) → IsFolded fold (part bs p i))
    → ((bs i : List ℕ) → IsIn (counts layout) bs → IsIn (lengths_at layout bs) i → fold_below fold n (λ p. part bs p i) ≡ g.at (moved (starts_at layout bs) i))
    → Carries files tasks (folded_each fold n split layout partial base).source g
carries-folded files tasks e fold n split layout partial base g part some two shape stand has folds whole = record {
  shape = shape;
  each = λ c b lt v.
      let bs = index_at (counts layout) c in
      let inside : IsIn (counts layout) bs = index_at-in (counts layout) c lt in
      let stride = n + tree_count n split in
      let f = λ (c : ℕ). folded_tasks fold n split (partial (index_at (counts layout) c)) (lengths_at layout (index_at (counts layout) c)) (base + stride * c) in
      let here : Stand tasks (base + stride * c) (folded_tasks fold n split (partial bs) (lengths_at layout bs) (base + stride * c)) =
      stand-stride tasks base f stride (blocks layout) c (λ k. length-folded fold n split (partial (index_at (counts layout) k)) (lengths_at layout (index_at (counts layout) k)) (base + stride * k)) lt stand in
      let at = base + stride * c in
      let front : Stand tasks at (map (partial bs) (range_with_len 0 n)) = Stand-front tasks at (map (partial bs) (range_with_len 0 n)) _ here in
      let few : length (map (partial bs) (range_with_len 0 n)) ≡ n = length-map-range_with_len (partial bs) 0 n in
      let back : Stand tasks (at + n) (tree_tasks fold (lengths_at layout bs) at n split) = subst (λ k. Stand tasks (at + k) (tree_tasks fold (lengths_at layout bs) at n split)) few (Stand-back tasks at (map (partial bs) (range_with_len 0 n)) _ here) in
      let parts : AreParts files tasks fold (lengths_at layout bs) at n (part bs) = record {
        has = λ k h. has bs k (at + k) inside h (front.at k (omega arith) ∙ get_or-map-range_with_len (partial bs) 0 n k k no_task h (omega arith));
        folded_each = folds bs;
      } in
      let key : base + (stride - 1) + stride * c + 1 ≡ at + n + tree_count n split = omega arith in
      let it = levels-fold files tasks e fold (lengths_at layout bs) (tree n split) at n (part bs) (tree-levels n split some two) parts back (base + (stride - 1) + stride * c) key in
      record { shape = it.shape b v; at = λ i h. it.cells b v i h ∙ whole bs i inside h };
}

pub carries-reduced : (files : ℕ → List ℕ → ℤ) (tasks : List Task) → IsEarlier (deps_of (shape_of tasks)) → (fold : Fold) (axes : List ℕ) (split : ℕ) (s : Source) (g : Grid) (base : ℕ) → HaveChunks s.layout → 2 ≤ split → Carries files tasks s g
    → Stand tasks base (reduced_blocks fold axes split s base).tasks → Carries files tasks (reduced_blocks fold axes split s base).source (reduced fold axes g)
carries-reduced files tasks e fold axes split s g base chunks two c stand =
    let layout = s.layout in
    let part = folded_part 0 layout axes in
    let same : elements (counts part) ≡ elements (folded_shape 0 (counts layout) axes) = ap elements (counts-folded 0 layout axes) in
    carries-folded files tasks e fold (elements (folded_shape 0 (counts layout) axes)) split (kept_axes 0 layout axes) (partial_task fold axes s) base (reduced fold axes g) (part_of fold axes layout g)
    (some-blocks 0 layout axes chunks) two
    (lengths-kept 0 layout axes ∙ ap (λ ns. kept_shape 0 ns axes) c.shape) stand
    (λ bs p key h lt is. partial-has files tasks e fold axes s g bs p key c h (omega arith) is)
    (λ bs p i. record {
      same = start-box fold (lengths_at part (index_at (counts part) p)) (λ rs. g.at (merged 0 (lengths layout) axes (moved (starts_at (kept_axes 0 layout axes) bs) i) (moved (starts_at part (index_at (counts part) p)) rs)));
    })
    (λ bs i h inside.
    ap (λ n. fold_below fold n (λ p. part_of fold axes layout g bs p i)) (sym same)
    ∙ sym (box-blocks fold part (λ rs. g.at (merged 0 (lengths layout) axes (moved (starts_at (kept_axes 0 layout axes) bs) i) rs)))
    ∙ ap (λ ns. fold_box fold ns (λ rs. g.at (merged 0 (lengths layout) axes (moved (starts_at (kept_axes 0 layout axes) bs) i) rs))) (lengths-folded 0 layout axes)
    ∙ ap (λ ns. fold_box fold (folded_shape 0 ns axes) (λ rs. g.at (merged 0 ns axes (moved (starts_at (kept_axes 0 layout axes) bs) i) rs))) c.shape)
  where
    some-blocks : (k : ℕ) (layout : List (List ℕ)) (axes : List ℕ) → HaveChunks layout → 1 ≤ elements (folded_shape k (counts layout) axes)
    some-blocks k [] axes h = omega arith
    some-blocks k (sizes ∷ layout) axes h = axis (is_among k axes) (length sizes) (folded_shape (suc k) (counts layout) axes) h.0 (some-blocks (suc k) layout axes h.1)
      where
        product : (m n : ℕ) → 0 < m → 1 ≤ n → 1 ≤ m * n
        product (suc m) n h g = omega arith
        product zero n h g = absurd (omega arith)

        axis : (b : Bool) (m : ℕ) (ns : List ℕ) → 0 < m → 1 ≤ elements ns → 1 ≤ elements (cond b (m ∷ ns) ns)
        axis true m ns a r = product m (elements ns) a r
        axis false m ns a r = r
