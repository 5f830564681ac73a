-- The value of a tree over partial results is the fold of them all.
use Rattle.std.proofs.Common.{◌≡◌, ◌≢◌, ℕ, zero, suc, ◌+◌, ◌-◌, ◌/◌, ◌%◌, ◌<◌, ◌≤◌, cond, List, [], ◌∷◌, length, map, take, get_or, refl, ap, sym, subst, ◌∙◌, arith, inl, inr, Some, None, ℤ, replicate, length-append}
use Rattle.std.specs.Prelude.{nat_eq, nat_lt, Option}
use Rattle.std.specs.List.{range_with_len}
use Rattle.std.proofs.lemmas.Bool.{cases_eq, cases_lt}
use Rattle.std.proofs.lemmas.List.{length-map, length-replicate, get_or-map, get_or_append_left, get_or-append_right, get_or-replicate}
use Rattle.std.proofs.lemmas.List.FromFn.{fill_by_all, length-range_with_len, get_or-range_with_len}
use Rattle.small_facts.proofs.Lists.{rest_listed}
use Rattle.nd_shape.specs.Block.{Array}
use Rattle.nd_shape.specs.Index.{IsIn, index_at}
use Rattle.nd_shape.specs.Shape.{elements}
use Rattle.nd_shape.specs.Chunk.{total, even_chunks}
use Rattle.nd_grid.specs.declared.operation.Fold.{Fold}
use Rattle.nd_grid.specs.Operation.{combine_two, neutral, folded}
use Rattle.nd_grid.specs.Grid.{Grid, grid_of, reduced, kept_shape, folded_shape, merged}
use Rattle.nd_grid.proofs.Cells.{block-at, block-shape}
use Rattle.chunk_layout.specs.Trees.{levels_within, tree}
use Rattle.cluster_msgs.specs.Dags.{IsEarlier}
use Rattle.cluster_msgs.specs.Shape.{deps_of}
use Rattle.block_kernels.specs.declared.spec.Spec.TheVariants as kernels
use Rattle.block_kernels.specs.Kernels.{elements_at, reduced_all}
use Rattle.task_graph.specs.declared.graph.Task.{Task}
use Rattle.task_graph.specs.Graphs.{shape_of, value, task, task_at}
use Rattle.task_graph.proofs.Making.{Made, value-made, all-at, all-length, no_array}
use Rattle.lowering_laws.specs.Stages.{group_tasks, level_tasks}
use Rattle.lowering_laws.specs.Boxes.{fold_below}
use Rattle.lowering_laws.specs.Law.{Stand}
use Rattle.lowering_laws.proofs.Carrying.{Stand-front, Stand-back}
use Rattle.lowering_laws.proofs.Cutting.{total-even}
use Rattle.nd_grid.proofs.FoldAlgebra.{start-folded}
use Rattle.lowering_laws.proofs.Folds.{below-chunks}
use Rattle.chunk_layout.proofs.Folding.{fewer-groups}
use Rattle.chunk_layout.proofs.Merging.{has-some}
use Rattle.chunk_layout.proofs.Parting.{total-before}
use Rattle.plain_eval.proofs.Paired.{kept-none}

-- where the key has a value, that has these lengths and elements
pub record KeyHas (files : ℕ → List ℕ → ℤ) (tasks : List Task) (key : ℕ) (dims : List ℕ) (at : List ℕ → Option ℤ) : Type 0 where
  pub shape : (b : Array) → value files tasks key ≡ Some b → b.shape ≡ dims
  pub cells : (b : Array) → value files tasks key ≡ Some b → (i : List ℕ) → IsIn dims i → (grid_of b).at i ≡ at i

-- an element that a fold has made
pub record IsFolded (fold : Fold) (x : Option ℤ) : Type 0 where
  pub same : combine_two fold (Some (neutral fold)) x ≡ x

-- the keys from `at` on are partial results
pub record AreParts (files : ℕ → List ℕ → ℤ) (tasks : List Task) (fold : Fold) (dims : List ℕ) (at n : ℕ) (part : ℕ → List ℕ → Option ℤ) : Type 0 where
  pub has : (k : ℕ) → k < n → KeyHas files tasks (at + k) dims (part k)
  pub folded_each : (k : ℕ) (i : List ℕ) → IsFolded fold (part k i)

-- ---- levels

-- levels over n partial results: the groups of each part those of the one before it, and none is empty
abbrev pub AreLevels : ℕ → List (List ℕ) → Type 0
AreLevels n [] = n ≡ 1
AreLevels n (gs ∷ levels) = (total gs ≡ n) × ((j : ℕ) → j < length gs → 0 < get_or gs j 0) × AreLevels (length gs) levels

abbrev pub level_count : List (List ℕ) → ℕ
level_count levels = total (map (λ (gs : List ℕ). length gs) levels)

pub replicate-at : (n s j : ℕ) → j < n → get_or (replicate n s) j 0 ≡ s
replicate-at zero s j h = absurd (omega arith)
replicate-at (suc n) s zero h = refl
replicate-at (suc n) s (suc j) h = replicate-at n s j (omega arith)

rest-length : (r : ℕ) → length (cond (nat_eq r 0) [] (r ∷ [])) ≤ 1
rest-length r = elim (cases_eq r 0) [ inl e ↦ subst (λ (xs : List ℕ). length xs ≤ 1) (sym (none r e)) (omega arith) | inr d ↦ subst (λ (xs : List ℕ). length xs ≤ 1) (sym (rest_listed r d)) (omega arith) ]
  where
    none : (r : ℕ) → r ≡ 0 → ◌≡◌ {A = List ℕ} (cond (nat_eq r 0) [] (r ∷ [])) []
    none r e = grind arith

pub rest-none : (r : ℕ) → r ≡ 0 → ◌≡◌ {A = List ℕ} (cond (nat_eq r 0) [] (r ∷ [])) []
rest-none r e = grind arith

length-even : (n split : ℕ) → length (even_chunks n split) ≡ n / split + length (cond (nat_eq (n % split) 0) [] (n % split ∷ []))
length-even n split = length-append (replicate (n / split) split) (cond (nat_eq (n % split) 0) [] (n % split ∷ [])) ∙ ap (λ k. k + length (cond (nat_eq (n % split) 0) [] (n % split ∷ []))) (length-replicate (n / split) split)

even-some : (n split j : ℕ) → split ≢ 0 → j < length (even_chunks n split) → 0 < get_or (even_chunks n split) j 0
even-some n split j s h = elim (cases_lt j (n / split)) [
  | inl lt ↦ let e : get_or (even_chunks n split) j 0 ≡ split =
      get_or_append_left (replicate (n / split) split) (cond (nat_eq (n % split) 0) [] (n % split ∷ [])) 0 j (omega (arith, length-replicate (n / split) split)) ∙ replicate-at (n / split) split j lt in omega arith
  | inr ge ↦ let rest = cond (nat_eq (n % split) 0) [] (n % split ∷ []) in
      let e : get_or (even_chunks n split) j 0 ≡ get_or (cond (nat_eq (n % split) 0) [] (n % split ∷ [])) (j - n / split) 0 =
      get_or-append_right (replicate (n / split) split) (cond (nat_eq (n % split) 0) [] (n % split ∷ [])) (n / split) j 0 (length-replicate (n / split) split) ge in
      elim (cases_eq (n % split) 0) [
        | inl z ↦ let l : length (cond (nat_eq (n % split) 0) [] (n % split ∷ [])) ≡ 0 = ap length (rest-none (n % split) z) in absurd (omega (arith, length-even n split))
        | inr d ↦ let l : length (cond (nat_eq (n % split) 0) [] (n % split ∷ [])) ≡ 1 = ap length (rest_listed (n % split) d) in
            let z : j - n / split ≡ 0 = omega (arith, length-even n split) in
            let f : get_or (cond (nat_eq (n % split) 0) [] (n % split ∷ [])) (j - n / split) 0 ≡ n % split = ap (λ (xs : List ℕ). get_or xs (j - n / split) 0) (rest_listed (n % split) d) ∙ ap (λ k. get_or (n % split ∷ []) k 0) z in
            omega arith
      ]
]

levels-are : (f n split : ℕ) → 1 ≤ n → n ≤ f → 2 ≤ split → AreLevels n (levels_within f n split)
levels-are zero n split h g s = absurd (omega arith)
levels-are (suc f) n split h g s = elim (cases_lt n 2) [
  | inl lt ↦ subst (AreLevels n) (sym (stops n lt (even_chunks n split ∷ levels_within f (length (even_chunks n split)) split))) (omega arith)
  | inr ge ↦ subst (AreLevels n) (sym (goes n ge (even_chunks n split ∷ levels_within f (length (even_chunks n split)) split)))
      (total-even n split (omega arith), (λ j lt. even-some n split j (omega arith) lt), levels-are f (length (even_chunks n split)) split (has-some (even_chunks n split) (omega (arith, total-even n split (omega arith)))) (omega (arith, fewer-groups n split ge s)) s)
]
  where
    stops : (n : ℕ) → n < 2 → (xs : List (List ℕ)) → cond (nat_lt n 2) [] xs ≡ []
    stops n h xs = grind arith

    goes : (n : ℕ) → 2 ≤ n → (xs : List (List ℕ)) → cond (nat_lt n 2) [] xs ≡ xs
    goes n h xs = grind arith

pub tree-levels : (n split : ℕ) → 1 ≤ n → 2 ≤ split → AreLevels n (tree n split)
tree-levels n split h s = levels-are n n split h (omega arith) s

-- ---- one group

no-folded : (k : ℕ) (ns : List ℕ) → folded_shape k ns [] ≡ []
no-folded k [] = refl
no-folded k (n ∷ ns) = no-folded (suc k) ns

merged-none : (k : ℕ) (ns is rs : List ℕ) → IsIn ns is → merged k ns [] is rs ≡ is
merged-none k [] [] rs h = refl
merged-none k [] (i ∷ is) rs h = absurd h
merged-none k (n ∷ ns) [] rs h = absurd h
merged-none k (n ∷ ns) (i ∷ is) rs h = ap (λ js. i ∷ js) (merged-none (suc k) ns is rs h.1)

-- without axes an element is folded by itself
reduced-none : (fold : Fold) (g : Grid) (i : List ℕ) → IsIn g.shape i → (reduced fold [] g).at i ≡ combine_two fold (Some (neutral fold)) (g.at i)
reduced-none fold g i h =
    ap (λ box. folded fold (map (λ p. g.at (merged 0 g.shape [] i (index_at box p))) (range_with_len 0 (elements box)))) (no-folded 0 g.shape)
    ∙ ap (λ j. combine_two fold (Some (neutral fold)) (g.at j)) (merged-none 0 g.shape i [] h)

pub elements-of : (fold : Fold) (axes : List ℕ) (blocks : List Array) (i : List ℕ) → elements_at (map (reduced fold axes) (map grid_of blocks)) i ≡ map (λ (b : Array). (reduced fold axes (grid_of b)).at i) blocks
elements-of fold axes [] i = refl
elements-of fold axes (b ∷ blocks) i = ap (λ xs. (reduced fold axes (grid_of b)).at i ∷ xs) (elements-of fold axes blocks i)

group-has : (files : ℕ → List ℕ → ℤ) (tasks : List Task) → IsEarlier (deps_of (shape_of tasks)) → (fold : Fold) (dims : List ℕ) (first g key : ℕ) (part : ℕ → List ℕ → Option ℤ) → 0 < g → AreParts files tasks fold dims first g part
    → task_at tasks key ≡ task (kernels.Reduce fold [] (replicate g dims)) (range_with_len first g) → KeyHas files tasks key dims (λ i. fold_below fold g (λ r. part r i))
group-has files tasks e fold dims first g key part some parts is =
    let t = task (kernels.Reduce fold [] (replicate g dims)) (range_with_len first g) in
    let made : (b : Array) → value files tasks key ≡ Some b → Made files tasks t b = λ b h. subst (λ (u : Task). Made files tasks u b) is (value-made files tasks e key b h) in
    let head : get_or (replicate g dims) 0 [] ≡ dims = get_or-replicate g 0 dims [] some in
    record {
      shape = λ b h. let m = made b h in
          block-shape (reduced_all fold [] (get_or (replicate g dims) 0 []) (map grid_of m.blocks)) b m.block ∙ ap (λ ns. kept_shape 0 ns []) head ∙ kept-none 0 dims;
      cells = λ b h i inside.
          let m = made b h in
          let k = reduced_all fold [] (get_or (replicate g dims) 0 []) (map grid_of m.blocks) in
          let shape : k.shape ≡ dims = ap (λ ns. kept_shape 0 ns []) head ∙ kept-none 0 dims in
          let number : length m.blocks ≡ g = all-length (value files tasks) (range_with_len first g) m.blocks m.values ∙ length-range_with_len first g in
          block-at k b i m.block (subst (λ ns. IsIn ns i) (sym shape) inside)
          ∙ ap (folded fold) (
          elements-of fold [] m.blocks i
          ∙ fill_by_all (λ r. part r i) (map (λ (b : Array). (reduced fold [] (grid_of b)).at i) m.blocks) g None (length-map m.blocks (λ (b : Array). (reduced fold [] (grid_of b)).at i) ∙ number) (λ r lt.
          let v : value files tasks (first + r) ≡ Some (get_or m.blocks r no_array) =
          ap (value files tasks) (sym (get_or-range_with_len first g r 0 lt)) ∙ all-at (value files tasks) (range_with_len first g) m.blocks r 0 no_array m.values (omega (arith, length-range_with_len first g)) in
          let has : KeyHas files tasks (first + r) dims (part r) = parts.has r lt in
          let s : (get_or m.blocks r no_array).shape ≡ dims = has.shape (get_or m.blocks r no_array) v in
          get_or-map (λ (b : Array). (reduced fold [] (grid_of b)).at i) m.blocks r no_array None (omega arith)
          ∙ reduced-none fold (grid_of (get_or m.blocks r no_array)) i (subst (λ ns. IsIn ns i) (sym s) inside)
          ∙ ap (combine_two fold (Some (neutral fold))) (has.cells (get_or m.blocks r no_array) v i inside)
          ∙ (parts.folded_each r i).same)
          );
    }

-- ---- one level

pub length-groups : (fold : Fold) (dims : List ℕ) (at : ℕ) (gs : List ℕ) → length (group_tasks fold dims at gs) ≡ length gs
length-groups fold dims at [] = refl
length-groups fold dims at (g ∷ gs) = ap suc (length-groups fold dims (at + g) gs)

pub group-at : (fold : Fold) (dims : List ℕ) (at : ℕ) (gs : List ℕ) (j : ℕ) → j < length gs
    → task_at (group_tasks fold dims at gs) j ≡ task (kernels.Reduce fold [] (replicate (get_or gs j 0) dims)) (range_with_len (at + total (take j gs)) (get_or gs j 0))
group-at fold dims at [] j h = absurd (omega arith)
group-at fold dims at (g ∷ gs) zero h = let z : at + 0 ≡ at = omega arith in ap (λ k. task (kernels.Reduce fold [] (replicate g dims)) (range_with_len k g)) (sym z)
group-at fold dims at (g ∷ gs) (suc j) h =
    let z : at + g + total (take j gs) ≡ at + (g + total (take j gs)) = omega arith in
    group-at fold dims (at + g) gs j (omega arith) ∙ ap (λ k. task (kernels.Reduce fold [] (replicate (get_or gs j 0) dims)) (range_with_len k (get_or gs j 0))) z

level-parts : (files : ℕ → List ℕ → ℤ) (tasks : List Task) → IsEarlier (deps_of (shape_of tasks)) → (fold : Fold) (dims : List ℕ) (at n : ℕ) (gs : List ℕ) (part : ℕ → List ℕ → Option ℤ) → total gs ≡ n → ((j : ℕ) → j < length gs → 0 < get_or gs j 0)
    → AreParts files tasks fold dims at n part → Stand tasks (at + n) (group_tasks fold dims at gs) → AreParts files tasks fold dims (at + n) (length gs) (λ j i. fold_below fold (get_or gs j 0) (λ r. part (total (take j gs) + r) i))
level-parts files tasks e fold dims at n gs part whole some parts stand = record {
  has = λ j lt.
      let into : total (take j gs) + get_or gs j 0 ≤ total gs = total-before gs j lt in
      group-has files tasks e fold dims (at + total (take j gs)) (get_or gs j 0) (at + n + j) (λ r. part (total (take j gs) + r)) (some j lt)
      (record {
        has = λ r h. let z : at + (total (take j gs) + r) ≡ at + total (take j gs) + r = omega arith in subst (λ k. KeyHas files tasks k dims (part (total (take j gs) + r))) z (parts.has (total (take j gs) + r) (omega arith));
        folded_each = λ r i. parts.folded_each (total (take j gs) + r) i;
      })
      (stand.at j (omega (arith, length-groups fold dims at gs)) ∙ group-at fold dims at gs j lt);
  folded_each = λ j i. record { same = start-folded fold (map (λ r. part (total (take j gs) + r) i) (range_with_len 0 (get_or gs j 0))) };
}

-- the last key of a tree has the fold of all partial results
pub levels-fold : (files : ℕ → List ℕ → ℤ) (tasks : List Task) → IsEarlier (deps_of (shape_of tasks)) → (fold : Fold) (dims : List ℕ) (levels : List (List ℕ)) (at n : ℕ) (part : ℕ → List ℕ → Option ℤ) → AreLevels n levels → AreParts files tasks fold dims at n part
    → Stand tasks (at + n) (level_tasks fold dims at levels) → (key : ℕ) → key + 1 ≡ at + n + level_count levels → KeyHas files tasks key dims (λ i. fold_below fold n (λ k. part k i))
levels-fold files tasks e fold dims [] at n part one parts stand key is =
    let z : at + 0 ≡ key = omega arith in
    let has : KeyHas files tasks key dims (part 0) = subst (λ k. KeyHas files tasks k dims (part 0)) z (parts.has 0 (omega arith)) in
    let same : (i : List ℕ) → fold_below fold n (λ k. part k i) ≡ part 0 i = λ i. ap (λ m. fold_below fold m (λ k. part k i)) one ∙ (parts.folded_each 0 i).same in
    record { shape = has.shape; cells = λ b h i inside. has.cells b h i inside ∙ sym (same i) }
levels-fold files tasks e fold dims (gs ∷ levels) at n part are parts stand key is =
    let next : AreParts files tasks fold dims (at + n) (length gs) (λ j i. fold_below fold (get_or gs j 0) (λ r. part (total (take j gs) + r) i)) =
    level-parts files tasks e fold dims at n gs part are.0 are.1 parts (Stand-front tasks (at + n) (group_tasks fold dims at gs) _ stand) in
    let base : at + n + length (group_tasks fold dims at gs) ≡ at + n + length gs = ap (λ k. at + n + k) (length-groups fold dims at gs) in
    let where_at : at + total gs ≡ at + n = ap (λ k. at + k) are.0 in
    let rest : Stand tasks (at + n + length gs) (level_tasks fold dims (at + n) levels) =
    subst (λ k. Stand tasks (at + n + length gs) (level_tasks fold dims k levels)) where_at (subst (λ k. Stand tasks k (level_tasks fold dims (at + total gs) levels)) base (Stand-back tasks (at + n) (group_tasks fold dims at gs) _ stand)) in
    let has = levels-fold files tasks e fold dims levels (at + n) (length gs) (λ j i. fold_below fold (get_or gs j 0) (λ r. part (total (take j gs) + r) i)) are.2 next rest key (omega arith) in
    let same : (i : List ℕ) → fold_below fold (length gs) (λ j. fold_below fold (get_or gs j 0) (λ r. part (total (take j gs) + r) i)) ≡ fold_below fold n (λ k. part k i) = λ i.
    sym (below-chunks fold gs (λ k. part k i)) ∙ ap (λ m. fold_below fold m (λ k. part k i)) are.0 in
    record { shape = has.shape; cells = λ b h i inside. has.cells b h i inside ∙ same i }
