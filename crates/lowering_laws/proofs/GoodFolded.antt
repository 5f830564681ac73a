-- Reductions and products make tasks in order.
use Rattle.std.proofs.Common.{◌≡◌, ℕ, zero, suc, ◌+◌, ◌-◌, ◌*◌, ◌<◌, ◌≤◌, cond, Bool, true, false, List, [], ◌∷◌, ◌++◌, length, map, drop, get_or, refl, ap, sym, subst, ◌∙◌, arith, replicate, append-nil, length-append}
use Rattle.std.specs.List.{range_with_len, flat_map}
use Rattle.std.proofs.Math.Nat.{mul-le-mul_left}
use Rattle.std.proofs.lemmas.List.{length-replicate}
use Rattle.std.proofs.lemmas.List.FromFn.{length-range_with_len, length-map-range_with_len, get_or-map-range_with_len}
use Rattle.small_facts.proofs.Ranges.{range_all_below}
use Rattle.nd_shape.specs.Index.{IsIn, index_at}
use Rattle.nd_shape.specs.Shape.{elements}
use Rattle.nd_shape.specs.Chunk.{total}
use Rattle.nd_shape.proofs.Places.{index_at-in}
use Rattle.nd_grid.specs.declared.operation.Fold.{Fold}
use Rattle.nd_grid.specs.declared.operation.Fold.TheVariants.{Sum}
use Rattle.nd_grid.specs.Grid.{is_among, folded_shape, merged, woven, kept_shape}
use Rattle.nd_grid.proofs.Turning.{position-below}
use Rattle.chunk_layout.specs.Layouts.{counts, blocks, lengths_at}
use Rattle.chunk_layout.specs.Trees.{tree}
use Rattle.block_kernels.specs.declared.spec.Spec.TheVariants as kernels
use Rattle.task_graph.specs.declared.graph.Task.{Task}
use Rattle.task_graph.specs.Graphs.{task, task_at, no_task}
use Rattle.lowering_laws.specs.Sources.{Source, key_at, fitted}
use Rattle.lowering_laws.specs.Stages.{Use, keys_used, deps_of_uses, kept_axes, group_tasks, level_tasks, tree_tasks, tree_count, folded_tasks, folded_each, partial_task, reduced_blocks, product_task, product_blocks, contracted_blocks, paired_sizes, with_sizes}
use Rattle.lowering_laws.specs.Law.{HaveChunks}
use Rattle.lowering_laws.proofs.Under.{drop-counts, IsIn-drop}
use Rattle.lowering_laws.proofs.Cutting.{chunks-on, some-union}
use Rattle.task_graph.proofs.Keys.{ascending-has, contains-here, contains-later}
use Rattle.lowering_laws.proofs.Trees.{AreLevels, tree-levels, length-groups}
use Rattle.lowering_laws.proofs.Reductions.{folded_part, counts-folded, Merging, merging, length-folded, length-strides}
use Rattle.lowering_laws.proofs.Products.{ArePaired, Weaving, weaving, AreOnce, drop-append, some-elements, length-pairs, pair-at, length-with, with-paired}
use Rattle.task_graph.proofs.Rising.{ascending-rises, ascending-all, range-rises}
use Rattle.lowering_laws.proofs.Good.{IsGood, AreGood, IsBelow, IsMade, IsFit, good-weaker, below-weaker, none-good, good-append, made-after, key-below, made-fitted}

good-cons : (base : ℕ) (t : Task) (ts : List Task) → IsGood base t → AreGood (suc base) ts → AreGood base (t ∷ ts)
good-cons base t ts g h = record { at = at }
  where
    at : (j : ℕ) → j < length (t ∷ ts) → IsGood (base + j) (task_at (t ∷ ts) j)
    at zero l = let z : base + 0 ≡ base = omega arith in subst (λ k. IsGood k t) (sym z) g
    at (suc j) l = let z : suc base + j ≡ base + suc j = omega arith in subst (λ k. IsGood k (task_at ts j)) z (h.at j (omega arith))

-- ---- trees

same-at : (n : ℕ) (s : List ℕ) (j : ℕ) → j < n → get_or (replicate n s) j [] ≡ s
same-at zero s j h = absurd (omega arith)
same-at (suc n) s zero h = refl
same-at (suc n) s (suc j) h = same-at n s j (omega arith)

group-good : (fold : Fold) (dims : List ℕ) (at g pos : ℕ) → at + g ≤ pos → IsGood pos (task (kernels.Reduce fold [] (replicate g dims)) (range_with_len at g))
group-good fold dims at g pos h =
    let n : length (range_with_len at g) ≡ g = length-range_with_len at g in
    record {
      below = range_all_below at g pos h;
      rising = range-rises at g;
      places = (length-replicate g dims ∙ sym n, (λ p l. ap (λ ns. kept_shape 0 ns []) (same-at g dims p (omega arith) ∙ sym (same-at g dims 0 (omega arith)))));
    }

groups-good : (fold : Fold) (dims : List ℕ) (at : ℕ) (gs : List ℕ) (pos : ℕ) → at + total gs ≤ pos → AreGood pos (group_tasks fold dims at gs)
groups-good fold dims at [] pos h = none-good pos
groups-good fold dims at (g ∷ gs) pos h =
    good-cons pos (task (kernels.Reduce fold [] (replicate g dims)) (range_with_len at g)) (group_tasks fold dims (at + g) gs) (group-good fold dims at g pos (omega arith)) (groups-good fold dims (at + g) gs (suc pos) (omega arith))

levels-good : (fold : Fold) (dims : List ℕ) (levels : List (List ℕ)) (at n : ℕ) → AreLevels n levels → AreGood (at + n) (level_tasks fold dims at levels)
levels-good fold dims [] at n a = none-good (at + n)
levels-good fold dims (gs ∷ levels) at n a =
    let whole : total gs ≡ n = a.0 in
    let next : at + total gs + length gs ≡ at + n + length (group_tasks fold dims at gs) = omega (arith, length-groups fold dims at gs) in
    good-append (at + n) (group_tasks fold dims at gs) (level_tasks fold dims (at + total gs) levels) (groups-good fold dims at gs (at + n) (omega arith))
    (subst (λ k. AreGood k (level_tasks fold dims (at + total gs) levels)) next (levels-good fold dims levels (at + total gs) (length gs) a.2))

-- ---- several tasks for each block

each-good : (base n : ℕ) (partial : ℕ → Task) → ((p : ℕ) → p < n → IsGood base (partial p)) → AreGood base (map partial (range_with_len 0 n))
each-good base n partial g =
    let count : length (map partial (range_with_len 0 n)) ≡ n = length-map-range_with_len partial 0 n in
    record {
      at = λ j h. subst (IsGood (base + j)) (sym (get_or-map-range_with_len partial 0 n j j no_task (omega arith) (omega arith))) (good-weaker base (base + j) (partial j) (omega arith) (g j (omega arith)));
    }

block-good : (fold : Fold) (n split : ℕ) (partial : ℕ → Task) (dims : List ℕ) (at : ℕ) → 1 ≤ n → 2 ≤ split → ((p : ℕ) → p < n → IsGood at (partial p)) → AreGood at (folded_tasks fold n split partial dims at)
block-good fold n split partial dims at some two g =
    let count : length (map partial (range_with_len 0 n)) ≡ n = length-map-range_with_len partial 0 n in
    good-append at (map partial (range_with_len 0 n)) (tree_tasks fold dims at n split) (each-good at n partial g)
    (subst (λ k. AreGood (at + k) (tree_tasks fold dims at n split)) (sym count) (levels-good fold dims (tree n split) at n (tree-levels n split some two)))

strides-good : (f : ℕ → List Task) (stride a n at : ℕ) → ((k : ℕ) → length (f k) ≡ stride) → ((k : ℕ) → k < n → AreGood (at + stride * k) (f (a + k))) → AreGood at (flat_map f (range_with_len a n))
strides-good f stride a zero at l g = none-good at
strides-good f stride a (suc n) at l g =
    let y : a + 0 ≡ a = omega arith in
    let z : at + stride * 0 ≡ at = omega arith in
    let first : AreGood at (f a) = subst (λ k. AreGood k (f a)) z (subst (λ k. AreGood (at + stride * 0) (f k)) y (g 0 (omega arith))) in
    good-append at (f a) (flat_map f (range_with_len (a + 1) n)) first
    (subst (λ k. AreGood (at + k) (flat_map f (range_with_len (a + 1) n))) (sym (l a)) (strides-good f stride (a + 1) n (at + stride) l (λ k h.
    let u : a + suc k ≡ a + 1 + k = omega arith in
    let v : at + stride * suc k ≡ at + stride + stride * k = omega arith in
    subst (λ b. AreGood b (f (a + 1 + k))) v (subst (λ b. AreGood (at + stride * suc k) (f b)) u (g (suc k) (omega arith))))))

pub made-folded : (fold : Fold) (n split : ℕ) (layout : List (List ℕ)) (partial : List ℕ → ℕ → Task) (base : ℕ) → 1 ≤ n → 2 ≤ split → ((bs : List ℕ) (p : ℕ) → IsIn (counts layout) bs → p < n → IsGood base (partial bs p))
    → IsMade base (folded_each fold n split layout partial base)
made-folded fold n split layout partial base some two g =
    let stride = n + tree_count n split in
    let f = λ (c : ℕ). folded_tasks fold n split (partial (index_at (counts layout) c)) (lengths_at layout (index_at (counts layout) c)) (base + stride * c) in
    let lens : (k : ℕ) → length (folded_tasks fold n split (partial (index_at (counts layout) k)) (lengths_at layout (index_at (counts layout) k)) (base + stride * k)) ≡ n + tree_count n split = λ k.
    length-folded fold n split (partial (index_at (counts layout) k)) (lengths_at layout (index_at (counts layout) k)) (base + stride * k) in
    record {
      good = strides-good f stride 0 (blocks layout) base lens (λ k h.
          let z : 0 + k ≡ k = omega arith in
          subst (λ c. AreGood (base + stride * k) (f c)) (sym z)
          (block-good fold n split (partial (index_at (counts layout) k)) (lengths_at layout (index_at (counts layout) k)) (base + stride * k) some two (λ p l.
          good-weaker base (base + stride * k) (partial (index_at (counts layout) k) p) (omega arith) (g (index_at (counts layout) k) p (index_at-in (counts layout) k h) l))));
      below = record {
        keys = λ c h.
            let all : length (flat_map f (range_with_len 0 (blocks layout))) ≡ stride * blocks layout = length-strides f stride 0 (blocks layout) lens in
            let m : stride * suc c ≤ stride * blocks layout = mul-le-mul_left stride (omega arith) in
            within base (n + tree_count n split) c (blocks layout) (length (flat_map f (range_with_len 0 (blocks layout)))) (omega arith) m all;
        apart = omega arith;
      };
    }
  where
    within : (b s c n all : ℕ) → 0 < s → s * suc c ≤ s * n → all ≡ s * n → b + (s - 1) + s * c < b + all
    within b s c n all h m e = omega (arith, m, e)

-- ---- reductions

pub some-blocks : (k : ℕ) (layout : List (List ℕ)) (axes : List ℕ) → HaveChunks layout → 1 ≤ elements (folded_shape k (counts layout) axes)
some-blocks k [] axes h = omega arith
some-blocks k (sizes ∷ layout) axes h = axis (is_among k axes) (length sizes) (folded_shape (suc k) (counts layout) axes) h.0 (some-blocks (suc k) layout axes h.1)
  where
    product : (m n : ℕ) → 0 < m → 1 ≤ n → 1 ≤ m * n
    product (suc m) n h g = omega arith
    product zero n h g = absurd (omega arith)

    axis : (b : Bool) (m : ℕ) (ns : List ℕ) → 0 < m → 1 ≤ elements ns → 1 ≤ elements (cond b (m ∷ ns) ns)
    axis true m ns a r = product m (elements ns) a r
    axis false m ns a r = r

one-place : (axes x : List ℕ) (p : ℕ) → p < 1 → kept_shape 0 (get_or (x ∷ []) p []) axes ≡ kept_shape 0 x axes
one-place axes x zero h = refl
one-place axes x (suc p) h = absurd (omega arith)

pub made-reduced : (fold : Fold) (axes : List ℕ) (split : ℕ) (s : Source) (base : ℕ) → HaveChunks s.layout → 2 ≤ split → IsBelow base s → IsMade base (reduced_blocks fold axes split s base)
made-reduced fold axes split s base some two b =
    made-folded fold (elements (folded_shape 0 (counts s.layout) axes)) split (kept_axes 0 s.layout axes) (partial_task fold axes s) base (some-blocks 0 s.layout axes some) two (λ bs p h lt.
    let ps = index_at (folded_shape 0 (counts s.layout) axes) p in
    let own = merged 0 (counts s.layout) axes bs (index_at (folded_shape 0 (counts s.layout) axes) p) in
    let pin : IsIn (counts (folded_part 0 s.layout axes)) (index_at (folded_shape 0 (counts s.layout) axes) p) =
    subst (λ ns. IsIn ns (index_at (folded_shape 0 (counts s.layout) axes) p)) (sym (counts-folded 0 s.layout axes)) (index_at-in (folded_shape 0 (counts s.layout) axes) p lt) in
    let m : Merging 0 axes s.layout bs (index_at (folded_shape 0 (counts s.layout) axes) p) = merging 0 axes s.layout bs (index_at (folded_shape 0 (counts s.layout) axes) p) h pin in
    record {
      below = (key-below base s own b m.inside, tt);
      rising = (tt, tt);
      places = (omega arith, (λ q l. one-place axes (lengths_at s.layout own) q (omega arith)));
    })

-- ---- products

pub made-product : (la ra : List ℕ) (pairs : List (List ℕ)) (l r : Source) (base : ℕ) → ArePaired 0 la l.layout pairs → ArePaired 0 ra r.layout pairs → ((j : ℕ) → j < length pairs → 0 < length (get_or pairs j [])) → IsBelow base l → IsBelow base r
    → IsMade base (product_blocks la ra (counts pairs) l r base)
made-product la ra pairs l r base pl pr some bl br =
    let kl = kept_axes 0 l.layout la in
    let kr = kept_axes 0 r.layout ra in
    let n = length kl in
    made-folded Sum (elements (counts pairs)) 4 (kl ++ kr) (product_task la ra (counts pairs) l r) base (some-elements pairs some) (omega arith) (λ bs p inside lt.
    let ts = index_at (counts pairs) p in
    let tin : IsIn (counts pairs) ts = index_at-in (counts pairs) p lt in
    let own_l = woven 0 (counts l.layout) la bs ts in
    let own_r = woven 0 (counts r.layout) ra (drop n bs) ts in
    let uses : List Use = record { key = key_at l own_l; shape = lengths_at l.layout own_l } ∷ record { key = key_at r own_r; shape = lengths_at r.layout own_r } ∷ [] in
    let right-in : IsIn (counts kr) (drop n bs) = subst (λ (xs : List (List ℕ)). IsIn (counts xs) (drop n bs)) (drop-append kl kr) (subst (λ xs. IsIn xs (drop n bs)) (drop-counts n (kl ++ kr)) (IsIn-drop n (counts (kl ++ kr)) bs inside)) in
    let wl : Weaving 0 la l.layout pairs kr bs ts = weaving 0 la l.layout pairs kr bs ts pl tin inside in
    let wr : Weaving 0 ra r.layout pairs [] (drop n bs) ts = weaving 0 ra r.layout pairs [] (drop n bs) ts pr tin (subst (λ (xs : List (List ℕ)). IsIn (counts xs) (drop n bs)) (sym (append-nil kr)) right-in) in
    let kls = key_at l own_l in
    let krs = key_at r own_r in
    record {
      below = ascending-all (λ k. k < base) (key_at l own_l ∷ key_at r own_r ∷ []) (key-below base l own_l bl wl.inside, (key-below base r own_r br wr.inside, tt));
      rising = ascending-rises (key_at l own_l ∷ key_at r own_r ∷ []);
      places = (
        position-below (deps_of_uses uses) (key_at l own_l) (ascending-has (keys_used uses) (key_at l own_l) (contains-here (key_at l own_l) (key_at r own_r ∷ []))),
        position-below (deps_of_uses uses) (key_at r own_r) (ascending-has (keys_used uses) (key_at r own_r) (contains-later (key_at r own_r) (key_at l own_l) (key_at r own_r ∷ []) (contains-here (key_at r own_r) []))),
      );
    })

pub made-contracted : (la ra : List ℕ) (l r : Source) (base : ℕ) → HaveChunks l.layout → AreOnce la (length l.layout) → length la ≡ length ra → IsBelow base l → IsBelow base r → IsMade base (contracted_blocks la ra l r base)
made-contracted la ra l r base sl ol n bl br =
    let pairs = paired_sizes l.layout r.layout la ra in
    let np : length pairs ≡ length la = length-pairs l.layout r.layout la ra n in
    let some-pairs : (j : ℕ) → j < length pairs → 0 < length (get_or pairs j []) = λ j lt.
    let jl : j < length la = omega arith in
    subst (λ (ss : List ℕ). 0 < length ss) (sym (pair-at l.layout r.layout la ra j n jl)) (some-union (get_or l.layout (get_or la j 0) []) (get_or r.layout (get_or ra j 0) []) (chunks-on l.layout (get_or la j 0) sl (ol.below j jl))) in
    let lt = with_sizes l.layout la pairs in
    let rt = with_sizes r.layout ra pairs in
    let fit_l = fitted base l lt in
    let fit_r = fitted (base + length fit_l.tasks) r rt in
    let f : IsFit base lt (fitted base l lt) = made-fitted l lt base (sym (length-with l.layout la pairs)) bl in
    let k : IsFit (base + length fit_l.tasks) rt (fitted (base + length fit_l.tasks) r rt) = made-fitted r rt (base + length fit_l.tasks) (sym (length-with r.layout ra pairs)) (below-weaker base (base + length fit_l.tasks) r (omega arith) br) in
    let ends : base + length fit_l.tasks + length fit_r.tasks ≡ base + length (fit_l.tasks ++ fit_r.tasks) = omega (arith, length-append fit_l.tasks fit_r.tasks) in
    made-after base (fit_l.tasks ++ fit_r.tasks) (λ b. product_blocks la ra (counts pairs) fit_l.source fit_r.source b) (good-append base fit_l.tasks fit_r.tasks f.made.good k.made.good)
    (made-product la ra pairs fit_l.source fit_r.source (base + length (fit_l.tasks ++ fit_r.tasks))
    (subst (λ (xs : List (List ℕ)). ArePaired 0 la xs pairs) (sym f.layout_is) (with-paired l.layout la pairs (sym np)))
    (subst (λ (xs : List (List ℕ)). ArePaired 0 ra xs pairs) (sym k.layout_is) (with-paired r.layout ra pairs (sym n ∙ sym np)))
    some-pairs
    (below-weaker (base + length fit_l.tasks) (base + length (fit_l.tasks ++ fit_r.tasks)) fit_l.source (omega arith) f.made.below)
    (below-weaker (base + length fit_l.tasks + length fit_r.tasks) (base + length (fit_l.tasks ++ fit_r.tasks)) fit_r.source (omega arith) k.made.below))
