-- The inputs of reductions and products have the shapes that their dependencies make.
use Rattle.std.proofs.Common.{◌≡◌, ℕ, zero, suc, ◌+◌, ◌-◌, ◌*◌, ◌<◌, ◌≤◌, List, [], ◌∷◌, ◌++◌, length, map, drop, get_or, refl, ap, sym, subst, ◌∙◌, arith, replicate, append-nil}
use Rattle.std.specs.List.{AllByRecursion, range_with_len, flat_map}
use Rattle.std.proofs.lemmas.List.{get_or-map}
use Rattle.std.proofs.lemmas.List.FromFn.{length-map-range_with_len, get_or-map-range_with_len}
use Rattle.nd_shape.specs.Index.{IsIn, place, index_at}
use Rattle.nd_shape.specs.Shape.{elements}
use Rattle.nd_shape.specs.Chunk.{total}
use Rattle.nd_shape.proofs.Places.{index_at-in, place-below, index_at-place}
use Rattle.nd_grid.specs.declared.operation.Fold.{Fold}
use Rattle.nd_grid.specs.declared.operation.Fold.TheVariants.{Sum}
use Rattle.nd_grid.specs.Grid.{folded_shape, merged, woven, kept_shape}
use Rattle.chunk_layout.specs.Layouts.{counts, blocks, lengths_at}
use Rattle.chunk_layout.specs.Trees.{tree}
use Rattle.block_kernels.specs.declared.spec.Spec.TheVariants as kernels
use Rattle.block_kernels.specs.Kernels.{result_shape}
use Rattle.task_graph.specs.declared.graph.Task.{Task}
use Rattle.task_graph.specs.Graphs.{task, task_at, no_task}
use Rattle.lowering_laws.specs.Sources.{Source, key_at, fitted}
use Rattle.std.specs.Prelude.{Contains}
use Rattle.lowering_laws.specs.Stages.{kept_axes, group_tasks, level_tasks, tree_tasks, tree_count, folded_tasks, folded_each, partial_task, reduced_blocks, Use, keys_used, deps_of_uses, inputs_among, place_among, product_task, product_blocks, contracted_blocks, paired_sizes, with_sizes}
use Rattle.lowering_laws.specs.Law.{Stand, HaveChunks}
use Rattle.lowering_laws.proofs.Carrying.{Stand-front, Stand-back}
use Rattle.lowering_laws.proofs.Trees.{AreLevels, level_count, tree-levels, length-groups, group-at}
use Rattle.lowering_laws.proofs.Reductions.{folded_part, counts-folded, Merging, merging, length-folded, stand-stride}
use Rattle.nd_grid.proofs.Turning.{position-below, position-at}
use Rattle.lowering_laws.proofs.Under.{drop-counts, IsIn-drop}
use Rattle.lowering_laws.proofs.Cutting.{chunks-on, some-union}
use Rattle.task_graph.proofs.Keys.{ascending-has, contains-here, contains-later}
use Rattle.lowering_laws.proofs.Fitting.{fitted-layout}
use Rattle.lowering_laws.proofs.Products.{ArePaired, Weaving, weaving, AreOnce, drop-append, lengths-join, some-elements, length-pairs, pair-at, length-with, with-paired}
use Rattle.lowering_laws.proofs.GoodFolded.{some-blocks}
use Rattle.lowering_laws.proofs.FedPoints.{cut-after}
use Rattle.lowering_laws.proofs.Fed.{dims_at, IsFed, AreFed, IsShaped, IsCut, UseFits, none-fed, fed-append, cut-fitted, uses-fed}
use Rattle.plain_eval.proofs.Paired.{kept-none}

fed-cons : (all : List Task) (t : Task) (ts : List Task) → IsFed all t → AreFed all ts → AreFed all (t ∷ ts)
fed-cons all t ts g h = record { at = at }
  where
    at : (j : ℕ) → j < length (t ∷ ts) → IsFed all (task_at (t ∷ ts) j)
    at zero l = g
    at (suc j) l = h.at j (omega arith)

-- the keys from `at` on make these lengths
record AllMake (all : List Task) (dims : List ℕ) (at n : ℕ) : Type 0 where
  each : (k : ℕ) → k < n → dims_at all (at + k) ≡ dims

range-make : (all : List Task) (dims : List ℕ) (at g : ℕ) → ((k : ℕ) → k < g → dims_at all (at + k) ≡ dims) → map (dims_at all) (range_with_len at g) ≡ replicate g dims
range-make all dims at zero h = refl
range-make all dims at (suc g) h =
    let z : at + 0 ≡ at = omega arith in
    ap (λ ns. ns ∷ map (dims_at all) (range_with_len (at + 1) g)) (ap (dims_at all) (sym z) ∙ h 0 (omega arith))
    ∙ ap (λ nss. dims ∷ nss) (range-make all dims (at + 1) g (λ k l. let y : at + 1 + k ≡ at + suc k = omega arith in ap (dims_at all) y ∙ h (suc k) (omega arith)))

groups-fed : (all : List Task) (fold : Fold) (dims : List ℕ) (at : ℕ) (gs : List ℕ) → ((k : ℕ) → k < total gs → dims_at all (at + k) ≡ dims) → AreFed all (group_tasks fold dims at gs)
groups-fed all fold dims at [] h = none-fed all
groups-fed all fold dims at (g ∷ gs) h =
    fed-cons all (task (kernels.Reduce fold [] (replicate g dims)) (range_with_len at g)) (group_tasks fold dims (at + g) gs) (record { inputs = range-make all dims at g (λ k l. h k (omega arith)) })
    (groups-fed all fold dims (at + g) gs (λ k l. let y : at + g + k ≡ at + (g + k) = omega arith in ap (dims_at all) y ∙ h (g + k) (omega arith)))

pub group-shape : (fold : Fold) (dims : List ℕ) (g : ℕ) → 0 < g → kept_shape 0 (get_or (replicate g dims) 0 []) [] ≡ dims
group-shape fold dims zero h = absurd (omega arith)
group-shape fold dims (suc g) h = kept-none 0 dims

record LevelsCut (all : List Task) (dims : List ℕ) (tasks : List Task) (last : ℕ) : Type 0 where
  fed : AreFed all tasks
  shape : (key : ℕ) → key + 1 ≡ last → dims_at all key ≡ dims

levels-cut : (all : List Task) (fold : Fold) (dims : List ℕ) (levels : List (List ℕ)) (at n : ℕ) → AreLevels n levels → AllMake all dims at n → Stand all (at + n) (level_tasks fold dims at levels)
    → LevelsCut all dims (level_tasks fold dims at levels) (at + n + level_count levels)
levels-cut all fold dims [] at n one make stand = record {
  fed = none-fed all;
  shape = λ key is. let z : at + 0 ≡ key = omega arith in ap (dims_at all) (sym z) ∙ make.each 0 (omega arith);
}
levels-cut all fold dims (gs ∷ levels) at n are make stand =
    let whole : total gs ≡ n = are.0 in
    let front : Stand all (at + n) (group_tasks fold dims at gs) = Stand-front all (at + n) (group_tasks fold dims at gs) _ stand in
    let next : AllMake all dims (at + n) (length gs) = record {
      each = λ k l.
          ap (λ (t : Task). result_shape t.spec) (front.at k (omega (arith, l, length-groups fold dims at gs)) ∙ group-at fold dims at gs k l) ∙ group-shape fold dims (get_or gs k 0) (are.1 k l);
    } in
    let base : at + n + length (group_tasks fold dims at gs) ≡ at + n + length gs = ap (λ k. at + n + k) (length-groups fold dims at gs) in
    let where_at : at + total gs ≡ at + n = ap (λ k. at + k) are.0 in
    let rest : Stand all (at + n + length gs) (level_tasks fold dims (at + n) levels) =
    subst (λ k. Stand all (at + n + length gs) (level_tasks fold dims k levels)) where_at (subst (λ k. Stand all k (level_tasks fold dims (at + total gs) levels)) base (Stand-back all (at + n) (group_tasks fold dims at gs) _ stand)) in
    let more : LevelsCut all dims (level_tasks fold dims (at + n) levels) (at + n + length gs + level_count levels) = levels-cut all fold dims levels (at + n) (length gs) are.2 next rest in
    record {
      fed = fed-append all (group_tasks fold dims at gs) (level_tasks fold dims (at + total gs) levels) (groups-fed all fold dims at gs (λ k l. make.each k (omega arith)))
          (subst (λ k. AreFed all (level_tasks fold dims k levels)) (sym where_at) more.fed);
      shape = λ key is. more.shape key (omega (arith, is));
    }

strides-fed : (all : List Task) (f : ℕ → List Task) (a n : ℕ) → ((k : ℕ) → k < n → AreFed all (f (a + k))) → AreFed all (flat_map f (range_with_len a n))
strides-fed all f a zero g = none-fed all
strides-fed all f a (suc n) g =
    let y : a + 0 ≡ a = omega arith in
    fed-append all (f a) (flat_map f (range_with_len (a + 1) n)) (subst (λ k. AreFed all (f k)) y (g 0 (omega arith)))
    (strides-fed all f (a + 1) n (λ k h. let u : a + suc k ≡ a + 1 + k = omega arith in subst (λ b. AreFed all (f b)) u (g (suc k) (omega arith))))

each-fed : (all : List Task) (n : ℕ) (partial : ℕ → Task) → ((p : ℕ) → p < n → IsFed all (partial p)) → AreFed all (map partial (range_with_len 0 n))
each-fed all n partial g =
    let count : length (map partial (range_with_len 0 n)) ≡ n = length-map-range_with_len partial 0 n in
    record { at = λ j h. subst (IsFed all) (sym (get_or-map-range_with_len partial 0 n j j no_task (omega arith) (omega arith))) (g j (omega arith)) }

pub cut-folded : (all : List Task) (fold : Fold) (n split : ℕ) (layout : List (List ℕ)) (partial : List ℕ → ℕ → Task) (base : ℕ) → 1 ≤ n → 2 ≤ split → ((bs : List ℕ) (p : ℕ) → IsIn (counts layout) bs → p < n → IsFed all (partial bs p))
    → ((bs : List ℕ) (p : ℕ) → IsIn (counts layout) bs → p < n → result_shape (partial bs p).spec ≡ lengths_at layout bs) → Stand all base (folded_each fold n split layout partial base).tasks → IsCut all (folded_each fold n split layout partial base)
cut-folded all fold n split layout partial base some two fed shape stand =
    let stride = n + tree_count n split in
    let f = λ (c : ℕ). folded_tasks fold n split (partial (index_at (counts layout) c)) (lengths_at layout (index_at (counts layout) c)) (base + stride * c) in
    let tree-cut : (c : ℕ) → c < blocks layout → LevelsCut all (lengths_at layout (index_at (counts layout) c)) (tree_tasks fold (lengths_at layout (index_at (counts layout) c)) (base + (n + tree_count n split) * c) n split) (base + (n + tree_count n split) * c + n + tree_count n split) = λ c lt.
    let bs = index_at (counts layout) c in
    let inside : IsIn (counts layout) bs = index_at-in (counts layout) c lt in
    let at = base + stride * c in
    let here : Stand all (base + stride * c) (folded_tasks fold n split (partial bs) (lengths_at layout bs) (base + stride * c)) =
    stand-stride all base f stride (blocks layout) c (λ k. length-folded fold n split (partial (index_at (counts layout) k)) (lengths_at layout (index_at (counts layout) k)) (base + stride * k)) lt stand in
    let front : Stand all at (map (partial bs) (range_with_len 0 n)) = Stand-front all at (map (partial bs) (range_with_len 0 n)) _ here in
    let few : length (map (partial bs) (range_with_len 0 n)) ≡ n = length-map-range_with_len (partial bs) 0 n in
    let back : Stand all (at + n) (tree_tasks fold (lengths_at layout bs) at n split) = subst (λ k. Stand all (at + k) (tree_tasks fold (lengths_at layout bs) at n split)) few (Stand-back all at (map (partial bs) (range_with_len 0 n)) _ here) in
    levels-cut all fold (lengths_at layout bs) (tree n split) at n (tree-levels n split some two) (record {
      each = λ k h. ap (λ (t : Task). result_shape t.spec) (front.at k (omega arith) ∙ get_or-map-range_with_len (partial bs) 0 n k k no_task h (omega arith)) ∙ shape bs k inside h;
    }) back in
    record {
      fed = strides-fed all f 0 (blocks layout) (λ k h.
          let z : 0 + k ≡ k = omega arith in
          subst (λ c. AreFed all (f c)) (sym z)
          (fed-append all (map (partial (index_at (counts layout) k)) (range_with_len 0 n)) (tree_tasks fold (lengths_at layout (index_at (counts layout) k)) (base + stride * k) n split)
          (each-fed all n (partial (index_at (counts layout) k)) (λ p l. fed (index_at (counts layout) k) p (index_at-in (counts layout) k h) l)) (tree-cut k h).fed));
      shaped = record {
        at = λ bs h.
            let c = place (counts layout) bs in
            let lt : place (counts layout) bs < blocks layout = place-below (counts layout) bs h in
            let key : base + (stride - 1) + stride * place (counts layout) bs + 1 ≡ base + stride * place (counts layout) bs + n + tree_count n split = omega arith in
            (tree-cut (place (counts layout) bs) lt).shape (base + (stride - 1) + stride * place (counts layout) bs) key ∙ ap (lengths_at layout) (index_at-place (counts layout) bs h);
      };
    }

-- ---- reductions and products

pub cut-reduced : (all : List Task) (fold : Fold) (axes : List ℕ) (split : ℕ) (s : Source) (base : ℕ) → HaveChunks s.layout → 2 ≤ split → IsShaped all s → Stand all base (reduced_blocks fold axes split s base).tasks → IsCut all (reduced_blocks fold axes split s base)
cut-reduced all fold axes split s base some two sh stand =
    let pin : (p : ℕ) → p < elements (folded_shape 0 (counts s.layout) axes) → IsIn (counts (folded_part 0 s.layout axes)) (index_at (folded_shape 0 (counts s.layout) axes) p) = λ p lt.
    subst (λ ns. IsIn ns (index_at (folded_shape 0 (counts s.layout) axes) p)) (sym (counts-folded 0 s.layout axes)) (index_at-in (folded_shape 0 (counts s.layout) axes) p lt) in
    let m : (bs : List ℕ) (p : ℕ) → IsIn (counts (kept_axes 0 s.layout axes)) bs → p < elements (folded_shape 0 (counts s.layout) axes) → Merging 0 axes s.layout bs (index_at (folded_shape 0 (counts s.layout) axes) p) = λ bs p h lt.
    merging 0 axes s.layout bs (index_at (folded_shape 0 (counts s.layout) axes) p) h (pin p lt) in
    cut-folded all fold (elements (folded_shape 0 (counts s.layout) axes)) split (kept_axes 0 s.layout axes) (partial_task fold axes s) base (some-blocks 0 s.layout axes some) two
    (λ bs p h lt. record { inputs = ap (λ ns. ns ∷ []) (sh.at (merged 0 (counts s.layout) axes bs (index_at (folded_shape 0 (counts s.layout) axes) p)) (m bs p h lt).inside) })
    (λ bs p h lt. (m bs p h lt).kept_is) stand

-- the shape that stands for a key among the inputs is the one that it makes
pub input-shape : (all : List Task) (uses : List Use) (k : ℕ) → AllByRecursion (UseFits all) uses → Contains (keys_used uses) k → get_or (inputs_among uses) (place_among uses k) [] ≡ dims_at all k
input-shape all uses k a c =
    let there : Contains (deps_of_uses uses) k = ascending-has (keys_used uses) k c in
    ap (λ nss. get_or nss (place_among uses k) []) (sym (uses-fed all uses a))
    ∙ get_or-map (dims_at all) (deps_of_uses uses) (place_among uses k) 0 [] (position-below (deps_of_uses uses) k there)
    ∙ ap (dims_at all) (position-at (deps_of_uses uses) k there)

-- the blocks of the operands that a partial result of a product takes, and how its task uses them
abbrev pub own_left : List ℕ → List (List ℕ) → Source → List ℕ → ℕ → List ℕ
own_left la pairs l bs p = woven 0 (counts l.layout) la bs (index_at (counts pairs) p)

abbrev pub own_right : List ℕ → List ℕ → List (List ℕ) → Source → Source → List ℕ → ℕ → List ℕ
own_right la ra pairs l r bs p = woven 0 (counts r.layout) ra (drop (length (kept_axes 0 l.layout la)) bs) (index_at (counts pairs) p)

abbrev pub product_uses : List ℕ → List ℕ → List (List ℕ) → Source → Source → List ℕ → ℕ → List Use
product_uses la ra pairs l r bs p =
    let own_l = own_left la pairs l bs p in
    let own_r = own_right la ra pairs l r bs p in
    record { key = key_at l own_l; shape = lengths_at l.layout own_l } ∷ record { key = key_at r own_r; shape = lengths_at r.layout own_r } ∷ []

pub record IsProduct (all : List Task) (la ra : List ℕ) (pairs : List (List ℕ)) (l r : Source) (bs : List ℕ) (p : ℕ) : Type 0 where
  pub left_inside : IsIn (counts l.layout) (own_left la pairs l bs p)
  pub right_inside : IsIn (counts r.layout) (own_right la ra pairs l r bs p)
  pub left_there : Contains (keys_used (product_uses la ra pairs l r bs p)) (key_at l (own_left la pairs l bs p))
  pub right_there : Contains (keys_used (product_uses la ra pairs l r bs p)) (key_at r (own_right la ra pairs l r bs p))
  pub left_is : get_or (inputs_among (product_uses la ra pairs l r bs p)) (place_among (product_uses la ra pairs l r bs p) (key_at l (own_left la pairs l bs p))) [] ≡ lengths_at l.layout (own_left la pairs l bs p)
  pub right_is : get_or (inputs_among (product_uses la ra pairs l r bs p)) (place_among (product_uses la ra pairs l r bs p) (key_at r (own_right la ra pairs l r bs p))) [] ≡ lengths_at r.layout (own_right la ra pairs l r bs p)
  pub fed : IsFed all (product_task la ra (counts pairs) l r bs p)
  pub shape : result_shape (product_task la ra (counts pairs) l r bs p).spec ≡ lengths_at (kept_axes 0 l.layout la ++ kept_axes 0 r.layout ra) bs

pub product-is : (all : List Task) (la ra : List ℕ) (pairs : List (List ℕ)) (l r : Source) → ArePaired 0 la l.layout pairs → ArePaired 0 ra r.layout pairs → IsShaped all l → IsShaped all r
    → (bs : List ℕ) (p : ℕ) → IsIn (counts (kept_axes 0 l.layout la ++ kept_axes 0 r.layout ra)) bs → p < elements (counts pairs) → IsProduct all la ra pairs l r bs p
product-is all la ra pairs l r pl pr sl sr bs p inside lt =
    let kl = kept_axes 0 l.layout la in
    let kr = kept_axes 0 r.layout ra in
    let n = length kl in
    let ts = index_at (counts pairs) p in
    let tin : IsIn (counts pairs) ts = index_at-in (counts pairs) p lt in
    let own_l = own_left la pairs l bs p in
    let own_r = own_right la ra pairs l r bs p in
    let uses : List Use = product_uses la ra pairs l r bs p in
    let right-in : IsIn (counts kr) (drop n bs) = subst (λ (xs : List (List ℕ)). IsIn (counts xs) (drop n bs)) (drop-append kl kr) (subst (λ xs. IsIn xs (drop n bs)) (drop-counts n (kl ++ kr)) (IsIn-drop n (counts (kl ++ kr)) bs inside)) in
    let wl : Weaving 0 la l.layout pairs kr bs ts = weaving 0 la l.layout pairs kr bs ts pl tin inside in
    let wr : Weaving 0 ra r.layout pairs [] (drop n bs) ts = weaving 0 ra r.layout pairs [] (drop n bs) ts pr tin (subst (λ (xs : List (List ℕ)). IsIn (counts xs) (drop n bs)) (sym (append-nil kr)) right-in) in
    let fit : AllByRecursion (UseFits all) uses = (sl.at own_l wl.inside, (sr.at own_r wr.inside, tt)) in
    let first : Contains (keys_used uses) (key_at l own_l) = contains-here (key_at l own_l) (key_at r own_r ∷ []) in
    let second : Contains (keys_used uses) (key_at r own_r) = contains-later (key_at r own_r) (key_at l own_l) (key_at r own_r ∷ []) (contains-here (key_at r own_r) []) in
    let x : get_or (inputs_among uses) (place_among uses (key_at l own_l)) [] ≡ lengths_at l.layout own_l = input-shape all uses (key_at l own_l) fit first ∙ sl.at own_l wl.inside in
    let y : get_or (inputs_among uses) (place_among uses (key_at r own_r)) [] ≡ lengths_at r.layout own_r = input-shape all uses (key_at r own_r) fit second ∙ sr.at own_r wr.inside in
    record {
      left_inside = wl.inside;
      right_inside = wr.inside;
      left_there = first;
      right_there = second;
      left_is = x;
      right_is = y;
      fed = record { inputs = uses-fed all uses fit };
      shape = ap (λ ns. kept_shape 0 ns la ++ kept_shape 0 (get_or (inputs_among uses) (place_among uses (key_at r own_r)) []) ra) x
          ∙ ap (λ ns. kept_shape 0 (lengths_at l.layout own_l) la ++ kept_shape 0 ns ra) y
          ∙ ap (λ ns. ns ++ kept_shape 0 (lengths_at r.layout own_r) ra) wl.kept_is
          ∙ ap (λ ns. lengths_at kl bs ++ ns) wr.kept_is
          ∙ sym (lengths-join kl kr bs inside);
    }

pub cut-product : (all : List Task) (la ra : List ℕ) (pairs : List (List ℕ)) (l r : Source) (base : ℕ) → ArePaired 0 la l.layout pairs → ArePaired 0 ra r.layout pairs → ((j : ℕ) → j < length pairs → 0 < length (get_or pairs j [])) → IsShaped all l → IsShaped all r
    → Stand all base (product_blocks la ra (counts pairs) l r base).tasks → IsCut all (product_blocks la ra (counts pairs) l r base)
cut-product all la ra pairs l r base pl pr some sl sr stand =
    cut-folded all Sum (elements (counts pairs)) 4 (kept_axes 0 l.layout la ++ kept_axes 0 r.layout ra) (product_task la ra (counts pairs) l r) base (some-elements pairs some) (omega arith)
    (λ bs p inside lt. (product-is all la ra pairs l r pl pr sl sr bs p inside lt).fed) (λ bs p inside lt. (product-is all la ra pairs l r pl pr sl sr bs p inside lt).shape) stand

pub cut-contracted : (all : List Task) (la ra : List ℕ) (l r : Source) (base : ℕ) → HaveChunks l.layout → AreOnce la (length l.layout) → length la ≡ length ra → IsShaped all l → IsShaped all r → Stand all base (contracted_blocks la ra l r base).tasks
    → IsCut all (contracted_blocks la ra l r base)
cut-contracted all la ra l r base sl ol n shl shr stand =
    let pairs = paired_sizes l.layout r.layout la ra in
    let np : length pairs ≡ length la = length-pairs l.layout r.layout la ra n in
    let some-pairs : (j : ℕ) → j < length pairs → 0 < length (get_or pairs j []) = λ j lt.
    let jl : j < length la = omega arith in
    subst (λ (ss : List ℕ). 0 < length ss) (sym (pair-at l.layout r.layout la ra j n jl)) (some-union (get_or l.layout (get_or la j 0) []) (get_or r.layout (get_or ra j 0) []) (chunks-on l.layout (get_or la j 0) sl (ol.below j jl))) in
    let lt = with_sizes l.layout la pairs in
    let rt = with_sizes r.layout ra pairs in
    let fit_l = fitted base l lt in
    let fit_r = fitted (base + length fit_l.tasks) r rt in
    let front = Stand-front all base (fit_l.tasks ++ fit_r.tasks) _ stand in
    let f : IsCut all fit_l = cut-fitted all l lt base (sym (length-with l.layout la pairs)) shl (Stand-front all base fit_l.tasks fit_r.tasks front) in
    let k : IsCut all fit_r = cut-fitted all r rt (base + length fit_l.tasks) (sym (length-with r.layout ra pairs)) shr (Stand-back all base fit_l.tasks fit_r.tasks front) in
    let fl : fit_l.source.layout ≡ lt = fitted-layout l lt base in
    let fr : fit_r.source.layout ≡ rt = fitted-layout r rt (base + length fit_l.tasks) in
    cut-after all (fit_l.tasks ++ fit_r.tasks) (λ b. product_blocks la ra (counts pairs) fit_l.source fit_r.source b) base (fed-append all fit_l.tasks fit_r.tasks f.fed k.fed)
    (cut-product all la ra pairs fit_l.source fit_r.source (base + length (fit_l.tasks ++ fit_r.tasks))
    (subst (λ (xs : List (List ℕ)). ArePaired 0 la xs pairs) (sym fl) (with-paired l.layout la pairs (sym np)))
    (subst (λ (xs : List (List ℕ)). ArePaired 0 ra xs pairs) (sym fr) (with-paired r.layout ra pairs (sym n ∙ sym np)))
    some-pairs f.shaped k.shaped (Stand-back all base (fit_l.tasks ++ fit_r.tasks) _ stand))
