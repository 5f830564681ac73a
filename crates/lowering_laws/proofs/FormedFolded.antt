-- Reductions and products are well formed, with the trees over their partial results.
use Rattle.std.proofs.Common.{◌≡◌, ◌≢◌, ℕ, zero, suc, ◌+◌, ◌*◌, ◌<◌, ◌≤◌, List, [], ◌∷◌, ◌++◌, length, map, get_or, replicate, refl, ap, sym, subst, ◌∙◌, arith}
use Rattle.std.specs.Prelude.{All}
use Rattle.std.specs.List.{AllByRecursion, range_with_len, flat_map}
use Rattle.std.proofs.lemmas.List.{length-map, length-replicate, get_or-replicate}
use Rattle.std.proofs.lemmas.List.Elements.{All-from_recursion, All-from_get_or, All-replicate}
use Rattle.small_facts.proofs.Every.{all_join}
use Rattle.nd_shape.specs.Shape.{IsShape, elements}
use Rattle.nd_shape.specs.Index.{IsIn, index_at}
use Rattle.nd_shape.specs.Chunk.{total}
use Rattle.nd_shape.proofs.Axes.{IsIn-at}
use Rattle.nd_shape.proofs.Places.{index_at-in}
use Rattle.nd_grid.specs.declared.operation.Fold.{Fold}
use Rattle.nd_grid.specs.declared.operation.Fold.TheVariants.{Sum, Prod, Min, Max}
use Rattle.nd_grid.specs.Grid.{kept_shape, folded_shape, merged}
use Rattle.array_expr.specs.declared.expr.Node.{Node}
use Rattle.array_expr.specs.Axes.{AreAxes as AreListed}
use Rattle.array_expr.specs.Node.{NeedsElements}
use Rattle.chunk_layout.specs.Layouts.{counts, lengths, blocks, lengths_at}
use Rattle.chunk_layout.specs.Trees.{tree}
use Rattle.chunk_layout.proofs.Parting.{length-lengths}
use Rattle.block_kernels.specs.WellFormed.{AreAxes, IsFoldable, FitsReduce, FitsContract}
use Rattle.task_graph.specs.declared.graph.Task.{Task}
use Rattle.lowering_laws.specs.Sources.{Source, key_at, fitted}
use Rattle.lowering_laws.specs.Stages.{inputs_among, place_among, kept_axes, group_tasks, level_tasks, tree_count, folded_tasks, folded_each, partial_task, reduced_blocks, product_task, product_blocks, contracted_blocks, paired_sizes, with_sizes}
use Rattle.lowering_laws.specs.Law.{Stand, HaveChunks}
use Rattle.lowering_laws.proofs.Carrying.{Stand-front, Stand-back}
use Rattle.lowering_laws.proofs.Plain.{lengths-on}
use Rattle.lowering_laws.proofs.Cutting.{chunks-on, some-union}
use Rattle.lowering_laws.proofs.Fitting.{fitted-layout}
use Rattle.lowering_laws.proofs.Uses.{place-below}
use Rattle.lowering_laws.proofs.Trees.{AreLevels, tree-levels}
use Rattle.lowering_laws.proofs.Reductions.{folded_part, counts-folded, Merging, merging}
use Rattle.lowering_laws.proofs.Products.{ArePaired, AreOnce, total-on, count-on, paired-lens, some-elements, length-pairs, pair-at, length-with, with-paired, with-lengths, paired-totals}
use Rattle.lowering_laws.proofs.GoodFolded.{some-blocks}
use Rattle.lowering_laws.proofs.Covered.{all-below}
use Rattle.lowering_laws.proofs.Fed.{IsShaped, IsCut, cut-fitted}
use Rattle.lowering_laws.proofs.FedFolded.{group-shape, own_left, own_right, product_uses, IsProduct, product-is}
use Rattle.lowering_laws.proofs.Tight.{IsTight, tight-at, full-at}
use Rattle.lowering_laws.proofs.Formed.{IsFormed, AreFormed, made-shape, box-shape}
use Rattle.lowering_laws.proofs.FormedPieces.{formed-fitted}

-- the axes of an expression are such as operations ask for
pub axes-of : (n : ℕ) (axes : List ℕ) → AreListed n axes → AreAxes axes n
axes-of n axes a = record { inside = All-from_get_or (λ k. k < n) axes 0 a.inside; once = a.distinct }

-- ---- trees

no-axes : (n : ℕ) → AreAxes [] n
no-axes n = record { inside = λ k d h. absurd (omega arith); once = λ j k l h. absurd (omega arith) }

none-folded : (fold : Fold) (dims : List ℕ) → IsFoldable fold [] dims
none-folded Sum dims = tt
none-folded Prod dims = tt
none-folded Min dims = λ k d h. absurd (omega arith)
none-folded Max dims = λ k d h. absurd (omega arith)

group-folds : (fold : Fold) (dims : List ℕ) (g : ℕ) → 0 < g → FitsReduce fold [] (replicate g dims)
group-folds fold dims g h = record {
  some = omega (arith, length-replicate g dims);
  axes_in = All-replicate (λ (ns : List ℕ). AreAxes [] (length ns)) g dims (no-axes (length dims));
  same = All-replicate (λ (ns : List ℕ). kept_shape 0 ns [] ≡ kept_shape 0 (get_or (replicate g dims) 0 []) []) g dims (ap (λ ns. kept_shape 0 ns []) (sym (get_or-replicate g 0 dims [] h)));
  foldable = All-replicate (IsFoldable fold []) g dims (none-folded fold dims);
}

groups-formed : (nodes : List Node) (fold : Fold) (dims : List ℕ) (at : ℕ) (gs : List ℕ) → IsShape dims → ((j : ℕ) → j < length gs → 0 < get_or gs j 0) → AreFormed nodes (group_tasks fold dims at gs)
groups-formed nodes fold dims at [] sh h = tt
groups-formed nodes fold dims at (g ∷ gs) sh h = (
  record { made = record { rules = group-folds fold dims g (h 0 (omega arith)); shape = subst IsShape (sym (group-shape fold dims g (h 0 (omega arith)))) sh }; loads = tt },
  groups-formed nodes fold dims (at + g) gs sh (λ j l. h (suc j) (omega arith)),
)

levels-formed : (nodes : List Node) (fold : Fold) (dims : List ℕ) (at n : ℕ) (levels : List (List ℕ)) → IsShape dims → AreLevels n levels → AreFormed nodes (level_tasks fold dims at levels)
levels-formed nodes fold dims at n [] sh a = tt
levels-formed nodes fold dims at n (gs ∷ levels) sh a =
    all_join (IsFormed nodes) (group_tasks fold dims at gs) (level_tasks fold dims (at + total gs) levels) (groups-formed nodes fold dims at gs sh a.1) (levels-formed nodes fold dims (at + total gs) (length gs) levels sh a.2)

flat-below : (P : Task → Type 0) (f : ℕ → List Task) (a n : ℕ) → ((c : ℕ) → c < a + n → AllByRecursion P (f c)) → AllByRecursion P (flat_map f (range_with_len a n))
flat-below P f a zero h = tt
flat-below P f a (suc n) h = all_join P (f a) (flat_map f (range_with_len (a + 1) n)) (h a (omega arith)) (flat-below P f (a + 1) n (λ c l. h c (omega arith)))

-- partial results and the trees over them
pub formed-folded : (nodes : List Node) (fold : Fold) (n split : ℕ) (layout : List (List ℕ)) (partial : List ℕ → ℕ → Task) (base : ℕ) → 1 ≤ n → 2 ≤ split → IsShape (lengths layout)
    → ((bs : List ℕ) (p : ℕ) → IsIn (counts layout) bs → p < n → IsFormed nodes (partial bs p)) → AreFormed nodes (folded_each fold n split layout partial base).tasks
formed-folded nodes fold n split layout partial base some two sh h =
    let f = λ (c : ℕ). folded_tasks fold n split (partial (index_at (counts layout) c)) (lengths_at layout (index_at (counts layout) c)) (base + (n + tree_count n split) * c) in
    flat-below (IsFormed nodes) f 0 (blocks layout) (λ c l.
    let bs = index_at (counts layout) c in
    let at = base + (n + tree_count n split) * c in
    let inside : IsIn (counts layout) (index_at (counts layout) c) = index_at-in (counts layout) c (omega arith) in
    all_join (IsFormed nodes) (map (partial bs) (range_with_len 0 n)) (level_tasks fold (lengths_at layout bs) at (tree n split)) (all-below (IsFormed nodes) (partial bs) 0 n (λ p b. h bs p inside (omega arith)))
    (levels-formed nodes fold (lengths_at layout bs) at n (tree n split) (box-shape layout bs sh inside) (tree-levels n split some two)))

-- ---- reductions

-- no chunk on an axis of some length is empty
chunk-filled : (layout : List (List ℕ)) (own : List ℕ) (a : ℕ) → IsTight layout → IsIn (counts layout) own → a < length layout → get_or (lengths layout) a 0 ≢ 0 → get_or (lengths_at layout own) a 0 ≢ 0
chunk-filled layout own a t inside lt some e =
    let below : get_or own a 0 < get_or (counts layout) a 0 = IsIn-at (counts layout) own a inside (omega (arith, length-map layout (λ (ss : List ℕ). length ss))) in
    full-at (get_or layout a []) (get_or own a 0) (tight-at layout a t (λ z. some (sym (total-on layout a) ∙ z))) (omega (arith, count-on layout a)) (sym (lengths-on layout own a inside lt) ∙ e)

folds : (fold : Fold) (axes : List ℕ) (layout : List (List ℕ)) (own : List ℕ) → IsTight layout → IsIn (counts layout) own → AreListed (length layout) axes → (NeedsElements fold → All (λ a. get_or (lengths layout) a 0 ≢ 0) axes)
    → IsFoldable fold axes (lengths_at layout own)
folds Sum axes layout own t inside a f = tt
folds Prod axes layout own t inside a f = tt
folds Min axes layout own t inside a f = All-from_get_or (λ a. get_or (lengths_at layout own) a 0 ≢ 0) axes 0 (λ i h. chunk-filled layout own (get_or axes i 0) t inside (a.inside i h) (f tt i 0 h))
folds Max axes layout own t inside a f = All-from_get_or (λ a. get_or (lengths_at layout own) a 0 ≢ 0) axes 0 (λ i h. chunk-filled layout own (get_or axes i 0) t inside (a.inside i h) (f tt i 0 h))

one-folds : (fold : Fold) (axes ns : List ℕ) → AreAxes axes (length ns) → IsFoldable fold axes ns → FitsReduce fold axes (ns ∷ [])
one-folds fold axes ns a f = record {
  some = omega arith;
  axes_in = All-from_recursion (λ (ms : List ℕ). AreAxes axes (length ms)) (ns ∷ []) (a, tt);
  same = All-from_recursion (λ (ms : List ℕ). kept_shape 0 ms axes ≡ kept_shape 0 ns axes) (ns ∷ []) (refl, tt);
  foldable = All-from_recursion (IsFoldable fold axes) (ns ∷ []) (f, tt);
}

pub formed-reduced : (nodes : List Node) (fold : Fold) (axes : List ℕ) (split : ℕ) (s : Source) (base : ℕ) → HaveChunks s.layout → IsTight s.layout → 2 ≤ split → AreListed (length s.layout) axes → (NeedsElements fold → All (λ a. get_or (lengths s.layout) a 0 ≢ 0) axes)
    → IsShape (lengths (reduced_blocks fold axes split s base).source.layout) → AreFormed nodes (reduced_blocks fold axes split s base).tasks
formed-reduced nodes fold axes split s base some t two a f sh =
    formed-folded nodes fold (elements (folded_shape 0 (counts s.layout) axes)) split (kept_axes 0 s.layout axes) (partial_task fold axes s) base (some-blocks 0 s.layout axes some) two sh (λ bs p h lt.
    let cs = index_at (folded_shape 0 (counts s.layout) axes) p in
    let own = merged 0 (counts s.layout) axes bs cs in
    let pin : IsIn (counts (folded_part 0 s.layout axes)) cs = subst (λ ns. IsIn ns (index_at (folded_shape 0 (counts s.layout) axes) p)) (sym (counts-folded 0 s.layout axes)) (index_at-in (folded_shape 0 (counts s.layout) axes) p lt) in
    let m : Merging 0 axes s.layout bs cs = merging 0 axes s.layout bs cs h pin in
    let n : length (lengths_at s.layout own) ≡ length s.layout = length-lengths s.layout own m.inside in
    record {
      made = record {
        rules = one-folds fold axes (lengths_at s.layout own) (subst (AreAxes axes) (sym n) (axes-of (length s.layout) axes a)) (folds fold axes s.layout own t m.inside a f);
        shape = made-shape (kept_axes 0 s.layout axes) bs _ sh h m.kept_is;
      };
      loads = tt;
    })

-- ---- products

-- operands whose paired axes have the same chunks
record AreFactors (la ra : List ℕ) (pairs : List (List ℕ)) (l r : Source) : Type 0 where
  left_paired : ArePaired 0 la l.layout pairs
  right_paired : ArePaired 0 ra r.layout pairs
  left_once : AreOnce la (length l.layout)
  right_once : AreOnce ra (length r.layout)
  left_axes : AreAxes la (length l.layout)
  right_axes : AreAxes ra (length r.layout)
  left_number : length la ≡ length pairs
  right_number : length ra ≡ length pairs
  some : (j : ℕ) → j < length pairs → 0 < length (get_or pairs j [])

formed-product : (nodes : List Node) (all : List Task) (la ra : List ℕ) (pairs : List (List ℕ)) (l r : Source) (base : ℕ) → AreFactors la ra pairs l r → IsShaped all l → IsShaped all r
    → IsShape (lengths (product_blocks la ra (counts pairs) l r base).source.layout) → AreFormed nodes (product_blocks la ra (counts pairs) l r base).tasks
formed-product nodes all la ra pairs l r base o sl sr sh =
    let layout = kept_axes 0 l.layout la ++ kept_axes 0 r.layout ra in
    formed-folded nodes Sum (elements (counts pairs)) 4 layout (product_task la ra (counts pairs) l r) base (some-elements pairs o.some) (omega arith) sh (λ bs p h lt.
    let it : IsProduct all la ra pairs l r bs p = product-is all la ra pairs l r o.left_paired o.right_paired sl sr bs p h lt in
    let ts = index_at (counts pairs) p in
    let tin : IsIn (counts pairs) ts = index_at-in (counts pairs) p lt in
    let uses = product_uses la ra pairs l r bs p in
    let own_l = own_left la pairs l bs p in
    let own_r = own_right la ra pairs l r bs p in
    let nl : length (get_or (inputs_among uses) (place_among uses (key_at l own_l)) []) ≡ length l.layout = ap length it.left_is ∙ length-lengths l.layout own_l it.left_inside in
    let nr : length (get_or (inputs_among uses) (place_among uses (key_at r own_r)) []) ≡ length r.layout = ap length it.right_is ∙ length-lengths r.layout own_r it.right_inside in
    let rules : FitsContract (place_among uses (key_at l own_l)) (place_among uses (key_at r own_r)) la ra (inputs_among uses) = record {
      left_in = place-below uses (key_at l own_l) it.left_there;
      right_in = place-below uses (key_at r own_r) it.right_there;
      left_axes_in = subst (AreAxes la) (sym nl) o.left_axes;
      right_axes_in = subst (AreAxes ra) (sym nr) o.right_axes;
      paired = ap (λ ns. map (λ a. get_or ns a 0) la) it.left_is ∙ paired-lens la l.layout pairs bs ts o.left_once o.left_number o.left_paired tin it.left_inside
          ∙ sym (ap (λ ns. map (λ a. get_or ns a 0) ra) it.right_is ∙ paired-lens ra r.layout pairs _ ts o.right_once o.right_number o.right_paired tin it.right_inside);
    } in
    record { made = record { rules = rules; shape = made-shape layout bs _ sh h it.shape }; loads = tt })

pub formed-contracted : (nodes : List Node) (all : List Task) (la ra : List ℕ) (l r : Source) (base : ℕ) → HaveChunks l.layout → AreOnce la (length l.layout) → AreOnce ra (length r.layout) → AreAxes la (length l.layout) → AreAxes ra (length r.layout) → length la ≡ length ra
    → ((j : ℕ) → j < length la → get_or (lengths l.layout) (get_or la j 0) 0 ≡ get_or (lengths r.layout) (get_or ra j 0) 0) → IsShape (lengths l.layout) → IsShape (lengths r.layout) → IsShaped all l → IsShaped all r
    → Stand all base (contracted_blocks la ra l r base).tasks → IsShape (lengths (contracted_blocks la ra l r base).source.layout) → AreFormed nodes (contracted_blocks la ra l r base).tasks
formed-contracted nodes all la ra l r base sl ol or al ar n same il ir shl shr stand sh =
    let pairs = paired_sizes l.layout r.layout la ra in
    let np : length pairs ≡ length la = length-pairs l.layout r.layout la ra n in
    let some-pairs : (j : ℕ) → j < length pairs → 0 < length (get_or pairs j []) = λ j lt.
    let jl : j < length la = omega arith in
    subst (λ (ss : List ℕ). 0 < length ss) (sym (pair-at l.layout r.layout la ra j n jl)) (some-union (get_or l.layout (get_or la j 0) []) (get_or r.layout (get_or ra j 0) []) (chunks-on l.layout (get_or la j 0) sl (ol.below j jl))) in
    let totals = paired-totals l.layout r.layout la ra n same in
    let lt = with_sizes l.layout la pairs in
    let rt = with_sizes r.layout ra pairs in
    let ll : lengths (with_sizes l.layout la pairs) ≡ lengths l.layout = with-lengths l.layout la pairs (λ j b. (totals j b).0) in
    let rl : lengths (with_sizes r.layout ra pairs) ≡ lengths r.layout = with-lengths r.layout ra pairs (λ j b. (totals j (omega arith)).1) in
    let fit_l = fitted base l lt in
    let fit_r = fitted (base + length fit_l.tasks) r rt in
    let front = Stand-front all base (fit_l.tasks ++ fit_r.tasks) _ stand in
    let f : IsCut all fit_l = cut-fitted all l lt base (sym (length-with l.layout la pairs)) shl (Stand-front all base fit_l.tasks fit_r.tasks front) in
    let k : IsCut all fit_r = cut-fitted all r rt (base + length fit_l.tasks) (sym (length-with r.layout ra pairs)) shr (Stand-back all base fit_l.tasks fit_r.tasks front) in
    let fl : fit_l.source.layout ≡ lt = fitted-layout l lt base in
    let fr : fit_r.source.layout ≡ rt = fitted-layout r rt (base + length fit_l.tasks) in
    let number_l : length fit_l.source.layout ≡ length l.layout = ap (λ (xs : List (List ℕ)). length xs) fl ∙ length-with l.layout la pairs in
    let number_r : length fit_r.source.layout ≡ length r.layout = ap (λ (xs : List (List ℕ)). length xs) fr ∙ length-with r.layout ra pairs in
    let o : AreFactors la ra pairs fit_l.source fit_r.source = record {
      left_paired = subst (λ (xs : List (List ℕ)). ArePaired 0 la xs pairs) (sym fl) (with-paired l.layout la pairs (sym np));
      right_paired = subst (λ (xs : List (List ℕ)). ArePaired 0 ra xs pairs) (sym fr) (with-paired r.layout ra pairs (sym n ∙ sym np));
      left_once = subst (AreOnce la) (sym number_l) ol;
      right_once = subst (AreOnce ra) (sym number_r) or;
      left_axes = subst (AreAxes la) (sym number_l) al;
      right_axes = subst (AreAxes ra) (sym number_r) ar;
      left_number = sym np;
      right_number = sym n ∙ sym np;
      some = some-pairs;
    } in
    all_join (IsFormed nodes) (fit_l.tasks ++ fit_r.tasks) _
    (all_join (IsFormed nodes) fit_l.tasks fit_r.tasks (formed-fitted nodes l lt base (sym ll) (subst IsShape (sym ll) il)) (formed-fitted nodes r rt (base + length fit_l.tasks) (sym rl) (subst IsShape (sym rl) ir)))
    (formed-product nodes all la ra pairs fit_l.source fit_r.source (base + length (fit_l.tasks ++ fit_r.tasks)) o f.shaped k.shaped sh)
