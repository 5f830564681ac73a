-- Tasks keep their values under new numbers.
use Rattle.std.proofs.Common.{◌≡◌, ◌≢◌, ℕ, zero, suc, ◌<◌, ◌≤◌, cond, List, [], ◌∷◌, length, map, get_or, refl, ap, sym, subst, ◌∙◌, arith, inl, inr, Some, None, ℤ, eq-eqb, ne_eqb}
use Rattle.std.specs.Prelude.{nat_eq, Contains, Option, option_and_then}
use Rattle.std.specs.List.{AllByRecursion}
use Rattle.std.proofs.lemmas.Bool.{cases_eq, cases_lt}
use Rattle.std.proofs.lemmas.List.{length-map, get_or-map, get_or_default}
use Rattle.std.proofs.lemmas.List.Sums.{position_or_len_is}
use Rattle.std.proofs.lemmas.Simd.{map-map}
use Rattle.nd_shape.specs.Block.{Array}
use Rattle.nd_shape.specs.Shape.{elements}
use Rattle.nd_shape.specs.Index.{index_at}
use Rattle.nd_shape.specs.declared.region.Piece.{Piece}
use Rattle.nd_shape.specs.Region.{moved}
use Rattle.nd_grid.specs.declared.operation.Fold.{Fold}
use Rattle.nd_grid.specs.Operation.{combine_two, folded}
use Rattle.nd_grid.specs.Grid.{Grid, grid_of, block_of, cells_up_to, then_cell, as_array, elementwise, chosen, sliced, transposed, reduced, kept_shape, contracted}
use Rattle.nd_grid.proofs.Turning.{position-below, position-at}
use Rattle.cluster_msgs.specs.Dags.{IsEarlier}
use Rattle.cluster_msgs.proofs.Dags.{dag-induction}
use Rattle.cluster_msgs.specs.Shape.{deps_of}
use Rattle.cluster_msgs.specs.Values.{with_first, all_of}
use Rattle.cluster_msgs.proofs.ValueLemmas.{val-step}
use Rattle.block_kernels.specs.declared.spec.Operand.{Operand}
use Rattle.block_kernels.specs.declared.spec.Operand.TheVariants.{Input, Number}
use Rattle.block_kernels.specs.declared.spec.Spec.{Spec}
use Rattle.block_kernels.specs.declared.spec.Spec.TheVariants.{Elementwise, Where, Slice, Transpose, Assemble, Reduce, Contract, Fill, Load}
use Rattle.block_kernels.specs.Kernels.{kernel, made, if_ok, nth, no_grid, operand, in_pieces, is_within, counted, elements_at}
use Rattle.task_graph.specs.declared.graph.Task.{Task}
use Rattle.task_graph.specs.Graphs.{task_at, no_task, shape_of, operation, value}
use Rattle.task_graph.specs.Orders.{with_key, ascending, position, moved_operand, moved_piece, moved_spec, inputs_of, moved_task, renumbered}
use Rattle.task_graph.proofs.Making.{deps-at, all-at, all-length, no_array}
use Rattle.task_graph.specs.Numberings.{OperandFits, PlacesFit, AreFit, IsNumbering}
use Rattle.task_graph.proofs.Keys.{ascending-has, contains-here, contains-later}
use Rattle.nd_grid.proofs.FoldAlgebra.{folded-cons, combine-assoc, combine-comm}

-- ---- blocks of grids that agree

cells-same : (f g : ℕ → Option ℤ) (n : ℕ) → ((p : ℕ) → f p ≡ g p) → cells_up_to f n ≡ cells_up_to g n
unfolding cells_up_to
cells-same f g zero h = refl
cells-same f g (suc n) h = ap (λ r. then_cell n r (f n)) (cells-same f g n h) ∙ ap (then_cell n (cells_up_to g n)) (h n)

block-same : (g h : Grid) → g.shape ≡ h.shape → ((i : List ℕ) → g.at i ≡ h.at i) → block_of g ≡ block_of h
block-same g h e same =
    ap (λ ns. as_array ns (cells_up_to (λ p. g.at (index_at ns p)) (elements ns))) e ∙ ap (as_array h.shape) (cells-same (λ p. g.at (index_at h.shape p)) (λ p. h.at (index_at h.shape p)) (elements h.shape) (λ p. same (index_at h.shape p)))

-- what each reduced block has at an index
pub elements-of : (fold : Fold) (axes : List ℕ) (blocks : List Array) (i : List ℕ) → elements_at (map (reduced fold axes) (map grid_of blocks)) i ≡ map (λ (b : Array). (reduced fold axes (grid_of b)).at i) blocks
elements-of fold axes [] i = refl
elements-of fold axes (b ∷ blocks) i = ap (λ xs. (reduced fold axes (grid_of b)).at i ∷ xs) (elements-of fold axes blocks i)

-- ---- lists of keys

abbrev pub Fresh : ℕ → List ℕ → Type 0
Fresh k js = AllByRecursion (λ j. k ≢ j) js

abbrev AllDistinct : List ℕ → Type 0
AllDistinct [] = Unit {0}
AllDistinct (k ∷ ks) = Fresh k ks × AllDistinct ks

pub with-less : (k j : ℕ) (js : List ℕ) → k < j → with_key k (j ∷ js) ≡ k ∷ j ∷ js
with-less k j js h = grind arith

pub with-same : (k j : ℕ) (js : List ℕ) → k ≡ j → with_key k (j ∷ js) ≡ j ∷ js
with-same k j js h = grind arith

pub with-more : (k j : ℕ) (js : List ℕ) → j ≤ k → k ≢ j → with_key k (j ∷ js) ≡ j ∷ with_key k js
with-more k j js h d = grind arith

fresh-with : (x k : ℕ) (js : List ℕ) → x ≢ k → Fresh x js → Fresh x (with_key k js)
fresh-with x k [] d f = (d, tt)
fresh-with x k (j ∷ js) d f = elim (cases_lt k j) [
  | inl lt ↦ subst (Fresh x) (sym (with-less k j js lt)) (d, f)
  | inr ge ↦ elim (cases_eq k j) [
    | inl e ↦ subst (Fresh x) (sym (with-same k j js e)) f
    | inr n ↦ subst (Fresh x) (sym (with-more k j js ge n)) (f.0, fresh-with x k js d f.1)
  ]
]

fresh-ascending : (x : ℕ) (ks : List ℕ) → Fresh x ks → Fresh x (ascending ks)
fresh-ascending x [] f = tt
fresh-ascending x (k ∷ ks) f = fresh-with x k (ascending ks) f.0 (fresh-ascending x ks f.1)

contains-with : (k x : ℕ) (js : List ℕ) → Contains (with_key k js) x → Contains (k ∷ js) x
contains-with k x [] c = c
contains-with k x (j ∷ js) c = elim (cases_lt k j) [
  | inl lt ↦ subst (λ xs. Contains xs x) (with-less k j js lt) c
  | inr ge ↦ elim (cases_eq k j) [
    | inl e ↦ contains-later x k (j ∷ js) (subst (λ xs. Contains xs x) (with-same k j js e) c)
    | inr n ↦ behind k x j js (subst (λ xs. Contains xs x) (with-more k j js ge n) c) (contains-with k x js)
  ]
]
  where
    swapped : (k x j : ℕ) (js : List ℕ) → Contains (k ∷ js) x → Contains (k ∷ j ∷ js) x
    swapped k x j js c = swap k x j js c.0 c.1 c.2
      where
        swap : (k x j : ℕ) (js : List ℕ) (i : ℕ) → i < length (k ∷ js) → get_or (k ∷ js) i x ≡ x → Contains (k ∷ j ∷ js) x
        swap k x j js zero h e = (0, omega arith, e)
        swap k x j js (suc i) h e = (suc (suc i), omega arith, e)

    behind : (k x j : ℕ) (js : List ℕ) → Contains (j ∷ with_key k js) x → (Contains (with_key k js) x → Contains (k ∷ js) x) → Contains (k ∷ j ∷ js) x
    behind k x j js c f = go k x j js c.0 c.1 c.2 f
      where
        go : (k x j : ℕ) (js : List ℕ) (i : ℕ) → i < length (j ∷ with_key k js) → get_or (j ∷ with_key k js) i x ≡ x → (Contains (with_key k js) x → Contains (k ∷ js) x) → Contains (k ∷ j ∷ js) x
        go k x j js zero h e f = (1, omega arith, e)
        go k x j js (suc i) h e f = swapped k x j js (f (i, omega arith, e))

-- no key is made up
pub ascending-from : (ks : List ℕ) (x : ℕ) → Contains (ascending ks) x → Contains ks x
ascending-from [] x c = absurd (omega (arith, c.1))
ascending-from (k ∷ ks) x c = let r = contains-with k x (ascending ks) c in tail r.0 r.1 r.2 (ascending-from ks x)
  where
    tail : (i : ℕ) → i < length (k ∷ ascending ks) → get_or (k ∷ ascending ks) i x ≡ x → (Contains (ascending ks) x → Contains ks x) → Contains (k ∷ ks) x
    tail zero h e f = (0, omega arith, e)
    tail (suc i) h e f = contains-later x k ks (f (i, omega arith, e))

-- a fold over keys in ascending order
folded-with : (fold : Fold) (f : ℕ → Option ℤ) (k : ℕ) (js : List ℕ) → Fresh k js → folded fold (map f (with_key k js)) ≡ combine_two fold (f k) (folded fold (map f js))
folded-with fold f k [] d = folded-cons fold (f k) []
folded-with fold f k (j ∷ js) d = elim (cases_lt k j) [
  | inl lt ↦ ap (λ xs. folded fold (map f xs)) (with-less k j js lt) ∙ folded-cons fold (f k) (map f (j ∷ js))
  | inr ge ↦
      ap (λ xs. folded fold (map f xs)) (with-more k j js ge d.0)
      ∙ folded-cons fold (f j) (map f (with_key k js))
      ∙ ap (combine_two fold (f j)) (folded-with fold f k js d.1)
      ∙ crossed (f j) (f k) (folded fold (map f js))
      ∙ ap (combine_two fold (f k)) (sym (folded-cons fold (f j) (map f js)))
]
  where
    crossed : (a b s : Option ℤ) → combine_two fold a (combine_two fold b s) ≡ combine_two fold b (combine_two fold a s)
    crossed a b s = sym (combine-assoc fold a b s) ∙ ap (λ u. combine_two fold u s) (combine-comm fold a b) ∙ combine-assoc fold b a s

folded-ascending : (fold : Fold) (f : ℕ → Option ℤ) (ks : List ℕ) → AllDistinct ks → folded fold (map f (ascending ks)) ≡ folded fold (map f ks)
folded-ascending fold f [] d = refl
folded-ascending fold f (k ∷ ks) d =
    folded-with fold f k (ascending ks) (fresh-ascending k ks d.0) ∙ ap (combine_two fold (f k)) (folded-ascending fold f ks d.1) ∙ sym (folded-cons fold (f k) (map f ks))

fresh-from : (k : ℕ) (ks : List ℕ) → ((p : ℕ) → p < length ks → k ≢ get_or ks p 0) → Fresh k ks
fresh-from k [] h = tt
fresh-from k (j ∷ ks) h = (h 0 (omega arith), fresh-from k ks (λ p lt. h (suc p) (omega arith)))

distinct-from : (ks : List ℕ) → ((p q : ℕ) → p < q → q < length ks → get_or ks p 0 ≢ get_or ks q 0) → AllDistinct ks
distinct-from [] h = tt
distinct-from (k ∷ ks) h = (fresh-from k ks (λ p lt. h 0 (suc p) (omega arith) (omega arith)), distinct-from ks (λ p q a b. h (suc p) (suc q) (omega arith) (omega arith)))

-- ---- the inputs in another order

-- the blocks in the order of the new dependencies
abbrev pub moved_blocks : List ℕ → List Array → List Array
moved_blocks keys blocks = map (λ k. get_or blocks (position keys k) no_array) (ascending keys)

abbrev pub new_place : List ℕ → ℕ → ℕ
new_place keys p = position (ascending keys) (get_or keys p 0)

abbrev pub new_shapes : List ℕ → Spec → List (List ℕ)
new_shapes keys spec = map (λ k. get_or (inputs_of spec) (position keys k) []) (ascending keys)

-- keys of which each stands once
pub record AreOnce (keys : List ℕ) : Type 0 where
  pub at : (p : ℕ) → p < length keys → position keys (get_or keys p 0) ≡ p

pub contains-at : (xs : List ℕ) (p : ℕ) → p < length xs → Contains xs (get_or xs p 0)
contains-at xs p h = (p, h, sym (get_or_default xs p 0 (get_or xs p 0) h))

once-distinct : (keys : List ℕ) → AreOnce keys → (p q : ℕ) → p < q → q < length keys → get_or keys p 0 ≢ get_or keys q 0
once-distinct keys o p q a b e = absurd (let x : position keys (get_or keys p 0) ≡ p = o.at p (omega arith) in let y : position keys (get_or keys q 0) ≡ q = o.at q b in let z : position keys (get_or keys p 0) ≡ position keys (get_or keys q 0) = ap (position keys) e in omega arith)

-- the input at a place stands at the new place
input-moved : (keys : List ℕ) (blocks : List Array) (p : ℕ) → AreOnce keys → length blocks ≡ length keys → p < length keys → nth (map grid_of (moved_blocks keys blocks)) (new_place keys p) ≡ nth (map grid_of blocks) p
input-moved keys blocks p o n h =
    let deps = ascending keys in
    let has : Contains (ascending keys) (get_or keys p 0) = ascending-has keys (get_or keys p 0) (contains-at keys p h) in
    let lt : new_place keys p < length (ascending keys) = position-below (ascending keys) (get_or keys p 0) has in
    let at : get_or (ascending keys) (new_place keys p) 0 ≡ get_or keys p 0 = position-at (ascending keys) (get_or keys p 0) has in
    get_or-map grid_of (moved_blocks keys blocks) (new_place keys p) no_array no_grid (omega (arith, length-map (ascending keys) (λ k. get_or blocks (position keys k) no_array)))
    ∙ ap grid_of (get_or-map (λ k. get_or blocks (position keys k) no_array) (ascending keys) (new_place keys p) 0 no_array lt ∙ ap (λ k. get_or blocks (position keys k) no_array) at ∙ ap (λ q. get_or blocks q no_array) (o.at p h))
    ∙ sym (get_or-map grid_of blocks p no_array no_grid (omega arith))

operand-moved : (gs hs : List Grid) (place : ℕ → ℕ) (n : ℕ) (o : Operand) → ((p : ℕ) → p < n → nth hs (place p) ≡ nth gs p) → OperandFits o n → operand (moved_operand place o) hs ≡ operand o gs
operand-moved gs hs place n (Input p) h f = h p f
operand-moved gs hs place n (Number v) h f = refl

pieces-moved : (gs hs : List Grid) (place : ℕ → ℕ) (n : ℕ) (pieces : List Piece) (i : List ℕ) → ((p : ℕ) → p < n → nth hs (place p) ≡ nth gs p) → AllByRecursion (λ p. p.source < n) pieces → in_pieces (map (moved_piece place) pieces) hs i ≡ in_pieces pieces gs i
pieces-moved gs hs place n [] i h f = refl
pieces-moved gs hs place n (p ∷ pieces) i h f =
    ap (λ (g : Grid). cond (is_within p.to.start p.to.lengths i) (g.at (moved p.from.start (counted p.to.start i))) (in_pieces (map (moved_piece place) pieces) hs i)) (h p.source f.0)
    ∙ ap (cond (is_within p.to.start p.to.lengths i) ((nth gs p.source).at (moved p.from.start (counted p.to.start i)))) (pieces-moved gs hs place n pieces i h f.1)

one-place : (keys : List ℕ) → length keys ≡ 1 → new_place keys 0 ≡ 0
one-place [] e = absurd (omega arith)
one-place (k ∷ []) e = same k
  where
    same : (k : ℕ) → position (k ∷ []) k ≡ 0
    same k = position_or_len_is (nat_eq k) (k ∷ []) 0 0 (omega arith) (λ j h. absurd (omega arith)) (λ h. eq-eqb k k refl)
one-place (k ∷ j ∷ ks) e = absurd (omega arith)

-- the operation on the moved inputs makes the same block
pub block-moved : (files : ℕ → List ℕ → ℤ) (keys : List ℕ) (blocks : List Array) (spec : Spec) → AreOnce keys → length blocks ≡ length keys → PlacesFit spec (length keys)
    → block_of (kernel files (moved_spec (new_place keys) (new_shapes keys spec) spec) (map grid_of (moved_blocks keys blocks))) ≡ block_of (kernel files spec (map grid_of blocks))
block-moved files keys blocks (Elementwise op left right inputs shape) o n f =
    let h = λ (p : ℕ) (lt : p < length keys). input-moved keys blocks p o n lt in
    ap (λ g. block_of (elementwise op g (operand (moved_operand (new_place keys) right) (map grid_of (moved_blocks keys blocks))))) (operand-moved (map grid_of blocks) (map grid_of (moved_blocks keys blocks)) (new_place keys) (length keys) left h f.0)
    ∙ ap (λ g. block_of (elementwise op (operand left (map grid_of blocks)) g)) (operand-moved (map grid_of blocks) (map grid_of (moved_blocks keys blocks)) (new_place keys) (length keys) right h f.1)
block-moved files keys blocks (Where condition first second inputs shape) o n f =
    let h = λ (p : ℕ) (lt : p < length keys). input-moved keys blocks p o n lt in
    let gs = map grid_of blocks in
    let hs = map grid_of (moved_blocks keys blocks) in
    ap (λ g. block_of (chosen g (operand (moved_operand (new_place keys) first) hs) (operand (moved_operand (new_place keys) second) hs))) (operand-moved gs hs (new_place keys) (length keys) condition h f.0)
    ∙ ap (λ g. block_of (chosen (operand condition gs) g (operand (moved_operand (new_place keys) second) hs))) (operand-moved gs hs (new_place keys) (length keys) first h f.1)
    ∙ ap (λ g. block_of (chosen (operand condition gs) (operand first gs) g)) (operand-moved gs hs (new_place keys) (length keys) second h f.2)
block-moved files keys blocks (Slice steps dropped input) o n f =
    ap (λ g. block_of (sliced steps dropped g)) (ap (nth (map grid_of (moved_blocks keys blocks))) (sym (one-place keys f)) ∙ input-moved keys blocks 0 o n (omega arith))
block-moved files keys blocks (Transpose axes input) o n f =
    ap (λ g. block_of (transposed axes g)) (ap (nth (map grid_of (moved_blocks keys blocks))) (sym (one-place keys f)) ∙ input-moved keys blocks 0 o n (omega arith))
block-moved files keys blocks (Assemble pieces inputs shape) o n f =
    block-same _ _ refl (λ i. pieces-moved (map grid_of blocks) (map grid_of (moved_blocks keys blocks)) (new_place keys) (length keys) pieces i (λ p lt. input-moved keys blocks p o n lt) f)
block-moved files keys blocks (Reduce fold axes inputs) o n f =
    block-same _ _ (first-shape keys inputs axes o f.0 f.1) (λ i.
    let h : Array → Option ℤ = λ (b : Array). (reduced fold axes (grid_of b)).at i in
    ap (folded fold) (elements-of fold axes (moved_blocks keys blocks) i ∙ map-map (λ (b : Array). (reduced fold axes (grid_of b)).at i) (λ k. get_or blocks (position keys k) no_array) (ascending keys))
    ∙ folded-ascending fold (λ k. (reduced fold axes (grid_of (get_or blocks (position keys k) no_array))).at i) keys (distinct-from keys (once-distinct keys o))
    ∙ ap (folded fold) (by-keys (λ (b : Array). (reduced fold axes (grid_of b)).at i) keys blocks o n ∙ sym (elements-of fold axes blocks i)))
  where
    same-lists : {A : Type 0} (xs ys : List A) (d : A) → length xs ≡ length ys → ((p : ℕ) → p < length xs → get_or xs p d ≡ get_or ys p d) → xs ≡ ys
    same-lists [] [] d e h = refl
    same-lists [] (y ∷ ys) d e h = absurd (omega arith)
    same-lists (x ∷ xs) [] d e h = absurd (omega arith)
    same-lists (x ∷ xs) (y ∷ ys) d e h = ap (λ z. z ∷ xs) (h 0 (omega arith)) ∙ ap (λ zs. y ∷ zs) (same-lists xs ys d (omega arith) (λ p lt. h (suc p) (omega arith)))

    by-keys : (h : Array → Option ℤ) (keys : List ℕ) (blocks : List Array) → AreOnce keys → length blocks ≡ length keys → map (λ k. h (get_or blocks (position keys k) no_array)) keys ≡ map h blocks
    by-keys h keys blocks o n =
        same-lists _ _ None (length-map keys (λ k. h (get_or blocks (position keys k) no_array)) ∙ sym n ∙ sym (length-map blocks h)) (λ p lt.
        let b : p < length keys = omega (arith, length-map keys (λ k. h (get_or blocks (position keys k) no_array))) in
        get_or-map (λ k. h (get_or blocks (position keys k) no_array)) keys p 0 None b ∙ ap (λ q. h (get_or blocks q no_array)) (o.at p b) ∙ sym (get_or-map h blocks p no_array None (omega arith)))

    first-shape : (keys : List ℕ) (inputs : List (List ℕ)) (axes : List ℕ) → AreOnce keys → length inputs ≡ length keys → ((p : ℕ) → p < length keys → kept_shape 0 (get_or inputs p []) axes ≡ kept_shape 0 (get_or inputs 0 []) axes)
        → kept_shape 0 (get_or (map (λ k. get_or inputs (position keys k) []) (ascending keys)) 0 []) axes ≡ kept_shape 0 (get_or inputs 0 []) axes
    first-shape [] [] axes o e h = refl
    first-shape [] (i ∷ inputs) axes o e h = absurd (omega arith)
    first-shape (k ∷ ks) inputs axes o e h =
        let has : Contains (ascending (k ∷ ks)) k = ascending-has (k ∷ ks) k (contains-here k ks) in
        let some : 0 < length (ascending (k ∷ ks)) = omega (arith, has.1) in
        let first = get_or (ascending (k ∷ ks)) 0 0 in
        let from : Contains (k ∷ ks) (get_or (ascending (k ∷ ks)) 0 0) = ascending-from (k ∷ ks) (get_or (ascending (k ∷ ks)) 0 0) (contains-at (ascending (k ∷ ks)) 0 some) in
        ap (λ ns. kept_shape 0 ns axes) (get_or-map (λ k'. get_or inputs (position (k ∷ ks) k') []) (ascending (k ∷ ks)) 0 0 [] some)
        ∙ h (position (k ∷ ks) (get_or (ascending (k ∷ ks)) 0 0)) (position-below (k ∷ ks) (get_or (ascending (k ∷ ks)) 0 0) from)
block-moved files keys blocks (Contract left right left_axes right_axes inputs) o n f =
    ap (λ g. block_of (contracted left_axes right_axes g (nth (map grid_of (moved_blocks keys blocks)) (new_place keys right)))) (input-moved keys blocks left o n f.0)
    ∙ ap (λ g. block_of (contracted left_axes right_axes (nth (map grid_of blocks) left) g)) (input-moved keys blocks right o n f.1)
block-moved files keys blocks (Fill dims region start step) o n f = refl
block-moved files keys blocks (Load input region) o n f = refl

-- ---- values

all-of-from : (f : ℕ → Option Array) (xs : List ℕ) (vs : List Array) → length vs ≡ length xs → ((p : ℕ) → p < length xs → f (get_or xs p 0) ≡ Some (get_or vs p no_array)) → all_of (map f xs) ≡ Some vs
all-of-from f [] [] e h = refl
all-of-from f [] (v ∷ vs) e h = absurd (omega arith)
all-of-from f (x ∷ xs) [] e h = absurd (omega arith)
all-of-from f (x ∷ xs) (v ∷ vs) e h =
    ap (λ o. with_first o (all_of (map f xs))) (h 0 (omega arith)) ∙ ap (with_first (Some v)) (all-of-from f xs vs (omega arith) (λ p lt. h (suc p) (omega arith)))

-- where each has a value, all have
all-of-some : (f : ℕ → Option Array) (xs : List ℕ) → ((p : ℕ) → p < length xs → (v : Array) × (f (get_or xs p 0) ≡ Some v)) → (vs : List Array) × (all_of (map f xs) ≡ Some vs)
all-of-some f [] h = ([], refl)
all-of-some f (x ∷ xs) h =
    let v = h 0 (omega arith) in
    let r = all-of-some f xs (λ p lt. h (suc p) (omega arith)) in
    (v.0 ∷ r.0, ap (λ o. with_first o (all_of (map f xs))) v.1 ∙ ap (with_first (Some v.0)) r.1)

member-of : (P : ℕ → Type 0) (xs : List ℕ) (p : ℕ) → AllByRecursion P xs → p < length xs → P (get_or xs p 0)
member-of P [] p a h = absurd (omega arith)
member-of P (x ∷ xs) zero a h = a.0
member-of P (x ∷ xs) (suc p) a h = member-of P xs p a.1 (omega arith)

-- the values of dependencies under old and new numbers
record IsMoved (old new : ℕ → Option Array) (deps keys : List ℕ) : Type 0 where
  once : AreOnce keys
  number : length keys ≡ length deps
  same : (p : ℕ) → p < length deps → new (get_or keys p 0) ≡ old (get_or deps p 0)

moved-some : (old new : ℕ → Option Array) (deps keys : List ℕ) (vs : List Array) → IsMoved old new deps keys → all_of (map old deps) ≡ Some vs → all_of (map new (ascending keys)) ≡ Some (moved_blocks keys vs)
moved-some old new deps keys vs m e =
    all-of-from new (ascending keys) (moved_blocks keys vs) (length-map (ascending keys) (λ k. get_or vs (position keys k) no_array)) (λ q h.
    let k = get_or (ascending keys) q 0 in
    let has : Contains keys (get_or (ascending keys) q 0) = ascending-from keys (get_or (ascending keys) q 0) (contains-at (ascending keys) q h) in
    let p : position keys (get_or (ascending keys) q 0) < length keys = position-below keys (get_or (ascending keys) q 0) has in
    let at : get_or keys (position keys (get_or (ascending keys) q 0)) 0 ≡ get_or (ascending keys) q 0 = position-at keys (get_or (ascending keys) q 0) has in
    let in' : position keys (get_or (ascending keys) q 0) < length deps = omega (arith, m.number) in
    ap new (sym at) ∙ m.same (position keys (get_or (ascending keys) q 0)) in' ∙ all-at old deps vs (position keys (get_or (ascending keys) q 0)) 0 no_array e in'
    ∙ ap Some (sym (get_or-map (λ k. get_or vs (position keys k) no_array) (ascending keys) q 0 no_array h)))

moved-back : (old new : ℕ → Option Array) (deps keys : List ℕ) (ws : List Array) → IsMoved old new deps keys → all_of (map new (ascending keys)) ≡ Some ws → (vs : List Array) × (all_of (map old deps) ≡ Some vs)
moved-back old new deps keys ws m e =
    all-of-some old deps (λ p h.
    let b : p < length keys = omega (arith, m.number) in
    let has : Contains (ascending keys) (get_or keys p 0) = ascending-has keys (get_or keys p 0) (contains-at keys p b) in
    let q : position (ascending keys) (get_or keys p 0) < length (ascending keys) = position-below (ascending keys) (get_or keys p 0) has in
    let at : get_or (ascending keys) (position (ascending keys) (get_or keys p 0)) 0 ≡ get_or keys p 0 = position-at (ascending keys) (get_or keys p 0) has in
    (get_or ws (position (ascending keys) (get_or keys p 0)) no_array, sym (m.same p h) ∙ ap new (sym at) ∙ all-at new (ascending keys) ws (position (ascending keys) (get_or keys p 0)) 0 no_array e q))

missing : (A : Type 0) → (vs : List Array) × (◌≡◌ {A = Option (List Array)} None (Some vs)) → A
missing A r = absurd (no r.1)
  where
    no : {vs : List Array} → ◌≡◌ {A = Option (List Array)} None (Some vs) → ⊥
    no e = cc

-- an operation over moved values
step-moved : (files : ℕ → List ℕ → ℤ) (t : Task) (old new : ℕ → Option Array) (keys : List ℕ) (o : Option (List Array)) → PlacesFit t.spec (length t.deps) → IsMoved old new t.deps keys → all_of (map old t.deps) ≡ o
    → option_and_then (made files (moved_task keys t).spec) (all_of (map new (ascending keys))) ≡ option_and_then (made files t.spec) o
step-moved files t old new keys (Some vs) f m e =
    ap (option_and_then (made files (moved_task keys t).spec)) (moved-some old new t.deps keys vs m e)
    ∙ ap if_ok (block-moved files keys vs t.spec m.once (all-length old t.deps vs e ∙ sym m.number) (subst (PlacesFit t.spec) (sym m.number) f))
step-moved files t old new keys None f m e = none (all_of (map new (ascending keys))) refl
  where
    none : (w : Option (List Array)) → all_of (map new (ascending keys)) ≡ w → option_and_then (made files (moved_task keys t).spec) (all_of (map new (ascending keys))) ≡ None
    none None h = ap (option_and_then (made files (moved_task keys t).spec)) h
    none (Some ws) h = let r = moved-back old new t.deps keys ws m h in missing _ (r.0, sym e ∙ r.1)

-- each key's dependencies under the new numbers stand each once
pub keys-once : (tasks : List Task) (order : List ℕ) (j : ℕ) → AreFit tasks → IsNumbering tasks order → j < length order → AreOnce (map (position order) (task_at tasks (get_or order j 0)).deps)
keys-once tasks order j f n lt =
    let old = get_or order j 0 in
    let deps = (task_at tasks (get_or order j 0)).deps in
    record {
      at = λ p h.
          let b : p < length (task_at tasks (get_or order j 0)).deps = omega (arith, length-map (task_at tasks (get_or order j 0)).deps (position order)) in
          let key : (q : ℕ) → q < length (task_at tasks (get_or order j 0)).deps → get_or (map (position order) (task_at tasks (get_or order j 0)).deps) q 0 ≡ position order (get_or (task_at tasks (get_or order j 0)).deps q 0) = λ q g.
          get_or-map (position order) (task_at tasks (get_or order j 0)).deps q 0 0 g in
          position_or_len_is (nat_eq (get_or (map (position order) (task_at tasks (get_or order j 0)).deps) p 0)) (map (position order) (task_at tasks (get_or order j 0)).deps) p 0 (omega arith) (λ q g.
          let bq : q < length (task_at tasks (get_or order j 0)).deps = omega arith in
          ne_eqb _ _ (λ e.
          let dp : Contains order (get_or (task_at tasks (get_or order j 0)).deps p 0) = n.there j (get_or (task_at tasks (get_or order j 0)).deps p 0) lt (contains-at (task_at tasks (get_or order j 0)).deps p b) in
          let dq : Contains order (get_or (task_at tasks (get_or order j 0)).deps q 0) = n.there j (get_or (task_at tasks (get_or order j 0)).deps q 0) lt (contains-at (task_at tasks (get_or order j 0)).deps q bq) in
          let same : get_or (task_at tasks (get_or order j 0)).deps p 0 ≡ get_or (task_at tasks (get_or order j 0)).deps q 0 =
          sym (position-at order (get_or (task_at tasks (get_or order j 0)).deps p 0) dp) ∙ ap (λ k. get_or order k 0) (sym (key p b) ∙ e ∙ key q bq) ∙ position-at order (get_or (task_at tasks (get_or order j 0)).deps q 0) dq in
          let x = f.once (get_or order j 0) p b in
          let y = f.once (get_or order j 0) q bq in
          let z : position (task_at tasks (get_or order j 0)).deps (get_or (task_at tasks (get_or order j 0)).deps p 0) ≡ position (task_at tasks (get_or order j 0)).deps (get_or (task_at tasks (get_or order j 0)).deps q 0) = ap (position (task_at tasks (get_or order j 0)).deps) same in
          absurd (omega arith)))
          (λ g. eq-eqb _ _ refl);
    }

-- the task under a new number
pub task-moved : (tasks : List Task) (order : List ℕ) (j : ℕ) → j < length order → task_at (renumbered tasks order) j ≡ moved_task (map (position order) (task_at tasks (get_or order j 0)).deps) (task_at tasks (get_or order j 0))
task-moved tasks order j lt =
    get_or-map (λ old. moved_task (map (position order) (deps_of (shape_of tasks) old)) (task_at tasks old)) order j 0 no_task lt
    ∙ ap (λ ds. moved_task (map (position order) ds) (task_at tasks (get_or order j 0))) (deps-at tasks (get_or order j 0))

-- the tasks keep their values
pub renumbered-value : (files : ℕ → List ℕ → ℤ) (tasks : List Task) (order : List ℕ) → IsEarlier (deps_of (shape_of tasks)) → IsEarlier (deps_of (shape_of (renumbered tasks order))) → AreFit tasks → IsNumbering tasks order
    → (j : ℕ) → j < length order → value files (renumbered tasks order) j ≡ value files tasks (get_or order j 0)
renumbered-value files tasks order e e' f n =
    dag-induction (deps_of (shape_of (renumbered tasks order))) (λ j. j < length order → value files (renumbered tasks order) j ≡ value files tasks (get_or order j 0)) e' (λ j ih lt.
    let old = get_or order j 0 in
    let t = task_at tasks (get_or order j 0) in
    let keys = map (position order) (task_at tasks (get_or order j 0)).deps in
    let new = renumbered tasks order in
    let is : task_at (renumbered tasks order) j ≡ moved_task (map (position order) (task_at tasks (get_or order j 0)).deps) (task_at tasks (get_or order j 0)) = task-moved tasks order j lt in
    let deps : deps_of (shape_of (renumbered tasks order)) j ≡ ascending (map (position order) (task_at tasks (get_or order j 0)).deps) = deps-at (renumbered tasks order) j ∙ ap (λ (u : Task). u.deps) is in
    let once : AreOnce (map (position order) (task_at tasks (get_or order j 0)).deps) = keys-once tasks order j f n lt in
    let moved-values : IsMoved (value files tasks) (value files (renumbered tasks order)) (task_at tasks (get_or order j 0)).deps (map (position order) (task_at tasks (get_or order j 0)).deps) = record {
      once = once;
      number = length-map (task_at tasks (get_or order j 0)).deps (position order);
      same = λ p h.
          let d = get_or (task_at tasks (get_or order j 0)).deps p 0 in
          let dc : Contains (task_at tasks (get_or order j 0)).deps (get_or (task_at tasks (get_or order j 0)).deps p 0) = contains-at (task_at tasks (get_or order j 0)).deps p h in
          let there : Contains order (get_or (task_at tasks (get_or order j 0)).deps p 0) = n.there j (get_or (task_at tasks (get_or order j 0)).deps p 0) lt dc in
          let key : get_or (map (position order) (task_at tasks (get_or order j 0)).deps) p 0 ≡ position order (get_or (task_at tasks (get_or order j 0)).deps p 0) = get_or-map (position order) (task_at tasks (get_or order j 0)).deps p 0 0 h in
          let b : p < length (map (position order) (task_at tasks (get_or order j 0)).deps) = omega (arith, length-map (task_at tasks (get_or order j 0)).deps (position order)) in
          let has : Contains (ascending (map (position order) (task_at tasks (get_or order j 0)).deps)) (get_or (map (position order) (task_at tasks (get_or order j 0)).deps) p 0) =
          ascending-has (map (position order) (task_at tasks (get_or order j 0)).deps) (get_or (map (position order) (task_at tasks (get_or order j 0)).deps) p 0) (contains-at (map (position order) (task_at tasks (get_or order j 0)).deps) p b) in
          let q = position (ascending (map (position order) (task_at tasks (get_or order j 0)).deps)) (get_or (map (position order) (task_at tasks (get_or order j 0)).deps) p 0) in
          let ihq = member-of (λ k. k < length order → value files (renumbered tasks order) k ≡ value files tasks (get_or order k 0)) (ascending (map (position order) (task_at tasks (get_or order j 0)).deps)) q
          (subst (AllByRecursion (λ k. k < length order → value files (renumbered tasks order) k ≡ value files tasks (get_or order k 0))) deps ih) (position-below (ascending (map (position order) (task_at tasks (get_or order j 0)).deps)) (get_or (map (position order) (task_at tasks (get_or order j 0)).deps) p 0) has) in
          let at : get_or (ascending (map (position order) (task_at tasks (get_or order j 0)).deps)) q 0 ≡ position order (get_or (task_at tasks (get_or order j 0)).deps p 0) =
          position-at (ascending (map (position order) (task_at tasks (get_or order j 0)).deps)) (get_or (map (position order) (task_at tasks (get_or order j 0)).deps) p 0) has ∙ key in
          ap (value files (renumbered tasks order)) key
          ∙ subst (λ k. k < length order → value files (renumbered tasks order) k ≡ value files tasks (get_or order k 0)) at ihq (position-below order (get_or (task_at tasks (get_or order j 0)).deps p 0) there)
          ∙ ap (value files tasks) (position-at order (get_or (task_at tasks (get_or order j 0)).deps p 0) there);
    } in
    val-step (deps_of (shape_of (renumbered tasks order))) (operation files (renumbered tasks order)) e' j
    ∙ ap (λ ds. option_and_then (made files (task_at (renumbered tasks order) j).spec) (all_of (map (value files (renumbered tasks order)) ds))) deps
    ∙ ap (λ (u : Task). option_and_then (made files u.spec) (all_of (map (value files (renumbered tasks order)) (ascending (map (position order) (task_at tasks (get_or order j 0)).deps))))) is
    ∙ step-moved files (task_at tasks (get_or order j 0)) (value files tasks) (value files (renumbered tasks order)) (map (position order) (task_at tasks (get_or order j 0)).deps) _ (f.places (get_or order j 0)) moved-values refl
    ∙ ap (λ ds. option_and_then (operation files tasks (get_or order j 0)) (all_of (map (value files tasks) ds))) (sym (deps-at tasks (get_or order j 0)))
    ∙ sym (val-step (deps_of (shape_of tasks)) (operation files tasks) e (get_or order j 0)))
