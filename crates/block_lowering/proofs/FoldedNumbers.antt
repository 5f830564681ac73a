-- Products over paired axes, and what is put in blocks by a partial result for each index.
use Rattle.std.proofs.Common.{◌≡◌, ℕ, suc, ◌+◌, ◌-◌, ◌<◌, ◌≤◌, min, Bool, true, false, cond, List, [], ◌∷◌, ◌++◌, length, drop, get_or, refl, ap, sym, ◌∙◌, append-nil, length-drop, arith}
use Rattle.std.specs.Prelude.{nat_eq, not}
use Rattle.std.proofs.lemmas.List.Sums.{prefix_len-le-length}
use Rattle.std.proofs.lemmas.List.{drop_more, length-map}
use Rattle.nd_shape.specs.Shape.{elements}
use Rattle.nd_shape.specs.Index.{index_at}
use Rattle.nd_grid.specs.declared.operation.Fold.{Fold}
use Rattle.nd_grid.specs.declared.operation.Fold.TheVariants.{Sum}
use Rattle.nd_grid.specs.Grid.{folded_shape, is_among}
use Rattle.chunk_layout.specs.Layouts.{counts}
use Rattle.task_graph.specs.declared.graph.Task.{Task}
use Rattle.task_graph.specs.Orders.{ascending}
use Rattle.task_graph.proofs.Bounds.{ascending-length}
use Rattle.lowering_laws.specs.Sources.{Source, Made}
use Rattle.lowering_laws.specs.Stages.{Use, keys_used, place_among, kept_axes, paired_sizes, folded_each, reduced_blocks, product_blocks}
use Rattle.block_lowering.specs.Tasks.{fold_task, pair_task}

-- ---- by index

-- a layout and parts that are known by equations
pub folded-same : (fold : Fold) (split base : ℕ) (part : List ℕ → List ℕ → Task) (parts ps : List ℕ) (layout given : List (List ℕ)) → parts ≡ ps → layout ≡ given
    → folded_each fold (elements parts) split layout (λ bs p. part bs (index_at parts p)) base ≡ folded_each fold (elements ps) split given (λ bs p. part bs (index_at ps p)) base
folded-same fold split base part parts ps layout given e d =
    ap (λ (qs : List ℕ). folded_each fold (elements qs) split layout (λ bs p. part bs (index_at qs p)) base) e
    ∙ ap (λ (l : List (List ℕ)). folded_each fold (elements ps) split l (λ bs p. part bs (index_at ps p)) base) d

pub reduced-same : (fold : Fold) (axes : List ℕ) (split : ℕ) (s : Source) (base : ℕ) (parts : List ℕ) (layout : List (List ℕ)) → parts ≡ folded_shape 0 (counts s.layout) axes → layout ≡ kept_axes 0 s.layout axes
    → (folded_each fold (elements parts) split layout (λ bs p. fold_task fold axes s bs (index_at parts p)) base).tasks ≡ (reduced_blocks fold axes split s base).tasks
reduced-same fold axes split s base parts layout e d = ap (λ (m : Made). m.tasks) (folded-same fold split base (fold_task fold axes s) parts (folded_shape 0 (counts s.layout) axes) layout (kept_axes 0 s.layout axes) e d)

pub products-same : (left_axes right_axes : List ℕ) (l r : Source) (base : ℕ) (parts pairs : List ℕ) (layout : List (List ℕ)) → parts ≡ pairs → layout ≡ kept_axes 0 l.layout left_axes ++ kept_axes 0 r.layout right_axes
    → folded_each Sum (elements parts) 4 layout (λ bs p. pair_task left_axes right_axes l r bs (index_at parts p)) base ≡ product_blocks left_axes right_axes pairs l r base
products-same left_axes right_axes l r base parts pairs layout e d = folded-same Sum 4 base (pair_task left_axes right_axes l r) parts pairs layout (kept_axes 0 l.layout left_axes ++ kept_axes 0 r.layout right_axes) e d

-- the layout of a product, of layouts and axes that are known by equations
pub product-layout : (xs left ys right : List (List ℕ)) (as' one bs two : List ℕ) → xs ≡ left → ys ≡ right → as' ≡ one → bs ≡ two → kept_axes 0 xs as' ++ kept_axes 0 ys bs ≡ kept_axes 0 left one ++ kept_axes 0 right two
product-layout xs left ys right as' one bs two x y a b =
    ap (λ ls. kept_axes 0 ls as' ++ kept_axes 0 ys bs) x ∙ ap (λ ls. kept_axes 0 left as' ++ kept_axes 0 ls bs) y ∙ ap (λ ns. kept_axes 0 left ns ++ kept_axes 0 right bs) a ∙ ap (λ ns. kept_axes 0 left one ++ kept_axes 0 right ns) b

-- ---- loops

paired-none : (left right : List (List ℕ)) (axes others : List ℕ) → min (length axes) (length others) ≡ 0 → paired_sizes left right axes others ≡ []
paired-none left right [] others h = refl
paired-none left right (a ∷ axes) [] h = refl
paired-none left right (a ∷ axes) (b ∷ others) h = absurd (omega arith)

pub paired-all : (left right : List (List ℕ)) (axes others : List ℕ) (done res : List (List ℕ)) (k : ℕ) → k ≡ min (length axes) (length others) → done ++ paired_sizes left right (drop k axes) (drop k others) ≡ res → done ≡ res
paired-all left right axes others done res k h e =
    let a : length (drop k axes) ≡ length axes - k = length-drop k axes in
    let b : length (drop k others) ≡ length others - k = length-drop k others in
    sym (append-nil done) ∙ ap (λ xs. done ++ xs) (sym (paired-none left right (drop k axes) (drop k others) (omega arith))) ∙ e

-- one axis more is counted, unless it is listed
length-unless : {A : Type 0} (b : Bool) (x : A) (xs : List A) → length (cond b xs (x ∷ xs)) ≡ cond b 0 1 + length xs
length-unless true x xs = omega arith
length-unless false x xs = omega arith

pub kept-more : (layout : List (List ℕ)) (listed : List ℕ) (k : ℕ) → k < length layout → length (kept_axes k (drop k layout) listed) ≡ cond (is_among k listed) 0 1 + length (kept_axes (k + 1) (drop (k + 1) layout) listed)
kept-more layout listed k h =
    let z : suc k ≡ k + 1 = omega arith in
    ap (λ l. length (kept_axes k l listed)) (drop_more layout k [] h)
    ∙ length-unless (is_among k listed) (get_or layout k []) (kept_axes (suc k) (drop (k + 1) layout) listed)
    ∙ ap (λ j. cond (is_among k listed) 0 1 + length (kept_axes j (drop (k + 1) layout) listed)) z

-- ---- places among few uses

pub few-places : (uses : List Use) (key : ℕ) → length uses ≤ 2 → place_among uses key ≤ 2
few-places uses key h =
    let a : length (ascending (keys_used uses)) ≤ length (keys_used uses) = ascending-length (keys_used uses) in
    let b : length (keys_used uses) ≡ length uses = length-map uses (λ (u : Use). u.key) in
    let p : place_among uses key ≤ length (ascending (keys_used uses)) = prefix_len-le-length (λ k. not (nat_eq key k)) (ascending (keys_used uses)) in
    omega arith
