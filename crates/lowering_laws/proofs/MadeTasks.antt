-- What each task has that is made of an operation and its dependencies, all tasks have that nodes are lowered to.
use Rattle.std.proofs.Common.{ℕ, suc, ◌+◌, ◌*◌, cond, Bool, true, false, List, [], ◌∷◌, ◌++◌, length, map, pos, replicate, get_or}
use Rattle.std.specs.Prelude.{slice_set}
use Rattle.std.specs.List.{AllByRecursion, range_with_len, flat_map}
use Rattle.small_facts.proofs.Every.{all_join}
use Rattle.nd_shape.specs.declared.slice.Steps.{Steps}
use Rattle.nd_shape.specs.declared.region.Piece.{Piece}
use Rattle.nd_shape.specs.Index.{index_at}
use Rattle.nd_shape.specs.Shape.{elements}
use Rattle.nd_shape.specs.Chunk.{total}
use Rattle.nd_grid.specs.declared.operation.Fold.{Fold}
use Rattle.nd_grid.specs.declared.operation.Fold.TheVariants.{Sum}
use Rattle.nd_grid.specs.declared.operation.Binary.TheVariants.{Sub}
use Rattle.array_expr.specs.declared.op.Op.{Op}
use Rattle.array_expr.specs.declared.op.Op.TheVariants.{Input, Full, Ramp, Negate, Elementwise, Where, Slice, Transpose, Rechunk, Concatenate, Reduce, Tensordot}
use Rattle.array_expr.specs.declared.expr.Node.{Node}
use Rattle.array_expr.specs.Node.{shape_at, folded_axes}
use Rattle.nd_grid.specs.Grid.{folded_shape}
use Rattle.chunk_layout.specs.Layouts.{counts, blocks, lengths_at, normalized}
use Rattle.chunk_layout.specs.Trees.{tree}
use Rattle.block_kernels.specs.declared.spec.Spec.{Spec}
use Rattle.block_kernels.specs.declared.spec.Spec.TheVariants as kernels
use Rattle.task_graph.specs.declared.graph.Task.{Task}
use Rattle.task_graph.specs.Graphs.{task}
use Rattle.lowering_laws.specs.Sources.{Source, Made, rechunk_task, rechunked, same_layout, fitted}
use Rattle.lowering_laws.specs.Stages.{Arg, Literal, Blocks, Point, Pair, Choice, arg_layout, arg_target, fitted_args, point_layout, point_task, pointwise, Along, along_all, or_empty, common_layout, fitted_along, joined_task, concatenated_blocks, group_tasks, level_tasks, tree_count, folded_tasks, folded_each, partial_task, paired_sizes, with_sizes, kept_axes, product_task, contracted_blocks}
use Rattle.lowering_laws.specs.Lowered.{source_at, arg_of, lower_op, Lowering, with_made, lower_from, lowering}

-- what holds of each task made so
abbrev pub OfEach : (Task → Type 0) → Type 0
OfEach P = (spec : Spec) (deps : List ℕ) → P (task spec deps)

-- what holds of each task that assembles parts, or folds
abbrev pub OfAssemble : (Task → Type 0) → Type 0
OfAssemble P = (pieces : List Piece) (inputs : List (List ℕ)) (shape deps : List ℕ) → P (task (kernels.Assemble pieces inputs shape) deps)

abbrev pub OfReduce : (Task → Type 0) → Type 0
OfReduce P = (fold : Fold) (axes : List ℕ) (inputs : List (List ℕ)) (deps : List ℕ) → P (task (kernels.Reduce fold axes inputs) deps)

assemble-of : (P : Task → Type 0) → OfEach P → OfAssemble P
assemble-of P h pieces inputs shape deps = h (kernels.Assemble pieces inputs shape) deps

reduce-of : (P : Task → Type 0) → OfEach P → OfReduce P
reduce-of P h fold axes inputs deps = h (kernels.Reduce fold axes inputs) deps

pub all-of : {A : Type 0} (P : Task → Type 0) (f : A → Task) (xs : List A) → ((x : A) → P (f x)) → AllByRecursion P (map f xs)
all-of P f [] h = tt
all-of P f (x ∷ xs) h = (h x, all-of P f xs h)

pub all-flat : (P : Task → Type 0) (f : ℕ → List Task) (xs : List ℕ) → ((x : ℕ) → AllByRecursion P (f x)) → AllByRecursion P (flat_map f xs)
all-flat P f [] h = tt
all-flat P f (x ∷ xs) h = all_join P (f x) (flat_map f xs) (h x) (all-flat P f xs h)

pub all-rechunked : (P : Task → Type 0) (s : Source) (layout : List (List ℕ)) (base : ℕ) → OfAssemble P → AllByRecursion P (rechunked base s layout).tasks
all-rechunked P s layout base h = all-of P (λ c. rechunk_task s layout (index_at (counts layout) c)) (range_with_len 0 (blocks layout)) (λ c. h _ _ _ _)

pub all-fitted : (P : Task → Type 0) (s : Source) (layout : List (List ℕ)) (base : ℕ) → OfAssemble P → AllByRecursion P (fitted base s layout).tasks
all-fitted P s layout base h = in-case (same_layout s.layout layout)
  where
    in-case : (c : Bool) → AllByRecursion P (cond {A = Made} c (record { tasks = []; source = s }) (rechunked base s layout)).tasks
    in-case true = tt
    in-case false = all-rechunked P s layout base h

pub all-args : (P : Task → Type 0) (layout : List (List ℕ)) (args : List Arg) (base : ℕ) → OfAssemble P → AllByRecursion P (fitted_args layout args base).tasks
all-args P layout [] base h = tt
all-args P layout (Literal v ∷ args) base h = all-args P layout args (base + 0) h
all-args P layout (Blocks s ∷ args) base h =
    all_join P (fitted base s (arg_target layout (Blocks s))).tasks _ (all-fitted P s (arg_target layout (Blocks s)) base h) (all-args P layout args (base + length (fitted base s (arg_target layout (Blocks s))).tasks) h)

pub all-along : (P : Task → Type 0) (common : List (List ℕ)) (axis : ℕ) (sources : List Source) (base : ℕ) → OfAssemble P → AllByRecursion P (fitted_along common axis sources base).tasks
all-along P common axis [] base h = tt
all-along P common axis (s ∷ sources) base h =
    let to = slice_set common axis (get_or s.layout axis []) in
    all_join P (fitted base s to).tasks _ (all-fitted P s to base h) (all-along P common axis sources (base + length (fitted base s to).tasks) h)

all-groups : (P : Task → Type 0) (fold : Fold) (dims : List ℕ) (at : ℕ) (gs : List ℕ) → OfReduce P → AllByRecursion P (group_tasks fold dims at gs)
all-groups P fold dims at [] h = tt
all-groups P fold dims at (g ∷ gs) h = (h fold [] (replicate g dims) (range_with_len at g), all-groups P fold dims (at + g) gs h)

all-levels : (P : Task → Type 0) (fold : Fold) (dims : List ℕ) (at : ℕ) (levels : List (List ℕ)) → OfReduce P → AllByRecursion P (level_tasks fold dims at levels)
all-levels P fold dims at [] h = tt
all-levels P fold dims at (gs ∷ levels) h = all_join P (group_tasks fold dims at gs) (level_tasks fold dims (at + total gs) levels) (all-groups P fold dims at gs h) (all-levels P fold dims (at + total gs) levels h)

pub all-folded : (P : Task → Type 0) (fold : Fold) (n split : ℕ) (layout : List (List ℕ)) (partial : List ℕ → ℕ → Task) (base : ℕ) → OfReduce P → ((bs : List ℕ) (p : ℕ) → P (partial bs p)) → AllByRecursion P (folded_each fold n split layout partial base).tasks
all-folded P fold n split layout partial base h g =
    let f = λ (c : ℕ). folded_tasks fold n split (partial (index_at (counts layout) c)) (lengths_at layout (index_at (counts layout) c)) (base + (n + tree_count n split) * c) in
    all-flat P f (range_with_len 0 (blocks layout)) (λ c.
    let bs = index_at (counts layout) c in
    let at = base + (n + tree_count n split) * c in
    all_join P (map (partial bs) (range_with_len 0 n)) (level_tasks fold (lengths_at layout bs) at (tree n split)) (all-of P (partial bs) (range_with_len 0 n) (g bs)) (all-levels P fold (lengths_at layout bs) at (tree n split) h))

all-point : (P : Task → Type 0) → OfEach P → (point : Point) (dims : List ℕ) (args : List Arg) (base : ℕ) → AllByRecursion P (pointwise point dims args base).tasks
all-point P h point dims args base =
    let layout = point_layout dims (map arg_layout args) in
    let fit = fitted_args layout args base in
    all_join P fit.tasks _ (all-args P layout args base (assemble-of P h)) (all-of P (λ c. point_task point layout fit.args (index_at (counts layout) c)) (range_with_len 0 (blocks layout)) (λ c. h _ _))

all-joined : (P : Task → Type 0) → OfEach P → (sources : List Source) (axis base : ℕ) → AllByRecursion P (concatenated_blocks sources axis base).tasks
all-joined P h sources axis base =
    let common = common_layout (map (λ (s : Source). s.layout) sources) in
    let fit = fitted_along common axis sources base in
    let as' = or_empty (along_all 0 (map (λ (s : Source). get_or s.layout axis []) sources)) in
    let layout = slice_set common axis (map (λ (a : Along). a.size) as') in
    all_join P fit.tasks _ (all-along P common axis sources base (assemble-of P h)) (all-of P (λ c. joined_task layout as' axis fit.sources (index_at (counts layout) c)) (range_with_len 0 (blocks layout)) (λ c. h _ _))

all-contracted : (P : Task → Type 0) → OfEach P → (left_axes right_axes : List ℕ) (l r : Source) (base : ℕ) → AllByRecursion P (contracted_blocks left_axes right_axes l r base).tasks
all-contracted P h left_axes right_axes l r base =
    let sizes = paired_sizes l.layout r.layout left_axes right_axes in
    let fit_l = fitted base l (with_sizes l.layout left_axes sizes) in
    let fit_r = fitted (base + length fit_l.tasks) r (with_sizes r.layout right_axes sizes) in
    all_join P (fit_l.tasks ++ fit_r.tasks) _
    (all_join P fit_l.tasks fit_r.tasks (all-fitted P l (with_sizes l.layout left_axes sizes) base (assemble-of P h)) (all-fitted P r (with_sizes r.layout right_axes sizes) (base + length fit_l.tasks) (assemble-of P h)))
    (all-folded P Sum (elements (map (λ (ss : List ℕ). length ss) sizes)) 4 (kept_axes 0 fit_l.source.layout left_axes ++ kept_axes 0 fit_r.source.layout right_axes) (product_task left_axes right_axes (map (λ (ss : List ℕ). length ss) sizes) fit_l.source fit_r.source) (base + length (fit_l.tasks ++ fit_r.tasks)) (reduce-of P h) (λ bs p. h _ _))

pub all-lowered-op : (P : Task → Type 0) → OfEach P → (nodes : List Node) (sources : List Source) (n : ℕ) (taken : List Steps) (shape : List ℕ) (op : Op) (base : ℕ) → AllByRecursion P (lower_op nodes sources n taken shape op base).tasks
all-lowered-op P h nodes sources n taken shape (Input dims chunks) base = all-of P _ _ (λ c. h _ _)
all-lowered-op P h nodes sources n taken shape (Full dims v chunks) base = all-of P _ _ (λ c. h _ _)
all-lowered-op P h nodes sources n taken shape (Ramp dims start step chunks) base = all-of P _ _ (λ c. h _ _)
all-lowered-op P h nodes sources n taken shape (Negate of) base = all-point P h (Pair Sub) shape (Literal (pos 0) ∷ arg_of nodes sources of ∷ []) base
all-lowered-op P h nodes sources n taken shape (Elementwise op left right) base = all-point P h (Pair op) shape (arg_of nodes sources left ∷ arg_of nodes sources right ∷ []) base
all-lowered-op P h nodes sources n taken shape (Where condition first second) base = all-point P h Choice shape (arg_of nodes sources condition ∷ arg_of nodes sources first ∷ arg_of nodes sources second ∷ []) base
all-lowered-op P h nodes sources n taken shape (Slice of parts) base = all-of P _ _ (λ c. h _ _)
all-lowered-op P h nodes sources n taken shape (Transpose of axes) base = all-of P _ _ (λ c. h _ _)
all-lowered-op P h nodes sources n taken shape (Rechunk of chunks) base = all-rechunked P (source_at sources of) (normalized shape chunks) base (assemble-of P h)
all-lowered-op P h nodes sources n taken shape (Concatenate of axis) base = all-joined P h (map (source_at sources) of) axis base
all-lowered-op P h nodes sources n taken shape (Reduce fold of axes split) base = all-folded P fold (elements (folded_shape 0 (counts (source_at sources of).layout) (folded_axes axes (length (shape_at nodes of))))) split (kept_axes 0 (source_at sources of).layout (folded_axes axes (length (shape_at nodes of)))) (partial_task fold (folded_axes axes (length (shape_at nodes of))) (source_at sources of)) base (reduce-of P h) (λ bs p. h _ _)
all-lowered-op P h nodes sources n taken shape (Tensordot left right left_axes right_axes) base = all-contracted P h left_axes right_axes (source_at sources left) (source_at sources right) base

-- what is lowered
all-from : (P : Task → Type 0) → OfEach P → (nodes : List Node) (n : ℕ) (l : Lowering) (rest : List Node) → AllByRecursion P l.tasks → AllByRecursion P (lower_from nodes n l rest).tasks
all-from P h nodes n l [] a = a
all-from P h nodes n l (x ∷ rest) a =
    let m = lower_op nodes l.sources n x.taken x.shape x.op (length l.tasks) in
    all-from P h nodes (suc n) (with_made l n m) rest (all_join P l.tasks m.tasks a (all-lowered-op P h nodes l.sources n x.taken x.shape x.op (length l.tasks)))

pub all-lowered : (P : Task → Type 0) → OfEach P → (nodes : List Node) → AllByRecursion P (lowering nodes).tasks
all-lowered P h nodes = all-from P h nodes 0 _ nodes tt
