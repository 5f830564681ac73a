-- The tasks of each operation, one stage for each kind.
use Rattle.std.specs.Prelude.{ℕ, suc, ◌+◌, ◌-◌, ◌*◌, cond, nat_eq, nat_lt, List, [], ◌∷◌, ◌++◌, length, map, drop, get_or, ℤ, pos, replicate, slice_set, slice_index_or}
use Rattle.std.specs.List.{range_with_len, position_or_len, flat_map}
use Rattle.nd_shape.specs.declared.slice.Steps.{Steps}
use Rattle.nd_shape.specs.Shape.{elements}
use Rattle.nd_shape.specs.Index.{index_at}
use Rattle.nd_shape.specs.Chunk.{total}
use Rattle.nd_grid.specs.declared.operation.Binary.{Binary}
use Rattle.nd_grid.specs.declared.operation.Fold.{Fold}
use Rattle.nd_grid.specs.declared.operation.Fold.TheVariants.{Sum}
use Rattle.nd_grid.specs.Grid.{under, is_among, turned, folded_shape, merged, woven}
use Rattle.chunk_layout.specs.Layouts.{counts, blocks, lengths_at, box_at}
use Rattle.chunk_layout.specs.Unions.{union}
use Rattle.chunk_layout.specs.Slices.{Taken, pieces_of, counts_taken}
use Rattle.chunk_layout.specs.Trees.{tree}
use Rattle.block_kernels.specs.declared.spec.Operand.{Operand}
use Rattle.block_kernels.specs.declared.spec.Operand.TheVariants.{Input as At, Number}
use Rattle.block_kernels.specs.declared.spec.Spec.{Spec}
use Rattle.block_kernels.specs.declared.spec.Spec.TheVariants as kernels
use Rattle.nd_shape.specs.declared.region.Piece.{Piece}
use Rattle.task_graph.specs.declared.graph.Task.{Task}
use Rattle.task_graph.specs.Graphs.{task}
use Rattle.task_graph.specs.Orders.{ascending, position}
use Rattle.lowering_laws.specs.Sources.{Source, Made, key_at, one_each, fitted}

-- ---- several operands

-- a key that a task uses, and the shape of its block
pub record Use : Type 0 where
  pub key : ℕ
  pub shape : List ℕ

abbrev pub keys_used : List Use → List ℕ
keys_used uses = map (λ (u : Use). u.key) uses

abbrev pub shapes_used : List Use → List (List ℕ)
shapes_used uses = map (λ (u : Use). u.shape) uses

abbrev pub deps_of_uses : List Use → List ℕ
deps_of_uses uses = ascending (keys_used uses)

-- the place of a key among the dependencies, and the shapes of the inputs in their order
abbrev pub place_among : List Use → ℕ → ℕ
place_among uses key = position (deps_of_uses uses) key

abbrev pub inputs_among : List Use → List (List ℕ)
inputs_among uses = map (λ k. get_or (shapes_used uses) (position (keys_used uses) k) []) (deps_of_uses uses)

-- ---- element by element

-- what an operand is: a number, or an array
pub data Arg : Type 0 where
  Literal : ℤ → Arg
  Blocks : Source → Arg

-- which operation
pub data Point : Type 0 where
  Pair : Binary → Point
  Choice : Point

abbrev pub arg_layout : Arg → List (List ℕ)
arg_layout (Literal v) = []
arg_layout (Blocks s) = s.layout

-- the chunks that an operand has on axis k of the result, where it has the result's length there
abbrev pub sizes_on : List ℕ → ℕ → List (List ℕ) → List ℕ
sizes_on dims k layout =
    let before = length dims - length layout in
    cond (nat_lt k before) [] (cond (nat_eq (total (get_or layout (k - before) [])) (get_or dims k 0)) (get_or layout (k - before) []) [])

-- no chunks stand for none
abbrev pub joined : List ℕ → List ℕ → List ℕ
joined [] ys = ys
joined (x ∷ xs) [] = x ∷ xs
joined (x ∷ xs) (y ∷ ys) = union (x ∷ xs) (y ∷ ys)

abbrev pub joined_all : List (List ℕ) → List ℕ
joined_all [] = []
joined_all (xs ∷ xss) = joined xs (joined_all xss)

abbrev pub point_layout : List ℕ → List (List (List ℕ)) → List (List ℕ)
point_layout dims layouts =
    map (λ k. cond (nat_eq (get_or dims k 0) 1) (1 ∷ []) (joined_all (map (sizes_on dims k) layouts))) (range_with_len 0 (length dims))

-- the layout that an operand is to have under one of the result: from axis `before` on, one chunk of 1 where it doesn't
-- have the result's length
abbrev pub layout_under : List ℕ → List (List ℕ) → List (List ℕ)
layout_under own [] = []
layout_under [] (sizes ∷ layout) = []
layout_under (n ∷ own) (sizes ∷ layout) = cond (nat_eq n 1) (1 ∷ []) sizes ∷ layout_under own layout

abbrev pub arg_target : List (List ℕ) → Arg → List (List ℕ)
arg_target layout (Literal v) = []
arg_target layout (Blocks s) = layout_under (map (λ (sizes : List ℕ). total sizes) s.layout) (drop (length layout - length s.layout) layout)

-- operands in the result's layout, and the tasks that make them so
pub record Args : Type 0 where
  pub tasks : List Task
  pub args : List Arg

abbrev pub fitted_arg : ℕ → List (List ℕ) → Arg → Args
fitted_arg base layout (Literal v) = record { tasks = []; args = Literal v ∷ [] }
fitted_arg base layout (Blocks s) = let m = fitted base s (arg_target layout (Blocks s)) in record { tasks = m.tasks; args = Blocks m.source ∷ [] }

abbrev pub then_args : Args → (ℕ → Args) → ℕ → Args
then_args a more base = let b = more (base + length a.tasks) in record { tasks = a.tasks ++ b.tasks; args = a.args ++ b.args }

abbrev pub fitted_args : List (List ℕ) → List Arg → ℕ → Args
fitted_args layout [] base = record { tasks = []; args = [] }
fitted_args layout (a ∷ args) base = then_args (fitted_arg base layout a) (fitted_args layout args) base

-- the block of an operand under a block of the result
abbrev pub chunks_under : Source → List ℕ → List ℕ
chunks_under s bs = under (counts s.layout) bs

abbrev pub use_under : Source → List ℕ → Use
use_under s bs = record { key = key_at s (chunks_under s bs); shape = lengths_at s.layout (chunks_under s bs) }

abbrev pub uses_of_arg : List ℕ → Arg → List Use
uses_of_arg bs (Literal v) = []
uses_of_arg bs (Blocks s) = use_under s bs ∷ []

abbrev pub uses_of : List Arg → List ℕ → List Use
uses_of args bs = flat_map (uses_of_arg bs) args

abbrev pub operand_of : List Use → List ℕ → Arg → Operand
operand_of uses bs (Literal v) = Number v
operand_of uses bs (Blocks s) = At (place_among uses (use_under s bs).key)

abbrev pub no_arg : Arg
no_arg = Literal (pos 0)

abbrev pub nth_arg : List Arg → ℕ → Arg
nth_arg args k = slice_index_or args k no_arg

abbrev pub point_spec : Point → List Arg → List Use → List ℕ → List ℕ → Spec
point_spec (Pair op) args uses bs shape =
    kernels.Elementwise op (operand_of uses bs (nth_arg args 0)) (operand_of uses bs (nth_arg args 1)) (inputs_among uses) shape
point_spec Choice args uses bs shape =
    kernels.Where (operand_of uses bs (nth_arg args 0)) (operand_of uses bs (nth_arg args 1)) (operand_of uses bs (nth_arg args 2)) (inputs_among uses) shape

abbrev pub point_task : Point → List (List ℕ) → List Arg → List ℕ → Task
point_task point layout args bs = let uses = uses_of args bs in task (point_spec point args uses bs (lengths_at layout bs)) (deps_of_uses uses)

-- tasks that come before those of an array
abbrev pub after : List Task → (ℕ → Made) → ℕ → Made
after tasks more base = let m = more (base + length tasks) in record { tasks = tasks ++ m.tasks; source = m.source }

abbrev pub pointwise : Point → List ℕ → List Arg → ℕ → Made
pointwise point dims args base =
    let layout = point_layout dims (map arg_layout args) in
    let fit = fitted_args layout args base in
    after fit.tasks (λ b. one_each b layout (point_task point layout fit.args)) base

-- ---- arrays without operands

abbrev pub filled_blocks : List ℕ → List (List ℕ) → ℤ → ℤ → ℕ → Made
filled_blocks dims layout start step base = one_each base layout (λ bs. task (kernels.Fill dims (box_at layout bs) start step) [])

abbrev pub loaded_blocks : ℕ → List (List ℕ) → ℕ → Made
loaded_blocks input layout base = one_each base layout (λ bs. task (kernels.Load input (box_at layout bs)) [])

-- ---- slices, transposes, concatenations

-- from axis k on: the axes that aren't among some
abbrev pub kept_axes : ℕ → List (List ℕ) → List ℕ → List (List ℕ)
kept_axes k [] axes = []
kept_axes k (sizes ∷ layout) axes = cond (is_among k axes) (kept_axes (suc k) layout axes) (sizes ∷ kept_axes (suc k) layout axes)

abbrev pub nothing_taken : Taken
nothing_taken = record { chunk = 0; steps = record { start = 0; step = pos 1; count = 0 } }

-- from axis k on: the piece of each axis in a block of the slice; a dropped axis has one
abbrev pub pieces_at : ℕ → List (List Taken) → List ℕ → List ℕ → List Taken
pieces_at k [] dropped bs = []
pieces_at k (ps ∷ pieces) dropped bs =
    cond (is_among k dropped) (slice_index_or ps 0 nothing_taken ∷ pieces_at (suc k) pieces dropped bs)
    (slice_index_or ps (get_or bs 0 0) nothing_taken ∷ pieces_at (suc k) pieces dropped (drop 1 bs))

abbrev pub chunks_taken : List Taken → List ℕ
chunks_taken ps = map (λ (p : Taken). p.chunk) ps

abbrev pub steps_taken : List Taken → List Steps
steps_taken ps = map (λ (p : Taken). p.steps) ps

abbrev pub slice_task : Source → List (List Taken) → List ℕ → List ℕ → Task
slice_task s pieces dropped bs =
    let ps = pieces_at 0 pieces dropped bs in
    task (kernels.Slice (steps_taken ps) dropped (lengths_at s.layout (chunks_taken ps))) (key_at s (chunks_taken ps) ∷ [])

abbrev pub sliced_blocks : Source → List Steps → List ℕ → ℕ → Made
sliced_blocks s steps dropped base =
    let pieces = pieces_of s.layout steps in
    one_each base (kept_axes 0 (map counts_taken pieces) dropped) (slice_task s pieces dropped)

abbrev pub turned_layout : List ℕ → List (List ℕ) → List (List ℕ)
turned_layout axes layout = map (λ a. get_or layout a []) axes

abbrev pub transposed_blocks : Source → List ℕ → ℕ → Made
transposed_blocks s axes base =
    one_each base (turned_layout axes s.layout) (λ bs. task (kernels.Transpose axes (lengths_at s.layout (turned axes bs))) (key_at s (turned axes bs) ∷ []))

abbrev pub rechunked_blocks : Source → List (List ℕ) → ℕ → Made
rechunked_blocks s layout base = Rattle.lowering_laws.specs.Sources.rechunked base s layout

-- a chunk of an operand of a concatenation
pub record Along : Type 0 where
  pub operand : ℕ
  pub chunk : ℕ
  pub size : ℕ

-- the chunks of operand p from number k on that aren't empty
abbrev pub along_from : ℕ → ℕ → List ℕ → List Along
along_from p k [] = []
along_from p k (s ∷ ss) = cond (nat_eq s 0) (along_from p (suc k) ss) (record { operand = p; chunk = k; size = s } ∷ along_from p (suc k) ss)

abbrev pub along_all : ℕ → List (List ℕ) → List Along
along_all p [] = []
along_all p (sizes ∷ more) = along_from p 0 sizes ++ along_all (suc p) more

abbrev pub no_along : Along
no_along = record { operand = 0; chunk = 0; size = 0 }

abbrev pub or_empty : List Along → List Along
or_empty [] = no_along ∷ []
or_empty (a ∷ as') = a ∷ as'

abbrev pub common_axis : List (List (List ℕ)) → ℕ → List ℕ
common_axis layouts k = joined_all (map (λ (layout : List (List ℕ)). get_or layout k []) layouts)

abbrev pub common_layout : List (List (List ℕ)) → List (List ℕ)
common_layout layouts = map (common_axis layouts) (range_with_len 0 (length (slice_index_or layouts 0 [])))

abbrev pub no_source : Source
no_source = record { layout = []; first = 0; stride = 1 }

pub record Fitted : Type 0 where
  pub tasks : List Task
  pub sources : List Source

abbrev pub then_sources : Made → (ℕ → Fitted) → ℕ → Fitted
then_sources m more base = let f = more (base + length m.tasks) in record { tasks = m.tasks ++ f.tasks; sources = m.source ∷ f.sources }

-- each operand with its own chunks along the axis, and the common ones on the others
abbrev pub fitted_along : List (List ℕ) → ℕ → List Source → ℕ → Fitted
fitted_along common axis [] base = record { tasks = []; sources = [] }
fitted_along common axis (s ∷ sources) base =
    then_sources (fitted base s (slice_set common axis (get_or s.layout axis []))) (fitted_along common axis sources) base

-- a block that is one piece of the operand's
abbrev pub whole_piece : List ℕ → Piece
whole_piece lens = record {
  source = 0;
  from = record { start = map (λ n. 0) lens; lengths = lens };
  to = record { start = map (λ n. 0) lens; lengths = lens };
}

abbrev pub along_at : List Along → ℕ → Along
along_at as' k = slice_index_or as' k no_along

abbrev pub joined_task : List (List ℕ) → List Along → ℕ → List Source → List ℕ → Task
joined_task layout as' axis sources bs =
    let a = along_at as' (get_or bs axis 0) in
    let s = slice_index_or sources a.operand no_source in
    let own = slice_set bs axis a.chunk in
    task (kernels.Assemble (whole_piece (lengths_at layout bs) ∷ []) (lengths_at s.layout own ∷ []) (lengths_at layout bs)) (key_at s own ∷ [])

abbrev pub concatenated_blocks : List Source → ℕ → ℕ → Made
concatenated_blocks sources axis base =
    let common = common_layout (map (λ (s : Source). s.layout) sources) in
    let fit = fitted_along common axis sources base in
    let as' = or_empty (along_all 0 (map (λ (s : Source). get_or s.layout axis []) sources)) in
    let layout = slice_set common axis (map (λ (a : Along). a.size) as') in
    after fit.tasks (λ b. one_each b layout (joined_task layout as' axis fit.sources)) base

-- ---- trees

-- one task for each group of keys, of which the first is `at`
abbrev pub group_tasks : Fold → List ℕ → ℕ → List ℕ → List Task
group_tasks fold dims at [] = []
group_tasks fold dims at (g ∷ gs) = task (kernels.Reduce fold [] (replicate g dims)) (range_with_len at g) ∷ group_tasks fold dims (at + g) gs

-- the levels of a tree over keys of which the first is `at`: the keys of a level follow those of the one before it
abbrev pub level_tasks : Fold → List ℕ → ℕ → List (List ℕ) → List Task
level_tasks fold dims at [] = []
level_tasks fold dims at (gs ∷ levels) = group_tasks fold dims at gs ++ level_tasks fold dims (at + total gs) levels

abbrev pub tree_tasks : Fold → List ℕ → ℕ → ℕ → ℕ → List Task
tree_tasks fold dims at n split = level_tasks fold dims at (tree n split)

-- how many tasks fold so many partial results
abbrev pub tree_count : ℕ → ℕ → ℕ
tree_count n split = total (map (λ (gs : List ℕ). length gs) (tree n split))

-- for each block n partial results, and the tree over them
abbrev pub folded_tasks : Fold → ℕ → ℕ → (ℕ → Task) → List ℕ → ℕ → List Task
folded_tasks fold n split partial dims at = map partial (range_with_len 0 n) ++ tree_tasks fold dims at n split

-- the tasks of block c, behind those of the blocks before it
abbrev pub block_tasks : Fold → ℕ → ℕ → List (List ℕ) → (List ℕ → ℕ → Task) → ℕ → ℕ → List Task
block_tasks fold n split layout partial base c =
    let bs = index_at (counts layout) c in folded_tasks fold n split (partial bs) (lengths_at layout bs) (base + (n + tree_count n split) * c)

abbrev pub folded_each : Fold → ℕ → ℕ → List (List ℕ) → (List ℕ → ℕ → Task) → ℕ → Made
folded_each fold n split layout partial base =
    let stride = n + tree_count n split in
    record {
      tasks = flat_map (block_tasks fold n split layout partial base) (range_with_len 0 (blocks layout));
      source = record { layout = layout; first = base + (stride - 1); stride = stride };
    }

abbrev pub partial_task : Fold → List ℕ → Source → List ℕ → ℕ → Task
partial_task fold axes s bs p =
    let own = merged 0 (counts s.layout) axes bs (index_at (folded_shape 0 (counts s.layout) axes) p) in
    task (kernels.Reduce fold axes (lengths_at s.layout own ∷ [])) (key_at s own ∷ [])

abbrev pub reduced_blocks : Fold → List ℕ → ℕ → Source → ℕ → Made
reduced_blocks fold axes split s base =
    folded_each fold (elements (folded_shape 0 (counts s.layout) axes)) split (kept_axes 0 s.layout axes) (partial_task fold axes s) base

-- ---- products

abbrev pub paired_sizes : List (List ℕ) → List (List ℕ) → List ℕ → List ℕ → List (List ℕ)
paired_sizes left right [] right_axes = []
paired_sizes left right (a ∷ left_axes) [] = []
paired_sizes left right (a ∷ left_axes) (b ∷ right_axes) = union (get_or left a []) (get_or right b []) ∷ paired_sizes left right left_axes right_axes

-- a layout with other sizes on the listed axes
abbrev pub with_sizes : List (List ℕ) → List ℕ → List (List ℕ) → List (List ℕ)
with_sizes layout axes sizes =
    map (λ k. cond (is_among k axes) (get_or sizes (position_or_len (nat_eq k) axes) []) (get_or layout k [])) (range_with_len 0 (length layout))

abbrev pub product_task : List ℕ → List ℕ → List ℕ → Source → Source → List ℕ → ℕ → Task
product_task left_axes right_axes pairs l r bs p =
    let t = index_at pairs p in
    let own_l = woven 0 (counts l.layout) left_axes bs t in
    let own_r = woven 0 (counts r.layout) right_axes (drop (length (kept_axes 0 l.layout left_axes)) bs) t in
    let uses = record { key = key_at l own_l; shape = lengths_at l.layout own_l } ∷ record { key = key_at r own_r; shape = lengths_at r.layout own_r } ∷ [] in
    task (kernels.Contract (place_among uses (key_at l own_l)) (place_among uses (key_at r own_r)) left_axes right_axes (inputs_among uses)) (deps_of_uses uses)

abbrev pub product_blocks : List ℕ → List ℕ → List ℕ → Source → Source → ℕ → Made
product_blocks left_axes right_axes pairs l r base =
    folded_each Sum (elements pairs) 4 (kept_axes 0 l.layout left_axes ++ kept_axes 0 r.layout right_axes) (product_task left_axes right_axes pairs l r) base

abbrev pub contracted_blocks : List ℕ → List ℕ → Source → Source → ℕ → Made
contracted_blocks left_axes right_axes l r base =
    let sizes = paired_sizes l.layout r.layout left_axes right_axes in
    let fit_l = fitted base l (with_sizes l.layout left_axes sizes) in
    let fit_r = fitted (base + length fit_l.tasks) r (with_sizes r.layout right_axes sizes) in
    after (fit_l.tasks ++ fit_r.tasks) (product_blocks left_axes right_axes (map (λ (ss : List ℕ). length ss) sizes) fit_l.source fit_r.source) base
