-- Keys under new numbers: which keys are kept, in which order, and the tasks under these numbers.
use Rattle.std.specs.Prelude.{ℕ, zero, suc, Bool, true, false, cond, nat_eq, nat_lt, List, [], ◌∷◌, ◌++◌, length, map, get_or}
use Rattle.std.specs.List.{list_any, position_or_len, range_with_len, filter}
use Rattle.nd_shape.specs.declared.region.Piece.{Piece}
use Rattle.cluster_msgs.specs.Shape.{deps_of}
use Rattle.cluster_msgs.specs.Values.{needed}
use Rattle.block_kernels.specs.declared.spec.Operand.{Operand}
use Rattle.block_kernels.specs.declared.spec.Operand.TheVariants.{Input, Number}
use Rattle.block_kernels.specs.declared.spec.Spec.{Spec}
use Rattle.block_kernels.specs.declared.spec.Spec.TheVariants.{Elementwise, Where, Slice, Transpose, Assemble, Reduce, Contract, Fill, Load}
use Rattle.task_graph.specs.declared.graph.Task.{Task}
use Rattle.task_graph.specs.Graphs.{task_at, shape_of}

-- ---- lists of keys

-- a key more, in its place, if it isn't there yet
abbrev pub with_key : ℕ → List ℕ → List ℕ
with_key k [] = k ∷ []
with_key k (j ∷ js) = cond (nat_lt k j) (k ∷ j ∷ js) (cond (nat_eq k j) (j ∷ js) (j ∷ with_key k js))

-- each key once, ascending
abbrev pub ascending : List ℕ → List ℕ
ascending [] = []
ascending (k ∷ ks) = with_key k (ascending ks)

abbrev pub position : List ℕ → ℕ → ℕ
position ks k = position_or_len (nat_eq k) ks

abbrev pub is_in : List ℕ → ℕ → Bool
is_in ks k = list_any (nat_eq k) ks

-- ---- the order in which a depth-first visit numbers keys

abbrev pub visit_all : (ℕ → List ℕ → List ℕ) → List ℕ → List ℕ → List ℕ
visit_all visit [] done = done
visit_all visit (k ∷ ks) done = visit_all visit ks (visit k done)

-- a visit of a key that isn't numbered yet visits its dependencies in ascending order, then numbers the key
abbrev pub visit_within : ℕ → (ℕ → List ℕ) → ℕ → List ℕ → List ℕ
visit_within zero deps k done = done
visit_within (suc f) deps k done = elim (is_in done k) [ true ↦ done | false ↦ visit_all (visit_within f deps) (deps k) done ++ k ∷ [] ]

-- the old keys, in the order of their new numbers
abbrev pub depth_first : List Task → List ℕ → List ℕ
depth_first tasks wanted = visit_all (visit_within (length tasks) (deps_of (shape_of tasks))) wanted []

-- the keys that are needed, in their old order
abbrev pub kept : List Task → List ℕ → List ℕ
kept tasks wanted = filter (needed (deps_of (shape_of tasks)) wanted) (range_with_len 0 (length tasks))

-- ---- tasks under new numbers

abbrev pub moved_operand : (ℕ → ℕ) → Operand → Operand
moved_operand place (Input p) = Input (place p)
moved_operand place (Number v) = Number v

abbrev pub moved_piece : (ℕ → ℕ) → Piece → Piece
moved_piece place p = record { source = place p.source; from = p.from; to = p.to }

-- the operation over inputs in another order: the input at p stands at `place p` now, and `shapes` are theirs
abbrev pub moved_spec : (ℕ → ℕ) → List (List ℕ) → Spec → Spec
moved_spec place shapes (Elementwise op left right inputs shape) = Elementwise op (moved_operand place left) (moved_operand place right) shapes shape
moved_spec place shapes (Where condition first second inputs shape) =
    Where (moved_operand place condition) (moved_operand place first) (moved_operand place second) shapes shape
moved_spec place shapes (Slice steps dropped input) = Slice steps dropped input
moved_spec place shapes (Transpose axes input) = Transpose axes input
moved_spec place shapes (Assemble pieces inputs shape) = Assemble (map (moved_piece place) pieces) shapes shape
moved_spec place shapes (Reduce fold axes inputs) = Reduce fold axes shapes
moved_spec place shapes (Contract left right left_axes right_axes inputs) = Contract (place left) (place right) left_axes right_axes shapes
moved_spec place shapes (Fill dims region start step) = Fill dims region start step
moved_spec place shapes (Load input region) = Load input region

abbrev pub inputs_of : Spec → List (List ℕ)
inputs_of (Elementwise op left right inputs shape) = inputs
inputs_of (Where condition first second inputs shape) = inputs
inputs_of (Slice steps dropped input) = []
inputs_of (Transpose axes input) = []
inputs_of (Assemble pieces inputs shape) = inputs
inputs_of (Reduce fold axes inputs) = inputs
inputs_of (Contract left right left_axes right_axes inputs) = inputs
inputs_of (Fill dims region start step) = []
inputs_of (Load input region) = []

-- a task whose dependencies have the numbers `keys` now, in the old order
abbrev pub moved_task : List ℕ → Task → Task
moved_task keys t = let deps = ascending keys in record {
  spec = moved_spec (λ p. position deps (get_or keys p 0)) (map (λ k. get_or (inputs_of t.spec) (position keys k) []) deps) t.spec;
  deps = deps;
  work = t.work;
  nbytes = t.nbytes;
}

-- the tasks of these old keys, each numbered by its place
abbrev pub renumbered : List Task → List ℕ → List Task
renumbered tasks order = map (λ old. moved_task (map (position order) (deps_of (shape_of tasks) old)) (task_at tasks old)) order
