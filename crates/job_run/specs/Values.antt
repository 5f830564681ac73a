-- The sequential evaluation: what the nodes hold, which blocks are needed, where a zero divisor is met, and the files that are saved.
use Rattle.std.specs.Prelude.{◌≡◌, ◌<◌, ℕ, ℤ, pos, List, [], ◌∷◌, ◌++◌, codes, map, slice_index_or, length, unwrap_or, Some, IfSome, true}
use Rattle.io_edge.specs.Given.{Gives}
use Rattle.io_edge.specs.View.{Files, View}
use Rattle.plain_eval.specs.Held.{held_in}
use Rattle.nd_shape.specs.Block.{Array}
use Rattle.nd_shape.specs.Index.{index_at}
use Rattle.nd_shape.specs.Shape.{shape_text, comma_list}
use Rattle.npy_codec.specs.Npy.{npy}
use Rattle.array_expr.specs.declared.expr.Node.{Node}
use Rattle.array_expr.specs.Elem.{Cells, arrays}
use Rattle.array_expr.specs.Node.{shape_at}
use Rattle.chunk_layout.specs.Layouts.{counts}
use Rattle.cluster_msgs.specs.Shape.{deps_of}
use Rattle.cluster_msgs.specs.Values.{faulty}
use Rattle.task_graph.specs.declared.graph.Task.{Task}
use Rattle.task_graph.specs.Graphs.{shape_of, value}
use Rattle.lowering_laws.specs.Lowered.{lowered}
use Rattle.lowering_laws.specs.Named.{layout_of, name_of}
use Rattle.lowering_laws.specs.Faults.{IsMissing, DividesByZero}
use Rattle.job_run.specs.Inputs.{FitInputs, HoldArrays, told_all}
use Rattle.job_run.specs.Plan.{Plan, Saved, input_shapes, nodes_saved}

-- the elements of each input, by its number
abbrev pub Named : Type 0
Named = ℕ → List ℕ → ℤ

-- the array of each node, where the inputs hold these elements
abbrev pub values_of : Plan → Named → List Cells
values_of p named = arrays named p.nodes

-- the array at this place
abbrev pub cells_at : List Cells → ℕ → Cells
cells_at known n = slice_index_or known n (record { shape = []; cells = [] })

-- a fact of the arrays that the inputs hold, where they are told
abbrev pub OnInputs : Plan → Files → (List Array → Type 0) → Type 0
OnInputs p files P = IfSome (told_all files.held p.inputs) (λ contents. (blocks : List Array) → HoldArrays (input_shapes p.nodes) contents blocks → P blocks)

-- Told or not: whatever the inputs' files hold that gave what was read, they are as declared, and this holds of what their arrays hold.
abbrev pub OfGiven : Plan → View → View → (Named → Type 0) → Type 0
OfGiven p old new P = Gives old.gave new.gave (λ holds. FitInputs p (map holds p.inputs)
    × ((blocks : List Array) → HoldArrays (input_shapes p.nodes) (map holds p.inputs) blocks → P (held_in blocks)))

-- ## Needed blocks

-- the tasks that make the saved blocks, and no others
abbrev pub tasks_of : Plan → List Task
tasks_of p = (lowered p.nodes (nodes_saved p)).tasks

-- A block of a node, by its number in row-major order, that is needed: a key of the graph that makes the saved blocks is its own.
pub record IsNeeded (p : Plan) (key node number : ℕ) : Type 0 where
  pub within : key < length (tasks_of p)
  pub name : name_of p.nodes (nodes_saved p) key ≡ Some (node, number)

-- the index of a block of a node: its chunk on each axis
abbrev pub index_of : Plan → ℕ → ℕ → List ℕ
index_of p node number = index_at (counts (layout_of p.nodes node)) number

-- ## Zero divisors

-- some element of a needed block is nothing: a divisor is zero there, or somewhere below
pub record NeedsFault (p : Plan) (named : Named) (key : ℕ) : Type 0 where
  pub node : ℕ
  pub number : ℕ
  pub needed : IsNeeded p key node number
  pub missing : IsMissing named p.nodes node number

-- A needed block whose key is faulty: its dependencies have values, and it has none, since its node divides by 0 at some place in the block.
pub record IsFaulty (p : Plan) (named : Named) (node : ℕ) (block : List ℕ) : Type 0 where
  pub key : ℕ
  pub number : ℕ
  pub needed : IsNeeded p key node number
  pub is_block : block ≡ index_of p node number
  pub faulty_is : faulty (deps_of (shape_of (tasks_of p))) (value named (tasks_of p)) key ≡ true
  pub divides : DividesByZero named p.nodes node number

-- the first of them in the order of the keys
pub record MeetsZero (p : Plan) (named : Named) (node : ℕ) (block : List ℕ) : Type 0 where
  pub fault : IsFaulty p named node block
  pub before : (k : ℕ) → k < fault.key → NeedsFault p named k → ⊥

-- no needed block lacks an element
abbrev pub MeetsNone : Plan → Named → Type 0
MeetsNone p named = (key : ℕ) → NeedsFault p named key → ⊥

-- ## The saved files

-- the array with 0 where it has nothing
abbrev pub array_of : Cells → Array
array_of c = record { shape = c.shape; cells = map (λ z. unwrap_or z (pos 0)) c.cells }

-- the file of an array all of whose elements are there
abbrev pub file_of : Cells → List ℕ
file_of c = npy c.shape (map (λ z. unwrap_or z (pos 0)) c.cells)

-- the array of the node that is saved at each place, and its file
abbrev pub arrays_saved : Plan → Named → List Array
arrays_saved p named = map (λ s. array_of (cells_at (values_of p named) s.node)) p.saves

abbrev pub files_of : Plan → Named → List (List ℕ)
files_of p named = map (λ s. file_of (cells_at (values_of p named) s.node)) p.saves

-- ## Printed lines

-- the line that tells of a saved file
abbrev pub saved_line : List Node → Saved → List ℕ
saved_line nodes s = codes "saved " ++ s.file ++ codes " " ++ shape_text (shape_at nodes s.node) ++ codes "\n"

abbrev pub saved_lines : List Node → List Saved → List ℕ
saved_lines nodes [] = []
saved_lines nodes (s ∷ saves) = saved_line nodes s ++ saved_lines nodes saves

-- an index of a block: `(0)`, `(1, 2)`, and `()` for zero axes
abbrev pub index_text : List ℕ → List ℕ
index_text i = codes "(" ++ comma_list i ++ codes ")"
