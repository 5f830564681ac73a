-- What a job says: the nodes of its expression, the files of its inputs, and the nodes that it saves.
use Rattle.std.specs.Prelude.{◌≡◌, ◌<◌, ℕ, List, [], ◌∷◌, length, map, slice_index_or, cond, bytes_eq, false}
use Rattle.array_expr.specs.declared.expr.Node.{Node}
use Rattle.array_expr.specs.Elem.{is_input}

-- a node, and the name of the file that it is saved in
pub record Saved : Type 0 where
  pub node : ℕ
  pub file : List ℕ

-- the names of the input files are in the order of the input nodes
pub record Plan : Type 0 where
  pub nodes : List Node
  pub inputs : List (List ℕ)
  pub saves : List Saved

-- the names of the saved files
abbrev pub names_saved : Plan → List (List ℕ)
names_saved p = map (λ s. s.file) p.saves

-- the nodes that are saved
abbrev pub nodes_saved : Plan → List ℕ
nodes_saved p = map (λ s. s.node) p.saves

abbrev pub name_at : List (List ℕ) → ℕ → List ℕ
name_at names k = slice_index_or names k []

-- the shapes that the inputs are declared to have
abbrev pub input_shapes : List Node → List (List ℕ)
input_shapes [] = []
input_shapes (n ∷ nodes) = cond (is_input n.op) (n.shape ∷ input_shapes nodes) (input_shapes nodes)

-- no two of these names are the same
abbrev pub AreApart : List (List ℕ) → Type 0
AreApart names = (j k : ℕ) → j < k → k < length names → bytes_eq (name_at names k) (name_at names j) ≡ false

-- a job can be run: each input node has a file, and there are nodes to save, each of them in a file of its own
pub record IsRunnable (p : Plan) : Type 0 where
  pub inputs : length p.inputs ≡ length (input_shapes p.nodes)
  pub saves : (k : ℕ) → k < length p.saves → slice_index_or (nodes_saved p) k 0 < length p.nodes
  pub apart : AreApart (names_saved p)
  pub some : 0 < length p.saves
