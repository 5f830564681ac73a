-- Names that stand for nodes, and files of nodes.
use Rattle.std.specs.Prelude.{ℕ, cond, List, [], ◌∷◌, Option, Some, None}
use Rattle.std.specs.Str.{bytes_eq}

pub record Called : Type 0 where
  pub name : List ℕ
  pub node : ℕ

-- the first node of this name
abbrev pub node_called : List Called → List ℕ → Option ℕ
node_called [] name = None
node_called (n ∷ ns) name = cond (bytes_eq n.name name) (Some n.node) (node_called ns name)
