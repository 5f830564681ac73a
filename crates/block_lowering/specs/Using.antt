-- Keys and shapes as uses.
use Rattle.std.specs.Prelude.{◌≡◌, ℕ, List, [], ◌∷◌, length}
use Rattle.task_graph.specs.Orders.{ascending}
use Rattle.lowering_laws.specs.Stages.{Use}

abbrev pub zipped : List ℕ → List (List ℕ) → List Use
zipped [] shapes = []
zipped (k ∷ ks) [] = []
zipped (k ∷ ks) (shape ∷ shapes) = record { key = k; shape = shape } ∷ zipped ks shapes

-- a shape for each key
pub record AreEven (keys : List ℕ) (shapes : List (List ℕ)) : Type 0 where
  pub same : length keys ≡ length shapes

-- and the keys in order
pub record AreGathered (keys : List ℕ) (shapes : List (List ℕ)) (deps : List ℕ) : Type 0 where
  pub same : length keys ≡ length shapes
  pub deps_are : deps ≡ ascending keys
