-- When tasks keep their values under new numbers.
use Rattle.std.specs.Prelude.{◌≡◌, ◌≢◌, ℕ, ◌<◌, List, [], length, get_or, Contains}
use Rattle.std.specs.List.{AllByRecursion}
use Rattle.nd_grid.specs.Grid.{kept_shape}
use Rattle.block_kernels.specs.declared.spec.Operand.{Operand}
use Rattle.block_kernels.specs.declared.spec.Operand.TheVariants.{Input, Number}
use Rattle.block_kernels.specs.declared.spec.Spec.{Spec}
use Rattle.block_kernels.specs.declared.spec.Spec.TheVariants.{Elementwise, Where, Slice, Transpose, Assemble, Reduce, Contract, Fill, Load}
use Rattle.task_graph.specs.declared.graph.Task.{Task}
use Rattle.task_graph.specs.Graphs.{task_at}
use Rattle.task_graph.specs.Orders.{position}

abbrev pub OperandFits : Operand → ℕ → Type 0
OperandFits (Input p) n = p < n
OperandFits (Number v) n = Unit {0}

-- the first inputs are blocks of one shape, but for the axes
abbrev pub AreLike : List (List ℕ) → List ℕ → ℕ → Type 0
AreLike inputs axes n = (p : ℕ) → p < n → kept_shape 0 (get_or inputs p []) axes ≡ kept_shape 0 (get_or inputs 0 []) axes

-- the places that an operation names are among so many inputs
abbrev pub PlacesFit : Spec → ℕ → Type 0
PlacesFit (Elementwise op left right inputs shape) n = OperandFits left n × OperandFits right n
PlacesFit (Where condition first second inputs shape) n = OperandFits condition n × OperandFits first n × OperandFits second n
PlacesFit (Slice steps dropped input) n = n ≡ 1
PlacesFit (Transpose axes input) n = n ≡ 1
PlacesFit (Assemble pieces inputs shape) n = AllByRecursion (λ p. p.source < n) pieces
PlacesFit (Reduce fold axes inputs) n = (length inputs ≡ n) × AreLike inputs axes n
PlacesFit (Contract left right left_axes right_axes inputs) n = (left < n) × (right < n)
PlacesFit (Fill dims region start step) n = Unit {0}
PlacesFit (Load input region) n = Unit {0}

-- tasks whose dependencies are named once, and whose operations name places among them
pub record AreFit (tasks : List Task) : Type 0 where
  pub places : (k : ℕ) → PlacesFit (task_at tasks k).spec (length (task_at tasks k).deps)
  pub once : (k p : ℕ) → p < length (task_at tasks k).deps → position (task_at tasks k).deps (get_or (task_at tasks k).deps p 0) ≡ p

-- old keys, each once, and behind all that it depends on
pub record IsNumbering (tasks : List Task) (order : List ℕ) : Type 0 where
  pub once : (j : ℕ) → j < length order → position order (get_or order j 0) ≡ j
  pub there : (j d : ℕ) → j < length order → Contains (task_at tasks (get_or order j 0)).deps d → Contains order d
  pub before : (j d : ℕ) → j < length order → Contains (task_at tasks (get_or order j 0)).deps d → position order d < j

-- keys of which each stands once, and behind what it depends on
pub record AreBehind (deps : ℕ → List ℕ) (done : List ℕ) : Type 0 where
  pub fresh : (i j : ℕ) → i < j → j < length done → get_or done i 0 ≢ get_or done j 0
  pub behind : (j d : ℕ) → j < length done → Contains (deps (get_or done j 0)) d → (i : ℕ) × (i < j) × (get_or done i 0 ≡ d)
