-- Operands of a concatenation.
use Rattle.std.specs.Prelude.{◌≡◌, ℕ, List, [], ◌++◌, length, get_or, map}
use Rattle.task_graph.specs.declared.graph.Task.{Task}
use Rattle.lowering_laws.specs.Sources.{Source}
use Rattle.lowering_laws.specs.Stages.{Fitted, fitted_along}

-- the sizes of the chunks of an operand on an axis
abbrev pub sizes_along : ℕ → Source → List ℕ
sizes_along axis s = get_or s.layout axis []

abbrev pub layouts_in : List Source → List (List (List ℕ))
layouts_in sources = map (λ (s : Source). s.layout) sources

-- operands that were brought to a layout, with the tasks that make them so behind others
pub record AllGrown (old : List Task) (made : Fitted) (new : List Task) (sources : List Source) : Type 0 where
  pub tasks : new ≡ old ++ made.tasks
  pub sources_are : sources ≡ made.sources

-- each with its own chunks along the axis, and the common ones on the others
abbrev pub AllAlong : List (List ℕ) → ℕ → List Source → List Task → List Task → List Source → Type 0
AllAlong common axis sources old new fit = AllGrown old (fitted_along common axis sources (length old)) new fit
